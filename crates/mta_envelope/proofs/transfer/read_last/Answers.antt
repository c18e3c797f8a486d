use Rattle.std.proofs.Common.{◌+◌, refl, sym, subst}
use Rattle.mta_ber.specs.Seen.{view}
use Rattle.mta_envelope.specs.Places.{IsLast, IsPlaced}
use Rattle.mta_envelope.proofs.ContentLaws.{lent_end}
use Rattle.mta_envelope.proofs.PlaceLaws.{placed_last}
use Rattle.mta_envelope.proofs.transfer.read_last.Goals as goal

pub returns-clause-lent : goal.returns-clause-lent
returns-clause-lent c =
    let s = c.in_ok-second.second in
    let p = c.args.parts.now in
    lent_end c.in_ok-content.content s.content p.left p.left p.at (p.depth + 1)
    (view s) s.shallow s.bytes c.in_ok-content.ensures.exact c.in_ok-content.ensures.lent refl
    c.in_ok-second.ensures.place (refl, refl) c.in_ok-second.ensures.found
    c.in_ok-alone.ensures.found

pub returns-clause-placed : goal.returns-clause-placed
returns-clause-placed c =
    let s = c.in_ok-second.second in
    let p = c.args.parts.now in
    subst (IsPlaced (IsLast (p.depth + 1)) p.at p.left c.in_ok-content.content) (sym c.place_of-place.ensures)
    (placed_last c.in_ok-content.content s.content p.left p.at (p.depth + 1)
    (view s) s.shallow s.bytes c.in_ok-content.ensures.exact c.in_ok-content.ensures.lent refl
    c.in_ok-second.ensures.place c.in_ok-second.ensures.found
    c.in_ok-alone.ensures.found)
