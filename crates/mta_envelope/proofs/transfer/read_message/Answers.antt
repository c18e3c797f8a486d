use Rattle.std.proofs.Common.{◌+◌, subst}
use Rattle.mta_ber.specs.Seen.{view}
use Rattle.mta_envelope.specs.Places.{IsLast, IsBehindEnvelope, IsPlaced}
use Rattle.mta_envelope.proofs.PlaceLaws.{placed_behind}
use Rattle.mta_envelope.proofs.transfer.read_message.Goals as goal

pub returns-in-Ok-clause-placed : goal.returns-in-Ok-clause-placed
returns-in-Ok-clause-placed c =
    let whole = c.args.whole.now in
    let before = c.parts-parts.result in
    let after = c.next_of.new.parts in
    let x = c.in-Ok.field-0.content in
    let o = c.in-Ok.field-0.place in
    let e = c.in_ok-first.ensures in
    let last = subst (λ d. IsPlaced (IsLast (d + 1)) after.at after.left x o) e.depth c.in-Ok.ensures.placed in
    let behind = placed_behind x o before.at (before.depth + 1) after.at before.left after.left
    (view c.in_ok-first.first) e.found e.moved e.tail last in
    subst (λ d. IsPlaced (IsBehindEnvelope (d + 1)) whole.start whole.content x o) c.parts-parts.ensures.depth
    (subst (λ a. IsPlaced (IsBehindEnvelope (before.depth + 1)) a whole.content x o) c.parts-parts.ensures.at
    (subst (λ l. IsPlaced (IsBehindEnvelope (before.depth + 1)) before.at l x o) c.parts-parts.ensures.lent behind))
