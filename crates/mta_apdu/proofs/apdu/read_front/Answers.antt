use Rattle.std.proofs.Common.{refl}
use Rattle.mta_ber.specs.Seen.{view}
use Rattle.mta_apdu.proofs.ApduLaws.{placed_in}
use Rattle.mta_apdu.proofs.apdu.read_front.Goals as goal

pub returns-clause-placed : goal.returns-clause-placed
returns-clause-placed c =
    let w = c.in_ok-whole.whole in
    placed_in c.args.bytes w.content (view w) c.read_alone.result c.in_ok-whole.ensures.found c.read_alone.ensures.alone
    refl c.in_ok-whole.ensures.place c.read_alone.ensures.placed
