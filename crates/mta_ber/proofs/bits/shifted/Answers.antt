use Rattle.std.proofs.Common.{arith}
use Rattle.mta_ber.proofs.BitLaws.{shifted_room, shifted_fits}
use Rattle.mta_ber.proofs.bits.shifted.Goals as goal

pub returns-else-count-eq0-clause-exact : goal.returns-else-count-eq0-clause-exact
returns-else-count-eq0-clause-exact c =
    shifted_fits c.args.word c.args.count c.args.zeros c.requires.within c.requires.few

pub returns-else-count-eq0-clause-room : goal.returns-else-count-eq0-clause-room
returns-else-count-eq0-clause-room c =
    omega (
      arith,
      shifted_room c.args.word c.args.count c.args.zeros c.requires.within,
      shifted_fits c.args.word c.args.count c.args.zeros c.requires.within c.requires.few,
    )
