use Rattle.std.proofs.Common.{◌≡◌, true, take, drop}
use Rattle.mta_rehearse_run.specs.Network.{parted}
use Rattle.mta_rehearse_run.proofs.Parts.{behind}
use Rattle.mta_rehearse_run.proofs.network.separator_at.Given as goal

abbrev pub invariant-loop-i : goal.invariant-loop-i
invariant-loop-i l = parted true l.octets ≡ behind (take l.i l.octets) (parted l.fresh (drop l.i l.octets))
