use Rattle.std.proofs.Common.{refl}
use Rattle.mta_edge.proofs.Logged.{logged_look, unlogged_from}
use Rattle.mta_edge.proofs.memory_disk.MemDisk.look.Goals as goal

pub returns-clause-crash : goal.returns-clause-crash
returns-clause-crash c = logged_look _ _ _ c.self.view_is c.in_ok-log.ensures.logged c.log.ensures.octets

pub returns-in_err-log-clause-crash : goal.returns-in_err-log-clause-crash
returns-in_err-log-clause-crash c =
    unlogged_from _ _ _ c.self.view_is _ c.in_err-log.ensures.refused c.log.ensures.octets (λ f. refl)
