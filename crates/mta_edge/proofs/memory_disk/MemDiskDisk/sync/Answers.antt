use Rattle.mta_edge.proofs.Logged.{logged_look, logged_sync, settled_sync}
use Rattle.mta_edge.proofs.memory_disk.MemDiskDisk.sync.Goals as goal

pub returns-in-Err-clause-crash : goal.returns-in-Err-clause-crash
returns-in-Err-clause-crash c = logged_look _ _ _ c.self.view_is c.in_ok-log.ensures.logged c.log.ensures.octets

pub returns-clause-crash : goal.returns-clause-crash
returns-clause-crash c = logged_sync _ _ _ c.self.view_is c.in_ok-log-2.ensures.logged c.log-2.ensures.octets

pub returns-clause-settled : goal.returns-clause-settled
returns-clause-settled c = settled_sync _ c.args.self.now c.log-2.new.self c.self.view_is c.in_ok-log-2.ensures.logged
    c.log-2.ensures.octets
