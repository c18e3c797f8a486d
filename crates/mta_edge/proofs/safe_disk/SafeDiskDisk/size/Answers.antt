use Rattle.std.proofs.Common.{refl}
use Rattle.mta_edge.proofs.Logged.{logged_look, unlogged_from}
use Rattle.mta_edge.proofs.safe_disk.SafeDiskDisk.size.Goals as goal

pub returns-clause-crash : goal.returns-clause-crash
returns-clause-crash c = logged_look c.args.self.now c.args.self.now c.note.new.self refl c.in_ok-note.ensures.logged
    c.note.ensures.octets

pub returns-in_err-note-clause-crash : goal.returns-in_err-note-clause-crash
returns-in_err-note-clause-crash c =
    unlogged_from c.args.self.now c.args.self.now c.note.new.self refl _ c.in_err-note.ensures.refused
    c.note.ensures.octets (λ f. refl)
