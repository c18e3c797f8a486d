use Rattle.std.proofs.Common.{◌≡◌, Option, subst, sym}
use Rattle.std.specs.Prelude.{IfSome}
use Rattle.std.proofs.lemmas.Result.{IfOk-weaker}
use Rattle.mta_session.specs.declared.peer.Peer.{Peer}
use Rattle.mta_worker.specs.PeerLines.{line_in, IsLine}
use Rattle.mta_worker.proofs.Entries.{line_is_one}
use Rattle.mta_worker.proofs.peer_line.line_in.Goals as goal

pub returns-clause-fits : goal.returns-clause-fits
returns-clause-fits c =
    let t = c.args.tables.now in
    let n = c.args.name.now in
    let one = line_is_one t n c.have_lines.ensures in
    IfOk-weaker c.found_in.result (λ p. p ≡ line_in t n) (λ p. IfSome p IsLine)
    (λ p e. subst (λ (o : Option Peer). IfSome o IsLine) (sym e) one) c.found_in.ensures
