-- What becomes of the name is what its hop says.
use Rattle.std.proofs.Common.{◌↔◌, subst}
use Rattle.std.specs.Prelude.{IsTrue, ◌≡◌}
use Rattle.mta_tables.specs.declared.hop.Hop.{Hop}
use Rattle.mta_rehearse_run.specs.declared.turn.Turn.TheVariants.{On}
use Rattle.mta_rehearse_run.specs.Turns.{turn_by}
use Rattle.mta_rehearse_run.proofs.checking.goes_on.Goals as goal

pub returns-in-Peer : goal.returns-in-Peer
returns-in-Peer c =
    subst (λ (h : Hop). IsTrue c.goes_to_peer.result ↔ (turn_by c.args.agents.now c.args.from h ≡ On c.args.to))
    c.in-Peer.ensures c.goes_to_peer.ensures
