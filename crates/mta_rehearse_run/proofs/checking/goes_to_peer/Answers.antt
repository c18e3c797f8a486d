-- A peer is gone to where the agent has its name.
use Rattle.std.proofs.Common.{ℕ, List, ap, ◌∙◌, ◌↔◌, subst}
use Rattle.std.specs.Prelude.{IsTrue, ◌≡◌, Option}
use Rattle.mta_tables.specs.declared.entry.Peer.{Peer}
use Rattle.mta_tables.specs.Indexes.{passes_at}
use Rattle.mta_rehearse_run.specs.declared.turn.Turn.TheVariants.{On}
use Rattle.mta_rehearse_run.specs.Agents.{has_name}
use Rattle.mta_rehearse_run.specs.Turns.{to_known}
use Rattle.mta_rehearse_run.proofs.Names.{word_on}
use Rattle.mta_rehearse_run.proofs.checking.goes_to_peer.Goals as goal

pub returns-in-Some : goal.returns-in-Some
returns-in-Some c =
    let agents = c.args.agents.now in
    let to = c.args.to in
    let passes = c.has_name_at.ensures
    ∙ ap (λ (w : List ℕ). passes_at (has_name w) agents to) c.as_slice.ensures.exact in
    subst (λ (o : Option Peer). IsTrue c.has_name_at.result ↔ (to_known agents o ≡ On to)) c.in-Some.ensures
    (word_on agents c.in-Some.peer.now.name to c.has_name_at.result c.requires passes)
