-- The walk ends as the hop of its last agent says.
use Rattle.std.proofs.Common.{◌↔◌, subst, refl}
use Rattle.std.specs.Prelude.{IsTrue}
use Rattle.mta_tables.specs.declared.hop.Hop.{Hop}
use Rattle.mta_rehearse_run.specs.declared.walked.WalkEnd.TheVariants as Ends
use Rattle.mta_rehearse_run.specs.declared.turn.Turn.TheVariants.{Over}
use Rattle.mta_rehearse_run.specs.Turns.{turn_by}
use Rattle.mta_rehearse_run.specs.Walks.{EndsBy}
use Rattle.mta_rehearse_run.proofs.Ends.{over_ends}
use Rattle.mta_rehearse_run.proofs.checking.ends_behind.Goals as goal

pub returns-in-Local : goal.returns-in-Local
returns-in-Local c =
    let end = c.args.end.now in
    let walked = c.args.walked.now in
    subst (λ (h : Hop). IsTrue c.is_mailbox.result ↔ EndsBy (turn_by c.args.agents.now c.args.last h) walked end)
    c.in-Local.ensures
    (over_ends (Over (Ends.Mailbox c.in-Local.place)) (Ends.Mailbox c.in-Local.place) walked end c.is_mailbox.result
    refl c.is_mailbox.ensures)

pub returns-in-List : goal.returns-in-List
returns-in-List c =
    let end = c.args.end.now in
    let walked = c.args.walked.now in
    subst (λ (h : Hop). IsTrue c.is_list.result ↔ EndsBy (turn_by c.args.agents.now c.args.last h) walked end)
    c.in-List.ensures
    (over_ends (Over (Ends.List c.in-List.place)) (Ends.List c.in-List.place) walked end c.is_list.result
    refl c.is_list.ensures)

pub returns-in-None : goal.returns-in-None
returns-in-None c =
    let end = c.args.end.now in
    let walked = c.args.walked.now in
    subst (λ (h : Hop). IsTrue c.is_no_route.result ↔ EndsBy (turn_by c.args.agents.now c.args.last h) walked end)
    c.in-None.ensures
    (over_ends (Over Ends.NoRoute) Ends.NoRoute walked end c.is_no_route.result refl c.is_no_route.ensures)

pub returns-in-Peer : goal.returns-in-Peer
returns-in-Peer c =
    let end = c.args.end.now in
    let walked = c.args.walked.now in
    subst (λ (h : Hop). IsTrue c.ends_at_peer.result ↔ EndsBy (turn_by c.args.agents.now c.args.last h) walked end)
    c.in-Peer.ensures c.ends_at_peer.ensures
