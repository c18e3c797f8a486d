-- The sessions of a lane that this agent opened were at stations that call its peer.
use Rattle.std.proofs.Common.{◌≡◌, ℕ, Bool, true, false, List, ◌++◌, Option, Some, refl, sym, ap, subst, ◌∙◌, inl, inr}
use Rattle.mta_links.specs.Links.{LinkView}
use Rattle.mta_links.specs.declared.role.Role.TheVariants as Roles
use Rattle.mta_records.specs.declared.lane.LaneRole.TheVariants.{Initiator, Responder}
use Rattle.mta_records.specs.declared.step.Step.{Step}
use Rattle.mta_histories.specs.History.{IsHistory}
use Rattle.mta_session.specs.State.{is_initiator}
use Rattle.mta_session_list_laws.proofs.Found.{never}
use Rattle.mta_worker_list_laws.specs.Histories.{whole}
use Rattle.mta_worker_list_laws.specs.Parts.{IsSession}
use Rattle.mta_worker_list_laws.specs.Roles.{WasOpenAs, WasOpenTo}
use Rattle.mta_worker_list_laws.specs.Segments.{ListsAs, OnLane, Segment, told_over}
use Rattle.mta_worker_list_laws.specs.Stations.{StationsAgree}
use Rattle.mta_worker_list_laws.proofs.Peers.{one_peer}
use Rattle.mta_worker_list_laws.proofs.Sides.{called_by, CallsPeer, had_role, listed_lane, role_of, was_same}

opens_it : (b : Bool) → role_of b ≡ Initiator → b ≡ true
opens_it true e = refl
opens_it false e = absurd (let f : Responder ≡ Initiator = e in cc)

module _ {L : Type 0} (links : LinkView L) (spells : List ℕ → Bool) (first entries : List Step)
    (possible : IsHistory (first ++ entries)) where
  -- a session of a lane that this agent opened is an initiator's
  pub called_side : (s : Segment) (x : IsSession links spells first entries s) (on : OnLane)
      → WasOpenAs Initiator on.lane (first ++ entries) → s.list ≡ Some on → is_initiator x.new.side ≡ true
  called_side s x on was has =
      opens_it (is_initiator x.new.side)
      (was_same (role_of (is_initiator x.new.side)) Initiator on.lane (first ++ entries) possible (had_role x on has)
      was)

  -- its station calls the lane's peer
  calls_peer : (s : Segment) (x : IsSession links spells first entries s) (on : OnLane)
      → WasOpenAs Initiator on.lane (first ++ entries) → s.list ≡ Some on
      → CallsPeer x.ran.role on.lane (first ++ entries)
  calls_peer s x on was has =
      let side : is_initiator x.new.side ≡ true = called_side s x on was has in
      let listed : ListsAs spells (whole first entries) x.new x.calls (told_over x.ran.done.over) (Some on) =
      subst (λ (o : Option OnLane). ListsAs spells (whole first entries) x.new x.calls (told_over x.ran.done.over) o)
      has x.of_it.list in
      elim (listed_lane spells (whole first entries) (first ++ entries) x.new x.calls on.lane listed.0 listed.1
      x.ran.done.given) [
        | inl i ↦ subst (λ (n : ℕ). CallsPeer x.ran.role n (first ++ entries)) (sym i.1)
            (called_by (first ++ entries) x.ran.role x.ran.begins x.ran.called side)
        | inr i ↦ absurd (never (sym i.0 ∙ side))
      ]

  stations_one : (s r : Segment) (x : IsSession links spells first entries s)
      (y : IsSession links spells first entries r) (on other : OnLane)
      → WasOpenAs Initiator on.lane (first ++ entries) → s.list ≡ Some on → r.list ≡ Some other → on.lane ≡ other.lane
      → (peer : List ℕ) × (x.ran.role ≡ Roles.Out peer) × (y.ran.role ≡ Roles.Out peer)
  stations_one s r x y on other was has had same =
      let a = calls_peer s x on was has in
      let b = calls_peer r y other (subst (λ (n : ℕ). WasOpenAs Initiator n (first ++ entries)) same was) had in
      let there : WasOpenTo b.peer on.lane (first ++ entries) =
      subst (λ (n : ℕ). WasOpenTo b.peer n (first ++ entries)) (sym same) b.opened in
      let one : b.peer ≡ a.peer = one_peer b.peer a.peer on.lane (first ++ entries) possible there a.opened in
      (a.peer, a.role_is, b.role_is ∙ ap (λ (p : List ℕ). Roles.Out p) one)

pub stations_agree : {L : Type 0} (links : LinkView L) → StationsAgree links
stations_agree links spells first entries s r x y on other possible was has had same =
    stations_one links spells first entries possible s r x y on other was has had same
