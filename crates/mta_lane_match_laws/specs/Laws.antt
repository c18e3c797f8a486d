-- What steps do to a session's lane.
use Rattle.std.specs.Prelude.{◌≡◌, ◌≤◌, ◌+◌, ℕ, false, Bool, List, [], ◌∷◌, Some}
use Rattle.mta_lane_send.specs.Half.{goes_on, last_of}
use Rattle.mta_lane_send.specs.declared.state.SendState.TheVariants.{Dropping}
use Rattle.mta_records.specs.declared.step.Step.{Step}
use Rattle.mta_records.specs.declared.step.Step.TheVariants as step
use Rattle.mta_records.specs.declared.lane.LaneRole.{LaneRole}
use Rattle.mta_records.specs.declared.lane.LaneRole.TheVariants.{Initiator, Responder}
use Rattle.mta_units.specs.declared.unit.OpenUnit.{OpenUnit}
use Rattle.mta_histories.specs.Lanes.{Lane}
use Rattle.mta_histories.specs.Lanes as spool
use Rattle.mta_histories.specs.Classes.{LaneStep, abandon, Class, on_lane, class_of}
use Rattle.mta_histories.specs.History.{IsPossible, after_step, ArePossible, after_from, when}
use Rattle.mta_histories.specs.Kept.{AreNumbered, IsKept}
use Rattle.mta_session.specs.declared.event.InitiatorPlan.{InitiatorPlan}
use Rattle.mta_session.specs.declared.peer.Peer.{Peer}
use Rattle.mta_session.specs.declared.phase.Phase.TheVariants as phase
use Rattle.mta_session.specs.State.{State, in_phase}
use Rattle.mta_session.specs.Session.{new_initiator}
use Rattle.mta_session.specs.Fits.{FitsAt}
use Rattle.mta_session.specs.Wanted.{with_lane, agreed_checkpoint, agreed_window}
use Rattle.mta_lane_match_laws.specs.Matches.{Known, known, WhereOpen, Matches, MatchesIn}
use Rattle.mta_lane_match_laws.specs.Steps.{IsOthers, AreOthers, IsAsked, IsTold, learned}

-- ---- the session's lane

-- a possible step of another worker
abbrev pub OthersKeep : Type 0
OthersKeep =
    (t : Known) (s : spool.State) (step : Step) → AreNumbered 0 s.lanes.open_lanes s.lanes.count → IsPossible s step
    → IsOthers t.lane t.generation (class_of step) → Matches t s → Matches t (after_step s step)

-- all that other workers did between two turns
abbrev pub OthersKeepAll : Type 0
OthersKeepAll =
    (t : Known) (s : spool.State) (steps : List Step) → IsKept s → ArePossible s steps
    → AreOthers t.lane t.generation steps → Matches t s → Matches t (after_from s steps)

-- a possible step that the session asked for
abbrev pub OwnStepsMatch : Type 0
OwnStepsMatch =
    (t : Known) (s : spool.State) (step : Step) (on : LaneStep) (octets : List ℕ)
    → class_of step ≡ on_lane t.lane (Some t.generation) on → IsPossible s step → IsAsked t on
    → IsTold s on (when s step) octets → Matches t s → Matches (learned t octets on) (after_step s step)

-- a new lane of this initiator's session
abbrev pub OpensMatch : Type 0
OpensMatch =
    (p : InitiatorPlan) (units : ℕ) (s : spool.State) (moment : ℕ)
    → AreNumbered 0 s.lanes.open_lanes s.lanes.count
    → p.lane ≡ s.lanes.count + 1 → p.generation ≡ 1
    → MatchesIn (in_phase (new_initiator p units) phase.PutsOpen) []
    (after_step s (step.LaneOpen Initiator p.peer p.reference p.twa p.checkpoint p.window moment))

-- a new lane of a responder's session
abbrev pub AcceptsMatch : Type 0
AcceptsMatch =
    (t : State) (o : OpenUnit) (line : Peer) (again : Bool) (s : spool.State) (moment : ℕ)
    → AreNumbered 0 s.lanes.open_lanes s.lanes.count → FitsAt (phase.AsksNewLane again) t
    → Matches (known (with_lane t (Some o) (Some line) (s.lanes.count + 1)) [])
    (after_step s
    (step.LaneOpen Responder o.name o.reference o.twa (agreed_checkpoint o.checkpoint line.checkpoint)
    (agreed_window o.window line.window) moment))

-- ---- any lane

-- a lane that is open keeps its role
abbrev pub LanesKeepRoles : Type 0
LanesKeepRoles =
    (n : ℕ) (role : LaneRole) (s : spool.State) (steps : List Step) → IsKept s → ArePossible s steps
    → n ≤ s.lanes.count → WhereOpen (λ lane. lane.role ≡ role) (spool.lane_at n s.lanes.open_lanes)
    → WhereOpen (λ lane. lane.role ≡ role) (spool.lane_at n (after_from s steps).lanes.open_lanes)

-- the activity is settled or given up
abbrev pub IsPast : (activity : ℕ) → Lane → Type 0
IsPast k lane = (k ≤ last_of lane.sending) × (goes_on lane.sending k ≡ false)

-- It stays so: behind an Abandon no Confirm, Ending or Sent of the activity is possible.
abbrev pub GivenUpStays : Type 0
GivenUpStays =
    (n k : ℕ) (s : spool.State) (steps : List Step) → IsKept s → ArePossible s steps → n ≤ s.lanes.count
    → WhereOpen (IsPast k) (spool.lane_at n s.lanes.open_lanes)
    → WhereOpen (IsPast k) (spool.lane_at n (after_from s steps).lanes.open_lanes)

-- the activity is given up, and not yet dropped
abbrev pub IsDropping : (activity : ℕ) → Lane → Type 0
IsDropping k lane = lane.sending ≡ Dropping k

-- the step is no Abandon of the activity on this lane
abbrev pub IsNoAbandon : (number activity : ℕ) → Class → Type 0
IsNoAbandon n k (on_lane m g (abandon j)) = m ≡ n → j ≡ k → ⊥
IsNoAbandon n k c = Unit {0}

abbrev pub AreNoAbandon : (number activity : ℕ) → List Step → Type 0
AreNoAbandon n k [] = Unit {0}
AreNoAbandon n k (step ∷ steps) = IsNoAbandon n k (class_of step) × AreNoAbandon n k steps

-- Without an Abandon a lane does not come to this.
abbrev pub OnlyAbandonsDrop : Type 0
OnlyAbandonsDrop =
    (n k : ℕ) (s : spool.State) (steps : List Step) → IsKept s → ArePossible s steps → AreNoAbandon n k steps
    → n ≤ s.lanes.count → WhereOpen (λ lane. IsDropping k lane → ⊥) (spool.lane_at n s.lanes.open_lanes)
    → WhereOpen (λ lane. IsDropping k lane → ⊥) (spool.lane_at n (after_from s steps).lanes.open_lanes)
