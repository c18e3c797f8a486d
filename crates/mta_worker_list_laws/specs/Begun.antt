-- Where a session begins in the history, and where it has its lane.
use Rattle.std.specs.Prelude.{◌≡◌, ◌⊎◌, ◌≤◌, ℕ, ◌+◌, ◌-◌, Bool, true, false, Option, None, Some}
use Rattle.std.specs.Prelude.{List, [], ◌∷◌}
use Rattle.std.specs.Prelude.{◌++◌, length}
use Rattle.mta_links.specs.Links.{LinkView}
use Rattle.mta_links.specs.declared.role.Role.{Role}
use Rattle.mta_links.specs.declared.role.Role.TheVariants as Roles
use Rattle.mta_records.specs.declared.lane.LaneRole.TheVariants.{Responder}
use Rattle.mta_records.specs.declared.step.Step.{Step}
use Rattle.mta_units.specs.Feed.{Feed, no_feed}
use Rattle.mta_units.specs.declared.unit.Unit.TheVariants as unit
use Rattle.mta_transfer_rules.specs.Lanes.{Seen}
use Rattle.mta_session.specs.declared.ask.Ask.{Ask}
use Rattle.mta_session.specs.declared.ask.Reply.{Reply}
use Rattle.mta_session.specs.declared.event.Action.{Action}
use Rattle.mta_session.specs.declared.event.Action.TheVariants as action
use Rattle.mta_session.specs.declared.event.Event.{Event}
use Rattle.mta_session.specs.declared.event.Event.TheVariants as event
use Rattle.mta_session.specs.declared.event.InitiatorPlan.{InitiatorPlan}
use Rattle.mta_session.specs.declared.event.SessionEnd.{SessionEnd}
use Rattle.mta_session.specs.Fits.{Answers}
use Rattle.mta_session.specs.Groups.{has_turned}
use Rattle.mta_session.specs.Session.{new_initiator, new_responder}
use Rattle.mta_session.specs.State.{State}
use Rattle.mta_session_run.specs.Running.{HasDone, HasPut, IsUndone}
use Rattle.mta_session_list_laws.specs.Calls.{Call, step_told}
use Rattle.mta_session_list_laws.specs.Lists.{HasAt, step_by, step_for}
use Rattle.mta_session_list_laws.specs.Over.{Over}
use Rattle.mta_session_list_laws.specs.Standing.{ComesTrue}
use Rattle.mta_shared.specs.Held.{Held}
use Rattle.mta_worker.specs.Serving.{At}
use Rattle.mta_worker_list_laws.specs.Histories.{place, whole}
use Rattle.mta_worker_list_laws.specs.Leads.{AreCarried, entry_at, Leads, made_in}
use Rattle.mta_worker_list_laws.specs.Roles.{AreGiven, WasOpenAs, WasOpenTo, WhereBegun}

-- A session is new at this length of the history. The lane of one that its worker began was opened or bound in the step
-- before, and a lane that was opened is in its first generation.
pub data IsNewAt (history : List Seen) : (from : ℕ) → State → Type 0 where
  Calls : (p : InitiatorPlan) (units at from : ℕ) → from ≡ at + 1 → HasAt history at (step_for p)
      → (p.recovering ≡ false → p.generation ≡ 1) → IsNewAt history from (new_initiator p units)
  Listens : (own : List ℕ) (units from : ℕ) → IsNewAt history from (new_responder own units)

-- it is something that is done at the link
abbrev pub IsAtLink : Action → Type 0
IsAtLink (action.Put x) = Unit {0}
IsAtLink action.Read = Unit {0}
IsAtLink b = ⊥

-- an event that answers the session's last action, or none
abbrev pub MayCome : State → Option Event → Type 0
MayCome u None = Unit {0}
MayCome u (Some e) = Answers u e

-- How it ends behind its last call: with an end; or for want of memory at its link, where this event came of its last
-- action and was not told, or nothing came of it; or with a reply to its question that the history has and that it is
-- not told, for want of memory. Where it is given up its worker puts an Abort, or none: always none where the session
-- has turned to its end.
pub data IsOver (spells : List ℕ → Bool) (history : List Seen) (from upto : ℕ) (u : State) (b : Action)
    : Type 0 where
  Ended : (e : SessionEnd) → b ≡ action.Finish e → upto ≡ from → IsOver spells history from upto u b
  Stopped : (came : Option Event) (aborts : Bool) → IsAtLink b → MayCome u came
      → (aborts ≡ true → has_turned u.phase ≡ false) → upto ≡ from → IsOver spells history from upto u b
  Untold : (q : Ask) (x : Reply) (aborts : Bool) → b ≡ action.Ask q
      → ComesTrue spells history from upto u.phase (action.Ask q) (event.Reply x) → Answers u (event.Reply x)
      → (aborts ≡ true → has_turned u.phase ≡ false) → IsOver spells history from upto u b

-- what its list has behind its last call
abbrev pub over_as : {spells : List ℕ → Bool} {history : List Seen} {from upto : ℕ} {u : State} {b : Action}
    → IsOver spells history from upto u b → Over
over_as {upto = upto} (Ended e is same) = record { untold = None; seen = upto; aborts = false }
over_as {upto = upto} (Stopped came aborts at may going same) =
    record { untold = came; seen = upto; aborts = aborts }
over_as {upto = upto} (Untold q x aborts is comes answers going) =
    record { untold = Some (event.Reply x); seen = upto; aborts = aborts }

-- the entry that such a reply tells
abbrev pub made_over : {spells : List ℕ → Bool} {history : List Seen} {from upto : ℕ} {u : State} {b : Action}
    → (before : ℕ) → IsOver spells history from upto u b → List ℕ
made_over n (Ended e is same) = []
made_over n (Stopped came aborts at may going same) = []
made_over {upto = upto} n (Untold q x aborts is comes answers going) = entry_at n upto (step_told q x)

-- where such a reply says that a lane was opened or bound, that lane is the peer's
abbrev pub IsGivenOver : {spells : List ℕ → Bool} {history : List Seen} {from upto : ℕ} {u : State} {b : Action}
    → (steps : List Step) → IsOver spells history from upto u b → Type 0
IsGivenOver steps (Ended e is same) = Unit {0}
IsGivenOver steps (Stopped came aborts at may going same) = Unit {0}
IsGivenOver steps (Untold q x aborts is comes answers going) = WhereBegun (λ lane. WasOpenAs Responder lane steps) q x

-- ---- at its link

-- this came of the last action, or there was no memory for what it does at the link
abbrev pub HasCome : {L : Type 0} → LinkView L → Action → Option Event → L → Feed → L → Type 0
HasCome links b None old fed new = IsUndone links b old fed new
HasCome links b (Some e) old fed new = (feed : Feed) × HasDone links b old fed e new feed

-- An Abort was put (localSystemProblem), wholly, or a front of it where the link failed; or nothing was.
abbrev pub HasAborted : {L : Type 0} → LinkView L → Bool → L → L → Type 0
HasAborted links true old new =
    HasPut links (unit.Abort 0) old event.Go new ⊎ HasPut links (unit.Abort 0) old event.Over new
HasAborted links false old new = links.talk new ≡ links.talk old

-- How the link is left behind the last call: as it was behind an end; with what came of the last action where memory
-- was wanted for it; and with the Abort of a session that is given up.
abbrev pub LeavesLink : {spells : List ℕ → Bool} {history : List Seen} {from upto : ℕ} {u : State} {b : Action}
    {L : Type 0} → LinkView L → IsOver spells history from upto u b → L → Feed → L → Type 0
LeavesLink links (Ended e is same) old fed new = new ≡ old
LeavesLink {b = b} {L = L} links (Stopped came aborts at may going same) old fed new =
    (mid : L) × HasCome links b came old fed mid × HasAborted links aborts mid new
LeavesLink links (Untold q x aborts is comes answers going) old fed new = HasAborted links aborts old new

-- All that was done for a session from one point on, up to what its pass and its link were when it was over: these
-- calls, which the history has, and its end. Of its own entries the calls tell all that the pass made then. What went
-- over the link is that of the calls, and behind them that of the end. A lane that a responder has was its peer's, and
-- so was one that it would have if the last reply had been told.
pub record IsDone {L : Type 0} (links : LinkView L) (spells : List ℕ → Bool) (first entries : List Step) (x : At L)
    (calls : List Call) (q : Held Step) (new : L) : Type 0 where
  pub mid : Held Step
  pub last : State
  pub wanted : Action
  pub leads : Leads spells (whole first entries) (place first x.pass) x.session x.action calls (place first mid) last
      wanted
  pub owns : mid.own ≡ x.pass.own ++ made_in (length first) x.action calls
  pub over : IsOver spells (whole first entries) (place first mid) (place first q) last wanted
  pub owns_over : q.own ≡ mid.own ++ made_over (length first) over
  pub left : L
  pub feed : Feed
  pub carried : AreCarried links x.action calls x.link x.feed left feed
  pub leaves : LeavesLink links over left feed new
  pub given : AreGiven (first ++ entries) calls
  pub given_over : IsGivenOver (first ++ entries) over

-- a session before its first call, which is told Go as if it had been read
abbrev pub at_first : {L : Type 0} → State → L → Held Step → At L
at_first t link pass = record {
  session = t;
  action = action.Read;
  link = link;
  feed = no_feed;
  pass = pass;
  halt = None;
}

-- Where the station calls a peer, the session's lane was opened by this agent, to that peer; else the session listens.
abbrev pub IsCalledOn : {history : List Seen} {from : ℕ} {t : State} → (steps : List Step) → Role
    → IsNewAt history from t → Type 0
IsCalledOn steps (Roles.Out peer) (Calls p units at from is has opens) = WasOpenTo peer p.lane steps
IsCalledOn steps Roles.In (Calls p units at from is has opens) = ⊥
IsCalledOn steps (Roles.Out peer) (Listens own units from) = ⊥
IsCalledOn steps Roles.In (Listens own units from) = Unit {0}

-- a new session, over the link that a station of this role gave, and all that it did
pub record HasRun {L : Type 0} (links : LinkView L) (spells : List ℕ → Bool) (first entries : List Step) (old : L)
    (t : State) (p : Held Step) (calls : List Call) (q : Held Step) (new : L) : Type 0 where
  pub role : Role
  pub begins : IsNewAt (whole first entries) (place first p) t
  pub called : IsCalledOn (first ++ entries) role begins
  pub done : IsDone links spells first entries (at_first t old p) calls q new

-- the entry by which a session's lane was opened or bound before its first call
abbrev pub begun_by : {history : List Seen} {from : ℕ} {t : State} → (before : ℕ) → IsNewAt history from t
    → List ℕ
begun_by n (Calls p units at from is has opens) = (at - n) ∷ []
begun_by n (Listens own units from) = []

-- it was opened or bound there or behind, or has to be
abbrev pub IsBehind : {history : List Seen} {from : ℕ} {t : State} → (low : ℕ) → IsNewAt history from t
    → Type 0
IsBehind low (Calls p units at from is has opens) = low ≤ at
IsBehind low (Listens own units from) = low ≤ from

-- none of these calls tells a responder that it has a lane
abbrev pub GiveNone : List Call → Type 0
GiveNone [] = Unit {0}
GiveNone (c ∷ cs) = (step_by c.turn.before.phase c.turn.event c.turn.after ≡ None) × GiveNone cs
