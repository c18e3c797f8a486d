-- The parts of the history that a worker made over one link, and all that it made.
use Rattle.std.specs.Prelude.{◌≡◌, ◌⊎◌, ◌<◌, ◌≤◌, ℕ, ◌+◌, Bool, List, [], ◌∷◌, ◌++◌}
use Rattle.std.specs.Prelude.{length, slice_get, Option, None, Some}
use mathlib.Core.Logic.{inl, inr}
use Rattle.mta_links.specs.Links.{LinkView}
use Rattle.mta_links.specs.declared.role.Role.{Role}
use Rattle.mta_transfer_rules.specs.Lanes.{Abandon, Begins, CloseLane, Elsewhere, On, Seen}
use Rattle.mta_records.specs.declared.step.Step.{Step}
use Rattle.mta_session.specs.State.{State}
use Rattle.mta_session_list_laws.specs.Calls.{Call}
use Rattle.mta_shared.specs.Counts.{times}
use Rattle.mta_shared.specs.Held.{Held}
use Rattle.mta_worker.specs.declared.session.Served.{Served}
use Rattle.mta_worker_list_laws.specs.Begun.{HasRun}
use Rattle.mta_worker_list_laws.specs.Histories.{place, whole}
use Rattle.mta_worker_list_laws.specs.Linked.{Began, IsRun, None_began}
use Rattle.mta_worker_list_laws.specs.Segments.{AreSegments, IsOf, OnLane, owned, Segment}

-- the entries that were made for no session
abbrev pub plain : List ℕ → Segment
plain own = record { own = own; list = None }

-- Lanes that were closed before, and the session, where one began.
abbrev pub ArePartsOf : {L : Type 0} {links : LinkView L} {spells : List ℕ → Bool} {first entries : List Step}
    {role : Role} {old new : L} {p q : Held Step} {served : Served}
    → IsRun links spells first entries role old new p q served → List Segment → Type 0
ArePartsOf (None_began closings are none owns same) ss = ss ≡ plain closings ∷ []
ArePartsOf {first = first} (Began closings t begun calls ran of_role are owns later behind) ss =
    (s : Segment) × (ss ≡ plain closings ∷ s ∷ []) × IsOf (length first) ran.begins calls ran.done.over s

-- What was done with a link is in these parts of the history, which are all own entries of the pass then.
pub record LinkParts {L : Type 0} {links : LinkView L} {spells : List ℕ → Bool} {first entries : List Step}
    {role : Role} {old new : L} {p q : Held Step} {served : Served}
    (run : IsRun links spells first entries role old new p q served) : Type 0 where
  pub parts : List Segment
  pub are : AreSegments (whole first entries) (length first) parts
  pub owns : q.own ≡ p.own ++ owned parts
  pub of_it : ArePartsOf run parts

module _ {L : Type 0} (links : LinkView L) where
  abbrev pub LinksHaveParts : Type 0
  LinksHaveParts =
      (spells : List ℕ → Bool) (first entries : List Step) (role : Role) (old new : L) (p q : Held Step)
      (served : Served) (run : IsRun links spells first entries role old new p q served) → LinkParts run

-- ---- workers

-- a step that a worker makes for no session: it is none of a lane, or closes one, or gives an activity up
abbrev pub IsForNone : Seen → Type 0
IsForNone Elsewhere = Unit {0}
IsForNone (Begins count lanes) = Unit {0}
IsForNone (On lane (CloseLane generation)) = Unit {0}
IsForNone (On lane (Abandon k)) = Unit {0}
IsForNone (On lane step) = ⊥

-- the entries were made for no session
pub record AreForNone (history : List Seen) (before : ℕ) (s : Segment) : Type 0 where
  pub none : s.list ≡ None
  pub entries : (k : ℕ) (x : Seen) → 0 < times k s.own → slice_get history (before + k) ≡ Some x → IsForNone x

-- the entries and the list are those of a session that ran over a link
pub record IsSession {L : Type 0} (links : LinkView L) (spells : List ℕ → Bool) (first entries : List Step)
    (s : Segment) : Type 0 where
  pub link : L
  pub new : State
  pub begun : Held Step
  pub calls : List Call
  pub over : Held Step
  pub link_over : L
  pub ran : HasRun links spells first entries link new begun calls over link_over
  pub of_it : IsOf (length first) ran.begins calls ran.done.over s

-- each of these is a session's, or was made for none
abbrev pub AreSessions : {L : Type 0} → LinkView L → (spells : List ℕ → Bool) → (first entries : List Step)
    → List Segment → Type 0
AreSessions links spells first entries [] = Unit {0}
AreSessions links spells first entries (s ∷ ss) =
    (AreForNone (whole first entries) (length first) s ⊎ IsSession links spells first entries s)
    × AreSessions links spells first entries ss

-- the session was over a link of a station of this role
abbrev pub IsOfRole : {L : Type 0} {links : LinkView L} {spells : List ℕ → Bool} {first entries : List Step}
    {s : Segment} → Role
    → AreForNone (whole first entries) (length first) s ⊎ IsSession links spells first entries s → Type 0
IsOfRole role (inl none) = Unit {0}
IsOfRole role (inr x) = x.ran.role ≡ role

abbrev pub AreOfRole : {L : Type 0} (links : LinkView L) (spells : List ℕ → Bool) (first entries : List Step)
    → Role → (ss : List Segment) → AreSessions links spells first entries ss → Type 0
AreOfRole links spells first entries role [] are = Unit {0}
AreOfRole links spells first entries role (s ∷ ss) are =
    IsOfRole role are.0 × AreOfRole links spells first entries role ss are.1

-- ---- one behind the other

-- the list, where there is one, begins between these lengths of the history
abbrev pub BeginsBetween : (from upto : ℕ) → Option OnLane → Type 0
BeginsBetween from upto None = Unit {0}
BeginsBetween from upto (Some on) = (from ≤ on.at) × (on.at < upto)

-- A session has its lane no sooner than this, and its pass had seen no more than that when it was over.
abbrev pub StandsFrom : {L : Type 0} {links : LinkView L} {spells : List ℕ → Bool} {first entries : List Step}
    {s : Segment} → (from upto : ℕ)
    → AreForNone (whole first entries) (length first) s ⊎ IsSession links spells first entries s → Type 0
StandsFrom from upto (inl none) = from ≤ upto
StandsFrom {first = first} {s = s} from upto (inr x) =
    BeginsBetween from (place first x.over) s.list × (from ≤ place first x.over) × (place first x.over ≤ upto)

-- each is over before the next one has its lane
abbrev pub StandInTurn : {L : Type 0} (links : LinkView L) (spells : List ℕ → Bool) (first entries : List Step)
    → (from upto : ℕ) (ss : List Segment) → AreSessions links spells first entries ss → Type 0
StandInTurn links spells first entries from upto [] are = from ≤ upto
StandInTurn links spells first entries from upto (s ∷ ss) are =
    (mid : ℕ) × StandsFrom from mid are.0 × StandInTurn links spells first entries mid upto ss are.1

-- These parts of the history are all own entries of the pass from one point on to another, in their order, at a station
-- of this role.
pub record AreParts {L : Type 0} (links : LinkView L) (spells : List ℕ → Bool) (first entries : List Step)
    (role : Role) (p q : Held Step) : Type 0 where
  pub parts : List Segment
  pub are : AreSegments (whole first entries) (length first) parts
  pub sessions : AreSessions links spells first entries parts
  pub of_role : AreOfRole links spells first entries role parts sessions
  pub owns : q.own ≡ p.own ++ owned parts
  pub turns : StandInTurn links spells first entries (place first p) (place first q) parts sessions
