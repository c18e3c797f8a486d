-- A session that is run over a link: its calls, the units that it got, and the octets that were put for it.
use Rattle.std.specs.Prelude.{◌≡◌, ◌<◌, ◌≤◌, ℕ, Bool, true, false, Option, List, []}
use Rattle.std.specs.Prelude.{◌∷◌, ◌++◌, take}
use Rattle.mta_edge.specs.Causes.{Rose}
use Rattle.mta_links.specs.Links.{LinkView, Talk, Leads}
use Rattle.mta_units.specs.declared.unit.Unit.{Unit as AnyUnit}
use Rattle.mta_units.specs.Feed.{Feed}
use Rattle.mta_units.specs.Canon.{unit_octets}
use Rattle.mta_units.specs.Spelling.{HasFault, IsCutOff}
use Rattle.mta_units.specs.declared.front.BadUnit.{BadUnit}
use Rattle.mta_session_run.specs.Carried.{Carried, Fronted, IsOver, PutsAll, PutsFront}
use Rattle.mta_session.specs.declared.event.Event.{Event}
use Rattle.mta_session.specs.declared.event.Event.TheVariants as event
use Rattle.mta_session.specs.declared.event.Action.{Action}
use Rattle.mta_session.specs.declared.event.Action.TheVariants as action
use Rattle.mta_session.specs.Fits.{Answers}
use Rattle.mta_session.specs.State.{State}
use Rattle.mta_session.specs.Rank.{calls_left, is_over}
use Rattle.mta_session_laws.specs.Runs.{Turn, IsTurn}
use Rattle.mta_session_laws.specs.Whole.{IsNew, AreCalls}
use Rattle.mta_session_laws.specs.Writing.{CanWrite, TellsWritable, PutsWritable}
use Rattle.mta_session_laws.specs.Order.{awaits}
use Rattle.mta_session_run.specs.declared.came.Came.{Came}
use Rattle.mta_session_run.specs.declared.came.Came.TheVariants as came
use Rattle.mta_session_run.specs.declared.link.Done.{Done}
use Rattle.mta_session_run.specs.declared.link.Done.TheVariants as done

-- At the link --------------------------------------------------------------------------------

-- a unit is wholly put, or a front of it and the link failed
abbrev pub HasPut : {L : Type 0} → LinkView L → AnyUnit → L → Event → L → Type 0
HasPut model u old event.Go new = Leads (PutsAll (unit_octets u)) (model.talk old) (model.talk new)
HasPut model u old event.Over new =
    PutsFront (unit_octets u) (model.talk old) (model.talk new) × Rose (model.faults old) (model.faults new)
HasPut model u old _ new = ⊥

abbrev pub units_of : Event → List AnyUnit
units_of (event.Unit u) = u ∷ []
units_of _ = []

-- A unit; or octets that are none, by a fault that stands in them; or that the link is over, and what was got and not
-- taken is cut off.
abbrev pub IsRead : {L : Type 0} → LinkView L → (before : ℕ) → Event → L → Feed → Type 0
IsRead model before (event.Unit u) link feed = Unit {0}
IsRead model before event.BadUnit link feed = (k : BadUnit) × HasFault k feed.left
IsRead model before event.Over link feed = IsCutOff feed.left × IsOver model before link
IsRead model before _ link feed = ⊥

pub record HasGot {L : Type 0} (model : LinkView L) (old : L) (fed : Feed) (e : Event) (new : L)
    (feed : Feed) : Type 0 where
  pub read : IsRead model (model.faults old) e new feed
  pub carried : (since : Option Talk) (us : List AnyUnit) (octets : List ℕ)
      → Leads (Carried us octets fed) since (model.talk old) →
      Leads (Carried (us ++ units_of e) octets feed) since (model.talk new)

abbrev pub HasDone : {L : Type 0} → LinkView L → Action → L → Feed → Event → L → Feed → Type 0
HasDone model (action.Put u) old fed e new feed = HasPut model u old e new × (feed ≡ fed)
HasDone model action.Read old fed e new feed = HasGot model old fed e new feed
HasDone model _ old fed e new feed = ⊥

-- No memory for what an action does at the link: none for the octets of a unit, of which nothing was put; or none to
-- read one, and what was read before stands at the front of what the link gave.
pub data IsUndone {L : Type 0} (model : LinkView L) (a : Action) (old : L) (fed : Feed) (new : L) : Type 0 where
  Not_put : (u : AnyUnit) → a ≡ action.Put u → model.talk new ≡ model.talk old → IsUndone model a old fed new
  Not_read : a ≡ action.Read
      → ((since : Option Talk) (us : List AnyUnit) (octets : List ℕ)
      → Leads (Carried us octets fed) since (model.talk old) → Leads (Fronted us octets) since (model.talk new))
      → IsUndone model a old fed new

abbrev pub action_of : Came → Action
action_of (came.Asks x) = action.Ask x
action_of (came.Ends x) = action.Finish x

-- what comes of an action: an event, or it is handed on, and nothing is done at the link
abbrev pub Exchanged : {L : Type 0} → LinkView L → Action → L → Feed → Done → L → Feed → Type 0
Exchanged model a old fed (done.Told e) new feed = HasDone model a old fed e new feed
Exchanged model a old fed (done.Came c) new feed = (a ≡ action_of c) × (new ≡ old) × (feed ≡ fed)

-- Calls --------------------------------------------------------------------------------------

-- The session was called from its first call on, what it knows may be written, and it waits for what comes of the
-- action.
pub record IsCalled (t : State) (a : Action) : Type 0 where
  pub first : State
  pub turns : List Turn
  pub new : IsNew first
  pub calls : AreCalls first turns t
  pub writes : CanWrite t
  pub writable : PutsWritable a
  pub awaited : awaits a t.phase ≡ true

-- One call more
pub record HasTold (t : State) (e : Event) (a : Action) (u : State) : Type 0 where
  pub turn : IsTurn (record { before = t; event = e; action = a; after = u })
  pub falls : is_over t.phase ≡ false → calls_left u < calls_left t
  pub writes : CanWrite t → TellsWritable t e → CanWrite u × PutsWritable a
  pub awaited : (first : State) (turns : List Turn) → IsNew first →
      AreCalls first (turns ++ record { before = t; event = e; action = a; after = u } ∷ []) u
      → awaits a u.phase ≡ true

-- what is put for an action, where this comes of it: the canonical octets of the unit, or a front of them where the
-- link is over
abbrev pub PutFor : Action → Event → List ℕ → Type 0
PutFor (action.Put u) event.Go octets = octets ≡ unit_octets u
PutFor (action.Put u) event.Over octets = (n : ℕ) × (octets ≡ take n (unit_octets u))
PutFor action.Read e octets = octets ≡ []
PutFor _ e octets = ⊥

abbrev pub is_cut : Action → Event → Bool
is_cut (action.Put u) event.Over = true
is_cut _ e = false

-- Calls one after the other, each told what came of the action before it: the units that were got in them, and the
-- octets that were put. A unit is cut only where this holds.
pub data Runs (failed : Type 0) (t : State) (a : Action) : List Turn → List AnyUnit → List ℕ → State
    → Action → Type 0 where
  Not_yet : Runs failed t a [] [] [] t a
  Goes_on :
      (xs : List Turn) (us : List AnyUnit) (octets : List ℕ) (u : State) (b : Action) (e : Event) (c : Action)
      (v : State) (piece : List ℕ) → Runs failed t a xs us octets u b →
      IsTurn (record { before = u; event = e; action = c; after = v }) → PutFor b e piece →
      (is_cut b e ≡ true → failed) →
      Runs failed t a (xs ++ record { before = u; event = e; action = c; after = v } ∷ []) (us ++ units_of e)
      (octets ++ piece) v c

-- What came of each action at the link, one after the other: this was told of it in these calls, and the link's count
-- of faults did not fall.
abbrev pub AllDone : {L : Type 0} → LinkView L → Action → List Turn → L → Feed → L → Feed → Type 0
AllDone model a [] old fed new feed = (new ≡ old) × (feed ≡ fed)
AllDone {L = L} model a (x ∷ xs) old fed new feed =
    (mid : L) × (half : Feed) × HasDone model a old fed x.event mid half × (model.faults old ≤ model.faults mid)
    × AllDone model x.action xs mid half new feed

-- What a session that was carried on has done: its calls, the units that it got of the link, the octets that were put,
-- and what came of each action there.
pub record IsRun {L : Type 0} (model : LinkView L) (t : State) (a : Action) (old : L) (fed : Feed) (u : State)
    (b : Action) (new : L) (feed : Feed) : Type 0 where
  pub turns : List Turn
  pub units : List AnyUnit
  pub octets : List ℕ
  pub runs : Runs (Rose (model.faults old) (model.faults new)) t a turns units octets u b
  pub carried : (since : Option Talk) (us : List AnyUnit) (os : List ℕ)
      → Leads (Carried us os fed) since (model.talk old) →
      Leads (Carried (us ++ units) (os ++ octets) feed) since (model.talk new)
  pub done : AllDone model a turns old fed new feed

pub record HasRun {L : Type 0} (model : LinkView L) (t : State) (a : Action) (old : L) (fed : Feed) (c : Came)
    (u : State) (new : L) (feed : Feed) : Type 0 where
  pub run : IsRun model t a old fed u (action_of c) new feed
  pub called : IsCalled u (action_of c)

-- Why it was stopped behind its last call: there was no memory for what its action does at the link, or none for the
-- call that was to be told what came of it.
pub data IsShort {L : Type 0} (model : LinkView L) (u : State) (b : Action) (old : L) (fed : Feed) (new : L)
    : Type 0 where
  Not_done : IsUndone model b old fed new → IsShort model u b old fed new
  Not_told : (e : Event) (feed : Feed) → HasDone model b old fed e new feed → Answers u e
      → IsShort model u b old fed new

-- After want of memory the calls so far stand, and what they did at the link.
pub record HasStopped {L : Type 0} (model : LinkView L) (t : State) (a : Action) (old : L) (fed : Feed) (u : State)
    (new : L) : Type 0 where
  pub turns : List Turn
  pub units : List AnyUnit
  pub octets : List ℕ
  pub last : Action
  pub runs : Runs (Rose (model.faults old) (model.faults new)) t a turns units octets u last
  pub mid : L
  pub mid_fed : Feed
  pub carried : (since : Option Talk) (us : List AnyUnit) (os : List ℕ)
      → Leads (Carried us os fed) since (model.talk old) →
      Leads (Carried (us ++ units) (os ++ octets) mid_fed) since (model.talk mid)
  pub done : AllDone model a turns old fed mid mid_fed
  pub short : IsShort model u last mid mid_fed new

-- These units were read and these octets put: with them and what stands in the frames, nothing is lost of what the link
-- gave.
pub record HasKept {L : Type 0} (model : LinkView L) (old : L) (fed : Feed) (new : L) (feed : Feed) : Type 0 where
  pub units : List AnyUnit
  pub octets : List ℕ
  pub carried : (since : Option Talk) (us : List AnyUnit) (os : List ℕ)
      → Leads (Carried us os fed) since (model.talk old) →
      Leads (Carried (us ++ units) (os ++ octets) feed) since (model.talk new)

-- What was carried on are calls of the session, one after the other.
abbrev pub RunsAreCalls : Type 0
RunsAreCalls =
    (before now : ℕ) (t : State) (a : Action) (xs : List Turn) (us : List AnyUnit) (octets : List ℕ) (u : State)
    (b : Action) → Runs (Rose before now) t a xs us octets u b → AreCalls t xs u
