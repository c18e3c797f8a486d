-- One act of a side, in terms of the world of both agents.
use Rattle.std.specs.Prelude.{◌≡◌, ◌⊎◌, ◌↔◌, ◌++◌, ℕ, Bool, true, false, List, [], ◌∷◌, Option, None, Some}
use Rattle.mta_edge.specs.Held.{HeldDisk}
use Rattle.mta_edge.specs.Images.{memory_disk}
use Rattle.mta_edge.specs.Moments.{memory_clock}
use Rattle.mta_session.specs.Fits.{Answers}
use Rattle.mta_session.specs.State.{State}
use Rattle.mta_session.specs.declared.ask.Ask.{Ask}
use Rattle.mta_session.specs.declared.ask.Reply.{Reply}
use Rattle.mta_session.specs.declared.event.Action.{Action}
use Rattle.mta_session.specs.declared.event.Action.TheVariants as action
use Rattle.mta_session.specs.declared.event.Event.{Event}
use Rattle.mta_session.specs.declared.event.Event.TheVariants as event
use Rattle.mta_session.specs.declared.event.SessionEnd.{SessionEnd}
use Rattle.mta_session.specs.declared.event.SessionEnd.TheVariants as ends
use Rattle.mta_session_run.specs.Running.{HasTold}
use Rattle.mta_spool.specs.Shown.{Shown}
use Rattle.mta_units.specs.Feed.{Feed}
use Rattle.mta_units.specs.declared.unit.Unit.{Unit as AnyUnit}
use Rattle.mta_worker.specs.Answers.{Answered}
use Rattle.mta_worker.specs.Halting.{halt_after}
use Rattle.mta_histories.specs.Lanes.{State as SpoolState}
use Rattle.mta_drill_links.specs.Ways.{AreOnWay}
use Rattle.mta_drill_stage_laws.specs.Breaks.{Breaks, IsDue, IsDueIn, one_more}
use Rattle.mta_drill_stage_laws.specs.World.{Acts, Link, Party, Replied}
use Rattle.mta_drill_answer_laws.specs.Answers.{IsShort, Works}
use Rattle.mta_drill.specs.declared.side.Done.{Done}
use Rattle.mta_drill.specs.declared.side.Done.TheVariants as done
use Rattle.mta_drill.specs.declared.side.Rest.{Rest}
use Rattle.mta_drill.specs.declared.side.Rest.TheVariants as rest
use Rattle.mta_drill.specs.declared.side.Side.{Side}

-- ---- at the link

-- what comes of a unit that is put
abbrev pub put_event : Bool → Event
put_event true = event.Over
put_event false = event.Go

abbrev pub put_units : Bool → AnyUnit → List AnyUnit
put_units true u = []
put_units false u = u ∷ []

-- what is got of these units, and what is left on the way
abbrev pub HasGot : Bool → List AnyUnit → Option Event → Feed → Type 0
HasGot true us got feed = (got ≡ Some event.Over) × AreOnWay us feed
HasGot false [] got feed = (got ≡ None) × AreOnWay [] feed
HasGot false (u ∷ us) got feed = (got ≡ Some (event.Unit u)) × AreOnWay us feed

-- it is what a session is told that reads
abbrev pub IsOfReading : Option Event → Type 0
IsOfReading None = Unit {0}
IsOfReading (Some (event.Unit x)) = Unit {0}
IsOfReading (Some event.Over) = Unit {0}
IsOfReading (Some _) = ⊥

-- the session was told what it read, or waits where nothing came
abbrev pub HasRead : Bool → List AnyUnit → State → Done → State → Feed → Type 0
HasRead true us t (done.Told a) u feed = HasTold t event.Over a u × AreOnWay us feed
HasRead false (x ∷ us) t (done.Told a) u feed = HasTold t (event.Unit x) a u × AreOnWay us feed
HasRead false [] t (done.Rests rest.Waits) u feed = (u ≡ t) × AreOnWay [] feed
HasRead _ _ t d u feed = ⊥

-- the link is broken where its place is reached, and else as it was
abbrev pub IsBrokenBy : (was : Bool) → Breaks → Ask → (is : Bool) → Breaks → Type 0
IsBrokenBy was b q is c =
    ((activity : ℕ) × IsDueIn b q activity × (is ≡ true) × (c ≡ one_more b activity))
    ⊎ ((IsDue b q → ⊥) × (is ≡ was) × (c ≡ b))

-- ---- at the spool

-- it answers, and does not want memory
abbrev pub HasAnswer : Ask → Shown HeldDisk (List ℕ) → Reply → Shown HeldDisk (List ℕ) → Type 0
HasAnswer q old x new = Answered memory_disk memory_clock q old x new × (IsShort (halt_after x) → ⊥)

-- the session is told the answer, or it is none to what it waits for
abbrev pub HasAsked : Ask → Shown HeldDisk (List ℕ) → State → Done → Shown HeldDisk (List ℕ) → State
    → Type 0
HasAsked q old t (done.Told a) new u = (x : Reply) × HasAnswer q old x new × HasTold t (event.Reply x) a u
HasAsked q old t (done.Rests (rest.Over is_closed)) new u =
    (x : Reply) × HasAnswer q old x new × (Answers t (event.Reply x) → ⊥) × (is_closed ≡ false)
HasAsked q old t (done.Rests rest.Waits) new u = ⊥

-- ---- in the world

-- This is the party that the side, its spool and the next action of its session show, at this link.
pub record IsSide (x : Side) (s : Shown HeldDisk (List ℕ)) (a : Action) (b : Breaks) (p : Party) (l : Link)
    : Type 0 where
  pub spool : p.spool ≡ s.current
  pub session : p.session ≡ x.session
  pub wants : p.wants ≡ a
  pub came : AreOnWay p.came x.came.feed
  pub broken : l.is_broken ≡ x.came.is_broken
  pub breaks : l.breaks ≡ b
  pub works : Works s

-- one act, behind which the side wants this, and what was on the way to the other end has the units behind it that were
-- put
pub record HasActed (p : Party) (l : Link) (a : Action) (x : Side) (s : Shown HeldDisk (List ℕ)) (b : Breaks)
    (old new : Feed) : Type 0 where
  pub did : List AnyUnit
  pub party : Party
  pub link : Link
  pub acts : Acts p l did party link
  pub side : IsSide x s a b party link
  pub put : (us : List AnyUnit) → AreOnWay us old → AreOnWay (us ++ did) new

-- nothing came, and nothing was done
pub record IsWaiting (p : Party) (l : Link) (x : Side) (s : Shown HeldDisk (List ℕ)) (b : Breaks) (old new : Feed)
    : Type 0 where
  pub reads : p.wants ≡ action.Read
  pub none : p.came ≡ []
  pub whole : l.is_broken ≡ false
  pub side : IsSide x s action.Read b p l
  pub put : new ≡ old

-- the session is over
pub record IsEnded (p : Party) (l : Link) (is_closed : Bool) (x : Side) (s : Shown HeldDisk (List ℕ)) (b : Breaks)
    (old new : Feed) : Type 0 where
  pub end : SessionEnd
  pub over : p.wants ≡ action.Finish end
  pub closed : (is_closed ≡ true) ↔ (end ≡ ends.Closed)
  pub side : IsSide x s (action.Finish end) b p l
  pub put : new ≡ old

-- or it asked, and was told no answer: the one that it had is none to its question
pub record IsGivenUp (p : Party) (is_closed : Bool) : Type 0 where
  pub question : Ask
  pub asks : p.wants ≡ action.Ask question
  pub answer : Reply
  pub left : SpoolState
  pub replied : Replied question p.session p.spool answer left
  pub unheard : Answers p.session (event.Reply answer) → ⊥
  pub open_still : is_closed ≡ false

abbrev pub HasDone : Party → Link → Done → Side → Shown HeldDisk (List ℕ) → Breaks → (old new : Feed)
    → Type 0
HasDone p l (done.Told a) x s b old new = HasActed p l a x s b old new
HasDone p l (done.Rests rest.Waits) x s b old new = IsWaiting p l x s b old new
HasDone p l (done.Rests (rest.Over is_closed)) x s b old new =
    IsEnded p l is_closed x s b old new ⊎ IsGivenUp p is_closed

-- ---- many acts of one side

-- acts, one behind the other, and the units that were put in them
pub data Went (p : Party) (l : Link) : List AnyUnit → Party → Link → Type 0 where
  Not_yet : Went p l [] p l
  One_more : (us did : List AnyUnit) (q r : Party) (m n : Link) → Went p l us q m → Acts q m did r n
      → Went p l (us ++ did) r n

-- acts, behind which the side wants this
pub record HasGone (p : Party) (l : Link) (a : Action) (x : Side) (s : Shown HeldDisk (List ℕ)) (b : Breaks)
    (old new : Feed) : Type 0 where
  pub did : List AnyUnit
  pub party : Party
  pub link : Link
  pub went : Went p l did party link
  pub side : IsSide x s a b party link
  pub put : (us : List AnyUnit) → AreOnWay us old → AreOnWay (us ++ did) new

-- acts, behind which it rests
pub record HasCome (p : Party) (l : Link) (r : Rest) (x : Side) (s : Shown HeldDisk (List ℕ)) (b : Breaks)
    (old new : Feed) : Type 0 where
  pub did : List AnyUnit
  pub party : Party
  pub link : Link
  pub went : Went p l did party link
  pub middle : Feed
  pub put : (us : List AnyUnit) → AreOnWay us old → AreOnWay (us ++ did) middle
  pub rests : HasDone party link (done.Rests r) x s b middle new

-- where a side rests, as the party shows it
abbrev pub RestsAt : Rest → Side → Shown HeldDisk (List ℕ) → Breaks → Party → Link → Type 0
RestsAt rest.Waits x s b p l = IsSide x s action.Read b p l
RestsAt (rest.Over is_closed) x s b p l =
    (e : SessionEnd) × ((is_closed ≡ true) ↔ (e ≡ ends.Closed)) × IsSide x s (action.Finish e) b p l
