-- The calls of a session, one after the other.
use Rattle.std.proofs.Common.{◌≡◌, inl, inr, ℕ, Bool, true, false, Option, Some, None, List, [], ◌∷◌, ◌++◌, refl}
use Rattle.std.proofs.Common.{sym, ap, subst, ◌∙◌}
use Rattle.mta_units.specs.declared.unit.Unit.{Unit as AnyUnit}
use Rattle.mta_units.specs.declared.unit.Unit.TheVariants as unit
use Rattle.mta_transfer_rules.specs.Units.{LaneUnit}
use Rattle.mta_transfer_rules.specs.Sending as s
use Rattle.mta_transfer_rules.specs.Receiving as r
use Rattle.mta_transfer_rules.specs.Receiving.{RecvStage}
use Rattle.mta_session.specs.declared.ask.Ask.{Ask}
use Rattle.mta_session.specs.declared.ask.Ask.TheVariants as ask
use Rattle.mta_session.specs.declared.event.Event.{Event}
use Rattle.mta_session.specs.declared.event.Event.TheVariants as event
use Rattle.mta_session.specs.declared.event.Action.{Action}
use Rattle.mta_session.specs.declared.event.Action.TheVariants as action
use Rattle.mta_session.specs.declared.phase.Phase.{Phase}
use Rattle.mta_session.specs.declared.phase.Phase.TheVariants as phase
use Rattle.mta_session.specs.declared.phase.Found.{Found}
use Rattle.mta_session.specs.Receiving.{is_free}
use Rattle.mta_session.specs.State.{State}
use Rattle.mta_session.specs.Follows.{OwesNothing}
use Rattle.mta_session.specs.Fits.{FitsAt, AnswersAt, AnswersAsk, answers_put, is_go}
use Rattle.mta_session_laws.specs.Turning.{is_open}
use Rattle.mta_session_laws.specs.Runs.{Turn, IsTurn}
use Rattle.mta_session_laws.specs.Whole.{IsNew, Initiates, Responds, AreCalls}
use Rattle.mta_session_laws.specs.Order.{takes_unit, TakesOwingNothing, AllTakeOwingNothing, NothingIsOwed}
use Rattle.mta_session_laws.specs.Order.{DueAt, AllAnswer, AnswersAtOnce, looked_by, ends_turn, AllLook, LooksFirst}
use Rattle.mta_session_laws.specs.Order.{HasOccasion, ClosesAt, AllHaveOccasion, LanesHaveOccasion, awaits}
use Rattle.mta_session_laws.specs.Order.{ActionsAreAwaited}
use Rattle.mta_session_laws.proofs.Wants.{Enters, Says, SaysAsk, Due, FoundNone, never}
use Rattle.mta_session_laws.proofs.OrderedCalls.{After, call_after}

-- what holds before each call
record Stands (t : State) : Type 0 where
  pub due : Due t.phase t.recv.stage
  pub owes : t.phase ≡ phase.Reads → OwesNothing t

abbrev AllStand : List Turn → Type 0
AllStand [] = Unit {0}
AllStand (x ∷ xs) = IsTurn x × Stands x.before × After x.before x.event x.action x.after × AllStand xs

begin_reads : phase.Begin ≡ phase.Reads → ⊥
begin_reads i = cc

new_stands : (t : State) → IsNew t → Stands t
new_stands t (Initiates plan units) = record { due = refl; owes = λ i. absurd (begin_reads i) }
new_stands t (Responds own units) = record { due = refl; owes = λ i. absurd (begin_reads i) }

all_stand : (xs : List Turn) (t u : State) → Stands t → AreCalls t xs u → AllStand xs
all_stand [] t u k run = tt
all_stand (x ∷ xs) t u k run =
    let here : Stands x.before = subst (λ z. Stands z) (sym run.0) k in
    let after = call_after x.before x.event x.action x.after run.1.fits here.due run.1.follows in
    let next : Stands x.after = record { due = after.due; owes = after.owes } in
    (run.1, here, after, all_stand xs x.after u next run.2)

-- Nothing is owed ----------------------------------------------------------------------------

not_put : (e : Event) → answers_put e ≡ true → takes_unit e ≡ true → ⊥
not_put event.Go a b = never b
not_put (event.Unit x) a b = never a
not_put event.BadUnit a b = never a
not_put (event.Reply x) a b = never a
not_put event.Over a b = never b

not_go : (e : Event) → is_go e ≡ true → takes_unit e ≡ true → ⊥
not_go event.Go a b = never b
not_go (event.Unit x) a b = never a
not_go event.BadUnit a b = never a
not_go (event.Reply x) a b = never a
not_go event.Over a b = never a

not_asked : (p : Phase) (t : State) (e : Event) → AnswersAsk p t e → takes_unit e ≡ true → ⊥
not_asked p t (event.Reply x) a b = never b
not_asked p t event.Go a b = never b
not_asked p t (event.Unit x) a b = elim a [ ]
not_asked p t event.BadUnit a b = elim a [ ]
not_asked p t event.Over a b = never b

-- a session that is not open, and takes no transfer
closed_owes : (t : State) → t.recv.stage ≡ r.Free → is_open t.phase ≡ false → TakesOwingNothing t
closed_owes t q i = record {
  taken = subst (λ z. r.StageOwesNothing z t.recv.acked) (sym q) tt;
  put = λ o. absurd (never (sym i ∙ o));
  next = λ o. absurd (never (sym i ∙ o));
}

free_owes : (s : RecvStage) (acked : ℕ) → is_free s ≡ true → r.StageOwesNothing s acked
free_owes r.Free acked i = tt
free_owes (r.Skips k) acked i = tt
free_owes s acked i = absurd (never i)

not_heard : (x : LaneUnit) → ◌≡◌ {A = Option LaneUnit} None (Some x) → ⊥
not_heard x i = cc

-- behind Close
closing_owes : (t : State) → t.phase ≡ phase.ReadsCloseAck → FitsAt phase.ReadsCloseAck t → t.send.heard ≡ None
    → TakesOwingNothing t
closing_owes t q f h =
    let quiet : t.send.stage ≡ s.Quiet = f.3 in
    record {
      taken = free_owes t.recv.stage t.recv.acked (f.1 f.2);
      put = λ o i. ((λ x step y c. not_heard x (sym h ∙ y)), subst (λ z. s.StageOwesNothing t.send z) (sym quiet) tt);
      next = λ o i n. q;
    }

-- on an open session
open_owes : (t : State) → OwesNothing t → TakesOwingNothing t
open_owes t o = record { taken = o.taken; put = λ i. o.put; next = λ i w n. absurd (o.next w n) }

owes_at : (p : Phase) (t : State) (e : Event) → t.phase ≡ p → FitsAt p t → t.send.heard ≡ None
    → (p ≡ phase.Reads → OwesNothing t) → AnswersAt p t e → takes_unit e ≡ true → TakesOwingNothing t
owes_at phase.Reads t e q f h o a i = open_owes t (o refl)
owes_at phase.ReadsCloseAck t e q f h o a i = closing_owes t q f h
owes_at phase.ReadsOpen t e q f h o a i = closed_owes t f.0.0.4 (ap {A = Phase} is_open q)
owes_at phase.ReadsAnswer t e q f h o a i = closed_owes t f.0.4 (ap {A = Phase} is_open q)
owes_at (phase.Ended y) t e q f h o a i = closed_owes t f.1 (ap {A = Phase} is_open q)
owes_at phase.Begin t e q f h o a i = absurd (not_go e a i)
owes_at phase.PutsOpen t e q f h o a i = absurd (not_put e a i)
owes_at phase.PutsAccept t e q f h o a i = absurd (not_put e a i)
owes_at phase.Puts t e q f h o a i = absurd (not_put e a i)
owes_at phase.PutsClose t e q f h o a i = absurd (not_put e a i)
owes_at (phase.PutsLast y) t e q f h o a i = absurd (not_put e a i)
owes_at p t e q f h o a i = absurd (not_asked p t e a i)

all_owe : (xs : List Turn) → AllStand xs → AllTakeOwingNothing xs
all_owe [] k = tt
all_owe (x ∷ xs) k =
    (λ i. owes_at x.before.phase x.before x.event refl k.0.fits k.0.heard k.1.owes k.0.answers i, all_owe xs k.3)

pub owing_nothing : NothingIsOwed
owing_nothing t u xs new run = all_owe xs (all_stand xs t u (new_stands t new) run)

-- Answers at once ----------------------------------------------------------------------------

drop_due : (k : ℕ) (found : Option Found) (t : State) → FitsAt (phase.AsksDrop k found) t
    → Due (phase.AsksDrop k found) t.recv.stage → DueAt (phase.AsksDrop k found) t.recv.stage
drop_due k None t f d = f.2
drop_due k (Some found) t f d = d

due_at : (p : Phase) (t : State) → FitsAt p t → Due p t.recv.stage → DueAt p t.recv.stage
due_at (phase.AsksDrop k found) t f d = drop_due k found t f d
due_at p t f d = d

all_answer : (xs : List Turn) → AllStand xs → AllAnswer xs
all_answer [] k = tt
all_answer (x ∷ xs) k = (
  due_at x.before.phase x.before k.0.fits k.1.due,
  due_at x.after.phase x.after k.0.fits_after k.2.due,
  all_answer xs k.3,
)

pub answering_at_once : AnswersAtOnce
answering_at_once t u xs new run = all_answer xs (all_stand xs t u (new_stands t new) run)

-- Looks --------------------------------------------------------------------------------------

-- behind Close a look has found no batch
abbrev Looked : Bool → Phase → Type 0
Looked b phase.PutsClose = b ≡ true
Looked b phase.ReadsCloseAck = b ≡ true
Looked b p = Unit {0}

found_none : (b : Bool) (e : Event) → FoundNone e → looked_by b e ≡ true
found_none b e q = subst (λ z. looked_by b z ≡ true) (sym q) refl

looked_after : (b : Bool) (t : State) (e : Event) (p : Phase) → Looked b t.phase → Enters t e p
    → Looked (looked_by b e) p
looked_after b t e phase.PutsClose l i = found_none b e i
looked_after b t e phase.ReadsCloseAck l i =
    let kept : b ≡ true = subst (λ z. Looked b z) i.0 l in
    subst (λ z. looked_by b z ≡ true) (sym i.1) kept
looked_after b t e p l i = tt

gave : (b : Bool) (t : State) (e : Event) → Looked b t.phase → Says t e unit.Give → looked_by b e ≡ true
gave b t e l (inl q) = found_none b e q
gave b t e l (inr y) =
    let kept : b ≡ true = subst (λ z. Looked b z) y.0 l in
    subst (λ z. looked_by b z ≡ true) (sym y.2) kept

put_looked : (b : Bool) (t : State) (e : Event) (x : AnyUnit) → Looked b t.phase → Says t e x
    → ends_turn (action.Put x) ≡ true → looked_by b e ≡ true
put_looked b t e unit.Close l y i = found_none b e y
put_looked b t e unit.Give l y i = gave b t e l y
put_looked b t e x l y i = absurd (never i)

abbrev Tells : State → Event → Action → Type 0
Tells t e (action.Put x) = Says t e x
Tells t e (action.Ask q) = SaysAsk e q
Tells t e _ = Unit {0}

turn_looked : (b : Bool) (t : State) (e : Event) (a : Action) → Looked b t.phase → Tells t e a → ends_turn a ≡ true
    → looked_by b e ≡ true
turn_looked b t e (action.Put x) l y i = put_looked b t e x l y i
turn_looked b t e (action.Ask x) l y i = absurd (never i)
turn_looked b t e action.Read l y i = absurd (never i)
turn_looked b t e (action.Finish x) l y i = absurd (never i)

all_look : (xs : List Turn) (t u : State) (b : Bool) → AreCalls t xs u → AllStand xs → Looked b t.phase → AllLook b xs
all_look [] t u b run k l = tt
all_look (x ∷ xs) t u b run k l =
    let here : Looked b x.before.phase = subst (λ z. Looked b z.phase) (sym run.0) l in (
      turn_looked b x.before x.event x.action here k.2.tells,
      all_look xs x.after u (looked_by b x.event) run.2 k.3
          (looked_after b x.before x.event x.after.phase here k.2.entered),
    )

new_looked : (t : State) → IsNew t → Looked false t.phase
new_looked t (Initiates plan units) = tt
new_looked t (Responds own units) = tt

pub looking_first : LooksFirst
looking_first t u xs new run = all_look xs t u false run (all_stand xs t u (new_stands t new) run) (new_looked t new)

-- Lanes --------------------------------------------------------------------------------------

asks_occasion : (e : Event) (x : Ask) → SaysAsk e x → HasOccasion (action.Ask x) e
asks_occasion e (ask.CloseLane lane generation) y = y
asks_occasion e (ask.SpareLane role peer) y = y
asks_occasion e x y = tt

occasion : (t : State) (e : Event) (a : Action) → Tells t e a → HasOccasion a e
occasion t e (action.Ask x) y = asks_occasion e x y
occasion t e (action.Put x) y = tt
occasion t e action.Read y = tt
occasion t e (action.Finish x) y = tt

closes_at : (t : State) (e : Event) (p : Phase) → Enters t e p → ClosesAt p e
closes_at t e phase.AsksClose i = i
closes_at t e p i = tt

all_occasion : (xs : List Turn) → AllStand xs → AllHaveOccasion xs
all_occasion [] k = tt
all_occasion (x ∷ xs) k = (
  occasion x.before x.event x.action k.2.tells,
  closes_at x.before x.event x.after.phase k.2.entered,
  all_occasion xs k.3,
)

pub having_occasion : LanesHaveOccasion
having_occasion t u xs new run = all_occasion xs (all_stand xs t u (new_stands t new) run)

-- Actions are awaited ------------------------------------------------------------------------

last_awaits : (xs : List Turn) (x : Turn) → AllStand (xs ++ x ∷ []) → awaits x.action x.after.phase ≡ true
last_awaits [] x k = k.2.awaited
last_awaits (y ∷ ys) x k = last_awaits ys x k.3

pub being_awaited : ActionsAreAwaited
being_awaited t u xs x new run = last_awaits xs x (all_stand (xs ++ x ∷ []) t u (new_stands t new) run)
