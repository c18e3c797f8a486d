-- A session that has turned to an end.
use Rattle.std.proofs.Common.{◌≡◌, ◌⊎◌, inl, inr, false, Option, Some, None}
use Rattle.std.proofs.Common.{Result, Ok, Err, List, [], ◌∷◌, refl, sym, subst}
use Rattle.mta_records.specs.declared.fault.StepFault.{StepFault}
use Rattle.mta_session.specs.declared.ask.Reply.{Reply}
use Rattle.mta_session.specs.declared.ask.Reply.TheVariants as reply
use Rattle.mta_session.specs.declared.event.Event.{Event}
use Rattle.mta_session.specs.declared.event.Event.TheVariants as event
use Rattle.mta_session.specs.declared.event.Action.{Action}
use Rattle.mta_session.specs.declared.event.SessionEnd.{SessionEnd}
use Rattle.mta_session.specs.declared.event.SessionEnd.TheVariants as end
use Rattle.mta_session.specs.declared.phase.Phase.{Phase}
use Rattle.mta_session.specs.declared.phase.Phase.TheVariants as phase
use Rattle.mta_session.specs.State.{State}
use Rattle.mta_session.specs.Wanted.{Wanted, Aborts, Ends, Asks, Never, wanted}
use Rattle.mta_session.specs.Wanted.{wanted_of_go, wanted_of_unit, wanted_of_reply, wanted_of_over, within, on_denied}
use Rattle.mta_session.specs.Wanted.{cut_short}
use Rattle.mta_session.specs.Rank.{is_over}
use Rattle.mta_session.specs.Follows.{counted, Does, FollowsAt}
use Rattle.mta_session.specs.Fits.{AnswersAt}
use Rattle.mta_session_laws.specs.Causes.{end_of}
use Rattle.mta_session_laws.specs.Runs.{Turn, IsTurn}
use Rattle.mta_session_laws.specs.Order.{IsCutOff, SessionsEndSo}
use Rattle.mta_session_laws.proofs.Wants.{never}

same_end : (x y : SessionEnd) → ◌≡◌ {A = Option SessionEnd} (Some x) (Some y) → x ≡ y
same_end x y i = cc

no_end : (y : SessionEnd) → ◌≡◌ {A = Option SessionEnd} None (Some y) → ⊥
no_end y i = cc

not_broken : end.Broken ≡ end.Closed → ⊥
not_broken i = cc

-- the end stays, but for Closed where the link is over
abbrev StaysAt : SessionEnd → Event → Option SessionEnd → Type 0
StaysAt x e y = (y ≡ Some x) ⊎ ((x ≡ end.Closed) × (e ≡ event.Over) × (y ≡ Some end.Broken))

abbrev Turned : SessionEnd → Event → Wanted → Type 0
Turned x e (Asks a v) = StaysAt x e (end_of v.phase)
Turned x e (Ends y) = StaysAt x e (Some y)
Turned x e Never = Unit {0}
Turned x e _ = ⊥

-- what an event calls for in this phase
abbrev wanted_at : Phase → State → Event → Wanted
wanted_at p t event.Go = wanted_of_go p t
wanted_at p t (event.Unit u) = within t (wanted_of_unit p t u)
wanted_at p t event.BadUnit = within t (Aborts 4)
wanted_at p t (event.Reply x) = wanted_of_reply p t x
wanted_at p t event.Over = wanted_of_over p

result_turned : (t : State) (e : Event) (x : Result (Unit {0}) StepFault) → Turned (end.Rejected 1) e (on_denied t x)
result_turned t e (Ok v) = inl refl
result_turned t e (Err f) = inl refl

reply_turned : (t : State) (y : Reply) → Turned (end.Rejected 1) (event.Reply y) (wanted_of_reply phase.AsksDenied t y)
reply_turned t (reply.Denied x) = result_turned t (event.Reply (reply.Denied x)) x
reply_turned t y = tt

denied_turned : (t v : State) (e : Event) → AnswersAt phase.AsksDenied t e
    → Turned (end.Rejected 1) e (wanted_at phase.AsksDenied v e)
denied_turned t v (event.Reply y) a = reply_turned v y
denied_turned t v event.Go a = elim a [ ]
denied_turned t v (event.Unit u) a = elim a [ ]
denied_turned t v event.BadUnit a = elim a [ ]
denied_turned t v event.Over a = elim a [ ]

last_turned : (x : SessionEnd) (t v : State) (e : Event) → AnswersAt (phase.AsksLast x) t e
    → Turned x e (wanted_at (phase.AsksLast x) v e)
last_turned x t v (event.Reply y) a = inl refl
last_turned x t v event.Go a = elim a [ ]
last_turned x t v (event.Unit u) a = elim a [ ]
last_turned x t v event.BadUnit a = elim a [ ]
last_turned x t v event.Over a = elim a [ ]

cut_turned : (x : SessionEnd) → Turned x event.Over (Ends (cut_short x))
cut_turned end.Closed = inr (refl, refl, refl)
cut_turned x = inl refl

put_turned : (x : SessionEnd) (t v : State) (e : Event) → AnswersAt (phase.PutsLast x) t e
    → Turned x e (wanted_at (phase.PutsLast x) v e)
put_turned x t v event.Go a = inl refl
put_turned x t v event.Over a = cut_turned x
put_turned x t v (event.Unit u) a = absurd (never a)
put_turned x t v event.BadUnit a = absurd (never a)
put_turned x t v (event.Reply y) a = absurd (never a)

turned : (p : Phase) (t v : State) (e : Event) (x : SessionEnd) → end_of p ≡ Some x → is_over p ≡ false
    → AnswersAt p t e → Turned x e (wanted_at p v e)
turned phase.AsksDenied t v e x i o a = subst (λ z. Turned z e (wanted_at phase.AsksDenied v e)) (same_end _ x i)
    (denied_turned t v e a)
turned (phase.AsksLast y) t v e x i o a = subst (λ z. Turned z e (wanted_at (phase.AsksLast y) v e)) (same_end y x i)
    (last_turned y t v e a)
turned (phase.PutsLast y) t v e x i o a = subst (λ z. Turned z e (wanted_at (phase.PutsLast y) v e)) (same_end y x i)
    (put_turned y t v e a)
turned (phase.Ended y) t v e x i o a = absurd (never (sym o))
turned p t v e x i o a = absurd (no_end x i)

wanted_there : (t : State) (e : Event) → wanted_at t.phase (counted t e) e ≡ wanted (counted t e) e
wanted_there t event.Go = refl
wanted_there t (event.Unit u) = refl
wanted_there t event.BadUnit = refl
wanted_there t (event.Reply y) = refl
wanted_there t event.Over = refl

does_stay : (x : SessionEnd) (e : Event) (c : State) (w : Wanted) (a : Action) (new : State) → Turned x e w
    → Does c w a new → StaysAt x e (end_of new.phase)
does_stay x e c (Asks q v) a new l d = subst (λ z. StaysAt x e (end_of z.phase)) (sym d.1) l
does_stay x e c (Ends y) a new l d = subst (λ z. StaysAt x e (end_of z.phase)) (sym d.1) l
does_stay x e c Never a new l d = elim d [ ]
does_stay x e c w a new l d = elim l [ ]

over_stays : (y x : SessionEnd) (t : State) (e : Event) (a : Action) (new : State) → t.phase ≡ phase.Ended y
    → end_of (phase.Ended y) ≡ Some x → FollowsAt (phase.Ended y) t e a new → StaysAt x e (end_of new.phase)
over_stays y x t e a new q i d =
    let here : end_of t.phase ≡ Some x = subst (λ z. end_of z ≡ Some x) (sym q) i in
    subst (λ z. StaysAt x e (end_of z.phase)) (sym d.1) (inl here)

at_phase : (p : Phase) (t : State) (e : Event) (a : Action) (new : State) (x : SessionEnd) → t.phase ≡ p
    → end_of p ≡ Some x → AnswersAt p t e →
    ((is_over p ≡ false) → Turned x e (wanted (counted t e) e)) → FollowsAt p t e a new → StaysAt x e (end_of new.phase)
at_phase (phase.Ended y) t e a new x q i ans l d = over_stays y x t e a new q i d
at_phase p t e a new x q i ans l d = does_stay x e (counted t e) (wanted (counted t e) e) a new (l refl) d

call_stays : (x : Turn) → IsTurn x → (y : SessionEnd) → end_of x.before.phase ≡ Some y
    → StaysAt y x.event (end_of x.after.phase)
call_stays x is y i =
    at_phase x.before.phase x.before x.event x.action x.after y refl i is.answers
    (λ o. subst (λ w. Turned y x.event w) (wanted_there x.before x.event)
    (turned x.before.phase x.before (counted x.before x.event) x.event y i o is.answers))
    is.follows

abbrev EndsSo : List Turn → State → SessionEnd → Type 0
EndsSo xs u x = (end_of u.phase ≡ Some x) ⊎ ((x ≡ end.Closed) × IsCutOff xs × (end_of u.phase ≡ Some end.Broken))

later : (x : Turn) (xs : List Turn) (u : State) (y : SessionEnd) → EndsSo xs u y → EndsSo (x ∷ xs) u y
later x xs u y (inl k) = inl k
later x xs u y (inr k) = inr (k.0, inr k.1, k.2)

broken_stays : (xs : List Turn) (u : State) → EndsSo xs u end.Broken → end_of u.phase ≡ Some end.Broken
broken_stays xs u (inl k) = k
broken_stays xs u (inr k) = absurd (not_broken k.0)

goes_on_so : (x : Turn) (xs : List Turn) (u : State) (y : SessionEnd)
    → ((z : SessionEnd) → end_of x.after.phase ≡ Some z → EndsSo xs u z) → StaysAt y x.event (end_of x.after.phase)
    → EndsSo (x ∷ xs) u y
goes_on_so x xs u y rest (inl k) = later x xs u y (rest y k)
goes_on_so x xs u y rest (inr k) = inr (k.0, inl k.1, broken_stays xs u (rest end.Broken k.2))

pub ending_so : SessionsEndSo
ending_so t u [] x run i = inl (subst (λ z. end_of z.phase ≡ Some x) (sym run) i)
ending_so t u (y ∷ ys) x run i =
    let here : end_of y.before.phase ≡ Some x = subst (λ z. end_of z.phase ≡ Some x) (sym run.0) i in
    goes_on_so y ys u x (λ z k. ending_so y.after u ys z run.2 k) (call_stays y run.1 x here)
