-- What a session waits for behind an action, and what comes of it.
use Rattle.std.proofs.Common.{◌≡◌, Bool, true, false, refl, sym, ap, subst}
use Rattle.mta_session.specs.declared.event.Event.{Event}
use Rattle.mta_session.specs.declared.event.Event.TheVariants as event
use Rattle.mta_session.specs.declared.event.Action.{Action}
use Rattle.mta_session.specs.declared.event.Action.TheVariants as action
use Rattle.mta_session.specs.declared.phase.Phase.{Phase}
use Rattle.mta_session.specs.declared.phase.Phase.TheVariants as phase
use Rattle.mta_session.specs.State.{State}
use Rattle.mta_session.specs.Rank.{is_over}
use Rattle.mta_session.specs.Follows.{Does, FollowsAt, counted}
use Rattle.mta_session.specs.Fits.{AnswersAt, AnswersAsk, answers_put, is_go}
use Rattle.mta_session_laws.specs.Runs.{Turn, IsTurn}
use Rattle.mta_session_laws.proofs.Opening.{wanted_in}
use Rattle.mta_session_laws.proofs.Whole.{is_ended, follows_does, in_phase_wanted}
use Rattle.mta_session_laws.specs.Order.{awaits, is_putting, is_asking, takes_unit}
use Rattle.mta_session_laws.proofs.Wants.{Due}
use Rattle.mta_session_laws.proofs.OrderedCalls.{call_after}
use Rattle.mta_session_list_laws.proofs.Found.{never}

-- the first call comes of nothing
abbrev pub goes_with : Action → Phase → Bool
goes_with action.Read phase.Begin = true
goes_with a p = awaits a p

awaits_with : (a : Action) (p : Phase) → awaits a p ≡ true → goes_with a p ≡ true
awaits_with action.Read phase.Begin i = refl
awaits_with action.Read p i = i
awaits_with (action.Put u) p i = i
awaits_with (action.Ask q) p i = i
awaits_with (action.Finish y) p i = i

pub record Ready (a : Action) (t : State) : Type 0 where
  pub due : Due t.phase t.recv.stage
  pub waits : goes_with a t.phase ≡ true

pub ready_next : (x : Turn) → IsTurn x → Due x.before.phase x.before.recv.stage → Ready x.action x.after
ready_next x is due =
    let after = call_after x.before x.event x.action x.after is.fits due is.follows in
    record { due = after.due; waits = awaits_with x.action x.after.phase after.awaited }

-- ---- phases

putting_going : (p : Phase) → is_putting p ≡ true → is_ended p ≡ false
putting_going (phase.Ended y) i = absurd (never i)
putting_going p i = refl

asking_going : (p : Phase) → is_asking p ≡ true → is_ended p ≡ false
asking_going (phase.Ended y) i = absurd (never i)
asking_going p i = refl

pub reading_going : (p : Phase) → goes_with action.Read p ≡ true → is_ended p ≡ false
reading_going (phase.Ended y) i = absurd (never i)
reading_going p i = refl

abbrev pub is_finish : Action → Bool
is_finish (action.Finish y) = true
is_finish a = false

pub going : (a : Action) (p : Phase) → is_finish a ≡ false → goes_with a p ≡ true → is_ended p ≡ false
going action.Read p n i = reading_going p i
going (action.Put u) p n i = putting_going p i
going (action.Ask q) p n i = asking_going p i
going (action.Finish y) p n i = absurd (never (sym n))

-- ---- what comes of an action

pub put_answers : (p : Phase) (t : State) (e : Event) → is_putting p ≡ true → AnswersAt p t e → answers_put e ≡ true
put_answers phase.PutsOpen t e i a = a
put_answers phase.PutsAccept t e i a = a
put_answers phase.Puts t e i a = a
put_answers phase.PutsClose t e i a = a
put_answers (phase.PutsLast y) t e i a = a
put_answers p t e i a = absurd (never i)

pub ask_answers : (p : Phase) (t : State) (e : Event) → is_asking p ≡ true → AnswersAt p t e → AnswersAsk p t e
ask_answers phase.Begin t e i a = absurd (never i)
ask_answers phase.PutsOpen t e i a = absurd (never i)
ask_answers phase.PutsAccept t e i a = absurd (never i)
ask_answers phase.Puts t e i a = absurd (never i)
ask_answers phase.PutsClose t e i a = absurd (never i)
ask_answers (phase.PutsLast y) t e i a = absurd (never i)
ask_answers phase.ReadsOpen t e i a = absurd (never i)
ask_answers phase.ReadsAnswer t e i a = absurd (never i)
ask_answers phase.Reads t e i a = absurd (never i)
ask_answers phase.ReadsCloseAck t e i a = absurd (never i)
ask_answers (phase.Ended y) t e i a = absurd (never i)
ask_answers p t e i a = a

not_put : (e : Event) → answers_put e ≡ true → takes_unit e ≡ true → ⊥
not_put event.Go a b = never b
not_put event.Over a b = never b
not_put any0 a b = never a

not_asked : (p : Phase) (t : State) (e : Event) → AnswersAsk p t e → takes_unit e ≡ true → ⊥
not_asked p t (event.Unit u) a b = elim a [ ]
not_asked p t event.BadUnit a b = elim a [ ]
not_asked p t any2 a b = never b

-- a unit comes of a read alone
pub none_put : (p : Phase) (t : State) (e : Event) → is_putting p ≡ true → AnswersAt p t e → takes_unit e ≡ true → ⊥
none_put p t e i a b = not_put e (put_answers p t e i a) b

pub none_asked : (p : Phase) (t : State) (e : Event) → is_asking p ≡ true → AnswersAt p t e → takes_unit e ≡ true → ⊥
none_asked p t e i a b = not_asked p t e (ask_answers p t e i a) b

not_go : (e : Event) → is_go e ≡ true → takes_unit e ≡ true → ⊥
not_go event.Go a b = never b
not_go any0 a b = never a

pub none_first : (e : Event) → is_go e ≡ true → takes_unit e ≡ true → ⊥
none_first e a b = not_go e a b

-- ---- what is done

pub does_at : (x : Turn) (e : Event) → x.event ≡ e → IsTurn x → is_ended x.before.phase ≡ false
    → Does (counted x.before e) (wanted_in x.before.phase (counted x.before e) e) x.action x.after
does_at x e q is i =
    subst (λ w. Does (counted x.before e) w x.action x.after) (in_phase_wanted x.before e)
    (follows_does x.before.phase x.before e x.action x.after i
    (subst (λ z. FollowsAt x.before.phase x.before z x.action x.after) q is.follows))

over_is : (p : Phase) → is_over p ≡ true → is_ended p ≡ true
over_is (phase.Ended y) i = refl
over_is p i = absurd (never i)

pub over_says : (p : Phase) (x : Turn) → is_over p ≡ true → FollowsAt p x.before x.event x.action x.after
    → (is_finish x.action ≡ true) × (x.after ≡ x.before)
over_says (phase.Ended y) x i f = (ap {A = Action} is_finish f.0, f.1)
over_says p x i f = absurd (never i)
