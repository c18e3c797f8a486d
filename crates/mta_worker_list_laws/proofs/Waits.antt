-- What a session waits for behind its calls: between two turns of the lock it does not look at its lane.
use Rattle.std.proofs.Common.{◌≡◌, ℕ, Bool, true, false, List, [], ◌∷◌, refl, sym, subst}
use Rattle.mta_session.specs.declared.ask.Ask.{Ask}
use Rattle.mta_session.specs.declared.ask.Reply.{Reply}
use Rattle.mta_session.specs.declared.event.Action.{Action}
use Rattle.mta_session.specs.declared.event.Action.TheVariants as action
use Rattle.mta_session.specs.declared.event.Event.{Event}
use Rattle.mta_session.specs.declared.event.Event.TheVariants as event
use Rattle.mta_session.specs.declared.phase.Phase.{Phase}
use Rattle.mta_session.specs.declared.phase.Phase.TheVariants as phase
use Rattle.mta_session.specs.Fits.{AnswersAt}
use Rattle.mta_session.specs.Follows.{Follows}
use Rattle.mta_session.specs.State.{State}
use Rattle.mta_session_laws.specs.Runs.{IsTurn, Turn}
use Rattle.mta_session_laws.specs.Whole.{AreCalls}
use Rattle.mta_session_laws.specs.Order.{awaits}
use Rattle.mta_session_laws.proofs.OrderedCalls.{call_after}
use Rattle.mta_session_laws.proofs.Wants.{Due}
use Rattle.mta_session_run.specs.Running.{PutFor}
use Rattle.mta_lane_match_laws.specs.Asks.{IsAskOf}
use Rattle.mta_lane_match_laws.proofs.Asking.{asks_are_of_phase}
use Rattle.mta_session_list_laws.specs.Calls.{action_of, Call, turns_of}
use Rattle.mta_session_list_laws.proofs.Found.{never}
use Rattle.mta_worker.specs.Turns.{IsLook, WantsNoLook}
use Rattle.mta_worker_list_laws.proofs.Calm.{calm_looks, calm_next, is_calm, is_looking, IsNoReply}

-- ---- behind a call

-- what is asked is of the phase
abbrev pub Asked : Action → State → Type 0
Asked (action.Ask q) t = IsAskOf t.phase t q
Asked a t = Unit {0}

pub asked_next : (a : Action) (t : State) (e : Event) (new : State) → Follows t e a new → Asked a new
asked_next (action.Ask q) t e new f = asks_are_of_phase t e q new f
asked_next any0 t e new f = tt

pub record Waits (a : Action) (t : State) : Type 0 where
  pub due : Due t.phase t.recv.stage
  pub waits : awaits a t.phase ≡ true
  pub asked : Asked a t

pub waits_next : (x : Turn) → IsTurn x → Due x.before.phase x.before.recv.stage → Waits x.action x.after
waits_next x is due =
    let after = call_after x.before x.event x.action x.after is.fits due is.follows in
    record {
      due = after.due;
      waits = after.awaited;
      asked = asked_next x.action x.before x.event x.after is.follows;
    }

pub calls_wait : (cs : List Call) (a : Action) (t u : State) → Waits a t → AreCalls t (turns_of cs) u
    → Waits (action_of a cs) u
calls_wait [] a t u w run = subst (λ (z : State). Waits a z) (sym run) w
calls_wait (c ∷ cs) a t u w run =
    calls_wait cs c.turn.action c.turn.after u
    (waits_next c.turn run.1 (subst (λ (z : State). Due z.phase z.recv.stage) (sym run.0) w.due)) run.2

-- ---- looks

-- a session that looks at its lane asks for a look
asks_look : (p : Phase) (a : Action) (t : State) → awaits a p ≡ true → (is_looking p ≡ true)
    → ((q : Ask) → a ≡ action.Ask q → IsAskOf p t q) → WantsNoLook a → ⊥
asks_look phase.AsksValues (action.Ask q) t w i asks none =
    none q refl (subst IsLook (sym (asks q refl)) tt)
asks_look phase.AsksRecovery (action.Ask q) t w i asks none =
    none q refl (subst IsLook (sym (asks q refl)) tt)
asks_look (phase.AsksReceiving state) (action.Ask q) t w i asks none =
    none q refl (subst IsLook (sym (asks q refl)) tt)
asks_look (phase.AsksResumed state) (action.Ask q) t w i asks none =
    none q refl (subst IsLook (sym (asks q refl)) tt)
asks_look phase.AsksValues (action.Put u) t w i asks none = never w
asks_look phase.AsksValues action.Read t w i asks none = never w
asks_look phase.AsksValues (action.Finish y) t w i asks none = never w
asks_look phase.AsksRecovery (action.Put u) t w i asks none = never w
asks_look phase.AsksRecovery action.Read t w i asks none = never w
asks_look phase.AsksRecovery (action.Finish y) t w i asks none = never w
asks_look (phase.AsksReceiving state) (action.Put u) t w i asks none = never w
asks_look (phase.AsksReceiving state) action.Read t w i asks none = never w
asks_look (phase.AsksReceiving state) (action.Finish y) t w i asks none = never w
asks_look (phase.AsksResumed state) (action.Put u) t w i asks none = never w
asks_look (phase.AsksResumed state) action.Read t w i asks none = never w
asks_look (phase.AsksResumed state) (action.Finish y) t w i asks none = never w
asks_look p a t w i asks none = never i

asked_as : (a : Action) (t : State) → Asked a t → (q : Ask) → a ≡ action.Ask q → IsAskOf t.phase t q
asked_as a t i q e = subst (λ (z : Action). Asked z t) e i

still : (b : Bool) → (b ≡ true → ⊥) → b ≡ false
still true none = absurd (none refl)
still false none = refl

-- where no look is wanted
pub looks_not : (a : Action) (t : State) → Waits a t → WantsNoLook a → is_looking t.phase ≡ false
looks_not a t w none =
    still (is_looking t.phase) (λ i. asks_look t.phase a t w.waits i (asked_as a t w.asked) none)

-- ---- while it is carried on

reads_no_reply : (p : Phase) (t : State) (x : Reply) → awaits action.Read p ≡ true → AnswersAt p t (event.Reply x) → ⊥
reads_no_reply phase.ReadsOpen t x i a = never a
reads_no_reply phase.ReadsAnswer t x i a = never a
reads_no_reply phase.Reads t x i a = never a
reads_no_reply phase.ReadsCloseAck t x i a = never a
reads_no_reply p t x i a = never i

-- what comes of a unit that is put, or read, is no reply
pub no_reply : (b : Action) (e : Event) (piece : List ℕ) (t : State) → PutFor b e piece → awaits b t.phase ≡ true
    → AnswersAt t.phase t e → IsNoReply e
no_reply (action.Put u) event.Go piece t f w a = tt
no_reply (action.Put u) event.Over piece t f w a = tt
no_reply (action.Put u) (event.Unit x) piece t f w a = tt
no_reply (action.Put u) event.BadUnit piece t f w a = tt
no_reply (action.Put u) (event.Reply x) piece t f w a = absurd f
no_reply action.Read (event.Reply x) piece t f w a = reads_no_reply t.phase t x w a
no_reply action.Read e piece t f w a = tt
no_reply (action.Ask q) e piece t f w a = absurd f
no_reply (action.Finish y) e piece t f w a = absurd f

is_calm_now : (a : Action) (e : Event) (piece : List ℕ) (p : Phase) → PutFor a e piece → awaits a p ≡ true
    → is_looking p ≡ false → is_calm p ≡ true
is_calm_now (action.Ask q) e piece p f w i = absurd f
is_calm_now (action.Finish y) e piece p f w i = absurd f
is_calm_now action.Read e piece phase.Begin f w i = absurd (never w)
is_calm_now (action.Put u) e piece phase.Begin f w i = absurd (never w)
is_calm_now action.Read e piece phase.AsksBind f w i = absurd (never w)
is_calm_now (action.Put u) e piece phase.AsksBind f w i = absurd (never w)
is_calm_now a e piece phase.AsksValues f w i = absurd (never (sym i))
is_calm_now a e piece phase.AsksRecovery f w i = absurd (never (sym i))
is_calm_now a e piece (phase.AsksReceiving state) f w i = absurd (never (sym i))
is_calm_now a e piece (phase.AsksResumed state) f w i = absurd (never (sym i))
is_calm_now a e piece p f w i = refl

-- One call of a session that is carried on.
pub run_calm : (x : Turn) (b : Action) (piece : List ℕ) → IsTurn x → Waits b x.before
    → is_looking x.before.phase ≡ false → PutFor b x.event piece → is_calm x.after.phase ≡ true
run_calm x b piece is w i f =
    calm_next x is (is_calm_now b x.event piece x.before.phase f w.waits i)
    (no_reply b x.event piece x.before f w.waits is.answers)

pub run_still : (x : Turn) (b : Action) (piece : List ℕ) → IsTurn x → Waits b x.before
    → is_looking x.before.phase ≡ false → PutFor b x.event piece → is_looking x.after.phase ≡ false
run_still x b piece is w i f = calm_looks x.after.phase (run_calm x b piece is w i f)
