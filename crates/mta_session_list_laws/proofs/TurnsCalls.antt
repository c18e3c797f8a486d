-- Call by call a session's list keeps the turn.
use Rattle.std.proofs.Common.{◌≡◌, ℕ, ◌==◌, ◌-◌, true, false, Option, Some, None, List, ◌∷◌, ◌++◌, refl, sym}
use Rattle.std.proofs.Common.{subst}
use Rattle.mta_session.specs.declared.event.Event.{Event}
use Rattle.mta_session.specs.declared.event.Event.TheVariants as event
use Rattle.mta_session.specs.declared.event.Action.{Action}
use Rattle.mta_session.specs.declared.event.Action.TheVariants as action
use Rattle.mta_session.specs.declared.event.SessionEnd.{SessionEnd}
use Rattle.mta_session.specs.declared.phase.Phase.{Phase}
use Rattle.mta_session.specs.declared.phase.Phase.TheVariants as phase
use Rattle.mta_session.specs.State.{State}
use Rattle.mta_session.specs.Wanted.{Aborts, within}
use Rattle.mta_session.specs.Follows.{counted}
use Rattle.mta_session.specs.Fits.{AnswersAt}
use Rattle.mta_session_laws.specs.Runs.{Turn, IsTurn}
use Rattle.mta_session_laws.proofs.Opening.{wanted_in}
use Rattle.mta_session_laws.specs.Order.{takes_unit}
use Rattle.mta_transfer_laws.specs.Sessions as x
use Rattle.mta_transfer_laws.specs.Sessions.{SessionEvent, Put, Looked, Made, Look, KeepsTurn, TurnAllows, turn_after}
use Rattle.mta_session_list_laws.specs.Calls.{StepOn, step_told, look_told, told_as, come_of}
use Rattle.mta_session_list_laws.proofs.Found.{never}
use Rattle.mta_session_list_laws.proofs.Waiting.{goes_with, going, is_finish, none_put, none_asked}
use Rattle.mta_session_list_laws.proofs.Waiting.{none_first, does_at, over_says}
use Rattle.mta_session_list_laws.proofs.Turns.{Holds, TurnGoes, if_goes}
use Rattle.mta_session_list_laws.proofs.TurnsUnits.{reads_list, reading_aborts, unit_goes}
use Rattle.mta_session_list_laws.proofs.TurnsReplies.{reply_goes, go_goes, over_goes, PutAllowed, turned, Done}
use Rattle.mta_session_list_laws.proofs.TurnsReplies.{does_done}

-- a step or a look concerns no turn
pub told_turns : (v : x.Turn) (seen : ℕ) (o : Option StepOn) (look : Look) (rest : List SessionEvent) → KeepsTurn v rest
    → KeepsTurn v (told_as seen o look ∷ rest)
told_turns x.Before_accept seen (Some z) look rest k = (tt, k)
told_turns x.Own seen (Some z) look rest k = (tt, k)
told_turns x.Theirs seen (Some z) look rest k = (tt, k)
told_turns x.Own_closing seen (Some z) look rest k = (tt, k)
told_turns x.Their_closing seen (Some z) look rest k = (tt, k)
told_turns x.Acknowledged seen (Some z) look rest k = (tt, k)
told_turns x.Over seen (Some z) look rest k = (tt, k)
told_turns x.Before_accept seen None look rest k = (tt, k)
told_turns x.Own seen None look rest k = (tt, k)
told_turns x.Theirs seen None look rest k = (tt, k)
told_turns x.Own_closing seen None look rest k = (tt, k)
told_turns x.Their_closing seen None look rest k = (tt, k)
told_turns x.Acknowledged seen None look rest k = (tt, k)
told_turns x.Over seen None look rest k = (tt, k)

-- a unit that is counted concerns none
pub less_holds : (p : Phase) (t : State) (n : ℕ) (v : x.Turn) → Holds p t v → Holds p (record t { left = n }) v
less_holds phase.Begin t n v h = h
less_holds p t n v h = h

pub reads_here : (p : Phase) (t : State) (e : Event) (v : x.Turn) → goes_with action.Read p ≡ true → AnswersAt p t e
    → takes_unit e ≡ true → Holds p t v → reads_list p ≡ true
reads_here phase.Begin t e v i a b h = absurd (none_first e a b)
reads_here phase.ReadsOpen t e v i a b h = absurd h
reads_here phase.ReadsAnswer t e v i a b h = refl
reads_here phase.Reads t e v i a b h = refl
reads_here phase.ReadsCloseAck t e v i a b h = refl
reads_here p t e v i a b h = absurd (never i)

pub bad_goes : (p : Phase) (t : State) (v : x.Turn) → reads_list p ≡ true → Holds p t v
    → TurnGoes v (within t (Aborts 4))
bad_goes p t v i h =
    if_goes v (t.left == 0) (Aborts 3) (Aborts 4) (λ b. reading_aborts p t v 3 i h) (λ b. reading_aborts p t v 4 i h)

-- ---- one call

-- a session before a call, where the list has this turn
pub record Here (a : Action) (t : Turn) (v : x.Turn) : Type 0 where
  pub is : IsTurn t
  pub waits : goes_with a t.before.phase ≡ true
  pub allowed : PutAllowed a v
  pub holds : Holds t.before.phase t.before (turned a v)

pub done_by : (a : Action) (t : Turn) (e : Event) (v z : x.Turn) → Here a t v → is_finish a ≡ false → t.event ≡ e
    → TurnGoes z (wanted_in t.before.phase (counted t.before e) e) → Done t.action t.after z
done_by a t e v z k n q goes =
    does_done (counted t.before e) (wanted_in t.before.phase (counted t.before e) e) t.action t.after z goes
    (does_at t e q k.is (going a t.before.phase n k.waits))

pub quiet_done : (a : Action) (t : Turn) (e : Event) (v : x.Turn) → Here a t v → is_finish a ≡ false → t.event ≡ e
    → takes_unit e ≡ false → Done t.action t.after (turned a v)
quiet_done a t event.Go v k n q i =
    done_by a t event.Go v (turned a v) k n q (go_goes t.before.phase t.before (turned a v) k.holds k.is.fits)
quiet_done a t (event.Reply y) v k n q i =
    done_by a t (event.Reply y) v (turned a v) k n q
    (reply_goes t.before.phase t.before y (turned a v) k.holds k.is.fits)
quiet_done a t event.Over v k n q i =
    done_by a t event.Over v (turned a v) k n q (over_goes t.before.phase (turned a v))
quiet_done a t any2 v k n q i = absurd (never (sym i))

pub bad_done : (t : Turn) (v : x.Turn) → Here action.Read t v → t.event ≡ event.BadUnit → Done t.action t.after v
bad_done t v k q =
    let reads : reads_list t.before.phase ≡ true =
    reads_here t.before.phase t.before event.BadUnit v k.waits
    (subst (λ z. AnswersAt t.before.phase t.before z) q k.is.answers) refl k.holds in
    done_by action.Read t event.BadUnit v v k refl q
    (bad_goes t.before.phase (counted t.before event.BadUnit) v reads
    (less_holds t.before.phase t.before (t.before.left - 1) v k.holds))

pub over_done : (y : SessionEnd) (t : Turn) (v : x.Turn)
    → Here (action.Finish y) t v → Done t.action t.after v
over_done y t v k =
    let says = over_says t.before.phase t k.waits k.is.follows in
    let here : Holds t.after.phase t.after v =
    subst (λ z. Holds z.phase z v) (sym says.1) k.holds in
    finished t.action t.after v says.0 here
  where
    finished : (a : Action) (new : State) (v : x.Turn) → is_finish a ≡ true → Holds new.phase new v → Done a new v
    finished (action.Finish y) new v i h = record { allowed = tt; holds = h }
    finished a new v i h = absurd (never i)

pub come_turns : (a : Action) (t : Turn) (seen : ℕ) (e : Event) (v : x.Turn) (rest : List SessionEvent) → Here a t v
    → t.event ≡ e → ((z : x.Turn) → Done t.action t.after z → KeepsTurn z rest)
    → KeepsTurn v (come_of a t seen e ++ rest)
come_turns (action.Put u) t seen event.Go v rest k q more =
    (k.allowed, more _ (quiet_done (action.Put u) t event.Go v k refl q refl))
come_turns (action.Put u) t seen event.Over v rest k q more =
    (k.allowed, more _ (quiet_done (action.Put u) t event.Over v k refl q refl))
come_turns (action.Put u) t seen (event.Reply y) v rest k q more =
    (k.allowed, more _ (quiet_done (action.Put u) t (event.Reply y) v k refl q refl))
come_turns (action.Put u) t seen (event.Unit w) v rest k q more =
    absurd (none_put t.before.phase t.before (event.Unit w) k.waits
    (subst (λ z. AnswersAt t.before.phase t.before z) q k.is.answers) refl)
come_turns (action.Put u) t seen event.BadUnit v rest k q more =
    absurd (none_put t.before.phase t.before event.BadUnit k.waits
    (subst (λ z. AnswersAt t.before.phase t.before z) q k.is.answers) refl)
come_turns action.Read t seen (event.Unit u) v rest k q more =
    let e : Event = event.Unit u in
    let answers : AnswersAt t.before.phase t.before e = subst (λ z. AnswersAt t.before.phase t.before z) q
    k.is.answers in
    let reads : reads_list t.before.phase ≡ true = reads_here t.before.phase t.before e v k.waits answers refl k.holds
    in
    let goes = unit_goes t.before.phase (counted t.before e) v u reads
    (less_holds t.before.phase t.before (t.before.left - 1) v k.holds) in
    (goes.0, more _ (done_by action.Read t e v _ k refl q goes.1))
come_turns action.Read t seen event.BadUnit v rest k q more = more v (bad_done t v k q)
come_turns action.Read t seen event.Go v rest k q more = more v (quiet_done action.Read t event.Go v k refl q refl)
come_turns action.Read t seen event.Over v rest k q more = more v (quiet_done action.Read t event.Over v k refl q refl)
come_turns action.Read t seen (event.Reply y) v rest k q more = more v
    (quiet_done action.Read t (event.Reply y) v k refl q refl)
come_turns (action.Ask a) t seen (event.Reply y) v rest k q more =
    told_turns v seen (step_told a y) (look_told a y) rest
    (more v (quiet_done (action.Ask a) t (event.Reply y) v k refl q refl))
come_turns (action.Ask a) t seen event.Go v rest k q more = more v
    (quiet_done (action.Ask a) t event.Go v k refl q refl)
come_turns (action.Ask a) t seen event.Over v rest k q more = more v
    (quiet_done (action.Ask a) t event.Over v k refl q refl)
come_turns (action.Ask a) t seen (event.Unit u) v rest k q more =
    absurd (none_asked t.before.phase t.before (event.Unit u) k.waits
    (subst (λ z. AnswersAt t.before.phase t.before z) q k.is.answers) refl)
come_turns (action.Ask a) t seen event.BadUnit v rest k q more =
    absurd (none_asked t.before.phase t.before event.BadUnit k.waits
    (subst (λ z. AnswersAt t.before.phase t.before z) q k.is.answers) refl)
come_turns (action.Finish y) t seen e v rest k q more = more v (over_done y t v k)
