-- The receiving half of a session's list keeps the rules from its begin to its end.
use Rattle.std.proofs.Common.{◌≡◌, ℕ, Bool, true, false, Option, Some, None}
use Rattle.std.proofs.Common.{List, [], ◌++◌, refl, sym, ap, subst, ◌∙◌}
use Rattle.mta_units.specs.declared.unit.Unit.{Unit as AnyUnit}
use Rattle.mta_transfer_rules.specs.Lanes.{Halves}
use Rattle.mta_transfer_rules.specs.Receiving as r
use Rattle.mta_transfer_rules.specs.Receiving.{RecvEnd, RecvEvent}
use Rattle.mta_session.specs.declared.event.Action.{Action}
use Rattle.mta_session.specs.declared.event.Action.TheVariants as action
use Rattle.mta_session.specs.declared.event.Event.{Event}
use Rattle.mta_session.specs.declared.event.Event.TheVariants as event
use Rattle.mta_session.specs.declared.phase.Phase.{Phase}
use Rattle.mta_session.specs.declared.phase.Phase.TheVariants as phase
use Rattle.mta_session.specs.State.{State}
use Rattle.mta_session.specs.Rank.{is_over}
use Rattle.mta_session.specs.Wanted.{Wanted, Aborts}
use Rattle.mta_session.specs.Follows.{counted}
use Rattle.mta_session.specs.Fits.{AnswersAt}
use Rattle.mta_session_laws.specs.Runs.{Turn, IsTurn}
use Rattle.mta_session_laws.specs.Turning.{is_last_phase, called_for}
use Rattle.mta_session_laws.specs.TurningRecv.{told_by}
use Rattle.mta_session_laws.proofs.Opening.{wanted_in}
use Rattle.mta_session_laws.proofs.Whole.{is_ended}
use Rattle.mta_transfer_laws.specs.Sessions.{SessionEvent, Look, receiving_event, recv_all}
use Rattle.mta_session_list_laws.specs.Calls.{StepOn, step_told, look_told, told_as, got_as, come_of}
use Rattle.mta_session_list_laws.proofs.Found.{never}
use Rattle.mta_session_list_laws.proofs.Waiting.{is_finish, does_at, over_says}
use Rattle.mta_session_list_laws.proofs.Receiving.{Allowed, run_allowed, pending}
use Rattle.mta_session_list_laws.proofs.ReceivingPhases.{at_open, After, first, waits_after}
use Rattle.mta_session_list_laws.proofs.ReceivingCalls.{reads_owing, open_after}
use Rattle.mta_session_list_laws.proofs.ReceivingEnds.{Silent, last_silent, silent_after}
use Rattle.mta_session_list_laws.proofs.ReceivingLists.{RestsRecv, RecvKeeps, Part, at_opening, in_open, at_last}
use Rattle.mta_session_list_laws.proofs.ReceivingLists.{at_none}
use Rattle.mta_session_list_laws.proofs.ReceivingLists.{part, none_here, is_early, Tells, opening_wants, opening_first}
use Rattle.mta_session_list_laws.proofs.ReceivingLists.{opening_going, heard, RecvHere, open_reads, open_heard}
use Rattle.mta_session_list_laws.proofs.ReceivingLists.{opening_heard, last_reads, last_heard}

-- ---- at the end

ended_over : (p : Phase) → is_ended p ≡ true → is_over p ≡ true
ended_over (phase.Ended y) i = refl
ended_over p i = absurd (never i)

finish_silent : (a : Action) (new : State) → is_finish a ≡ true → is_last_phase new.phase ≡ true → Silent a new
finish_silent (action.Finish y) new i k = record { none = refl; last = k }
finish_silent a new i k = absurd (never i)

pub any_silent : (t : Turn) → IsTurn t → is_last_phase t.before.phase ≡ true → (b : Bool) → is_ended t.before.phase ≡ b
    → Silent t.action t.after
any_silent t is i false e = last_silent t is e i
any_silent t is i true e =
    let says = over_says t.before.phase t (ended_over t.before.phase e) is.follows in
    finish_silent t.action t.after says.0 (ap {A = State} (λ z. is_last_phase z.phase) says.1 ∙ i)

-- ---- one call

module _ (l : Halves) (early later : Type 0) (lane : ℕ) where
  abbrev pub Goes : (b : RecvEnd) (events : List RecvEvent) → Turn → Type 0
  Goes b events t = Allowed b events × After later (first l later) (recv_all b events) t.action t.after

  in_part : (a : Action) (t : Turn) (seen : ℕ) (e : Event) (b : RecvEnd) → RecvHere l early lane a t b → t.event ≡ e
      → Tells l t.before.phase e → (is_early t.before.phase ≡ true → early → later)
      → AnswersAt t.before.phase t.before e → Part t.before.phase → Goes b (heard lane a t seen e) t
  in_part a t seen e b k q tells next n (in_open i) =
      let o = at_open early (first l early) t.before.phase t.before a b i k.at in
      subst (λ z. Goes b z t) (sym (open_heard l early lane a t seen e b o.piece k i o.on n))
      (subst (λ c. Goes c (told_by t.before.phase t.before o.piece e) t) (sym o.is)
      (open_after l later t e q k.is i o.piece))
  in_part a t seen e b k q tells next n (at_opening i) =
      let one : b ≡ first l early = opening_first early (first l early) t.before.phase t.before a b i k.at in
      subst (λ z. Goes b z t) (sym (opening_heard l early lane a t seen e b k i n)) (
        tt,
        subst (λ c. After later (first l later) c t.action t.after) (sym one)
            (waits_after l later (counted t.before e) (wanted_in t.before.phase (counted t.before e) e) t.action t.after
            (opening_wants l later early t.before.phase t.before e a b i k.at next n tells)
            (does_at t e q k.is (opening_going t.before.phase i)) k.is.fits_after),
      )
  in_part a t seen e b k q tells next n (at_last i) =
      subst (λ z. Goes b z t) (sym (last_heard l early lane a t seen e b k i n))
      (tt, silent_after later (first l later) b t.action t.after (any_silent t k.is i (is_ended t.before.phase) refl))
  in_part a t seen e b k q tells next n (at_none i) =
      absurd (none_here early (first l early) t.before.phase t.before a b i k.at)

  pub event_goes : (a : Action) (t : Turn) (seen : ℕ) (e : Event) (b : RecvEnd) → RecvHere l early lane a t b
      → t.event ≡ e
      → Tells l t.before.phase e → (is_early t.before.phase ≡ true → early → later) → Goes b (heard lane a t seen e) t
  event_goes a t seen e b k q tells next =
      in_part a t seen e b k q tells next (subst (λ z. AnswersAt t.before.phase t.before z) q k.is.answers)
      (part t.before.phase)

  -- nothing is owed where a unit is got
  owes_in : (t : Turn) (b : RecvEnd) → RecvHere l early lane action.Read t b → Part t.before.phase → r.OwesNothing b
  owes_in t b k (in_open i) =
      let o = at_open early (first l early) t.before.phase t.before action.Read b i k.at in
      subst (λ c. r.OwesNothing c) (sym o.is)
      (reads_owing t.before.phase t.before o.piece i (open_reads t.before.phase i k.waits) k.is.fits)
  owes_in t b k (at_opening i) =
      subst (λ c. r.OwesNothing c)
      (sym (opening_first early (first l early) t.before.phase t.before action.Read b i k.at)) tt
  owes_in t b k (at_last i) = absurd (last_reads l early lane t.before.phase i k.waits)
  owes_in t b k (at_none i) = absurd (none_here early (first l early) t.before.phase t.before action.Read b i k.at)

  got_rests : (w : Wanted) (y : AnyUnit) (b : RecvEnd) → r.OwesNothing b → RestsRecv b (got_as w y)
  got_rests (Aborts reason) y b o = o
  got_rests any0 y b o = o

  told_rests : (seen : ℕ) (o : Option StepOn) (look : Look) (b : RecvEnd) → RestsRecv b (told_as seen o look)
  told_rests seen (Some z) look b = tt
  told_rests seen None look b = tt

  abbrev Rest : Turn → List SessionEvent → Type 0
  Rest t rest = (c : RecvEnd) → After later (first l later) c t.action t.after → RecvKeeps lane c rest

  behind : (b c : RecvEnd) (events : List RecvEvent) (t : Turn) (rest : List SessionEvent) → c ≡ b → Goes c events t
      → Rest t rest → Allowed b events × RecvKeeps lane (recv_all b events) rest
  behind b c events t rest e g more =
      subst (λ z. Allowed z events × RecvKeeps lane (recv_all z events) rest) e (g.0, more (recv_all c events) g.1)

  pub come_receives : (a : Action) (t : Turn) (seen : ℕ) (e : Event) (b c : RecvEnd) (rest : List SessionEvent)
      → RecvHere l early lane a t c → r.IsReceivingEnd b (pending a) c → t.event ≡ e → Tells l t.before.phase e
      → (is_early t.before.phase ≡ true → early → later) → Rest t rest → RecvKeeps lane b (come_of a t seen e ++ rest)
  come_receives (action.Put u) t seen e b c rest k put q tells next more =
      let ran = run_allowed b c (pending (action.Put u)) put in
      let goes = event_goes (action.Put u) t seen e c k q tells next in
      (tt, ran.0, subst (λ z. RecvKeeps lane z rest) ran.1 (more c goes.1))
  come_receives action.Read t seen (event.Unit y) b c rest k put q tells next more =
      let w : Wanted = called_for t.before.phase t.before y in
      let owes : r.OwesNothing b = subst (λ z. r.OwesNothing z) put (owes_in t c k (part t.before.phase)) in
      let later_ = behind b c (receiving_event lane (got_as w y)) t rest put
      (event_goes action.Read t seen (event.Unit y) c k q tells next) more in
      (got_rests w y b owes, later_.0, later_.1)
  come_receives (action.Ask a) t seen (event.Reply y) b c rest k put q tells next more =
      let later_ = behind b c (receiving_event lane (told_as seen (step_told a y) (look_told a y))) t rest put
      (event_goes (action.Ask a) t seen (event.Reply y) c k q tells next) more in
      (told_rests seen (step_told a y) (look_told a y) b, later_.0, later_.1)
  come_receives action.Read t seen event.Go b c rest k put q tells next more =
      (behind b c [] t rest put (event_goes action.Read t seen event.Go c k q tells next) more).1
  come_receives action.Read t seen event.BadUnit b c rest k put q tells next more =
      (behind b c [] t rest put (event_goes action.Read t seen event.BadUnit c k q tells next) more).1
  come_receives action.Read t seen event.Over b c rest k put q tells next more =
      (behind b c [] t rest put (event_goes action.Read t seen event.Over c k q tells next) more).1
  come_receives action.Read t seen (event.Reply y) b c rest k put q tells next more =
      (behind b c [] t rest put (event_goes action.Read t seen (event.Reply y) c k q tells next) more).1
  come_receives (action.Ask a) t seen event.Go b c rest k put q tells next more =
      (behind b c [] t rest put (event_goes (action.Ask a) t seen event.Go c k q tells next) more).1
  come_receives (action.Ask a) t seen (event.Unit y) b c rest k put q tells next more =
      (behind b c [] t rest put (event_goes (action.Ask a) t seen (event.Unit y) c k q tells next) more).1
  come_receives (action.Ask a) t seen event.BadUnit b c rest k put q tells next more =
      (behind b c [] t rest put (event_goes (action.Ask a) t seen event.BadUnit c k q tells next) more).1
  come_receives (action.Ask a) t seen event.Over b c rest k put q tells next more =
      (behind b c [] t rest put (event_goes (action.Ask a) t seen event.Over c k q tells next) more).1
  come_receives (action.Finish y) t seen e b c rest k put q tells next more =
      (behind b c [] t rest put (event_goes (action.Finish y) t seen e c k q tells next) more).1
