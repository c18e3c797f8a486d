-- All calls of a session: the sending half of its list keeps the rules.
use Rattle.std.proofs.Common.{◌≡◌, ℕ, ◌-◌, ◌≤◌, Bool, true, false}
use Rattle.std.proofs.Common.{None, List, [], ◌∷◌, ◌++◌}
use Rattle.std.proofs.Common.{refl, sym, ap, subst, ◌∙◌, arith}
use Rattle.mta_units.specs.declared.unit.Unit.{Unit as AnyUnit}
use Rattle.mta_transfer_rules.specs.Lanes.{Halves, Seen}
use Rattle.mta_transfer_rules.specs.Units.{LaneUnit}
use Rattle.mta_transfer_rules.specs.Sending as s
use Rattle.mta_transfer_rules.specs.Sending.{SendEnd, SendEvent}
use Rattle.mta_transfer_laws.specs.History.{IsOfLanes}
use Rattle.mta_lane_send.specs.declared.state.SendState.TheVariants as state
use Rattle.mta_lane_send.specs.Half.{is_sending, last_of}
use Rattle.mta_session.specs.declared.event.SessionEnd.{SessionEnd}
use Rattle.mta_session.specs.declared.ask.Ask.{Ask}
use Rattle.mta_session.specs.declared.ask.Reply.{Reply}
use Rattle.mta_session.specs.declared.event.Action.{Action}
use Rattle.mta_session.specs.declared.event.Action.TheVariants as action
use Rattle.mta_session.specs.declared.event.Event.{Event}
use Rattle.mta_session.specs.declared.event.Event.TheVariants as event
use Rattle.mta_session.specs.declared.phase.Phase.{Phase}
use Rattle.mta_session.specs.declared.phase.Phase.TheVariants as phase
use Rattle.mta_session.specs.State.{State}
use Rattle.mta_session.specs.Wanted.{Wanted, Aborts}
use Rattle.mta_session.specs.Follows.{Does, counted}
use Rattle.mta_session.specs.Fits.{FitsAt, AnswersAt}
use Rattle.mta_session_laws.specs.Runs.{Turn, IsTurn}
use Rattle.mta_session_laws.specs.Turning.{EventsGo, called_for, is_open, is_last_phase}
use Rattle.mta_session_laws.proofs.Opening.{wanted_in}
use Rattle.mta_transfer_laws.specs.Sessions as x
use Rattle.mta_transfer_laws.specs.Sessions.{SessionEvent, Put, sending_event, answer_unit, gots_of, puts_of}
use Rattle.mta_transfer_laws.specs.Sessions.{transfer_unit}
use Rattle.mta_transfer_laws.specs.Sessions.{send_all, turn_after, seen_after, SendOwesNothing}
use Rattle.mta_session_list_laws.specs.Abandons.{has_before}
use Rattle.mta_session_list_laws.specs.Calls.{step_told, look_told, told_as, got_as, come_of}
use Rattle.mta_session_list_laws.specs.Standing.{StandsAs, ComesTrue}
use Rattle.mta_session_list_laws.proofs.Found.{never}
use Rattle.mta_session_list_laws.proofs.Lanes.{lane_at}
use Rattle.mta_session_list_laws.proofs.Waiting.{goes_with, put_answers, ask_answers, none_put}
use Rattle.mta_session_list_laws.proofs.Waiting.{none_asked, does_at, is_finish}
use Rattle.mta_session_list_laws.proofs.Turns.{Holds}
use Rattle.mta_session_list_laws.proofs.TurnsUnits.{unit_goes, reads_list}
use Rattle.mta_session_list_laws.proofs.TurnsReplies.{turned, Done}
use Rattle.mta_session_list_laws.proofs.TurnsCalls.{Here, quiet_done, bad_done, over_done, done_by, reads_here}
use Rattle.mta_session_list_laws.proofs.TurnsCalls.{less_holds}
use Rattle.mta_session_list_laws.proofs.ReceivingEnds.{is_opening}
use Rattle.mta_session_list_laws.proofs.ReceivingLists.{Part, at_opening, in_open, at_last, at_none, part, is_unlisted}
use Rattle.mta_session_list_laws.proofs.ReceivingLists.{Asked, opening_going}
use Rattle.mta_session_list_laws.proofs.SendingGoes.{pending, run_allowed}
use Rattle.mta_session_list_laws.proofs.SendingLeft.{Calm, LeftAt, OpenSend, none_heard}
use Rattle.mta_session_list_laws.proofs.SendingOpen.{quiet_calm, asks_own}
use Rattle.mta_session_list_laws.proofs.SendingPhases.{one, SendAt, AfterSend, waits_after, at_open, asks_state}
use Rattle.mta_session_list_laws.proofs.SendingOpening.{SendTells, is_soon, is_unit, answer_hears, opening_wants}
use Rattle.mta_session_list_laws.proofs.SendingEnds.{end_after}
use Rattle.mta_session_list_laws.proofs.SendingLooks.{SendKeeps, With, silent_keeps, NotYet}
use Rattle.mta_session_list_laws.proofs.SendingCalls.{left_calm, got_allowed, got_rests, reads_rest, closing_rest}
use Rattle.mta_session_list_laws.proofs.SendingCalls.{before_rest, go_after, bad_after, over_after, unit_after, IsReads}
use Rattle.mta_session_list_laws.proofs.SendingCalls.{told_after}
use Rattle.mta_session_list_laws.proofs.SendingAsked.{asked_keeps}

-- ---- phases and what they wait for

pub none_here : (l : Halves) (size window : ℕ) (accepted : Bool) (early : Type 0) (p : Phase) (t : State) (a : Action)
    (b : SendEnd) → is_unlisted p ≡ true → SendAt l size window accepted early p t a b → ⊥
none_here l size window accepted early phase.ReadsOpen t a b i k = k
none_here l size window accepted early phase.AsksPeer t a b i k = k
none_here l size window accepted early phase.AsksStands t a b i k = k
none_here l size window accepted early (phase.AsksNewLane again) t a b i k = k
none_here l size window accepted early phase.AsksSpare t a b i k = k
none_here l size window accepted early phase.AsksRoom t a b i k = k
none_here l size window accepted early phase.AsksOldLane t a b i k = k
none_here l size window accepted early phase.AsksBind t a b i k = k
none_here l size window accepted early p t a b i k = absurd (never i)

-- Go, a bad unit, or the end of the link
abbrev pub is_plain : Event → Bool
is_plain event.Go = true
is_plain event.BadUnit = true
is_plain event.Over = true
is_plain e = false

plain_unit : (e : Event) → is_plain e ≡ true → is_unit e ≡ false
plain_unit (event.Unit y) i = absurd (never i)
plain_unit e i = refl

state_plain : (p : Phase) (t : State) (e : Event) → asks_state p ≡ true → is_plain e ≡ true → AnswersAt p t e → ⊥
state_plain phase.AsksState t event.Go i j n = n
state_plain phase.AsksState t event.BadUnit i j n = n
state_plain phase.AsksState t event.Over i j n = n
state_plain phase.AsksState t (event.Unit y) i j n = never j
state_plain phase.AsksState t (event.Reply y) i j n = never j
state_plain p t e i j n = never i

read_replied : (p : Phase) (t : State) (y : Reply) → goes_with action.Read p ≡ true → AnswersAt p t (event.Reply y) → ⊥
read_replied phase.Begin t y i n = never n
read_replied phase.ReadsOpen t y i n = never n
read_replied phase.ReadsAnswer t y i n = never n
read_replied phase.Reads t y i n = never n
read_replied phase.ReadsCloseAck t y i n = never n
read_replied p t y i n = never i

-- ---- units that change no state

puts_state : (us : List LaneUnit) (e : SendEnd) → (send_all e (puts_of us)).state ≡ e.state
puts_state [] e = refl
puts_state (y ∷ us) e = puts_state us (s.put e y)

gots_state : (us : List LaneUnit) (e : SendEnd) → (send_all e (gots_of us)).state ≡ e.state
gots_state [] e = refl
gots_state (y ∷ us) e = gots_state us (s.got e y)

got_state : (lane : ℕ) (w : Wanted) (y : AnyUnit) (e : SendEnd)
    → (send_all e (sending_event lane (got_as w y))).state ≡ e.state
got_state lane (Aborts reason) y e = refl
got_state lane any1 y e = gots_state (answer_unit y) e

got_silent : (lane : ℕ) (w : Wanted) (y : AnyUnit) (n : ℕ)
    → (has_before lane (got_as w y) ≡ None) × (seen_after lane n (got_as w y) ≡ n)
got_silent lane (Aborts reason) y n = (refl, refl)
got_silent lane any1 y n = (refl, refl)

module _ (g : EventsGo) (spells : List ℕ → Bool) (history : List Seen) (lane : ℕ) (allow : IsOfLanes spells history)
    (l : Halves) (size window : ℕ) (accepted : Bool) (low : ℕ) (early later : Type 0) where
  abbrev Yet_at : ℕ → SendEnd → Type 0
  Yet_at n e = NotYet spells history lane allow n e

  yet_same : (n : ℕ) (e f : SendEnd) → f.state ≡ e.state → Yet_at n e → Yet_at n f
  yet_same n e f q k =
      subst (λ z. is_sending z (last_of z) ≡ true
      → (lane_at spells history lane allow.allowed n).state ≡ state.Dropping (last_of z) → ⊥) (sym q) k

  abbrev After_at : SendEnd → Turn → Type 0
  After_at mid t = AfterSend l size window accepted later mid t.action t.after

  abbrev Keeps_at : x.Turn → ℕ → SendEnd → List SessionEvent → Type 0
  Keeps_at v n e rest = SendKeeps lane v e (With history lane n e rest)

  -- what follows a call
  abbrev More : Turn → (seen : ℕ) → List SessionEvent → Type 0
  More t seen rest = (z : x.Turn) (e : SendEnd) (to : ℕ) → Done t.action t.after z → After_at e t → Yet_at to e
      → low ≤ to → to ≤ seen → Keeps_at z to e rest

  -- a session before a call, where its list has come to these ends
  pub record SendHere (a : Action) (t : Turn) (b c : SendEnd) (behind from seen : ℕ) (v : x.Turn) : Type 0 where
    pub turn : Here a t v
    pub asked : Asked a t.before
    pub lane_is : is_last_phase t.before.phase ≡ false → t.before.lane ≡ lane
    pub at : SendAt l size window accepted early t.before.phase t.before a c
    pub put : s.IsSendingEnd b (pending a) c
    pub begun : low ≤ behind
    pub upto : behind ≤ from
    pub yet : Yet_at behind b
    pub next : is_soon t.before.phase ≡ true → early → later
    pub soon : is_soon t.before.phase ≡ true → early → seen ≡ low

  -- ---- an event that tells nothing of the half

  module _ (a : Action) (t : Turn) (c : SendEnd) (e : Event) (is : IsTurn t) (same : t.event ≡ e)
      (next : is_soon t.before.phase ≡ true → early → later)
      (at : SendAt l size window accepted early t.before.phase t.before a c) (plain : is_plain e ≡ true)
      (answers : AnswersAt t.before.phase t.before e)
      (tells : SendTells l size window accepted t.before.phase t.before e) where
    on_open : (i : is_open t.before.phase ≡ true) → OpenSend t.before.phase t.before a c → (d : Event) → t.event ≡ d
        → is_plain d ≡ true → After_at c t
    on_open i k event.Go q j =
        subst (λ z. After_at z t) (sym k.is)
        (go_after g l size window accepted later t is i k.heard k.before k.may q
        (λ w. subst (λ z. Calm t.before z) k.is (left_calm t.before.phase t.before a c i (ap asks_own w) k.left))
        (λ w. subst (λ z. Calm t.before z) k.is (left_calm t.before.phase t.before a c i (ap asks_own w) k.left)))
    on_open i k event.BadUnit q j =
        subst (λ z. After_at z t) (sym k.is) (bad_after g l size window accepted later t is i k.heard k.before k.may q)
    on_open i k event.Over q j =
        subst (λ z. After_at z t) (sym k.is) (over_after g l size window accepted later t is i k.heard k.before k.may q)
    on_open i k any2 q j = absurd (never j)

    by_state : (i : is_open t.before.phase ≡ true) → (b : Bool) → asks_state t.before.phase ≡ b → After_at c t
    by_state i true j = absurd (state_plain t.before.phase t.before e j plain answers)
    by_state i false j =
        on_open i (at_open l size window accepted early t.before.phase t.before a c i j at) e same plain

    by_part : Part t.before.phase → After_at c t
    by_part (in_open i) = by_state i (asks_state t.before.phase) refl
    by_part (at_opening i) =
        waits_after l size window accepted later c (counted t.before e)
        (wanted_in t.before.phase (counted t.before e) e) t.action t.after
        (opening_wants l size window accepted later early t.before.phase t.before e a c i (plain_unit e plain) at next
        is.fits answers tells)
        (does_at t e same is (opening_going t.before.phase i))
    by_part (at_last i) = end_after l size window accepted later c t is i
    by_part (at_none i) = absurd (none_here l size window accepted early t.before.phase t.before a c i at)

    plain_after : After_at c t
    plain_after = by_part (part t.before.phase)

  -- ---- a unit that is got

  reads_of : (p : Phase) → is_open p ≡ true → goes_with action.Read p ≡ true → IsReads g l size window accepted later p
      ≡ true
  reads_of phase.Reads i k = refl
  reads_of phase.ReadsCloseAck i k = refl
  reads_of phase.Begin i k = absurd (never i)
  reads_of phase.ReadsOpen i k = absurd (never i)
  reads_of phase.ReadsAnswer i k = absurd (never i)
  reads_of p i k = absurd (never k)

  pub reads_no_state : (p : Phase) → goes_with action.Read p ≡ true → asks_state p ≡ false
  reads_no_state phase.AsksState k = absurd (never k)
  reads_no_state p k = refl

  -- where a unit is got, it calls for nothing
  open_calm : (p : Phase) (t : State) (c : SendEnd) → is_open p ≡ true → goes_with action.Read p ≡ true → FitsAt p t
      → LeftAt p t action.Read c → s.CallsForNothing c
  open_calm phase.Reads t c i k f left = left.0
  open_calm phase.ReadsCloseAck t c i k f left = quiet_calm t c f.3 left
  open_calm phase.Begin t c i k f left = absurd (never i)
  open_calm phase.ReadsOpen t c i k f left = absurd (never i)
  open_calm phase.ReadsAnswer t c i k f left = absurd (never i)
  open_calm p t c i k f left = absurd (never k)

  pub open_owes : (p : Phase) (t : State) (v : x.Turn) (c : SendEnd) → is_open p ≡ true → goes_with action.Read p ≡ true
      → FitsAt p t → Holds p t v → OpenSend p t action.Read c → SendOwesNothing v c
  open_owes phase.Reads t v c i k f hd at =
      subst (λ z. SendOwesNothing v z) (sym at.is)
      (reads_rest t v at.heard at.before hd (subst (λ z. LeftAt phase.Reads t action.Read z) at.is at.left))
  open_owes phase.ReadsCloseAck t v c i k f hd at =
      closing_rest v c hd.0 (open_calm phase.ReadsCloseAck t c i k f at.left)
  open_owes phase.Begin t v c i k f hd at = absurd (never i)
  open_owes phase.ReadsOpen t v c i k f hd at = absurd (never i)
  open_owes phase.ReadsAnswer t v c i k f hd at = absurd (never i)
  open_owes p t v c i k f hd at = absurd (never k)

  -- before the session is open a unit is got as the answer
  pub opening_owes : (p : Phase) (t : State) (v : x.Turn) (c : SendEnd) → is_opening p ≡ true
      → goes_with action.Read p ≡ true → Holds p t v → SendAt l size window accepted early p t action.Read c
      → SendOwesNothing v c
  opening_owes phase.ReadsAnswer t v c i k hd at =
      before_rest v c hd (none_heard c (ap (λ (z : SendEnd). z.heard) at.0))
  opening_owes phase.Begin t v c i k hd at =
      before_rest v c hd.0 (none_heard c (ap (λ (z : SendEnd). z.heard) at.0))
  opening_owes phase.ReadsOpen t v c i k hd at = absurd (never i)
  opening_owes phase.Reads t v c i k hd at = absurd (never i)
  opening_owes phase.ReadsCloseAck t v c i k hd at = absurd (never i)
  opening_owes p t v c i k hd at = absurd (never k)

  opening_unit : (p : Phase) (t : Turn) (y : AnyUnit) (c : SendEnd) → is_opening p ≡ true
      → goes_with action.Read p ≡ true → AnswersAt p t.before (event.Unit y)
      → SendAt l size window accepted early p t.before action.Read c
      → Does (counted t.before (event.Unit y)) (called_for p t.before y) t.action t.after
      → After_at (send_all c (sending_event lane (got_as (called_for p t.before y) y))) t
  opening_unit phase.ReadsAnswer t y c i k n at done =
      let w : Wanted = called_for phase.ReadsAnswer t.before y in
      subst (λ z. After_at (send_all z (sending_event lane (got_as w y))) t) (sym at.0)
      (waits_after l size window accepted later
      (send_all (one l size window accepted) (sending_event lane (got_as w y)))
      (counted t.before (event.Unit y)) w t.action t.after
      (answer_hears l size window accepted later lane t.before y at.1) done)
  opening_unit phase.Begin t y c i k n at done = absurd (never n)
  opening_unit phase.ReadsOpen t y c i k n at done = absurd (never i)
  opening_unit phase.Reads t y c i k n at done = absurd (never i)
  opening_unit phase.ReadsCloseAck t y c i k n at done = absurd (never i)
  opening_unit p t y c i k n at done = absurd (never k)

  last_reads : (p : Phase) → is_last_phase p ≡ true → goes_with action.Read p ≡ true → ⊥
  last_reads phase.AsksDenied i k = never k
  last_reads phase.AsksClose i k = never k
  last_reads (phase.AsksLast y) i k = never k
  last_reads (phase.PutsLast y) i k = never k
  last_reads (phase.Ended y) i k = never k
  last_reads p i k = never i

  module _ (t : Turn) (y : AnyUnit) (c : SendEnd) (v : x.Turn) (same : t.event ≡ event.Unit y)
      (turn : Here action.Read t v)
      (at : SendAt l size window accepted early t.before.phase t.before action.Read c)
      (answers : AnswersAt t.before.phase t.before (event.Unit y)) where
    abbrev calls_for : Wanted
    calls_for = called_for t.before.phase t.before y

    abbrev Got_well : Type 0
    Got_well = SendOwesNothing v c × After_at (send_all c (sending_event lane (got_as calls_for y))) t

    open_got : (i : is_open t.before.phase ≡ true) → OpenSend t.before.phase t.before action.Read c → Got_well
    open_got i k =
        let calm = open_calm t.before.phase t.before c i turn.waits turn.is.fits k.left in (
          open_owes t.before.phase t.before v c i turn.waits turn.is.fits turn.holds k,
          subst (λ z. After_at (send_all z (sending_event lane (got_as calls_for y))) t) (sym k.is)
              (unit_after g l size window accepted later lane t y k.heard k.before same turn.is i
              (reads_of t.before.phase i turn.waits) k.may (subst (λ z. s.CallsForNothing z) k.is calm)),
        )

    got_part : Part t.before.phase → Got_well
    got_part (in_open i) =
        open_got i (at_open l size window accepted early t.before.phase t.before action.Read c i
        (reads_no_state t.before.phase turn.waits) at)
    got_part (at_opening i) = (
      opening_owes t.before.phase t.before v c i turn.waits turn.holds at,
      opening_unit t.before.phase t y c i turn.waits answers at
          (does_at t (event.Unit y) same turn.is (opening_going t.before.phase i)),
    )
    got_part (at_last i) = absurd (last_reads t.before.phase i turn.waits)
    got_part (at_none i) =
        absurd (none_here l size window accepted early t.before.phase t.before action.Read c i at)

    got_well : Got_well
    got_well = got_part (part t.before.phase)

  -- ---- one call

  come_plain : (a : Action) (t : Turn) (seen : ℕ) (e : Event) (b c : SendEnd) (behind from : ℕ) (v z : x.Turn)
      (rest : List SessionEvent) → SendHere a t b c behind from seen v → pending a ≡ [] → t.event ≡ e
      → is_plain e ≡ true → from ≤ seen → AnswersAt t.before.phase t.before e
      → SendTells l size window accepted t.before.phase t.before e → Done t.action t.after z → More t seen rest
      → Keeps_at z behind b rest
  come_plain a t seen e b c behind from v z rest k none q plain le answers tells done more =
      let same : c ≡ b = subst (λ w. s.IsSendingEnd b w c) none k.put in
      let up = k.upto in
      more z b behind done
      (subst (λ w. After_at w t) same (plain_after a t c e k.turn.is q k.next k.at plain answers tells)) k.yet k.begun
      (omega (arith, up, le))

  come_put : (u : AnyUnit) (t : Turn) (seen : ℕ) (e : Event) (b c : SendEnd) (behind from : ℕ) (v : x.Turn)
      (rest : List SessionEvent) → SendHere (action.Put u) t b c behind from seen v → t.event ≡ e → is_plain e ≡ true
      → from ≤ seen → AnswersAt t.before.phase t.before e
      → SendTells l size window accepted t.before.phase t.before e → Done t.action t.after (turned (action.Put u) v)
      → More t seen rest → SendKeeps lane v b (With history lane behind b (Put u ∷ rest))
  come_put u t seen e b c behind from v rest k q plain le answers tells done more =
      let ran = run_allowed b c (pending (action.Put u)) k.put in
      let up = k.upto in
      silent_keeps history lane v behind b (Put u) rest refl refl tt ran.0
      (subst (λ w. Keeps_at (turned (action.Put u) v) behind w rest) ran.1
      (more (turned (action.Put u) v) c behind done
      (plain_after (action.Put u) t c e k.turn.is q k.next k.at plain answers tells)
      (yet_same behind b c (ap (λ (w : SendEnd). w.state) ran.1 ∙ puts_state (transfer_unit u) b) k.yet) k.begun
      (omega (arith, up, le))))

  come_got : (t : Turn) (seen : ℕ) (y : AnyUnit) (b c : SendEnd) (behind from : ℕ) (v : x.Turn)
      (rest : List SessionEvent) → SendHere action.Read t b c behind from seen v → t.event ≡ event.Unit y → from ≤ seen
      → More t seen rest
      → SendKeeps lane v b (With history lane behind b (got_as (called_for t.before.phase t.before y) y ∷ rest))
  come_got t seen y b c behind from v rest k q le more =
      let e : Event = event.Unit y in
      let w : Wanted = called_for t.before.phase t.before y in
      let answers : AnswersAt t.before.phase t.before e =
      subst (λ z. AnswersAt t.before.phase t.before z) q k.turn.is.answers in
      let well = got_well t y c v q k.turn k.at answers in
      let same : c ≡ b = k.put in
      let silent = got_silent lane w y behind in
      let reads : reads_list t.before.phase ≡ true =
      reads_here t.before.phase t.before e v k.turn.waits answers refl k.turn.holds in
      let turns = unit_goes t.before.phase (counted t.before e) v y reads
      (less_holds t.before.phase t.before (t.before.left - 1) v k.turn.holds) in
      let up = k.upto in
      let mid : SendEnd = send_all b (sending_event lane (got_as w y)) in
      silent_keeps history lane v behind b (got_as w y) rest silent.0 silent.1
      (got_rests v b w y (subst (λ z. SendOwesNothing v z) same well.0)) (got_allowed lane b w y)
      (more (turn_after v (got_as w y)) mid behind
      (done_by action.Read t e v (turn_after v (got_as w y)) k.turn refl q turns.1)
      (subst (λ z. After_at (send_all z (sending_event lane (got_as w y))) t) same well.1)
      (yet_same behind b mid (got_state lane w y b) k.yet) k.begun (omega (arith, up, le)))

  come_asked : (q : Ask) (t : Turn) (seen : ℕ) (y : Reply) (b c : SendEnd) (behind from : ℕ) (v : x.Turn)
      (rest : List SessionEvent) → SendHere (action.Ask q) t b c behind from seen v → t.event ≡ event.Reply y
      → StandsAs spells history from seen q y (step_told q y)
      → SendTells l size window accepted t.before.phase t.before (event.Reply y) → More t seen rest
      → SendKeeps lane v b (With history lane behind b (told_as seen (step_told q y) (look_told q y) ∷ rest))
  come_asked q t seen y b c behind from v rest k e stands tells more =
      let same : c ≡ b = k.put in
      let done = quiet_done (action.Ask q) t (event.Reply y) v k.turn refl e refl in
      let is = k.turn.is in
      let p : Phase = t.before.phase in
      asked_keeps spells history lane allow l size window accepted low early later (λ z. After_at z t) t.before behind
      from seen b v rest (λ mid to after yet a z. more v mid to done after yet a z) q y
      (record {
        fits = is.fits;
        answers = subst (λ z. AnswersAt t.before.phase t.before z) e is.answers;
        waits = k.turn.waits;
        asked = k.asked;
        lane_is = k.lane_is;
        at = subst (λ z. SendAt l size window accepted early t.before.phase t.before (action.Ask q) z) same k.at;
        begun = k.begun;
        upto = k.upto;
        stands = stands;
        yet = k.yet;
        tells = tells;
        next = k.next;
        soon = k.soon;
        open_after = λ i hd o may mid told leaves.
            told_after g l size window accepted later t (event.Reply y) e is i hd o mid may told leaves;
        waits_after = λ i mid waits.
            waits_after l size window accepted later mid t.before (wanted_in t.before.phase t.before (event.Reply y))
            t.action t.after waits (does_at t (event.Reply y) e is i);
        last_after = λ i mid. end_after l size window accepted later mid t is i;
      })

  none_asked_plain : (q : Ask) (t : Turn) (e : Event) (v : x.Turn) → Here (action.Ask q) t v → is_plain e ≡ true
      → AnswersAt t.before.phase t.before e → ⊥
  none_asked_plain q t event.Go v k i n = ask_answers t.before.phase t.before event.Go k.waits n
  none_asked_plain q t event.BadUnit v k i n = ask_answers t.before.phase t.before event.BadUnit k.waits n
  none_asked_plain q t event.Over v k i n = ask_answers t.before.phase t.before event.Over k.waits n
  none_asked_plain q t any2 v k i n = never i

  finished_last : (p : Phase) (a : Action) → is_finish a ≡ true → goes_with a p ≡ true → is_last_phase p ≡ true
  finished_last (phase.Ended z) (action.Finish y) i w = refl
  finished_last p (action.Finish y) i w = absurd (never w)
  finished_last p a i w = absurd (never i)

  come_finished : (y : SessionEnd) (t : Turn) (seen : ℕ) (e : Event) (b c : SendEnd) (behind from : ℕ) (v : x.Turn)
      (rest : List SessionEvent) → SendHere (action.Finish y) t b c behind from seen v → from ≤ seen → More t seen rest
      → Keeps_at v behind b rest
  come_finished y t seen e b c behind from v rest k le more =
      let up = k.upto in
      more v b behind (over_done y t v k.turn)
      (end_after l size window accepted later b t k.turn.is
      (finished_last t.before.phase (action.Finish y) refl k.turn.waits)) k.yet k.begun (omega (arith, up, le))

  same_length : (from seen : ℕ) → seen ≡ from → from ≤ seen
  same_length from seen e = omega (arith, e)

  pub come_sends : (a : Action) (t : Turn) (seen : ℕ) (e : Event) (b c : SendEnd) (behind from : ℕ) (v : x.Turn)
      (rest : List SessionEvent) → SendHere a t b c behind from seen v → t.event ≡ e
      → ComesTrue spells history from seen t.before.phase a e → AnswersAt t.before.phase t.before e
      → SendTells l size window accepted t.before.phase t.before e → More t seen rest
      → SendKeeps lane v b (With history lane behind b (come_of a t seen e ++ rest))
  come_sends (action.Put u) t seen event.Go b c behind from v rest k q is n tells more =
      come_put u t seen event.Go b c behind from v rest k q refl (same_length from seen is) n tells
      (quiet_done (action.Put u) t event.Go v k.turn refl q refl) more
  come_sends (action.Put u) t seen event.Over b c behind from v rest k q is n tells more =
      come_put u t seen event.Over b c behind from v rest k q refl (same_length from seen is) n tells
      (quiet_done (action.Put u) t event.Over v k.turn refl q refl) more
  come_sends (action.Put u) t seen (event.Reply y) b c behind from v rest k q is n tells more =
      absurd (never (put_answers t.before.phase t.before (event.Reply y) k.turn.waits n))
  come_sends (action.Put u) t seen (event.Unit y) b c behind from v rest k q is n tells more =
      absurd (none_put t.before.phase t.before (event.Unit y) k.turn.waits n refl)
  come_sends (action.Put u) t seen event.BadUnit b c behind from v rest k q is n tells more =
      absurd (none_put t.before.phase t.before event.BadUnit k.turn.waits n refl)
  come_sends action.Read t seen (event.Unit y) b c behind from v rest k q is n tells more =
      come_got t seen y b c behind from v rest k q (same_length from seen is) more
  come_sends action.Read t seen event.Go b c behind from v rest k q is n tells more =
      come_plain action.Read t seen event.Go b c behind from v v rest k refl q refl (same_length from seen is) n tells
      (quiet_done action.Read t event.Go v k.turn refl q refl) more
  come_sends action.Read t seen event.Over b c behind from v rest k q is n tells more =
      come_plain action.Read t seen event.Over b c behind from v v rest k refl q refl (same_length from seen is) n tells
      (quiet_done action.Read t event.Over v k.turn refl q refl) more
  come_sends action.Read t seen event.BadUnit b c behind from v rest k q is n tells more =
      come_plain action.Read t seen event.BadUnit b c behind from v v rest k refl q refl (same_length from seen is) n
      tells (bad_done t v k.turn q) more
  come_sends action.Read t seen (event.Reply y) b c behind from v rest k q is n tells more =
      absurd (read_replied t.before.phase t.before y k.turn.waits n)
  come_sends (action.Ask z) t seen (event.Reply y) b c behind from v rest k q is n tells more =
      come_asked z t seen y b c behind from v rest k q is.1 tells more
  come_sends (action.Ask z) t seen event.Go b c behind from v rest k q is n tells more =
      absurd (none_asked_plain z t event.Go v k.turn refl n)
  come_sends (action.Ask z) t seen event.Over b c behind from v rest k q is n tells more =
      absurd (none_asked_plain z t event.Over v k.turn refl n)
  come_sends (action.Ask z) t seen event.BadUnit b c behind from v rest k q is n tells more =
      absurd (none_asked_plain z t event.BadUnit v k.turn refl n)
  come_sends (action.Ask z) t seen (event.Unit y) b c behind from v rest k q is n tells more =
      absurd (none_asked t.before.phase t.before (event.Unit y) k.turn.waits n refl)
  come_sends (action.Finish y) t seen e b c behind from v rest k q is n tells more =
      come_finished y t seen e b c behind from v rest k (same_length from seen is) more
