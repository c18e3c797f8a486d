-- The two halves of the list of a session, where it is over: what came of its last action, and an Abort.
use Rattle.std.proofs.Common.{◌≡◌, ◌⊎◌, inl, inr, ℕ, ◌≤◌, Bool, true, false, Option, Some, None}
use Rattle.std.proofs.Common.{Ok, Err, List, [], ◌∷◌, ◌++◌, refl, sym, subst}
use Rattle.mta_units.specs.declared.unit.Unit.TheVariants as unit
use Rattle.mta_transfer_rules.specs.Lanes.{Halves, SeenStep, Seen}
use Rattle.mta_transfer_rules.specs.Receiving as r
use Rattle.mta_transfer_rules.specs.Receiving.{RecvEnd, RecvEvent}
use Rattle.mta_transfer_rules.specs.Sending as s
use Rattle.mta_transfer_rules.specs.Sending.{SendEnd}
use Rattle.mta_transfer_laws.specs.History.{IsOfLanes}
use Rattle.mta_records.specs.declared.fault.CompleteFault.TheVariants as piece
use Rattle.mta_session.specs.declared.ask.Ask.{Ask}
use Rattle.mta_session.specs.declared.ask.Reply.{Reply}
use Rattle.mta_session.specs.declared.ask.Reply.TheVariants as reply
use Rattle.mta_session.specs.declared.event.Action.{Action}
use Rattle.mta_session.specs.declared.event.Action.TheVariants as action
use Rattle.mta_session.specs.declared.event.Event.{Event}
use Rattle.mta_session.specs.declared.event.Event.TheVariants as event
use Rattle.mta_session.specs.declared.phase.Phase.{Phase}
use Rattle.mta_session.specs.declared.phase.Phase.TheVariants as phase
use Rattle.mta_session.specs.State.{State}
use Rattle.mta_session.specs.Wanted.{wanted_of_reply}
use Rattle.mta_session.specs.Fits.{Fits, Answers}
use Rattle.mta_session_laws.specs.Turning.{EventsGo, is_last_phase}
use Rattle.mta_session_laws.specs.TurningRecv.{whole, Reaches, RecvGoes, told_by}
use Rattle.mta_session_laws.proofs.EventsRecv.{events_go}
use Rattle.mta_session_laws.proofs.Whole.{in_phase_wanted}
use Rattle.mta_transfer_laws.specs.Receivings.{AreTrue}
use Rattle.mta_transfer_laws.specs.Sessions as x
use Rattle.mta_transfer_laws.specs.Sessions.{SessionEvent, Got, Refused, Put, Made, Looked, Look, receiving_event}
use Rattle.mta_transfer_laws.specs.Sessions.{recv_all}
use Rattle.mta_transfer_laws.specs.Sessions.{answer_unit, answers_of, send_all, SendOwesNothing, transfer_unit}
use Rattle.mta_session_list_laws.specs.Calls.{StepOn, step_told, look_told, told_as}
use Rattle.mta_session_list_laws.specs.Over.{abort_of, came_of, ComesLast, MayComeLast, Over, untold_of}
use Rattle.mta_session_list_laws.specs.Standing.{StandsAs, ComesTrue}
use Rattle.mta_session_list_laws.proofs.Waiting.{goes_with, ask_answers}
use Rattle.mta_session_list_laws.proofs.Turns.{Holds}
use Rattle.mta_session_list_laws.proofs.TurnsReplies.{turned}
use Rattle.mta_session_list_laws.proofs.Receiving as recv
use Rattle.mta_session_list_laws.proofs.Receiving.{run_allowed}
use Rattle.mta_session_list_laws.proofs.ReceivingPhases.{RecvAt, first, at_open}
use Rattle.mta_session_list_laws.proofs.ReceivingCalls.{told_is, reads_owing}
use Rattle.mta_session_list_laws.proofs.ReceivingEnds.{opening_quiet, end_quiet}
use Rattle.mta_session_list_laws.proofs.ReceivingLists.{RestsRecv, RecvKeeps, Part, at_opening, in_open, at_last}
use Rattle.mta_session_list_laws.proofs.ReceivingLists.{at_none}
use Rattle.mta_session_list_laws.proofs.ReceivingLists.{part, none_here, opening_first, open_reads, open_not_last}
use Rattle.mta_session_list_laws.proofs.ReceivingLists.{Asked}
use Rattle.mta_session_list_laws.proofs.ReceivingLists.{last_reads}
use Rattle.mta_session_list_laws.proofs.SendingGoes as send
use Rattle.mta_session_list_laws.proofs.SendingPhases as sending
use Rattle.mta_session_list_laws.proofs.SendingPhases.{SendAt}
use Rattle.mta_session_list_laws.proofs.SendingOpening.{SendTells, is_soon}
use Rattle.mta_session_list_laws.proofs.SendingLooks.{SendKeeps, With, silent_keeps, NotYet}
use Rattle.mta_session_list_laws.proofs.SendingAsked.{asked_keeps}
use Rattle.mta_session_list_laws.proofs.SendingList as calls
use Rattle.mta_session_list_laws.proofs.FindingCalls.{FindKeeps, put_true, pieces_all, FoundSo, reply_finds, Behind}

-- ---- the receiving half

reach_allowed : (e : RecvEnd) (events : List RecvEvent) (p : Phase) (f : RecvEnd) → Reaches e events p f
    → recv.Allowed e events
reach_allowed e events p f k = (run_allowed e (whole p f k.0) events k.1).0

told_allowed : (p : Phase) (t : State) (q : List ℕ) (z : Reply)
    → RecvGoes (whole p t.recv q) (told_by p t q (event.Reply z)) (wanted_of_reply p t z)
    → recv.Allowed (whole p t.recv q) (told_by p t q (event.Reply z))
told_allowed (phase.AsksSecure k n) t q (reply.Secure (Ok v)) g =
    reach_allowed (whole (phase.AsksSecure k n) t.recv q) (r.Made (r.Secure k n q) ∷ []) phase.Puts
    (r.made t.recv (r.Secure k n [])) g
told_allowed (phase.AsksSecure k n) t q (reply.Secure (Err (piece.Bad f))) g =
    reach_allowed (whole (phase.AsksSecure k n) t.recv q) (r.Finds k n q ∷ []) phase.Puts (r.found t.recv k) g
told_allowed (phase.AsksSecure k n) t q (reply.Secure (Err (piece.Step f))) g = tt
told_allowed (phase.AsksComplete k n) t q (reply.Complete (Ok v)) g =
    reach_allowed (whole (phase.AsksComplete k n) t.recv q) (r.Made (r.Complete k n q) ∷ []) phase.Puts
    (r.made t.recv (r.Complete k n [])) g
told_allowed (phase.AsksComplete k n) t q (reply.Complete (Err (piece.Bad f))) g =
    reach_allowed (whole (phase.AsksComplete k n) t.recv q) (r.Finds k n q ∷ []) phase.Puts (r.found t.recv k) g
told_allowed (phase.AsksComplete k n) t q (reply.Complete (Err (piece.Step f))) g = tt
told_allowed (phase.AsksDrop k None) t q (reply.DropActivity (Ok v)) g =
    reach_allowed (whole (phase.AsksDrop k None) t.recv q) (r.Made (r.Drop k) ∷ []) phase.Puts
    (r.made t.recv (r.Drop k)) g
told_allowed (phase.AsksDrop k (Some f)) t q (reply.DropActivity (Ok v)) g =
    reach_allowed (whole (phase.AsksDrop k (Some f)) t.recv q) (r.Made (r.Drop k) ∷ []) phase.Puts
    (r.made t.recv (r.Drop k)) g
told_allowed (phase.AsksDrop k found) t q (reply.DropActivity (Err f)) g = tt
told_allowed phase.Reads t q z g = tt
told_allowed p t q z g = tt

told_rests : (seen : ℕ) (o : Option StepOn) (look : Look) (b : RecvEnd) → RestsRecv b (told_as seen o look)
told_rests seen (Some z) look b = tt
told_rests seen None look b = tt

abort_receives : (lane : ℕ) (b : RecvEnd) (y : Bool) → RecvKeeps lane b (abort_of y)
abort_receives lane b true = (tt, tt, tt)
abort_receives lane b false = tt

module _ (l : Halves) (early : Type 0) (lane : ℕ) where
  -- a session before the call that wants memory
  pub record LastRecv (a : Action) (u : State) (b c : RecvEnd) : Type 0 where
    pub waits : goes_with a u.phase ≡ true
    pub asked : Asked a u
    pub lane_is : is_last_phase u.phase ≡ false → u.lane ≡ lane
    pub put : r.IsReceivingEnd b (recv.pending a) c
    pub at : RecvAt early (first l early) u.phase u a c

  reads_owes : (u : State) (b c : RecvEnd) → LastRecv action.Read u b c → Fits u → Part u.phase → r.OwesNothing c
  reads_owes u b c k fits (in_open i) =
      let o = at_open early (first l early) u.phase u action.Read c i k.at in
      subst (λ z. r.OwesNothing z) (sym o.is)
      (reads_owing u.phase u o.piece i (open_reads u.phase i k.waits) fits)
  reads_owes u b c k fits (at_opening i) =
      subst (λ z. r.OwesNothing z) (sym (opening_first early (first l early) u.phase u action.Read c i k.at)) tt
  reads_owes u b c k fits (at_last i) = absurd (last_reads l early lane u.phase i k.waits)
  reads_owes u b c k fits (at_none i) = absurd (none_here early (first l early) u.phase u action.Read c i k.at)

  told_part : (q : Ask) (z : Reply) (seen : ℕ) (u : State) (b c : RecvEnd) → LastRecv (action.Ask q) u b c → Fits u
      → Answers u (event.Reply z) → Part u.phase
      → recv.Allowed c (receiving_event lane (told_as seen (step_told q z) (look_told q z)))
  told_part q z seen u b c k fits n (in_open i) =
      let o = at_open early (first l early) u.phase u (action.Ask q) c i k.at in
      let same = told_is lane seen u.phase u q z o.piece i k.asked
      (ask_answers u.phase u (event.Reply z) k.waits n) (k.lane_is (open_not_last u.phase i)) o.on in
      let goes : RecvGoes (whole u.phase u.recv o.piece) (told_by u.phase u o.piece (event.Reply z))
      (wanted_of_reply u.phase u z) =
      subst (λ w. RecvGoes (whole u.phase u.recv o.piece) (told_by u.phase u o.piece (event.Reply z)) w)
      (in_phase_wanted u (event.Reply z)) (events_go u (event.Reply z) o.piece i fits n) in
      subst (λ w. recv.Allowed c w) (sym same)
      (subst (λ w. recv.Allowed w (told_by u.phase u o.piece (event.Reply z))) (sym o.is)
      (told_allowed u.phase u o.piece z goes))
  told_part q z seen u b c k fits n (at_opening i) =
      subst (λ w. recv.Allowed c w)
      (sym (opening_quiet lane seen u.phase u q z i (ask_answers u.phase u (event.Reply z) k.waits n))) tt
  told_part q z seen u b c k fits n (at_last i) =
      subst (λ w. recv.Allowed c w)
      (sym (end_quiet lane seen u.phase u q z i k.asked (ask_answers u.phase u (event.Reply z) k.waits n))) tt
  told_part q z seen u b c k fits n (at_none i) =
      absurd (none_here early (first l early) u.phase u (action.Ask q) c i k.at)

  came_receives : (a : Action) (u : State) (y : Over) (e : Event) (b c : RecvEnd) → LastRecv a u b c → Fits u
      → Answers u e → RecvKeeps lane b (came_of a y.seen e ++ abort_of y.aborts)
  came_receives (action.Put w) u y e b c k fits n =
      (tt, (run_allowed b c (recv.pending (action.Put w)) k.put).0, abort_receives lane _ y.aborts)
  came_receives action.Read u y (event.Unit w) b c k fits n =
      let same : c ≡ b = k.put in
      (subst (λ z. r.OwesNothing z) same (reads_owes u b c k fits (part u.phase)), tt, abort_receives lane b y.aborts)
  came_receives action.Read u y any3 b c k fits n = abort_receives lane b y.aborts
  came_receives (action.Ask q) u y (event.Reply z) b c k fits n =
      let same : c ≡ b = k.put in (
        told_rests y.seen (step_told q z) (look_told q z) b,
        subst (λ w. recv.Allowed w (receiving_event lane (told_as y.seen (step_told q z) (look_told q z)))) same
            (told_part q z y.seen u b c k fits n (part u.phase)),
        abort_receives lane _ y.aborts,
      )
  came_receives (action.Ask q) u y any3 b c k fits n = abort_receives lane b y.aborts
  came_receives (action.Finish z) u y e b c k fits n = abort_receives lane b y.aborts

  pub tail_receives : (spells : List ℕ → Bool) (history : List Seen) (from : ℕ) (a : Action) (u : State) (y : Over)
      (o : Option Event) (b c : RecvEnd) → LastRecv a u b c → MayComeLast spells history from a u y.seen o
      → RecvKeeps lane b (untold_of a y.seen o ++ abort_of y.aborts)
  tail_receives spells history from a u y None b c k last = abort_receives lane b y.aborts
  tail_receives spells history from a u y (Some e) b c k last = came_receives a u y e b c k last.fits last.answers

-- ---- the sending half

module _ (history : List Seen) (lane : ℕ) where
  abort_sends : (v : x.Turn) (from : ℕ) (e : SendEnd) (y : Bool)
      → SendKeeps lane v e (With history lane from e (abort_of y))
  abort_sends v from e true = (tt, tt, tt)
  abort_sends v from e false = tt

module _ (g : EventsGo) (spells : List ℕ → Bool) (history : List Seen) (lane : ℕ) (allow : IsOfLanes spells history)
    (l : Halves) (size window : ℕ) (accepted : Bool) (low : ℕ) (early : Type 0) where
  -- a session before the call that wants memory
  pub record LastSend (a : Action) (u : State) (b c : SendEnd) (behind from seen : ℕ) (v : x.Turn) : Type 0 where
    pub waits : goes_with a u.phase ≡ true
    pub asked : Asked a u
    pub lane_is : is_last_phase u.phase ≡ false → u.lane ≡ lane
    pub holds : Holds u.phase u (turned a v)
    pub put : s.IsSendingEnd b (send.pending a) c
    pub at : SendAt l size window accepted early u.phase u a c
    pub begun : low ≤ behind
    pub upto : behind ≤ from
    pub yet : NotYet spells history lane allow behind b
    pub soon : is_soon u.phase ≡ true → early → seen ≡ low

  send_rests : (u : State) (b c : SendEnd) (behind from seen : ℕ) (v : x.Turn)
      → LastSend action.Read u b c behind from seen v → Fits u → Part u.phase → SendOwesNothing v c
  send_rests u b c behind from seen v k fits (in_open i) =
      calls.open_owes g spells history lane allow l size window accepted low early early u.phase u v c i k.waits fits
      k.holds
      (sending.at_open l size window accepted early u.phase u action.Read c i
      (calls.reads_no_state g spells history lane allow l size window accepted low early early u.phase k.waits) k.at)
  send_rests u b c behind from seen v k fits (at_opening i) =
      calls.opening_owes g spells history lane allow l size window accepted low early early u.phase u v c i k.waits
      k.holds k.at
  send_rests u b c behind from seen v k fits (at_last i) = absurd (last_reads l early lane u.phase i k.waits)
  send_rests u b c behind from seen v k fits (at_none i) =
      absurd (calls.none_here l size window accepted early u.phase u action.Read c i k.at)

  came_sends : (a : Action) (u : State) (y : Over) (e : Event) (b c : SendEnd) (behind from : ℕ) (v : x.Turn)
      → LastSend a u b c behind from y.seen v → Fits u → Answers u e → ComesTrue spells history from y.seen u.phase a e
      → SendTells l size window accepted u.phase u e
      → SendKeeps lane v b (With history lane behind b (came_of a y.seen e ++ abort_of y.aborts))
  came_sends (action.Put w) u y e b c behind from v k fits n is tells =
      silent_keeps history lane v behind b (Put w) (abort_of y.aborts) refl refl tt
      (send.run_allowed b c (send.pending (action.Put w)) k.put).0 (abort_sends history lane _ behind _ y.aborts)
  came_sends action.Read u y (event.Unit w) b c behind from v k fits n is tells =
      let same : c ≡ b = k.put in
      silent_keeps history lane v behind b (Refused w) (abort_of y.aborts) refl refl
      (subst (λ z. SendOwesNothing v z) same (send_rests u b c behind from y.seen v k fits (part u.phase))) tt
      (abort_sends history lane v behind b y.aborts)
  came_sends action.Read u y event.BadUnit b c behind from v k fits n is tells =
      abort_sends history lane v behind b y.aborts
  came_sends action.Read u y (event.Reply z) b c behind from v k fits n is tells =
      abort_sends history lane v behind b y.aborts
  came_sends action.Read u y any3 b c behind from v k fits n is tells = abort_sends history lane v behind b y.aborts
  came_sends (action.Ask q) u y (event.Reply z) b c behind from v k fits n is tells =
      let same : c ≡ b = k.put in
      asked_keeps spells history lane allow l size window accepted low early early (λ w. Unit {0}) u behind from y.seen
      b
      v (abort_of y.aborts) (λ mid to after yet lo up. abort_sends history lane v to mid y.aborts) q z
      (record {
        fits = fits;
        answers = n;
        waits = k.waits;
        asked = k.asked;
        lane_is = k.lane_is;
        at = subst (λ w. SendAt l size window accepted early u.phase u (action.Ask q) w) same k.at;
        begun = k.begun;
        upto = k.upto;
        stands = is.1;
        yet = k.yet;
        tells = tells;
        next = λ i e. e;
        soon = k.soon;
        open_after = λ i hd o may mid told leaves. tt;
        waits_after = λ i mid waits. tt;
        last_after = λ i mid. tt;
      })
  came_sends (action.Ask q) u y event.BadUnit b c behind from v k fits n is tells =
      abort_sends history lane v behind b y.aborts
  came_sends (action.Ask q) u y (event.Unit w) b c behind from v k fits n is tells =
      abort_sends history lane v behind b y.aborts
  came_sends (action.Ask q) u y any3 b c behind from v k fits n is tells = abort_sends history lane v behind b y.aborts
  came_sends (action.Finish z) u y e b c behind from v k fits n is tells = abort_sends history lane v behind b y.aborts

  pub tail_sends : (a : Action) (u : State) (y : Over) (o : Option Event) (b c : SendEnd) (behind from : ℕ) (v : x.Turn)
      → MayComeLast spells history from a u y.seen o
      → ((e : Event) → ComesLast spells history from a u y.seen e
      → LastSend a u b c behind from y.seen v × SendTells l size window accepted u.phase u e)
      → SendKeeps lane v b (With history lane behind b (untold_of a y.seen o ++ abort_of y.aborts))
  tail_sends a u y None b c behind from v last here = abort_sends history lane v behind b y.aborts
  tail_sends a u y (Some e) b c behind from v last here =
      let k = here e last in came_sends a u y e b c behind from v k.0 last.fits last.answers last.stands k.1

-- ---- what is found

module _ (spells : List ℕ → Bool) (history : List Seen) (lane : ℕ) (allow : IsOfLanes spells history) (gen : ℕ) where
  abort_finds : (b : RecvEnd) (pieces : List (List ℕ)) (y : Bool) → FindKeeps spells lane b pieces (abort_of y)
  abort_finds b pieces true = (tt, tt)
  abort_finds b pieces false = tt

  pub abort_behind : (n : ℕ) (y : Bool) → Behind spells history lane allow gen n (abort_of y)
  abort_behind n true = λ q j step k. put_not q j step k
    where
      put_not : (q j : ℕ) (step : SeenStep) → (Made q j step ≡ Put (unit.Abort 0)) ⊎ ⊥ → n ≤ q
      put_not q j step (inl e) = cc
      put_not q j step (inr k) = absurd k
  abort_behind n false = λ q j step k. absurd k

  module _ (l : Halves) (early : Type 0) where
    told_finds : (q : Ask) (z : Reply) (u : State) (y : Over) (b c : RecvEnd) (pieces : List (List ℕ)) (n from : ℕ)
        → LastRecv l early lane (action.Ask q) u b c → (is_last_phase u.phase ≡ false → u.generation ≡ gen)
        → Answers u (event.Reply z) → StandsAs spells history from y.seen q z (step_told q z)
        → (is_last_phase u.phase ≡ false → FoundSo spells history lane allow gen from pieces n
        (told_as y.seen (step_told q z) (look_told q z) ∷ abort_of y.aborts))
        → (i : Bool) → is_last_phase u.phase ≡ i
        → FindKeeps spells lane b pieces (told_as y.seen (step_told q z) (look_told q z) ∷ abort_of y.aborts)
    told_finds q z u y b c pieces n from k gens ans is found true i =
        let none = end_quiet lane y.seen u.phase u q z i k.asked
        (ask_answers u.phase u (event.Reply z) k.waits ans) in
        subst (λ w. AreTrue spells b pieces w
        × FindKeeps spells lane (recv_all b w) (pieces_all pieces w) (abort_of y.aborts)) (sym none)
        (tt, abort_finds b pieces y.aborts)
    told_finds q z u y b c pieces n from k gens ans is found false i =
        let same : c ≡ b = k.put in
        reply_finds spells history lane allow gen l early (λ w. Unit {0}) ⊥ u b pieces n from y.seen (abort_of y.aborts)
        (λ e many m after left. abort_finds e many y.aborts) q z
        (record { stands = is; found = found i; after = tt; behind = abort_behind y.seen y.aborts }) i k.asked
        (ask_answers u.phase u (event.Reply z) k.waits ans) (k.lane_is i) (gens i)
        (subst (λ w. RecvAt early (first l early) u.phase u (action.Ask q) w) same k.at)

    came_finds : (a : Action) (u : State) (y : Over) (e : Event) (b c : RecvEnd) (pieces : List (List ℕ)) (n from :
        ℕ)
        → LastRecv l early lane a u b c → (is_last_phase u.phase ≡ false → u.generation ≡ gen) → Answers u e
        → ComesTrue spells history from y.seen u.phase a e
        → (is_last_phase u.phase ≡ false
        → FoundSo spells history lane allow gen from pieces n (came_of a y.seen e ++ abort_of y.aborts))
        → FindKeeps spells lane b pieces (came_of a y.seen e ++ abort_of y.aborts)
    came_finds (action.Put w) u y e b c pieces n from k gens ans is found =
        ((put_true spells b pieces (answer_unit w)).0, abort_finds _ _ y.aborts)
    came_finds action.Read u y (event.Unit w) b c pieces n from k gens ans is found =
        (tt, abort_finds b pieces y.aborts)
    came_finds action.Read u y any3 b c pieces n from k gens ans is found = abort_finds b pieces y.aborts
    came_finds (action.Ask q) u y (event.Reply z) b c pieces n from k gens ans is found =
        told_finds q z u y b c pieces n from k gens ans is.1 found (is_last_phase u.phase) refl
    came_finds (action.Ask q) u y any3 b c pieces n from k gens ans is found = abort_finds b pieces y.aborts
    came_finds (action.Finish z) u y e b c pieces n from k gens ans is found = abort_finds b pieces y.aborts

    pub tail_finds : (a : Action) (u : State) (y : Over) (o : Option Event) (b c : RecvEnd) (pieces : List (List ℕ))
        (n from : ℕ) → LastRecv l early lane a u b c → (is_last_phase u.phase ≡ false → u.generation ≡ gen)
        → MayComeLast spells history from a u y.seen o
        → (is_last_phase u.phase ≡ false
        → FoundSo spells history lane allow gen from pieces n (untold_of a y.seen o ++ abort_of y.aborts))
        → FindKeeps spells lane b pieces (untold_of a y.seen o ++ abort_of y.aborts)
    tail_finds a u y None b c pieces n from k gens last found = abort_finds b pieces y.aborts
    tail_finds a u y (Some e) b c pieces n from k gens last found =
        came_finds a u y e b c pieces n from k gens last.answers last.stands found
