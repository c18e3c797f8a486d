-- What the spool answers is of the kind that was asked for, and fits the session that asked.
use Rattle.std.proofs.Common.{◌≡◌, ℕ, ◌+◌, ◌^◌, ◌≤◌, Bool, true, false, List, Option, None, Some}
use Rattle.std.proofs.Common.{Result, Ok, Err, inl, inr, refl, sym, ap, subst, ◌∙◌, option_map, option_and_then, IfSome}
use Rattle.std.proofs.lemmas.Bool.{cases_lt}
use mathlib.Core.Logic.{dite}
use native.Mathlib.Decide.{ℕ_discrete}
use Rattle.mta_edge.specs.Views.{ClockView, DiskView}
use Rattle.mta_lane_send.specs.Half.{last_of}
use Rattle.mta_lane_send.specs.declared.state.SendState.{SendState}
use Rattle.mta_lane_send.specs.declared.state.SendState.TheVariants.{Dropping, Ending, Idle, Sending}
use Rattle.mta_records.specs.Outgoing.{Carried}
use Rattle.mta_records.specs.declared.fault.StepFault.{StepFault}
use Rattle.mta_records.specs.declared.fault.StepFault.TheVariants as StepFaults
use Rattle.mta_records.specs.declared.step.Step.TheVariants as step
use Rattle.mta_tables.specs.Tables.{tables_of, TablesValue}
use Rattle.mta_tables.proofs.Grammars.{tables_found}
use Rattle.mta_machine.specs.Apdu.{value_read}
use Rattle.mta_machine.specs.Items.{numbered}
use Rattle.mta_machine.specs.Machine.{last_tables}
use Rattle.mta_machine.specs.Rules.{tables_value}
use Rattle.mta_units.specs.declared.unit.OpenUnit.{OpenUnit}
use Rattle.mta_histories.specs.Classes.{start}
use Rattle.mta_histories.specs.History.{IsPossible, lane_after, on_lane_after}
use Rattle.mta_histories.specs.Kept.{IsFilled, IsKept}
use Rattle.mta_histories.specs.Lanes.{Lane, lane_at, State}
use Rattle.mta_histories.proofs.LaneLists.{each-at}
use Rattle.mta_worker.specs.PeerLines.{IsLine, line_in}
use Rattle.mta_worker.proofs.Entries.{have_lines, line_is_one}
use Rattle.mta_lane_match_laws.specs.Asks.{IsAskOf, IsForOpen, IsLaneOf, IsCloseLane, IsPeer, IsStart}
use Rattle.mta_lane_match_laws.specs.Replies.{StartsFit}
use Rattle.mta_session.specs.Fits.{AnswersAt, AnswersStep, LineFits, RepliesTo, ValuesFit}
use Rattle.mta_session.specs.State.{State as Session}
use Rattle.mta_session.specs.Wanted.{ask_of}
use Rattle.mta_session.specs.declared.ask.Ask.{Ask}
use Rattle.mta_session.specs.declared.ask.Ask.TheVariants as ask
use Rattle.mta_session.specs.declared.ask.Reply.{Reply}
use Rattle.mta_session.specs.declared.ask.Reply.TheVariants as reply
use Rattle.mta_session.specs.declared.event.Event.TheVariants as event
use Rattle.mta_session.specs.declared.peer.Peer.{Peer}
use Rattle.mta_session.specs.declared.phase.OwnStep.{OwnStep}
use Rattle.mta_session.specs.declared.phase.OwnStep.TheVariants as own
use Rattle.mta_session.specs.declared.phase.Phase.{Phase}
use Rattle.mta_session.specs.declared.phase.Phase.TheVariants as phase
use Rattle.mta_session_laws.specs.Order.{is_asking}
use Rattle.mta_session_list_laws.proofs.Found.{never}
use Rattle.mta_spool.specs.Shown.{Shown}
use Rattle.mta_spool.specs.Stands.{Appends}
use Rattle.mta_spool.specs.Starting.{IsResumed, next_activity}
use Rattle.mta_worker.specs.Answers.{Answered, BeginsNow, lanes_of}
use Rattle.mta_worker.specs.Lines.{line_now}
use Rattle.mta_worker.specs.Turns.{Replied, StartsElsewhere}
use Rattle.mta_worker_list_laws.proofs.Calm.{is_looking}
use Rattle.mta_worker_list_laws.proofs.Known.{carried_total, put_then}
use Rattle.mta_worker_list_laws.proofs.Making.{not_begun_past, WasPossible}

-- ---- of the kind that is asked for

abbrev pub Suits : Ask → Reply → Type 0
Suits (ask.BatchFor peer) (reply.BatchFor x) = Unit {0}
Suits (ask.LaneOpen role peer name twa c w) (reply.LaneOpen x) = Unit {0}
Suits (ask.LaneAgree lane g c w) (reply.LaneAgree x) = Unit {0}
Suits (ask.Bind lane) (reply.Bind x) = Unit {0}
Suits (ask.Start lane g batch) (reply.Start x) = Unit {0}
Suits (ask.Confirm lane g k n) (reply.Confirm x) = Unit {0}
Suits (ask.Ending lane g k) (reply.Ending x) = Unit {0}
Suits (ask.Sent lane g k) (reply.Sent x) = Unit {0}
Suits (ask.Dropped lane g k) (reply.Dropped x) = Unit {0}
Suits (ask.Denied lane g k) (reply.Denied x) = Unit {0}
Suits (ask.Refused lane g k kind) (reply.Refused x) = Unit {0}
Suits (ask.Secure lane g k n piece) (reply.Secure x) = Unit {0}
Suits (ask.Complete lane g k n piece) (reply.Complete x) = Unit {0}
Suits (ask.DropActivity lane g k) (reply.DropActivity x) = Unit {0}
Suits (ask.CloseLane lane g) (reply.CloseLane x) = Unit {0}
Suits (ask.Resumed lane) (reply.Resumed x) = Unit {0}
Suits (ask.LaneOf role peer name) (reply.LaneOf x) = Unit {0}
Suits (ask.Recovery lane) (reply.Recovery x) = Unit {0}
Suits (ask.Receiving lane) (reply.Receiving x) = Unit {0}
Suits (ask.Values lane) (reply.Values x) = Unit {0}
Suits (ask.SpareLane role peer) (reply.SpareLane x) = Unit {0}
Suits (ask.Peer name) (reply.Peer x) = Unit {0}
Suits q x = ⊥

-- what more is asked of a peer's line, and of what is started
abbrev pub LinesFit : Reply → Type 0
LinesFit (reply.Peer x) = LineFits x
LinesFit x = Unit {0}

abbrev pub FitsMore : Phase → Session → Reply → Type 0
FitsMore phase.AsksPeer t x = LinesFit x
FitsMore phase.AsksStart t x = StartsFit t.send x
FitsMore p t x = Unit {0}

peer_suits : (t : Session) (q : Ask) (x : Reply) → IsPeer q → Suits q x → LinesFit x → RepliesTo phase.AsksPeer t x
peer_suits t (ask.Peer name) (reply.Peer y) asked k fits = fits
peer_suits t (ask.Peer name) x asked k fits = absurd k
peer_suits t q x asked k fits = absurd asked

start_suits : (t : Session) (q : Ask) (x : Reply) → IsStart t q → Suits q x → StartsFit t.send x
    → RepliesTo phase.AsksStart t x
start_suits t (ask.Start lane g batch) (reply.Start y) asked k fits = fits
start_suits t (ask.Start lane g batch) x asked k fits = absurd k
start_suits t q x asked k fits = absurd asked

lane_suits : (t : Session) (q : Ask) (x : Reply) → IsLaneOf q → Suits q x → RepliesTo phase.AsksStands t x
lane_suits t (ask.LaneOf role peer (Some name)) x asked k = k
lane_suits t (ask.LaneOf role peer None) x asked k = absurd asked
lane_suits t q x asked k = absurd asked

open_suits : (t : Session) (o : Option OpenUnit) (p : Option Peer) (again : Bool) (q : Ask) (x : Reply)
    → IsForOpen o p q → Suits q x → RepliesTo (phase.AsksNewLane again) t x
open_suits t (Some o) (Some p) again q x asked k = subst (λ (z : Ask). Suits z x) asked k
open_suits t (Some o) None again q x asked k = absurd asked
open_suits t None p again q x asked k = absurd asked

room_suits : (t : Session) (q : Ask) (x : Reply) → IsCloseLane q → Suits q x → RepliesTo phase.AsksRoom t x
room_suits t (ask.CloseLane lane g) x asked k = k
room_suits t q x asked k = absurd asked

step_suits : (t : Session) (step : OwnStep) (x : Reply) → Suits (ask_of t step) x → AnswersStep step x
step_suits t (own.Confirm n) x k = k
step_suits t any1 x k = k

-- So it meets the session's condition, where the session does not look at its lane right behind a Bind.
pub suits_answers : (p : Phase) (t : Session) (q : Ask) (x : Reply) → is_asking p ≡ true → is_looking p ≡ false
    → IsAskOf p t q → Suits q x → FitsMore p t x → AnswersAt p t (event.Reply x)
suits_answers phase.AsksPeer t q x i j asked k fits = peer_suits t q x asked k fits
suits_answers phase.AsksStands t q x i j asked k fits = lane_suits t q x asked k
suits_answers (phase.AsksNewLane again) t q x i j asked k fits = open_suits t t.opened t.line again q x asked k
suits_answers phase.AsksSpare t q x i j asked k fits = subst (λ (z : Ask). Suits z x) asked k
suits_answers phase.AsksRoom t q x i j asked k fits = room_suits t q x asked k
suits_answers phase.AsksOldLane t q x i j asked k fits = lane_suits t q x asked k
suits_answers phase.AsksBind t q x i j asked k fits = subst (λ (z : Ask). Suits z x) asked k
suits_answers phase.AsksValues t q x i j asked k fits = absurd (never (sym j))
suits_answers phase.AsksRecovery t q x i j asked k fits = absurd (never (sym j))
suits_answers (phase.AsksReceiving state) t q x i j asked k fits = absurd (never (sym j))
suits_answers (phase.AsksResumed state) t q x i j asked k fits = absurd (never (sym j))
suits_answers phase.AsksAgree t q x i j asked k fits = subst (λ (z : Ask). Suits z x) asked k
suits_answers phase.AsksDenied t q x i j asked k fits = subst (λ (z : Ask). Suits z x) asked k
suits_answers phase.AsksDue t q x i j asked k fits = subst (λ (z : Ask). Suits z x) asked k
suits_answers phase.AsksBatch t q x i j asked k fits = subst (λ (z : Ask). Suits z x) asked k
suits_answers phase.AsksStart t q x i j asked k fits = start_suits t q x asked k fits
suits_answers phase.AsksStillIdle t q x i j asked k fits = subst (λ (z : Ask). Suits z x) asked k
suits_answers (phase.AsksStep step) t q x i j asked k fits =
    step_suits t step x (subst (λ (z : Ask). Suits z x) asked k)
suits_answers phase.AsksState t q x i j asked k fits = subst (λ (z : Ask). Suits z x) asked k
suits_answers (phase.AsksSecure l n) t q x i j asked k fits = subst (λ (z : Ask). Suits z x) asked k
suits_answers (phase.AsksComplete l n) t q x i j asked k fits = subst (λ (z : Ask). Suits z x) asked k
suits_answers (phase.AsksDrop l found) t q x i j asked k fits = subst (λ (z : Ask). Suits z x) asked k
suits_answers phase.AsksClose t q x i j asked k fits = subst (λ (z : Ask). Suits z x) asked k
suits_answers (phase.AsksLast e) t q x i j asked k fits = tt
suits_answers p t q x i j asked k fits = absurd (never i)

-- ---- a peer's line

-- the tables of a text were read of it
tables_read : (text : List ℕ) (t : TablesValue) → tables_value text ≡ Some t → tables_of text ≡ Ok t
unfolding tables_value
tables_read text t e = by_result (tables_of text) e
  where
    by_result : {E : Type 0} (r : Result TablesValue E) → value_read r ≡ Some t → r ≡ Ok t
    by_result (Ok u) e = cc
    by_result (Err f) e = absurd cc

line_is : (o : Option Peer) (p : Peer) → o ≡ Some p → IfSome o IsLine → ValuesFit p.checkpoint p.window
line_is o p e i =
    let line : IsLine p = subst (λ (z : Option Peer). IfSome z IsLine) e i in line.values

line_of : (o : Option (List ℕ)) (name : List ℕ) (p : Peer)
    → option_and_then (λ (t : TablesValue). line_in t name) (option_and_then tables_value o) ≡ Some p
    → ValuesFit p.checkpoint p.window
line_of None name p e = absurd cc
line_of (Some text) name p e = by_tables (tables_value text) refl e
  where
    by_tables : (v : Option TablesValue) → tables_value text ≡ v
        → option_and_then (λ (t : TablesValue). line_in t name) v ≡ Some p → ValuesFit p.checkpoint p.window
    by_tables None is e = absurd cc
    by_tables (Some t) is e =
        line_is (line_in t name) p e
        (line_is_one t name (have_lines text t (tables_found text t (tables_read text t is))))

-- ---- an activity that is started

-- states of a sending half can be compared
same_number : (a b : ℕ) → ((a ≡ b → ⊥) → ⊥) → a ≡ b
same_number a b not_other = dite (ℕ_discrete a b) (λ e. e) (λ other. absurd (not_other other))

same_state : (x y : SendState) → ((x ≡ y → ⊥) → ⊥) → x ≡ y
same_state (Idle a) (Idle b) n = ap Idle (same_number a b (λ other. n (λ e. other cc)))
same_state (Sending a c) (Sending b d) n =
    let k : a ≡ b = same_number a b (λ other. n (λ e. other cc)) in
    let m : c ≡ d = same_number c d (λ other. n (λ e. other cc)) in
    cc
same_state (Ending a c) (Ending b d) n =
    let k : a ≡ b = same_number a b (λ other. n (λ e. other cc)) in
    let m : c ≡ d = same_number c d (λ other. n (λ e. other cc)) in
    cc
same_state (Dropping a) (Dropping b) n = ap Dropping (same_number a b (λ other. n (λ e. other cc)))
same_state x y n = absurd (n (λ e. cc))

still_state : (o : Option Lane) (lane : Lane) (x : SendState) → o ≡ Some lane
    → ((option_map (λ (l : Lane). l.sending) o ≡ Some x → ⊥) → ⊥) → lane.sending ≡ x
still_state o lane x e n =
    same_state lane.sending x
    (λ other. n (λ f. other (
    let here : option_map (λ (l : Lane). l.sending) o ≡ Some lane.sending =
    ap (λ (z : Option Lane). option_map (λ (l : Lane). l.sending) z) e in
    let both : Some lane.sending ≡ Some x = sym here ∙ f in cc)))

module _ {D C : Type 0} (disks : DiskView D) (clocks : ClockView C) where
  line_fits : (old : Shown D C) (name : List ℕ) (p : Peer) → Some p ≡ line_now old.current.machine name
      → ValuesFit p.checkpoint p.window
  line_fits old name p e =
      line_of (numbered old.current.machine.tables (last_tables old.current.machine)) name p (sym e)

  -- what is started is the next activity, and has octets
  started_fits : (t : Session) (lane g k i m : ℕ) (rs : List ℕ) (o : Carried) (old new : Shown D C) → lane ≡ t.lane
      → ((option_map (λ (l : Lane). l.sending) (lane_at lane (lanes_of old)) ≡ Some t.send.state → ⊥) → ⊥)
      → Appends disks (step.Start lane g k i rs m) old new None
      → IsPossible old.current (step.Start lane g k i rs m) → IsKept new.current
      → IsResumed (lane_at lane (lanes_of new)) (Some o) → StartsFit t.send (reply.Start (Ok o))
  started_fits t lane g k i m rs o old new on none a may kept is =
      let l : Lane = may.allowed.lane in
      let next : Lane = lane_after old.current l (start k i rs) m in
      let lanes : lanes_of new ≡ on_lane_after old.current (Some l) (start k i rs) m =
      ap (λ (s : State). s.lanes.open_lanes) (a.changed refl)
      ∙ ap (λ (z : Option Lane). on_lane_after old.current z (start k i rs) m) may.allowed.lane_is in
      let now : lane_at lane (lanes_of new) ≡ Some next =
      put_then lane l next (lanes_of old) (lanes_of new) may.allowed.lane_is refl lanes in
      let told : IsResumed (Some next) (Some o) = subst (λ (z : Option Lane). IsResumed z (Some o)) now is in
      let filled : IsFilled next = each-at IsFilled (lanes_of new) lane next now kept.filled in
      let total = carried_total next.transfer (last_of next.sending) o told.1 in
      let same : l.sending ≡ t.send.state =
      still_state (lane_at lane (lanes_of old)) l t.send.state may.allowed.lane_is none in (
        told.1.0 ∙ ap (λ (x : SendState). last_of x + 1) same,
        subst (λ (n : ℕ). 1 ≤ n) total (filled.some_octets told.0),
        subst (λ (n : ℕ). n ≤ 2097152) total (filled.not_too_many told.0),
      )

  begun_fits : (t : Session) (lane g i : ℕ) (rs : List ℕ) (o : Carried) (old new : Shown D C) → lane ≡ t.lane
      → ((option_map (λ (l : Lane). l.sending) (lane_at lane (lanes_of old)) ≡ Some t.send.state → ⊥) → ⊥)
      → BeginsNow disks clocks lane g i rs old (Ok o) new → WasPossible old new → IsKept new.current
      → StartsFit t.send (reply.Start (Ok o))
  begun_fits t lane g i rs o old new on none b may kept =
      elim (cases_lt (next_activity (lane_at lane (lanes_of old))) (2 ^ 32)) [
        | inl l ↦ started_fits t lane g (next_activity (lane_at lane (lanes_of old))) i _ rs o old new on none
            (b.0 l).at (may _ (b.0 l).at.entries) kept b.2
        | inr past ↦ absurd (not_begun_past o (b.1 past).at.fault (b.1 past).at.refused)
      ]

  start_fits : (t : Session) (q : Ask) (old new : Shown D C) (x : Reply) → IsStart t q
      → (StartsElsewhere q t old → ⊥) → Answered disks clocks q old x new → WasPossible old new → IsKept new.current
      → StartsFit t.send x
  start_fits t (ask.Start lane g batch) old new (reply.Start (Ok o)) asked none a may kept =
      begun_fits t lane g batch.item batch.recipients o old new asked.0 none a may kept
  start_fits t (ask.Start lane g batch) old new (reply.Start (Err f)) asked none a may kept = tt
  start_fits t (ask.Start lane g batch) old new x asked none a may kept = elim a [ ]
  start_fits t q old new x asked none a may kept = absurd asked

  peer_fits : (q : Ask) (old new : Shown D C) (x : Reply) → IsPeer q → Answered disks clocks q old x new → LinesFit x
  peer_fits (ask.Peer name) old new (reply.Peer (Ok (Some p))) asked a = line_fits old name p a.0
  peer_fits (ask.Peer name) old new (reply.Peer (Ok None)) asked a = tt
  peer_fits (ask.Peer name) old new (reply.Peer (Err m)) asked a = tt
  peer_fits (ask.Peer name) old new x asked a = elim a [ ]
  peer_fits q old new x asked a = absurd asked

  -- ---- what is replied

  pub answered_suits : (q : Ask) (old : Shown D C) (x : Reply) (new : Shown D C) → Answered disks clocks q old x new
      → Suits q x
  answered_suits (ask.BatchFor peer) old (reply.BatchFor x) new a = tt
  answered_suits (ask.LaneOpen role peer name twa c w) old (reply.LaneOpen x) new a = tt
  answered_suits (ask.LaneAgree lane g c w) old (reply.LaneAgree x) new a = tt
  answered_suits (ask.Bind lane) old (reply.Bind x) new a = tt
  answered_suits (ask.Start lane g batch) old (reply.Start x) new a = tt
  answered_suits (ask.Confirm lane g k n) old (reply.Confirm x) new a = tt
  answered_suits (ask.Ending lane g k) old (reply.Ending x) new a = tt
  answered_suits (ask.Sent lane g k) old (reply.Sent x) new a = tt
  answered_suits (ask.Dropped lane g k) old (reply.Dropped x) new a = tt
  answered_suits (ask.Denied lane g k) old (reply.Denied x) new a = tt
  answered_suits (ask.Refused lane g k kind) old (reply.Refused x) new a = tt
  answered_suits (ask.Secure lane g k n piece) old (reply.Secure x) new a = tt
  answered_suits (ask.Complete lane g k n piece) old (reply.Complete x) new a = tt
  answered_suits (ask.DropActivity lane g k) old (reply.DropActivity x) new a = tt
  answered_suits (ask.CloseLane lane g) old (reply.CloseLane x) new a = tt
  answered_suits (ask.Resumed lane) old (reply.Resumed x) new a = tt
  answered_suits (ask.LaneOf role peer name) old (reply.LaneOf x) new a = tt
  answered_suits (ask.Recovery lane) old (reply.Recovery x) new a = tt
  answered_suits (ask.Receiving lane) old (reply.Receiving x) new a = tt
  answered_suits (ask.Values lane) old (reply.Values x) new a = tt
  answered_suits (ask.SpareLane role peer) old (reply.SpareLane x) new a = tt
  answered_suits (ask.Peer name) old (reply.Peer x) new a = tt
  answered_suits q old x new a = elim a [ ]

  -- a Start that would begin elsewhere is refused
  elsewhere_suits : (q : Ask) (t : Session) (old : Shown D C) (f : StepFault) → StartsElsewhere q t old
      → Suits q (reply.Start (Err f))
  elsewhere_suits (ask.Start lane g batch) t old f e = tt
  elsewhere_suits q t old f e = absurd e

  pub replied_suits : (q : Ask) (t : Session) (old : Shown D C) (x : Reply) (new : Shown D C)
      → Replied disks clocks q t old x new → Suits q x
  replied_suits q t old x new r =
      elim r [
        | inl u ↦ subst (λ (y : Reply). Suits q y) (sym u.1) (elsewhere_suits q t old StepFaults.Unexpected u.0)
        | inr a ↦ answered_suits q old x new a.1
      ]

  pub replied_fits : (p : Phase) (t : Session) (q : Ask) (old new : Shown D C) (x : Reply) → IsAskOf p t q
      → Replied disks clocks q t old x new → WasPossible old new → IsKept new.current → FitsMore p t x
  replied_fits phase.AsksPeer t q old new x asked r may kept =
      elim r [
        | inl u ↦ subst (λ (y : Reply). LinesFit y) (sym u.1) tt
        | inr a ↦ peer_fits q old new x asked a.1
      ]
  replied_fits phase.AsksStart t q old new x asked r may kept =
      elim r [
        | inl u ↦ subst (λ (y : Reply). StartsFit t.send y) (sym u.1) tt
        | inr a ↦ start_fits t q old new x asked a.0 a.1 may kept
      ]
  replied_fits p t q old new x asked r may kept = tt
