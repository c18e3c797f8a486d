-- A possible step keeps what is kept.
use Rattle.std.proofs.Common.{◌≡◌, ◌≢◌, ℕ, ◌+◌, ◌≤◌, Bool, true, false, cond, eqb, List, []}
use Rattle.std.proofs.Common.{◌∷◌, length, Option, Some, None, refl, sym, ap, subst, ◌∙◌, arith, inl, inr}
use Rattle.std.specs.Prelude.{◌⊎◌, ◌&&◌, ◌||◌, nat_lt}
use Rattle.std.specs.List.{concat}
use Rattle.std.proofs.lemmas.Bool.{cases_Bool, eqb-true, and_parts, true≢false}
use Rattle.mta_lane_recv.specs.Half.{IsOfHigh}
use Rattle.mta_lane_send.specs.Half.{FitsState, is_idle, is_sending, goes_on, confirmed_of}
use Rattle.mta_lane_send.specs.Pieces.{has_piece_after}
use Rattle.mta_lane_send.proofs.Below.{fits-confirmed}
use Rattle.mta_records.specs.Reference.{Identifier}
use Rattle.mta_records.specs.declared.lane.LaneRole.{LaneRole}
use Rattle.mta_records.specs.declared.lane.LaneRole.TheVariants.{Responder}
use Rattle.mta_records.specs.declared.step.Step.{Step}
use Rattle.mta_machine.specs.Items.{ItemValue, Machine, numbered, is_pending_at}
use Rattle.mta_machine.specs.Rules.{verdict_of, outgoing_copy, denied, expired}
use Rattle.mta_machine.specs.Machine.{MachineStep, Discharge, discharge, discharges, IsRun, machine_run, last_tables}
use Rattle.mta_machine.specs.Machine.{verdict_at, relay_on}
use Rattle.mta_machine.proofs.Once.{discharges-cons}
use Rattle.mta_machine.proofs.Later.{pending-stays, AreAt, moment-within, fail-at}
use Rattle.mta_machine.proofs.Copies.{copies_fit}
use Rattle.mta_machine.proofs.Decided.{relay-stays, recorded-stays, relay-verdict, format-grows}
use Rattle.mta_histories.specs.Lanes.{Transfer, Lane, State, empty, lane_at, put_lane, without_lane, holds}
use Rattle.mta_histories.specs.Lanes.{activities_of, IsFree, total_of}
use Rattle.mta_histories.specs.Classes.{was_sent, was_refused, was_denied, was_dropped, LaneStep, agree, bind, start}
use Rattle.mta_histories.specs.Classes.{confirm, to_end, settle, abandon, secure, complete, drop_pieces, close, Class}
use Rattle.mta_histories.specs.Classes.{begins, sets_format, records, accepts, settles, opens, on_lane, class_of}
use Rattle.mta_histories.specs.History.{longest_activity, is_role, LaneNeeds, StepNeeds, NamesPeer, CanStart}
use Rattle.mta_histories.specs.History.{lane_steps, on_lane_steps, class_steps, lane_after, on_lane_after, lanes_after}
use Rattle.mta_histories.specs.History.{copied, octets_of, transfer_of, new_lane, discharge_by, when, after_step}
use Rattle.mta_histories.specs.History.{machine_left, after_from, ArePossible, failures, sendings, failure_of_kind}
use Rattle.mta_histories.specs.Kept.{ArePieces, IsWhole, IsFilled, IsDroppedReported, IsDecidedFor, IsDecided}
use Rattle.mta_histories.specs.Kept.{pending_count}
use Rattle.mta_histories.specs.Kept.{IsKept}
use Rattle.mta_histories.specs.Sound.{machine_begun, lanes_begun}
use Rattle.mta_histories.specs.Laws.{StepsKeep, HistoriesKeep}
use Rattle.mta_histories.proofs.LaneLists.{each-at, each-put, each-without, each-more, each-weaker, bit_of, count-more}
use Rattle.mta_histories.proofs.LaneLists.{count-put, count-without, numbered-put, numbered-without, numbered-more}
use Rattle.mta_histories.proofs.LaneLists.{number-at}
use Rattle.mta_histories.proofs.Halves.{confirmed-transferring, confirmed-idle, sending-transferring, sending-busy}
use Rattle.mta_histories.proofs.Halves.{fits-idle, fits-ending, has-first, taken-number, with-length}
use Rattle.mta_histories.proofs.Rows.{step_run}
use Rattle.mta_histories.proofs.Dues.{some-first}
use Rattle.mta_histories.proofs.Held.{Holding, holding, dropped-reported, stays-reported}

-- ---- the halves of one lane

copy-octets : (text : Option (List ℕ)) (item : Option ItemValue) (rs : List ℕ) (moment : ℕ) (t : List ℕ)
    (x : ItemValue) → text ≡ Some t → item ≡ Some x
    → copied text item rs moment ≡ octets_of (outgoing_copy t x.octets x.arrival rs moment)
copy-octets None item rs moment t x e f = absurd cc
copy-octets (Some text) None rs moment t x e f = absurd cc
copy-octets (Some text) (Some item) rs moment t x e f =
    let same : text ≡ t = cc in
    let alike : item ≡ x = cc in
    ap (λ (u : List ℕ). octets_of (outgoing_copy u item.octets item.arrival rs moment)) same ∙ ap
    (λ (y : ItemValue). octets_of (outgoing_copy t y.octets y.arrival rs moment)) alike

-- what is started has an octet, and no more than one activity may have
start-fits : (s : State) (lane : Lane) (k i : ℕ) (rs : List ℕ) (moment : ℕ) → CanStart s lane k i rs moment
    → (1 ≤ length (transfer_of s.machine i rs moment).octets)
    × (length (transfer_of s.machine i rs moment).octets ≤ longest_activity)
start-fits s lane k i rs moment can =
    let same : (transfer_of s.machine i rs moment).octets ≡ can.copy =
    copy-octets (numbered s.machine.tables (last_tables s.machine))
    (numbered s.machine.items i) rs moment can.text can.item can.text_is can.item_is ∙ ap octets_of can.copy_is in
    let one = some-first rs can.some_recipients in
    let relayed : relay_on s.machine.format (Some can.text) (Some can.item) one.0 moment ≡ Some lane.peer =
    sym (ap (λ (o : Option (List ℕ)). relay_on s.machine.format o (numbered s.machine.items i) one.0 moment)
    can.text_is
    ∙ ap (λ (o : Option ItemValue). relay_on s.machine.format (Some can.text) o one.0 moment) can.item_is)
    ∙ can.relayed one.0 one.1 in
    let relays = relay-verdict can.text
    (verdict_of s.machine.format can.text can.item.octets can.item.arrival one.0 moment) lane.peer relayed in
    subst (λ (o : List ℕ). (1 ≤ length o) × (length o ≤ longest_activity)) (sym same)
    (copies_fit s.machine.format can.text can.item.octets can.item.arrival one.0 relays.0 moment rs moment can.copy
    relays.1 can.copy_is)

pub start-octets : (s : State) (lane : Lane) (k i : ℕ) (rs : List ℕ) (moment : ℕ)
    → CanStart s lane k i rs moment → 1 ≤ length (transfer_of s.machine i rs moment).octets
start-octets s lane k i rs moment can = (start-fits s lane k i rs moment can).0

busy : (lane : Lane) (k : ℕ) → is_sending lane.sending k ≡ true
    → (lane.agreed ≡ false → is_idle lane.sending ≡ true) → lane.agreed ≡ false → ⊥
busy lane k sends before apart = true≢false (sym (before apart) ∙ sending-busy lane.sending k sends)

-- a lane is whole where each of its halves is, and what was agreed for it fits
whole-lane : {lane : Lane} → FitsState lane.checkpoint lane.sending (total_of lane.transfer)
    → IsOfHigh lane.high lane.last → ArePieces lane.last lane.pieces
    → (lane.agreed ≡ false → is_idle lane.sending ≡ true) → lane.checkpoint ≤ 64
    → ((1 ≤ lane.window) × (lane.window ≤ 8)) → length (concat lane.pieces) ≤ longest_activity
    → IsWhole lane
whole-lane sending receiving pieces before_agreed checkpoint_fits window_fits within =
    record {
      sending = sending;
      receiving = receiving;
      pieces = pieces;
      before_agreed = before_agreed;
      checkpoint_fits = checkpoint_fits;
      window_fits = window_fits;
      within = within;
    }

whole-after : (s : State) (lane : Lane) (step : LaneStep) (moment : ℕ) → LaneNeeds s lane step moment
    → IsWhole lane → IsWhole (lane_after s lane step moment)
whole-after s lane (agree checkpoint window) moment needs w =
    whole-lane
    (fits-idle lane.checkpoint checkpoint lane.sending (total_of lane.transfer) (w.before_agreed needs.1) w.sending)
    w.receiving w.pieces (λ e. absurd (true≢false e)) (omega (arith, needs.2, w.checkpoint_fits))
    (needs.3, omega (arith, needs.4, w.window_fits.1)) w.within
whole-after s lane bind moment needs w =
    whole-lane w.sending w.receiving w.pieces w.before_agreed w.checkpoint_fits w.window_fits w.within
whole-after s lane (start k i rs) moment needs w =
    whole-lane (
      start-octets s lane k i rs moment needs,
      has-first lane.checkpoint (length (transfer_of s.machine i rs moment).octets)
          (start-octets s lane k i rs moment needs),
    )
    w.receiving w.pieces (λ e. absurd (true≢false (sym needs.agreed ∙ e))) w.checkpoint_fits w.window_fits
    w.within
whole-after s lane (confirm k n) moment needs w =
    whole-lane
    (fits-confirmed lane.checkpoint (total_of lane.transfer) n lane.sending w.sending
    (and_parts (goes_on lane.sending k && nat_lt (confirmed_of lane.sending) n)
    (has_piece_after lane.checkpoint (total_of lane.transfer) n) needs).1)
    w.receiving w.pieces (λ e. confirmed-idle lane.sending n ∙ w.before_agreed e) w.checkpoint_fits w.window_fits
    w.within
whole-after s lane (to_end k) moment needs w =
    whole-lane (fits-ending lane.checkpoint lane.sending (total_of lane.transfer) k needs w.sending) w.receiving
    w.pieces (λ e. absurd (busy lane k needs w.before_agreed e)) w.checkpoint_fits w.window_fits w.within
whole-after s lane (settle was_sent k) moment needs w =
    whole-lane refl w.receiving w.pieces (λ e. refl) w.checkpoint_fits w.window_fits w.within
whole-after s lane (settle (was_refused kind) k) moment needs w =
    whole-lane refl w.receiving w.pieces (λ e. refl) w.checkpoint_fits w.window_fits w.within
whole-after s lane (settle was_denied k) moment needs w =
    whole-lane refl w.receiving w.pieces (λ e. refl) w.checkpoint_fits w.window_fits w.within
whole-after s lane (settle was_dropped k) moment needs w =
    whole-lane refl w.receiving w.pieces (λ e. refl) w.checkpoint_fits w.window_fits w.within
whole-after s lane (abandon k) moment needs w =
    whole-lane tt w.receiving w.pieces (λ e. absurd (busy lane k needs.0 w.before_agreed e)) w.checkpoint_fits
    w.window_fits w.within
whole-after s lane (secure k n piece) moment needs w =
    let number = taken-number lane.high lane.last k n lane.pieces needs.taken w.pieces in
    whole-lane w.sending refl (number.0, with-length lane.pieces n piece number.0 number.1) w.before_agreed
    w.checkpoint_fits w.window_fits needs.within
whole-after s lane (complete k n piece) moment needs w =
    whole-lane w.sending refl refl w.before_agreed w.checkpoint_fits w.window_fits (omega arith)
whole-after s lane (drop_pieces k) moment needs w =
    whole-lane w.sending tt refl w.before_agreed w.checkpoint_fits w.window_fits (omega arith)
whole-after s lane close moment needs w = w

-- ---- what a transfer rests on

filled-after : (s : State) (lane : Lane) (step : LaneStep) (moment : ℕ) → LaneNeeds s lane step moment
    → IsFilled lane → IsFilled (lane_after s lane step moment)
filled-after s lane (agree checkpoint window) moment needs f =
    record { responder = λ e. refl; some_octets = f.some_octets; not_too_many = f.not_too_many }
filled-after s lane bind moment needs f =
    record { responder = f.responder; some_octets = f.some_octets; not_too_many = f.not_too_many }
filled-after s lane (start k i rs) moment needs f = record {
  responder = f.responder;
  some_octets = λ e. start-octets s lane k i rs moment needs;
  not_too_many = λ e. (start-fits s lane k i rs moment needs).1;
}
filled-after s lane (confirm k n) moment needs f = record {
  responder = f.responder;
  some_octets = λ e. f.some_octets (sym (confirmed-idle lane.sending n) ∙ e);
  not_too_many = λ e. f.not_too_many (sym (confirmed-idle lane.sending n) ∙ e);
}
filled-after s lane (to_end k) moment needs f = record {
  responder = f.responder;
  some_octets = λ e. f.some_octets (sending-busy lane.sending k needs);
  not_too_many = λ e. f.not_too_many (sending-busy lane.sending k needs);
}
filled-after s lane (settle was_sent k) moment needs f =
    record {
      responder = f.responder;
      some_octets = λ e. absurd (true≢false e);
      not_too_many = λ e. absurd (true≢false e);
    }
filled-after s lane (settle (was_refused kind) k) moment needs f =
    record {
      responder = f.responder;
      some_octets = λ e. absurd (true≢false e);
      not_too_many = λ e. absurd (true≢false e);
    }
filled-after s lane (settle was_denied k) moment needs f =
    record {
      responder = f.responder;
      some_octets = λ e. absurd (true≢false e);
      not_too_many = λ e. absurd (true≢false e);
    }
filled-after s lane (settle was_dropped k) moment needs f =
    record {
      responder = f.responder;
      some_octets = λ e. absurd (true≢false e);
      not_too_many = λ e. absurd (true≢false e);
    }
filled-after s lane (abandon k) moment needs f = record {
  responder = f.responder;
  some_octets = λ e. f.some_octets (sending-busy lane.sending k needs.0);
  not_too_many = λ e. f.not_too_many (sending-busy lane.sending k needs.0);
}
filled-after s lane (secure k n piece) moment needs f =
    record { responder = f.responder; some_octets = f.some_octets; not_too_many = f.not_too_many }
filled-after s lane (complete k n piece) moment needs f =
    record { responder = f.responder; some_octets = f.some_octets; not_too_many = f.not_too_many }
filled-after s lane (drop_pieces k) moment needs f =
    record { responder = f.responder; some_octets = f.some_octets; not_too_many = f.not_too_many }
filled-after s lane close moment needs f = f

new-filled : (number : ℕ) (role : LaneRole) (peer : List ℕ) (reference : Identifier) (twa : Bool)
    (checkpoint window : ℕ) → IsFilled (new_lane number role peer reference twa checkpoint window)
new-filled number role peer reference twa checkpoint window = record {
  responder = λ e. ap (is_role Responder) e;
  some_octets = λ e. absurd (true≢false e);
  not_too_many = λ e. absurd (true≢false e);
}

decided-stays : (m : Machine) (steps : List MachineStep) (before now : ℕ) (lane : Lane) → before ≤ now
    → IsRun m steps → IsDecided m before lane → IsDecided (machine_run m steps) now lane
decided-stays m steps before now lane le run was moves = by_transfer lane.transfer (was moves)
  where
    by_transfer : (o : Option Transfer) → IsDecidedFor m before lane.peer o
        → IsDecidedFor (machine_run m steps) now lane.peer o
    by_transfer None d = absurd d
    by_transfer (Some t) d = (
      d.0,
      d.1,
      omega
          (arith, d.2, le),
      omega (arith, d.3, format-grows m steps run),
      λ r named. relay-stays m steps t.format t.tables t.item r t.moment lane.peer (d.4 r named),
    )

decided-after : (s : State) (lane : Lane) (step : LaneStep) (moment : ℕ) → LaneNeeds s lane step moment
    → s.moment ≤ moment → IsRun s.machine (lane_steps lane step moment) → IsDecided s.machine s.moment lane
    → IsDecided (machine_run s.machine (lane_steps lane step moment)) moment (lane_after s lane step moment)
decided-after s lane (agree checkpoint window) moment needs timely run was =
    decided-stays s.machine [] s.moment moment lane timely tt was
decided-after s lane bind moment needs timely run was = decided-stays s.machine [] s.moment moment lane timely tt was
decided-after s lane (start k i rs) moment needs timely run was =
    λ moves. (needs.some_recipients, needs.different, omega arith, omega arith, needs.relayed)
decided-after s lane (confirm k n) moment needs timely run was =
    λ moves. decided-stays s.machine [] s.moment moment lane timely tt was
    (sym (confirmed-transferring lane.sending n) ∙ moves)
decided-after s lane (to_end k) moment needs timely run was =
    λ moves. decided-stays s.machine [] s.moment moment lane timely tt was (sending-transferring lane.sending k needs)
decided-after s lane (settle was_sent k) moment needs timely run was = λ moves. absurd (true≢false (sym moves))
decided-after s lane (settle (was_refused kind) k) moment needs timely run was =
    λ moves. absurd (true≢false (sym moves))
decided-after s lane (settle was_denied k) moment needs timely run was = λ moves. absurd (true≢false (sym moves))
decided-after s lane (settle was_dropped k) moment needs timely run was = λ moves. absurd (true≢false (sym moves))
decided-after s lane (abandon k) moment needs timely run was = λ moves. absurd (true≢false (sym moves))
decided-after s lane (secure k n piece) moment needs timely run was =
    decided-stays s.machine [] s.moment moment lane timely tt was
decided-after s lane (complete k n piece) moment needs timely run was =
    decided-stays s.machine (lane_steps lane (complete k n piece) moment) s.moment moment lane timely run was
decided-after s lane (drop_pieces k) moment needs timely run was =
    decided-stays s.machine [] s.moment moment lane timely tt was
decided-after s lane close moment needs timely run was = decided-stays s.machine [] s.moment moment lane timely tt was

-- ---- moments

lane-at : (lane : Lane) (step : LaneStep) (moment : ℕ) → AreAt moment (lane_steps lane step moment)
lane-at lane (agree checkpoint window) moment = tt
lane-at lane bind moment = tt
lane-at lane (start k i rs) moment = tt
lane-at lane (confirm k n) moment = tt
lane-at lane (to_end k) moment = tt
lane-at lane (settle was_sent k) moment = sent-at lane.transfer
  where
    sent-at : (o : Option Transfer) → AreAt moment (sendings lane.peer moment o)
    sent-at None = tt
    sent-at (Some t) = (refl, tt)
lane-at lane (settle (was_refused kind) k) moment = by_test _ lane.transfer
  where
    by_test : (b : Bool) (o : Option Transfer) → AreAt moment (cond b [] (failures (failure_of_kind kind) moment o))
    by_test true o = tt
    by_test false None = tt
    by_test false (Some t) = fail-at (failure_of_kind kind) moment t.item t.recipients
lane-at lane (settle was_denied k) moment = by_test _ lane.transfer
  where
    by_test : (b : Bool) (o : Option Transfer) → AreAt moment (cond b (failures denied moment o) [])
    by_test false o = tt
    by_test true None = tt
    by_test true (Some t) = fail-at denied moment t.item t.recipients
lane-at lane (settle was_dropped k) moment = tt
lane-at lane (abandon k) moment = by_transfer lane.transfer
  where
    by_transfer : (o : Option Transfer) → AreAt moment (failures expired moment o)
    by_transfer None = tt
    by_transfer (Some t) = fail-at expired moment t.item t.recipients
lane-at lane (secure k n piece) moment = tt
lane-at lane (complete k n piece) moment = (refl, tt)
lane-at lane (drop_pieces k) moment = tt
lane-at lane close moment = tt

-- ---- recipients and their activities

pending-count : (m : Machine) (steps : List MachineStep) (i r : ℕ) → discharges steps i r ≡ 0
    → pending_count m i r ≤ pending_count (machine_run m steps) i r
pending-count m steps i r none = by_test (is_pending_at m i r) refl
  where
    by_test : (b : Bool) → is_pending_at m i r ≡ b → cond b 1 0 ≤ pending_count (machine_run m steps) i r
    by_test true e = subst (λ (b : Bool). 1 ≤ cond b 1 0) (sym (pending-stays m steps i r none e)) (omega arith)
    by_test false e = omega arith

bit-most : (b : Bool) → bit_of b ≤ 1
bit-most true = omega arith
bit-most false = omega arith

-- after a step on a lane: the activities of the recipient that there are now, and those that there were
activity-after : (s : State) (steps : List MachineStep) (i r now : ℕ) (old new : Bool)
    → activities_of s.lanes.open_lanes i r ≤ pending_count s.machine i r
    → now + bit_of old ≡ activities_of s.lanes.open_lanes i r + bit_of new
    → Holding s i r (discharges steps i r) old new → now ≤ pending_count (machine_run s.machine steps) i r
activity-after s steps i r now old new was count (inl same) =
    omega (arith, was, count, same.1, pending-count s.machine steps i r same.0)
activity-after s steps i r now old new was count (inr (inl gone)) =
    let had : bit_of old ≡ 1 = ap bit_of gone.0 in
    let hasnt : bit_of new ≡ 0 = ap bit_of gone.1 in
    omega (arith, was, count, had, hasnt, bit-most (is_pending_at s.machine i r))
activity-after s steps i r now old new was count (inr (inr starts)) =
    let pending : pending_count s.machine i r ≡ 1 = ap bit_of starts.1.0 in
    omega (arith, was, count, pending, starts.1.1, bit-most new, pending-count s.machine steps i r starts.0)

-- ---- a step on a lane

put-kept : (s : State) (n : ℕ) (lane : Lane) (step : LaneStep) (moment : ℕ)
    → lane_at n s.lanes.open_lanes ≡ Some lane → (lane_after s lane step moment).number ≡ lane.number
    → IsKept s
    → LaneNeeds s lane step moment → IsRun s.machine (lane_steps lane step moment) → s.moment ≤ moment
    → IsKept (record {
      machine = machine_run s.machine (lane_steps lane step moment);
      lanes = record s.lanes { open_lanes = put_lane (lane_after s lane step moment) s.lanes.open_lanes };
      moment = moment;
      begun = true;
    })
put-kept s n lane step moment found same kept needs run timely = record {
  in_time = moment-within s.machine (lane_steps lane step moment) moment (lane-at lane step moment)
      (omega (arith, kept.in_time, timely));
  numbered_lanes = numbered-put 0 s.lanes.open_lanes s.lanes.count (lane_after s lane step moment) kept.numbered_lanes;
  one_activity = λ i r. activity-after s (lane_steps lane step moment) i r
      (activities_of (put_lane (lane_after s lane step moment) s.lanes.open_lanes) i r) (holds i r lane)
      (holds i r (lane_after s lane step moment))
      (kept.one_activity i r) (count-put s.lanes.open_lanes lane (lane_after s lane step moment) i r there)
      (holding s lane step moment needs i r);
  dropped = each-put (IsDroppedReported (machine_run s.machine (lane_steps lane step moment)))
      (lane_after s lane step moment) s.lanes.open_lanes
      (dropped-reported s lane step moment needs run
      (each-at (IsDroppedReported s.machine) s.lanes.open_lanes n lane found kept.dropped))
      (each-weaker (IsDroppedReported s.machine)
      (IsDroppedReported (machine_run s.machine (lane_steps lane step moment))) s.lanes.open_lanes
      (λ l. stays-reported s.machine (lane_steps lane step moment) l run) kept.dropped);
  whole = each-put IsWhole (lane_after s lane step moment) s.lanes.open_lanes
      (whole-after s lane step moment needs (each-at IsWhole s.lanes.open_lanes n lane found kept.whole)) kept.whole;
  filled = each-put IsFilled (lane_after s lane step moment) s.lanes.open_lanes
      (filled-after s lane step moment needs
      (each-at IsFilled s.lanes.open_lanes n lane found kept.filled)) kept.filled;
  decided = each-put (IsDecided (machine_run s.machine (lane_steps lane step moment)) moment)
      (lane_after s lane step moment) s.lanes.open_lanes
      (decided-after s lane step moment needs timely run
      (each-at (IsDecided s.machine s.moment) s.lanes.open_lanes n lane found kept.decided))
      (each-weaker (IsDecided s.machine s.moment)
      (IsDecided (machine_run s.machine (lane_steps lane step moment)) moment) s.lanes.open_lanes
      (λ l. decided-stays s.machine (lane_steps lane step moment) s.moment moment l timely run) kept.decided);
  recorded = each-put (λ l. (machine_run s.machine (lane_steps lane step moment)).tables ≢ [])
      (lane_after s lane step moment) s.lanes.open_lanes
      (recorded-stays s.machine (lane_steps lane step moment)
      (each-at (λ l. s.machine.tables ≢ []) s.lanes.open_lanes n lane found kept.recorded))
      (each-weaker (λ l. s.machine.tables ≢ [])
      (λ l. (machine_run s.machine (lane_steps lane step moment)).tables ≢ []) s.lanes.open_lanes
      (λ l. recorded-stays s.machine (lane_steps lane step moment)) kept.recorded);
  at_first = λ e. absurd (true≢false e);
} where
  there : lane_at (lane_after s lane step moment).number s.lanes.open_lanes ≡ Some lane
  there = subst (λ (k : ℕ). lane_at k s.lanes.open_lanes ≡ Some lane)
      (number-at s.lanes.open_lanes n lane found ∙ sym same) found

close-kept : (s : State) (n : ℕ) (lane : Lane) (moment : ℕ) → lane_at n s.lanes.open_lanes ≡ Some lane
    → IsKept s → s.moment ≤ moment
    → IsKept (record {
      machine = s.machine;
      lanes = record s.lanes { open_lanes = without_lane lane.number s.lanes.open_lanes };
      moment = moment;
      begun = true;
    })
close-kept s n lane moment found kept timely = record {
  in_time = omega (arith, kept.in_time, timely);
  numbered_lanes = numbered-without 0 s.lanes.open_lanes s.lanes.count lane.number kept.numbered_lanes;
  one_activity = λ i r. omega
      (arith, kept.one_activity i r, count-without s.lanes.open_lanes lane lane.number i r there);
  dropped = each-without (IsDroppedReported s.machine) lane.number s.lanes.open_lanes kept.dropped;
  whole = each-without IsWhole lane.number s.lanes.open_lanes kept.whole;
  filled = each-without IsFilled lane.number s.lanes.open_lanes kept.filled;
  decided = each-without (IsDecided s.machine moment) lane.number s.lanes.open_lanes
      (each-weaker (IsDecided s.machine s.moment) (IsDecided s.machine moment) s.lanes.open_lanes
      (λ l. decided-stays s.machine [] s.moment moment l timely tt) kept.decided);
  recorded = each-without (λ l. s.machine.tables ≢ []) lane.number s.lanes.open_lanes kept.recorded;
  at_first = λ e. absurd (true≢false e);
} where
  there : lane_at lane.number s.lanes.open_lanes ≡ Some lane
  there = subst (λ (k : ℕ). lane_at k s.lanes.open_lanes ≡ Some lane)
      (number-at s.lanes.open_lanes n lane found) found

on-lane-kept : (s : State) (n : ℕ) (lane : Lane) (step : LaneStep) (moment : ℕ)
    → lane_at n s.lanes.open_lanes ≡ Some lane → IsKept s → LaneNeeds s lane step moment
    → IsRun s.machine (lane_steps lane step moment) → s.moment ≤ moment
    → IsKept (record {
      machine = machine_run s.machine (lane_steps lane step moment);
      lanes = record s.lanes { open_lanes = on_lane_after s (Some lane) step moment };
      moment = moment;
      begun = true;
    })
on-lane-kept s n lane (agree checkpoint window) moment found kept needs run timely =
    put-kept s n lane (agree checkpoint window) moment found refl kept needs run timely
on-lane-kept s n lane bind moment found kept needs run timely =
    put-kept s n lane bind moment found refl kept needs run timely
on-lane-kept s n lane (start k i rs) moment found kept needs run timely =
    put-kept s n lane (start k i rs) moment found refl kept needs run timely
on-lane-kept s n lane (confirm k c) moment found kept needs run timely =
    put-kept s n lane (confirm k c) moment found refl kept needs run timely
on-lane-kept s n lane (to_end k) moment found kept needs run timely =
    put-kept s n lane (to_end k) moment found refl kept needs run timely
on-lane-kept s n lane (settle outcome k) moment found kept needs run timely =
    put-kept s n lane (settle outcome k) moment found refl kept needs run timely
on-lane-kept s n lane (abandon k) moment found kept needs run timely =
    put-kept s n lane (abandon k) moment found refl kept needs run timely
on-lane-kept s n lane (secure k p piece) moment found kept needs run timely =
    put-kept s n lane (secure k p piece) moment found refl kept needs run timely
on-lane-kept s n lane (complete k p piece) moment found kept needs run timely =
    put-kept s n lane (complete k p piece) moment found refl kept needs run timely
on-lane-kept s n lane (drop_pieces k) moment found kept needs run timely =
    put-kept s n lane (drop_pieces k) moment found refl kept needs run timely
on-lane-kept s n lane close moment found kept needs run timely = close-kept s n lane moment found kept timely

-- ---- a step beside the lanes

-- the lanes stay, and who is discharged was in no activity
beside-kept : (s : State) (steps : List MachineStep) (moment : ℕ) → IsKept s → IsRun s.machine steps
    → AreAt moment steps → s.moment ≤ moment
    → ((i r : ℕ) → (discharges steps i r ≡ 0) ⊎ IsFree s i r)
    → IsKept (record { machine = machine_run s.machine steps; lanes = s.lanes; moment = moment; begun = true })
beside-kept s steps moment kept run at timely apart = record {
  in_time = moment-within s.machine steps moment at (omega (arith, kept.in_time, timely));
  numbered_lanes = kept.numbered_lanes;
  one_activity = λ i r. by_case i r (apart i r);
  dropped = each-weaker (IsDroppedReported s.machine)
      (IsDroppedReported (machine_run s.machine steps)) s.lanes.open_lanes
      (λ l. stays-reported s.machine steps l run) kept.dropped;
  whole = kept.whole;
  filled = kept.filled;
  decided = each-weaker (IsDecided s.machine s.moment)
      (IsDecided (machine_run s.machine steps) moment) s.lanes.open_lanes
      (λ l. decided-stays s.machine steps s.moment moment l timely run) kept.decided;
  recorded = each-weaker (λ l. s.machine.tables ≢ [])
      (λ l. (machine_run s.machine steps).tables ≢ []) s.lanes.open_lanes
      (λ l. recorded-stays s.machine steps) kept.recorded;
  at_first = λ e. absurd (true≢false e);
} where
  by_case : (i r : ℕ) → (discharges steps i r ≡ 0) ⊎ IsFree s i r
      → activities_of s.lanes.open_lanes i r ≤ pending_count (machine_run s.machine steps) i r
  by_case i r (inl none) = omega (arith, kept.one_activity i r, pending-count s.machine steps i r none)
  by_case i r (inr free) = omega (arith, free)

one-discharge : (a b : Bool) → cond (a && (b || false)) 1 0 + 0 ≡ cond (a && b) 1 0
one-discharge true true = refl
one-discharge true false = refl
one-discharge false b = refl

settle-apart : (s : State) (j q : ℕ) (how : Discharge) (moment : ℕ) → IsFree s j q → (i r : ℕ)
    → (discharges (discharge j (q ∷ []) how moment ∷ []) i r ≡ 0) ⊎ IsFree s i r
settle-apart s j q how moment free i r = elim (cases_Bool (eqb i j && eqb r q)) [
  | inl here ↦ (
      let parts = and_parts (eqb i j) (eqb r q) here in
      inr (ap (λ (n : ℕ). activities_of s.lanes.open_lanes n r) (eqb-true i j parts.0) ∙
      (ap (λ (n : ℕ). activities_of s.lanes.open_lanes j n) (eqb-true r q parts.1) ∙ free)))
  | inr other ↦ inl (discharges-cons (discharge j (q ∷ []) how moment) [] i r ∙
      (one-discharge (eqb i j) (eqb r q) ∙ ap (λ (b : Bool). cond b 1 0) other))
]

peer-recorded : (tables : List (List ℕ)) (peer : List ℕ) → NamesPeer (numbered tables (length tables)) peer
    → tables ≢ []
peer-recorded [] peer named = absurd named
peer-recorded (t ∷ ts) peer named = λ e. absurd cc

class-kept : (s : State) (c : Class) (moment : ℕ) → IsKept s → StepNeeds s c moment
    → IsRun s.machine (class_steps s c moment) → s.moment ≤ moment
    → IsKept (record {
      machine = machine_left s c moment;
      lanes = lanes_after s c moment;
      moment = moment;
      begun = true;
    })
class-kept s (begins t) moment kept needs run timely =
    subst (λ (n : ℕ). IsKept (record {
      machine = machine_begun t;
      lanes = lanes_begun t;
      moment = n;
      begun = true;
    })) (sym needs.now) needs.kept
class-kept s sets_format moment kept needs run timely =
    beside-kept s (class_steps s sets_format moment) moment kept run tt timely (λ i r. inl refl)
class-kept s (records text) moment kept needs run timely =
    beside-kept s (class_steps s (records text) moment) moment kept run tt timely (λ i r. inl refl)
class-kept s (accepts octets) moment kept needs run timely =
    beside-kept s (class_steps s (accepts octets) moment) moment kept run (refl, tt) timely (λ i r. inl refl)
class-kept s (settles how j q) moment kept needs run timely =
    beside-kept s (class_steps s (settles how j q) moment) moment kept run (refl, tt) timely
    (settle-apart s j q (discharge_by how (verdict_at s.machine j q moment)) moment needs)
class-kept s (opens role peer reference twa checkpoint window) moment kept needs run timely = record {
  in_time = omega (arith, kept.in_time, timely);
  numbered_lanes = numbered-more 0 s.lanes.open_lanes s.lanes.count
      (new_lane (s.lanes.count + 1) role peer reference twa checkpoint window) refl kept.numbered_lanes;
  one_activity = λ i r. omega (
    arith,
    kept.one_activity i r,
    count-more s.lanes.open_lanes
        (new_lane (s.lanes.count + 1) role peer reference twa checkpoint window) i r,
  );
  dropped = each-more (IsDroppedReported s.machine) s.lanes.open_lanes
      (new_lane (s.lanes.count + 1) role peer reference twa checkpoint window)
      (λ drops i r has. absurd (true≢false (sym drops))) kept.dropped;
  whole = each-more IsWhole s.lanes.open_lanes (new_lane (s.lanes.count + 1) role peer reference twa checkpoint window)
      (record {
        sending = refl;
        receiving = tt;
        pieces = refl;
        before_agreed = λ e. refl;
        checkpoint_fits = needs.checkpoint_fits;
        window_fits = needs.window_fits;
        within = omega arith;
      }) kept.whole;
  filled = each-more IsFilled s.lanes.open_lanes
      (new_lane (s.lanes.count + 1) role peer reference twa checkpoint window)
      (new-filled (s.lanes.count + 1) role peer reference twa checkpoint window) kept.filled;
  decided = each-more (IsDecided s.machine moment) s.lanes.open_lanes
      (new_lane (s.lanes.count + 1) role peer reference twa checkpoint window)
      (λ moves. absurd (true≢false (sym moves)))
      (each-weaker (IsDecided s.machine s.moment) (IsDecided s.machine moment) s.lanes.open_lanes
      (λ l. decided-stays s.machine [] s.moment moment l timely tt) kept.decided);
  recorded = each-more (λ l. s.machine.tables ≢ []) s.lanes.open_lanes
      (new_lane (s.lanes.count + 1) role peer reference twa checkpoint window)
      (peer-recorded s.machine.tables peer needs.named) kept.recorded;
  at_first = λ e. absurd (true≢false e);
}
class-kept s (on_lane n g step) moment kept needs run timely =
    subst (λ (o : Option Lane). IsRun s.machine (on_lane_steps o step moment)
    → IsKept (record {
      machine = machine_run s.machine (on_lane_steps o step moment);
      lanes = record s.lanes { open_lanes = on_lane_after s o step moment };
      moment = moment;
      begun = true;
    }))
    (sym needs.lane_is) (λ r. on-lane-kept s n needs.lane step moment needs.lane_is kept needs.needs r timely) run

pub steps_keep : StepsKeep
steps_keep s step kept possible =
    class-kept s (class_of step) (when s step) kept possible.allowed (step_run s step kept possible) possible.timely

pub empty_kept : IsKept empty
empty_kept = record {
  in_time = omega arith;
  numbered_lanes = omega arith;
  one_activity = λ i r. omega arith;
  dropped = tt;
  whole = tt;
  filled = tt;
  decided = tt;
  recorded = tt;
  at_first = λ e. refl;
}

keep-along : (s : State) (steps : List Step) → IsKept s → ArePossible s steps → IsKept (after_from s steps)
keep-along s [] kept possible = kept
keep-along s (step ∷ steps) kept possible =
    keep-along (after_step s step) steps (steps_keep s step kept possible.0) possible.1

pub histories_keep : HistoriesKeep
histories_keep steps history = keep-along empty steps empty_kept history
