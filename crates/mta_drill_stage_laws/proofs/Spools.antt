-- The steps of a message at both spools: each is possible, and what it leaves.
use Rattle.std.proofs.Common.{◌≡◌, ◌<◌, ◌≤◌, ℕ, zero, suc, ◌+◌, ◌-◌, ◌*◌, ◌^◌, ◌==◌, ◌&&◌, Bool, true, false, nat_lt}
use Rattle.std.proofs.Common.{nat_le}
use Rattle.std.proofs.Common.{List, [], ◌∷◌, ◌++◌, length, take, Option, Some, None, Result, Ok, Err, refl, sym, ◌∙◌}
use Rattle.std.proofs.Common.{ap}
use Rattle.std.proofs.Common.{subst, arith}
use Rattle.std.specs.List.{concat}
use Rattle.std.proofs.lemmas.Bool.{and_from, eq-eqb, le-leb, lt-ltb}
use Rattle.mta_lane_send.specs.declared.state.SendState.{SendState}
use Rattle.mta_lane_send.specs.declared.state.SendState.TheVariants as state
use Rattle.mta_lane_send.specs.Half.{confirmed_at, confirmed_of, goes_on, last_of}
use Rattle.mta_lane_recv.specs.declared.state.Last.{Last}
use Rattle.mta_lane_recv.specs.declared.state.Last.TheVariants as last
use Rattle.mta_lane_recv.specs.Half.{takes_piece}
use Rattle.mta_lane_recv.specs.Half as recv
use Rattle.mta_transfer_rules.specs.Pieces.{is_last, piece_of}
use Rattle.mta_records.specs.Outgoing.{Carried}
use Rattle.mta_records.specs.declared.fault.StepFault.{StepFault}
use Rattle.mta_records.specs.declared.lane.Batch.{Batch}
use Rattle.mta_records.specs.declared.step.Step.{Step}
use Rattle.mta_records.specs.declared.step.Step.TheVariants as step
use Rattle.mta_machine.specs.Items.{Machine}
use Rattle.mta_histories.specs.Classes.{LaneStep, class_of, confirm, secure, to_end, settle, was_sent, close}
use Rattle.mta_histories.specs.Due.{IsBatch}
use Rattle.mta_histories.specs.History.{IsOfGeneration, IsOnLane, IsPossible, LaneNeeds, TakesPiece, after_step}
use Rattle.mta_histories.specs.History.{transfer_of, when, with_piece}
use Rattle.mta_histories.specs.Lanes.{Lane, Transfer, lane_at}
use Rattle.mta_histories.specs.Lanes.{State as SpoolState}
use Rattle.mta_histories.proofs.Dues.{batches_may_start}
use Rattle.mta_apdu.specs.Apdus.{apdu_of, message}
use Rattle.mta_drill_laws.specs.Messages.{copied, copy_of}
use Rattle.mta_drill_laws.specs.Tables.{east}
use Rattle.mta_drill_laws.proofs.Delivered.{copies_delivered}
use Rattle.mta_drill_step_laws.specs.First.{HasAccepted}
use Rattle.mta_drill_step_laws.specs.Second.{HasGot}
use Rattle.mta_drill_step_laws.specs.States.{is_still}
use Rattle.mta_drill_step_laws.proofs.States.{complete_is_one_more, sent_is_one_more, still_steps, transfer_is_copy}
use Rattle.mta_drill_stage_laws.specs.Settings.{FirstHolds, HasMore, IsSized, SecondHolds, Setting, StandsFirst}
use Rattle.mta_drill_stage_laws.specs.Settings.{Of_none, Of_part, Transfers}
use Rattle.mta_drill_stage_laws.specs.Settings.{first_lane, firsts, lasting, octets_behind, second_lane, under_way}
use Rattle.mta_drill_stage_laws.specs.World.{Completed, Made, Started}
use Rattle.mta_drill_stage_laws.proofs.Pieces.{firsts-next, firsts-short, firsts-whole, no-firsts, octets-few}
use Rattle.mta_drill_stage_laws.proofs.Pieces.{piece-short, piece-some, take-firsts}

-- ---- the state of the activity

pub confirmed_so : (b : Bool) (k c : ℕ) → confirmed_of (under_way b k c) ≡ c
confirmed_so true k c = refl
confirmed_so false k c = refl

pub last_so : (b : Bool) (k c : ℕ) → last_of (under_way b k c) ≡ k
last_so true k c = refl
last_so false k c = refl

pub going_so : (b : Bool) (k c : ℕ) → goes_on (under_way b k c) k ≡ true
going_so true k c = eq-eqb k k refl
going_so false k c = eq-eqb k k refl

pub confirmed_then : (b : Bool) (k c n : ℕ) → confirmed_at (under_way b k c) n ≡ under_way b k n
confirmed_then true k c n = refl
confirmed_then false k c n = refl

-- ---- lanes

-- the state with these lanes
abbrev pub with_lanes : SpoolState → List Lane → SpoolState
with_lanes s ls = record s { lanes = record { count = s.lanes.count; open_lanes = ls } }

pub lanes_so : (s : SpoolState) (made : Step) (ls : List Lane) → s.lanes.open_lanes ≡ ls
    → (after_step s made).lanes.open_lanes ≡ (after_step (with_lanes s ls) made).lanes.open_lanes
lanes_so s made ls e = ap (λ z. (after_step (with_lanes s z) made).lanes.open_lanes) e

-- a step that the items do not see
first_after : (x : Setting) (s : SpoolState) (done : ℕ) (st next : SendState) (transfer : Option Transfer) (made : Step)
    → FirstHolds x s done st transfer → is_still (class_of made) ≡ true → when s made ≡ s.moment
    → (after_step (with_lanes s (first_lane x st transfer ∷ [])) made).lanes.open_lanes
    ≡ first_lane x next transfer ∷ []
    → FirstHolds x (after_step s made) done next transfer
first_after x s done st next transfer made h i w e = record {
  lanes = lanes_so s made (first_lane x st transfer ∷ []) h.lanes ∙ e;
  accepted = subst (λ (m : Machine). HasAccepted x.before x.count done m) (sym (still_steps s made i)) h.accepted;
  moment = w ∙ h.moment;
}

on_first : (x : Setting) (s : SpoolState) (done : ℕ) (st : SendState) (transfer : Option Transfer) (ls : LaneStep)
    (m : ℕ) → FirstHolds x s done st transfer
    → IsOfGeneration (first_lane x st transfer) (Some x.generation) ls
    → LaneNeeds s (first_lane x st transfer) ls m → IsOnLane s 1 (Some x.generation) ls m
on_first x s done st transfer ls m h g needs = record {
  lane = first_lane x st transfer;
  lane_is = ap (lane_at 1) h.lanes;
  current = g;
  needs = needs;
}

-- what is made where it is possible
pub made_so : {T E : Type 0} (s new : SpoolState) (made : Step) (y : Result T E) → IsPossible s made
    → length s.machine.items + 2 < 2 ^ 32 → Made s made y new
    → (t : T) × (y ≡ Ok t) × (new ≡ after_step s made)
made_so s new made (Ok t) p l h = (t, refl, h)
made_so s new made (Err f) p l h = absurd (h p l)

first_few : (x : Setting) (s : SpoolState) (done : ℕ) (st : SendState) (transfer : Option Transfer) → IsSized x
    → FirstHolds x s done st transfer → length s.machine.items ≤ 1000
first_few x s done st transfer sized h =
    let few : x.count ≤ 1000 = sized.few in
    omega (arith, h.accepted.items, few)

-- ---- Confirm

confirms : (x : Setting) (done c n : ℕ) (b : Bool) (t : Transfer) → Transfers x done t → c < n
    → HasMore (octets_behind x done) n
    → (goes_on (under_way b (done + 1) c) (done + 1) && nat_lt (confirmed_of (under_way b (done + 1) c)) n
    && nat_lt (1024 * n) (length t.octets)) ≡ true
confirms x done c n b t is more has =
    and_from (goes_on (under_way b (done + 1) c) (done + 1) && nat_lt (confirmed_of (under_way b (done + 1) c)) n)
    (nat_lt (1024 * n) (length t.octets))
    (and_from (goes_on (under_way b (done + 1) c) (done + 1)) (nat_lt (confirmed_of (under_way b (done + 1) c)) n)
    (going_so b (done + 1) c)
    (lt-ltb (confirmed_of (under_way b (done + 1) c)) n (omega (arith, confirmed_so b (done + 1) c, more))))
    (lt-ltb (1024 * n) (length t.octets) (omega (arith, ap length is.octets, has)))

pub first_confirms : (x : Setting) (s new : SpoolState) (done c n : ℕ) (b : Bool) (t : Transfer)
    (y : Result (Unit {0}) StepFault) → IsSized x → Transfers x done t
    → FirstHolds x s done (under_way b (done + 1) c) (Some t) → c < n → HasMore (octets_behind x done) n
    → Made s (step.Confirm 1 x.generation (done + 1) n) y new
    → (y ≡ Ok tt) × FirstHolds x new done (under_way b (done + 1) n) (Some t)
first_confirms x s new done c n b t y sized is h more has m =
    let made = step.Confirm 1 x.generation (done + 1) n in
    let few = first_few x s done (under_way b (done + 1) c) (Some t) sized h in
    let possible : IsPossible s made = record {
      allowed = on_first x s done (under_way b (done + 1) c) (Some t) (confirm (done + 1) n) s.moment h refl
          (confirms x done c n b t is more has);
      as_machine = tt;
      timely = omega arith;
      numbers = omega (arith, ap (λ (z : Machine). length z.items) (still_steps s made refl), few);
    } in
    let is_made = made_so s new made y possible (omega (arith, few)) m in
    let after = first_after x s done (under_way b (done + 1) c) (under_way b (done + 1) n) (Some t) made h refl refl
    (ap (λ z. first_lane x z (Some t) ∷ []) (confirmed_then b (done + 1) c n)) in
    (is_made.1, subst (λ z. FirstHolds x z done (under_way b (done + 1) n) (Some t)) (sym is_made.2) after)

-- ---- Ending

pub first_ends : (x : Setting) (s new : SpoolState) (done c : ℕ) (t : Transfer) (y : Result (Unit {0}) StepFault)
    → IsSized x → FirstHolds x s done (state.Sending (done + 1) c) (Some t)
    → Made s (step.Ending 1 x.generation (done + 1)) y new
    → (y ≡ Ok tt) × FirstHolds x new done (state.Ending (done + 1) c) (Some t)
first_ends x s new done c t y sized h m =
    let made = step.Ending 1 x.generation (done + 1) in
    let few = first_few x s done (state.Sending (done + 1) c) (Some t) sized h in
    let possible : IsPossible s made = record {
      allowed = on_first x s done (state.Sending (done + 1) c) (Some t) (to_end (done + 1)) s.moment h refl
          (eq-eqb (done + 1) (done + 1) refl);
      as_machine = tt;
      timely = omega arith;
      numbers = omega (arith, ap (λ (z : Machine). length z.items) (still_steps s made refl), few);
    } in
    let is_made = made_so s new made y possible (omega (arith, few)) m in
    let after = first_after x s done (state.Sending (done + 1) c) (state.Ending (done + 1) c) (Some t) made h refl refl
    refl in
    (is_made.1, subst (λ z. FirstHolds x z done (state.Ending (done + 1) c) (Some t)) (sym is_made.2) after)

-- ---- Sent

sent_after : (x : Setting) (s : SpoolState) (done c : ℕ) (t : Transfer) → Transfers x done t → done < x.count
    → FirstHolds x s done (state.Ending (done + 1) c) (Some t)
    → FirstHolds x (after_step s (step.Sent 1 x.generation (done + 1) 0)) (done + 1) (state.Idle (done + 1)) None
sent_after x s done c t is below h = record {
  lanes = lanes_so s (step.Sent 1 x.generation (done + 1) 0)
      (first_lane x (state.Ending (done + 1) c) (Some t) ∷ []) h.lanes ∙ refl;
  accepted = sent_is_one_more x.before x.count done 1 x.generation (done + 1) s
      (first_lane x (state.Ending (done + 1) c) (Some t)) h.accepted below (ap (lane_at 1) h.lanes) (record {
        peer = refl;
        transfer = t;
        transfer_is = refl;
        item = is.item;
        recipients = is.recipients;
      });
  moment = refl;
}

pub first_sends : (x : Setting) (s new : SpoolState) (done c : ℕ) (t : Transfer) (y : Result (Unit {0}) StepFault)
    → IsSized x → Transfers x done t → done < x.count
    → FirstHolds x s done (state.Ending (done + 1) c) (Some t)
    → Made s (step.Sent 1 x.generation (done + 1) s.moment) y new
    → (y ≡ Ok tt) × FirstHolds x new (done + 1) (state.Idle (done + 1)) None
first_sends x s new done c t y sized is below h m =
    let made = step.Sent 1 x.generation (done + 1) 0 in
    let few = first_few x s done (state.Ending (done + 1) c) (Some t) sized h in
    let after = sent_after x s done c t is below h in
    let small : x.count ≤ 1000 = sized.few in
    let possible : IsPossible s made = record {
      allowed = on_first x s done (state.Ending (done + 1) c) (Some t) (settle was_sent (done + 1)) 0 h refl
          (eq-eqb (done + 1) (done + 1) refl);
      as_machine = tt;
      timely = omega (arith, h.moment);
      numbers = omega (arith, after.accepted.items, small);
    } in
    let at_0 : Made s made y new = subst (λ (z : ℕ). Made s (step.Sent 1 x.generation (done + 1) z) y new) h.moment m in
    let is_made = made_so s new made y possible (omega (arith, few)) at_0 in
    (is_made.1, subst (λ z. FirstHolds x z (done + 1) (state.Idle (done + 1)) None) (sym is_made.2) after)

-- ---- Start

copy_so : (x : Setting) (s : SpoolState) (done i m : ℕ) (rs : List ℕ) → i ≡ done + 1 → rs ≡ 1 ∷ [] → m ≡ 0
    → HasAccepted x.before x.count done s.machine → done < x.count
    → (transfer_of s.machine i rs m).octets ≡ octets_behind x done
copy_so x s done i m rs ei er em h below =
    ap (λ (z : ℕ). (transfer_of s.machine z rs m).octets) ei
    ∙ ap (λ (z : List ℕ). (transfer_of s.machine (done + 1) z m).octets) er
    ∙ ap (λ (z : ℕ). (transfer_of s.machine (done + 1) (1 ∷ []) z).octets) em
    ∙ transfer_is_copy x.before x.count done s h below

start_after : (x : Setting) (s : SpoolState) (done i : ℕ) (rs : List ℕ) → FirstHolds x s done (state.Idle done) None
    → FirstHolds x (after_step s (step.Start 1 x.generation (done + 1) i rs s.moment)) done
    (state.Sending (done + 1) 0) (Some (transfer_of s.machine i rs s.moment))
start_after x s done i rs h =
    let made = step.Start 1 x.generation (done + 1) i rs s.moment in
    record {
      lanes = lanes_so s made (first_lane x (state.Idle done) None ∷ []) h.lanes ∙ refl;
      accepted = subst (λ (m : Machine). HasAccepted x.before x.count done m) (sym (still_steps s made refl))
          h.accepted;
      moment = h.moment;
    }

pub record HasStarted (x : Setting) (new : SpoolState) (done : ℕ) (y : Result Carried StepFault) : Type 0 where
  pub outgoing : Carried
  pub answer : y ≡ Ok outgoing
  pub activity : outgoing.activity ≡ done + 1
  pub octets : outgoing.octets ≡ octets_behind x done
  pub transfer : Transfer
  pub is : Transfers x done transfer
  pub holds : FirstHolds x new done (state.Sending (done + 1) 0) (Some transfer)

pub first_starts : (x : Setting) (s new : SpoolState) (done : ℕ) (batch : Batch) (y : Result Carried StepFault)
    → IsSized x → done < x.count → FirstHolds x s done (state.Idle done) None
    → IsBatch s east s.moment batch.item batch.recipients → batch.item ≡ done + 1 → batch.recipients ≡ 1 ∷ []
    → Started s 1 x.generation batch y new (first_lane x (state.Idle done) None) → HasStarted x new done y
first_starts x s new done batch y sized below h batch_is ei er started =
    let made = step.Start 1 x.generation (done + 1) batch.item batch.recipients s.moment in
    let small : x.count ≤ 1000 = sized.few in
    let few = first_few x s done (state.Idle done) None sized h in
    let possible : IsPossible s made = batches_may_start s 1 (first_lane x (state.Idle done) None) s.moment batch.item
    batch.recipients (omega arith) (ap (lane_at 1) h.lanes) refl refl batch_is (omega (arith, few)) in
    let is_made = made_so s new made y possible (omega (arith, few))
    (started.made (omega (arith, below, small))) in
    let copy = copy_so x s done batch.item s.moment batch.recipients ei er h.moment h.accepted below in
    by is_made.0 is_made.1 (subst (λ z. FirstHolds x z done (state.Sending (done + 1) 0)
    (Some (transfer_of s.machine batch.item batch.recipients s.moment))) (sym is_made.2)
    (start_after x s done batch.item batch.recipients h)) copy started
  where
    by : (o : Carried) → y ≡ Ok o
        → FirstHolds x new done (state.Sending (done + 1) 0)
        (Some (transfer_of s.machine batch.item batch.recipients s.moment))
        → (transfer_of s.machine batch.item batch.recipients s.moment).octets ≡ octets_behind x done
        → Started s 1 x.generation batch y new (first_lane x (state.Idle done) None) → HasStarted x new done y
    by o e holds copy started =
        let here = subst (λ z. Started s 1 x.generation batch z new (first_lane x (state.Idle done) None)) e started in
        record {
          outgoing = o;
          answer = e;
          activity = here.activity;
          octets = here.octets ∙ copy;
          transfer = transfer_of s.machine batch.item batch.recipients s.moment;
          is = record { item = ei; recipients = er; octets = copy };
          holds = holds;
        }

-- ---- the lane is closed

pub first_closes : (x : Setting) (s new : SpoolState) (done : ℕ) (y : Result (Unit {0}) StepFault) → IsSized x
    → FirstHolds x s done (state.Idle done) None → Made s (step.CloseLane 1 x.generation) y new
    → (y ≡ Ok tt) × (new.lanes.open_lanes ≡ []) × HasAccepted x.before x.count done new.machine × (new.moment ≡ 0)
first_closes x s new done y sized h m =
    let made = step.CloseLane 1 x.generation in
    let few = first_few x s done (state.Idle done) None sized h in
    let possible : IsPossible s made = record {
      allowed = on_first x s done (state.Idle done) None close s.moment h refl refl;
      as_machine = tt;
      timely = omega arith;
      numbers = omega (arith, ap (λ (z : Machine). length z.items) (still_steps s made refl), few);
    } in
    let is_made = made_so s new made y possible (omega (arith, few)) m in
    let lanes = lanes_so s made (first_lane x (state.Idle done) None ∷ []) h.lanes in
    let accepted = subst (λ (z : Machine). HasAccepted x.before x.count done z) (sym (still_steps s made refl))
    h.accepted in (
      is_made.1,
      ap (λ (z : SpoolState). z.lanes.open_lanes) is_made.2 ∙ lanes,
      subst (λ (z : SpoolState). HasAccepted x.before x.count done z.machine) (sym is_made.2) accepted,
      ap (λ (z : SpoolState). z.moment) is_made.2 ∙ h.moment,
    )

-- ---- the second agent

on_second : (x : Setting) (s : SpoolState) (got high : ℕ) (l : Last) (pieces : List (List ℕ)) (ls : LaneStep) (m : ℕ)
    → SecondHolds x s got high l pieces → IsOfGeneration (second_lane x high l pieces) (Some x.generation) ls
    → LaneNeeds s (second_lane x high l pieces) ls m → IsOnLane s 1 (Some x.generation) ls m
on_second x s got high l pieces ls m h g needs = record {
  lane = second_lane x high l pieces;
  lane_is = ap (lane_at 1) h.lanes;
  current = g;
  needs = needs;
}

second_few : (x : Setting) (s : SpoolState) (got high : ℕ) (l : Last) (pieces : List (List ℕ))
    → SecondHolds x s got high l pieces → got ≤ 1001 → length s.machine.items ≤ 1001
second_few x s got high l pieces h few = omega (arith, h.has.items, few)

-- the piece behind the first n is taken where no more than these stand for sure
takes_next : (d high : ℕ) → high ≡ d → takes_piece high (lasting d) (d + 1) (0 + 1) ≡ true
takes_next zero high e = and_from (nat_lt high (zero + 1)) (0 + 1 == 1) (lt-ltb high (zero + 1) (omega (arith, e))) refl
takes_next (suc d) high e =
    and_from (nat_lt high (suc d + 1)) (0 + 1 == 1) (lt-ltb high (suc d + 1) (omega (arith, e))) refl

pub takes_first : (done : ℕ) (o : List ℕ) (n got high : ℕ) (l : Last) (pieces : List (List ℕ))
    → StandsFirst done o n got high l pieces → takes_piece high l (done + 1) (n + 1) ≡ true
takes_first done o n got high l pieces (Of_none z h) =
    subst (λ (k : ℕ). takes_piece high l (done + 1) (k + 1) ≡ true) (sym z)
    (subst (λ (w : Last). takes_piece high w (done + 1) (0 + 1) ≡ true) (sym h.last_is)
    (takes_next done high h.high_is))
takes_first done o n got high l pieces (Of_part m le h) =
    subst (λ (w : Last). takes_piece high w (done + 1) (n + 1) ≡ true) (sym h.last_is)
    (and_from ((done + 1 == done + 1) && nat_le 1 (n + 1)) (nat_le (n + 1) (m + 1))
    (and_from (done + 1 == done + 1) (nat_le 1 (n + 1)) (eq-eqb (done + 1) (done + 1) refl)
    (le-leb 1 (n + 1) (omega arith)))
    (le-leb (n + 1) (m + 1) (omega (arith, le))))

-- the pieces up to the one behind the first n, with that one
pub with_next : (done : ℕ) (o : List ℕ) (n got high : ℕ) (l : Last) (pieces : List (List ℕ))
    → StandsFirst done o n got high l pieces
    → with_piece pieces (n + 1) (piece_of 1024 o (n + 1)) ≡ firsts o (n + 1)
with_next done o n got high l pieces h =
    ap (λ (k : ℕ). take k pieces ++ piece_of 1024 o (n + 1) ∷ []) (let e : n + 1 - 1 ≡ n = omega arith in e)
    ∙ ap (λ (z : List (List ℕ)). z ++ piece_of 1024 o (n + 1) ∷ []) (fronts h)
    ∙ sym (firsts-next o n)
  where
    fronts : StandsFirst done o n got high l pieces → take n pieces ≡ firsts o n
    fronts (Of_none z s) =
        ap (λ (ps : List (List ℕ)). take n ps) s.pieces_is ∙ ap (λ (k : ℕ). take k []) z
        ∙ sym (ap (firsts o) z ∙ no-firsts o)
    fronts (Of_part m le s) = ap (λ (ps : List (List ℕ)). take n ps) s.pieces_is ∙ take-firsts o n m le

pub stands_got : (done : ℕ) (o : List ℕ) (n got high : ℕ) (l : Last) (pieces : List (List ℕ))
    → StandsFirst done o n got high l pieces → got ≡ done
stands_got done o n got high l pieces (Of_none z s) = s.got_is
stands_got done o n got high l pieces (Of_part m le s) = s.got_is

takes_so : (x : Setting) (done n got high : ℕ) (l : Last) (pieces : List (List ℕ)) (how : ℕ → ℕ → recv.RecvStep)
    → ((k m : ℕ) → recv.is_possible (record { generation = x.generation; high = high; last = l }) (how k m)
    ≡ takes_piece high l k m)
    → StandsFirst done (octets_behind x done) n got high l pieces → HasMore (octets_behind x done) n
    → TakesPiece (second_lane x high l pieces) (how (done + 1) (n + 1)) (n + 1)
    (piece_of 1024 (octets_behind x done) (n + 1))
takes_so x done n got high l pieces how is h more =
    let o = octets_behind x done in
    record {
      agreed = refl;
      taken = is (done + 1) (n + 1) ∙ takes_first done o n got high l pieces h;
      some_octets = piece-some o n more;
      short = piece-short o n;
      within = omega (
        arith,
        ap (λ (z : List (List ℕ)). length (concat z)) (with_next done o n got high l pieces h),
        firsts-short o (n + 1),
        octets-few x done,
      );
    }

pub second_secures : (x : Setting) (s new : SpoolState) (done n got high : ℕ) (l : Last) (pieces : List (List ℕ))
    (T : Type 0) (y : Result (Unit {0}) T) → SecondHolds x s got high l pieces
    → StandsFirst done (octets_behind x done) n got high l pieces → HasMore (octets_behind x done) n → done ≤ 1000
    → Made s (step.Secure 1 x.generation (done + 1) (n + 1) (piece_of 1024 (octets_behind x done) (n + 1))) y new
    → (y ≡ Ok tt)
    × SecondHolds x new got (done + 1) (last.Partial (done + 1) (n + 1)) (firsts (octets_behind x done) (n + 1))
second_secures x s new done n got high l pieces T y h stands more few m =
    let o = octets_behind x done in
    let made = step.Secure 1 x.generation (done + 1) (n + 1) (piece_of 1024 o (n + 1)) in
    let items = second_few x s got high l pieces h (omega (arith, stands_got done o n got high l pieces stands, few)) in
    let possible : IsPossible s made = record {
      allowed = on_second x s got high l pieces (secure (done + 1) (n + 1) (piece_of 1024 o (n + 1))) s.moment h refl
          (takes_so x done n got high l pieces recv.Secure (λ k m. refl) stands more);
      as_machine = tt;
      timely = omega arith;
      numbers = omega (arith, ap (λ (z : Machine). length z.items) (still_steps s made refl), items);
    } in
    let is_made = made_so s new made y possible (omega (arith, items)) m in
    let after : SecondHolds x (after_step s made) got (done + 1) (last.Partial (done + 1) (n + 1)) (firsts o (n + 1))
    = record {
      lanes = lanes_so s made (second_lane x high l pieces ∷ []) h.lanes
          ∙ ap (λ (z : List (List ℕ)). second_lane x (done + 1) (last.Partial (done + 1) (n + 1)) z ∷ [])
          (with_next done o n got high l pieces stands);
      has = subst (λ (z : Machine). HasGot x.before got x.given z) (sym (still_steps s made refl)) h.has;
      moment = h.moment;
    } in (
      is_made.1,
      subst (λ z. SecondHolds x z got (done + 1) (last.Partial (done + 1) (n + 1)) (firsts o (n + 1))) (sym is_made.2)
          after,
    )

complete_so : {T E : Type 0} (x : Setting) (s new : SpoolState) (k m : ℕ) (piece octets : List ℕ) (y : Result T E)
    (lane : Lane) → TakesPiece lane (recv.Complete k m) m piece → concat (with_piece lane.pieces m piece) ≡ octets
    → (i : ℕ) → octets ≡ copy_of i → x.generation ≡ lane.generation → length s.machine.items + 2 < 2 ^ 32
    → Completed s 1 x.generation k m piece y new lane
    → (t : T) × (y ≡ Ok t) × (new ≡ after_step s (step.Complete 1 x.generation k m piece s.moment))
complete_so x s new k m piece octets (Ok t) lane takes whole i is g items h = (t, refl, h)
complete_so x s new k m piece octets (Err f) lane takes whole i is g items h =
    absurd (h g takes (message (copied i)) (ap apdu_of (whole ∙ is) ∙ (copies_delivered i).read) items)

pub second_completes : (x : Setting) (s new : SpoolState) (done n got high : ℕ) (l : Last) (pieces : List (List ℕ))
    (T : Type 0) (y : Result ℕ T) → SecondHolds x s got high l pieces
    → StandsFirst done (octets_behind x done) n got high l pieces → HasMore (octets_behind x done) n
    → is_last 1024 (octets_behind x done) (n + 1) ≡ true → done ≤ 1000
    → Completed s 1 x.generation (done + 1) (n + 1) (piece_of 1024 (octets_behind x done) (n + 1)) y new
    (second_lane x high l pieces)
    → (i : ℕ) × (y ≡ Ok i) × SecondHolds x new (got + 1) (done + 1) (last.Done (done + 1)) []
second_completes x s new done n got high l pieces T y h stands more l_is few m =
    let o = octets_behind x done in
    let piece = piece_of 1024 o (n + 1) in
    let made = step.Complete 1 x.generation (done + 1) (n + 1) piece s.moment in
    let got_is = stands_got done o n got high l pieces stands in
    let items = second_few x s got high l pieces h (omega (arith, got_is, few)) in
    let whole : concat (with_piece pieces (n + 1) piece) ≡ o =
    ap concat (with_next done o n got high l pieces stands) ∙ firsts-whole o n l_is in
    let is_made = complete_so x s new (done + 1) (n + 1) piece o y (second_lane x high l pieces)
    (takes_so x done n got high l pieces recv.Complete (λ k m. refl) stands more) whole
    (x.before + (done + 1)) refl refl
    (omega (arith, items)) m in
    let copy : concat (with_piece pieces (n + 1) piece) ≡ copy_of (x.before + (got + 1)) =
    whole ∙ ap (λ (z : ℕ). copy_of (x.before + (z + 1))) (sym got_is) in
    let after : SecondHolds x (after_step s made) (got + 1) (done + 1) (last.Done (done + 1)) [] = record {
      lanes = lanes_so s made (second_lane x high l pieces ∷ []) h.lanes;
      has = subst (λ (z : ℕ). HasGot x.before (got + 1) x.given
          (after_step s (step.Complete 1 x.generation (done + 1) (n + 1) piece z)).machine) (sym h.moment)
          (complete_is_one_more x.before got x.given 1 x.generation (done + 1) (n + 1) piece s
          (second_lane x high l pieces) h.has (ap (lane_at 1) h.lanes) copy);
      moment = h.moment;
    } in (
      is_made.0,
      is_made.1,
      subst (λ z. SecondHolds x z (got + 1) (done + 1) (last.Done (done + 1)) []) (sym is_made.2) after,
    )

pub second_closes : (x : Setting) (s new : SpoolState) (got high : ℕ) (l : Last) (pieces : List (List ℕ)) (T : Type 0)
    (y : Result (Unit {0}) T) → SecondHolds x s got high l pieces → got ≤ 1000
    → Made s (step.CloseLane 1 x.generation) y new
    → (y ≡ Ok tt) × (new.lanes.open_lanes ≡ []) × HasGot x.before got x.given new.machine
    × (new.moment ≡ 0)
second_closes x s new got high l pieces T y h small m =
    let made = step.CloseLane 1 x.generation in
    let few = second_few x s got high l pieces h (omega (arith, small)) in
    let possible : IsPossible s made = record {
      allowed = on_second x s got high l pieces close s.moment h refl refl;
      as_machine = tt;
      timely = omega arith;
      numbers = omega (arith, ap (λ (z : Machine). length z.items) (still_steps s made refl), few);
    } in
    let is_made = made_so s new made y possible (omega (arith, few)) m in
    let lanes = lanes_so s made (second_lane x high l pieces ∷ []) h.lanes in
    let has = subst (λ (z : Machine). HasGot x.before got x.given z) (sym (still_steps s made refl)) h.has in (
      is_made.1,
      ap (λ (z : SpoolState). z.lanes.open_lanes) is_made.2 ∙ lanes,
      subst (λ (z : SpoolState). HasGot x.before got x.given z.machine) (sym is_made.2) has,
      ap (λ (z : SpoolState). z.moment) is_made.2 ∙ h.moment,
    )
