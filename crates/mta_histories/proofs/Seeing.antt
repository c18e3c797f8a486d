-- What the lanes see of a history leads to the lanes that are open after it.
use Rattle.std.proofs.Common.{◌≡◌, ℕ, zero, suc, ◌+◌, ◌-◌, ◌*◌, ◌≤◌, ◌<◌, Bool, true}
use Rattle.std.proofs.Common.{false, cond, eqb, nat_lt, nat_le, List, [], ◌∷◌, ◌++◌, length, take, Option}
use Rattle.std.proofs.Common.{Some, None, refl, sym, ap, subst, ◌∙◌, arith, inl, inr}
use Rattle.std.specs.Prelude.{◌⊎◌, ◌&&◌}
use Rattle.std.specs.List.{concat}
use Rattle.std.proofs.lemmas.Bool.{cases_Bool, eqb-true, eq-eqb, ne_eqb, and_parts, cond-true, cond-false, ltb-true}
use Rattle.std.specs.Prelude.{map}
use Rattle.std.proofs.lemmas.Bool.{leb-true, leb-false, eqb-false}
use Rattle.std.proofs.lemmas.Bool.{lt-leb, cases_lt, true≢false}
use Rattle.std.proofs.lemmas.List.{append-nil, append_assoc}
use Rattle.mta_lane_send.specs.declared.state.SendState.{SendState}
use Rattle.mta_lane_send.specs.declared.state.SendState.TheVariants.{Idle, Sending, Ending, Dropping}
use Rattle.mta_lane_send.specs.Half.{confirmed_of, goes_on, is_ending, is_live, is_idle, last_of}
use Rattle.mta_lane_send.specs.Pieces.{has_piece_after}
use Rattle.mta_transfer_rules.specs.Pieces.{is_last, joined}
use Rattle.mta_records.specs.declared.step.Step.{Step}
use Rattle.mta_machine.specs.Apdu.{IsApdu}
use Rattle.mta_histories.specs.Lanes.{Transfer, Lane, Lanes, State, empty, lane_at, put_lane, without_lane}
use Rattle.mta_histories.specs.Lanes.{total_of}
use Rattle.mta_histories.specs.Classes.{was_sent, was_refused, was_denied, was_dropped, LaneStep, agree, bind}
use Rattle.mta_histories.specs.Classes.{start, confirm, to_end, settle, abandon, secure, complete, drop_pieces, close}
use Rattle.mta_records.specs.State.{SnapshotValue}
use Rattle.mta_histories.specs.Classes.{Class, begins, sets_format, records, accepts, settles, opens, on_lane, class_of}
use Rattle.mta_histories.specs.History.{LaneNeeds, StepNeeds, IsOfGeneration, with_piece, transfer_of}
use Rattle.mta_histories.specs.History.{lane_after, on_lane_after, lanes_after, new_lane, when, after_step, after_from}
use Rattle.mta_histories.specs.History.{after, ArePossible, state_left, IsHistory}
use Rattle.mta_histories.specs.Sound.{lanes_begun}
use Rattle.mta_histories.proofs.Runs.{not-begun-again}
use Rattle.mta_histories.specs.Kept.{IsKept, AreNumbered}
use Rattle.mta_transfer_rules.specs.Lanes.{On, SeenStep, LaneOpen, CloseLane, Halves, Closed}
use Rattle.mta_transfer_rules.specs.Lanes.{unopened, Allows, halves_after, of_lane, of_lane_all}
use Rattle.mta_transfer_rules.specs.Lanes.{halves_run, AreAllowed, Seen, Elsewhere, Begins, closed_before, lane_begun}
use Rattle.mta_transfer_rules.specs.Lanes.{lane_at_first, lane_in}
use Rattle.mta_histories.specs.Seen.{told, checkpoint_unit, seen_by, seen_of, annotated_from, annotated, transferred}
use Rattle.mta_histories.specs.Seen.{halves_of, numbered_halves, LanesSeeHistories}
use Rattle.mta_histories.proofs.LaneLists.{each-weaker, number-at, number-within, number-above}
use Rattle.mta_histories.proofs.Falls.{each-found}
use Rattle.mta_histories.proofs.Keeps.{start-octets, steps_keep, empty_kept, histories_keep}
use Rattle.mta_histories.proofs.Shown.{put-found, put-other, without-none, without-other, more-found, more-other}

-- ---- the halves of one lane

live-last : (st : SendState) (k : ℕ) → is_live st k ≡ true → last_of st ≡ k
live-last (Idle l) k e = absurd cc
live-last (Sending j c) k e = sym (eqb-true k j e)
live-last (Ending j c) k e = sym (eqb-true k j e)
live-last (Dropping j) k e = sym (eqb-true k j e)

ending-last : (st : SendState) (k : ℕ) → is_ending st k ≡ true → last_of st ≡ k
ending-last (Idle l) k e = absurd cc
ending-last (Sending j c) k e = absurd cc
ending-last (Ending j c) k e = sym (eqb-true k j e)
ending-last (Dropping j) k e = absurd cc

idle-is : (st : SendState) → is_idle st ≡ true → st ≡ Idle (last_of st)
idle-is (Idle l) e = refl
idle-is (Sending j c) e = absurd cc
idle-is (Ending j c) e = absurd cc
idle-is (Dropping j) e = absurd cc

total-length : (o : Option Transfer) → total_of o ≡ length (transferred o)
total-length None = refl
total-length (Some t) = refl

joined-concat : (xs : List (List ℕ)) (x : List ℕ) → concat (xs ++ x ∷ []) ≡ joined xs ++ x
joined-concat [] x = append-nil x
joined-concat (y ∷ ys) x = ap (λ (t : List ℕ). y ++ t) (joined-concat ys x) ∙ sym (append_assoc y (joined ys) x)

some-size : (c : ℕ) → eqb c 0 ≡ false → 1024 * c ≡ 0 → ⊥
some-size zero e z = absurd cc
some-size (suc c) e z = omega (arith, z)

-- a piece behind which there is another is not the last one
not-last : (checkpoint n : ℕ) (octets : List ℕ) → 1 ≤ n
    → has_piece_after checkpoint (length octets) n ≡ true
    → is_last (checkpoint_unit * checkpoint) octets n ≡ false
not-last checkpoint n octets some e = elim (cases_Bool (eqb checkpoint 0)) [
  | inl none ↦ (
      let zero_is : n ≡ 0 = eqb-true n 0
      (sym (cond-true (eqb checkpoint 0) (eqb n 0) (nat_lt (1024 * checkpoint * n) (length octets)) none) ∙ e) in
      absurd (omega (arith, zero_is, some)))
  | inr sized ↦ (
      let more : nat_lt (1024 * checkpoint * n) (length octets) ≡ true =
      sym (cond-false (eqb checkpoint 0) (eqb n 0) (nat_lt (1024 * checkpoint * n) (length octets)) sized) ∙ e in
      cond-false (eqb (1024 * checkpoint) 0) true (nat_le (length octets) (1024 * checkpoint * n))
      (ne_eqb (1024 * checkpoint) 0 (some-size checkpoint sized))
      ∙ lt-leb (length octets) (1024 * checkpoint * n) (ltb-true (1024 * checkpoint * n) (length octets) more))
]

-- ---- a step on an open lane

-- the generation that a step tells
told-is : (g : Option ℕ) (n : ℕ) → g ≡ Some n → told g ≡ n
told-is g n e = ap told e

held : (lane : Lane) (g : Option ℕ) → g ≡ Some lane.generation → told g ≡ lane.generation
held lane g e = told-is g lane.generation e

allows : (spells : List ℕ → Bool) → ((octets : List ℕ) → IsApdu octets → spells octets ≡ true)
    → (s : State) (lane : Lane) (g : Option ℕ) (step : LaneStep) (moment : ℕ)
    → IsOfGeneration lane g step → LaneNeeds s lane step moment
    → Allows spells (halves_of lane) (seen_by s (told g) step moment)
allows spells ok s lane g (agree checkpoint window) moment current needs = (refl, needs.1)
allows spells ok s lane g bind moment current needs = (refl, told-is g (lane.generation + 1) current)
allows spells ok s lane g (start k i rs) moment current needs = (
  (refl, held lane g current),
  needs.agreed,
  idle-is lane.sending needs.idle ∙ ap Idle (behind (last_of lane.sending) k needs.next),
  omega (arith, needs.next),
  start-octets s lane k i rs moment needs,
)
  where
    behind : (l k : ℕ) → k ≡ l + 1 → l ≡ k - 1
    behind l k e = omega (arith, e)
allows spells ok s lane g (confirm k n) moment current needs =
    let outer = and_parts (goes_on lane.sending k && nat_lt (confirmed_of lane.sending) n)
    (has_piece_after lane.checkpoint (total_of lane.transfer) n) needs in
    let inner = and_parts (goes_on lane.sending k) (nat_lt (confirmed_of lane.sending) n) outer.0 in
    let above = ltb-true (confirmed_of lane.sending) n inner.1 in (
      (refl, held lane g current),
      inner.0,
      above,
      not-last lane.checkpoint n (transferred lane.transfer) (omega (arith, above))
          (subst (λ (t : ℕ). has_piece_after lane.checkpoint t n ≡ true) (total-length lane.transfer) outer.1),
    )
allows spells ok s lane g (to_end k) moment current needs = ((refl, held lane g current), needs)
allows spells ok s lane g (settle was_sent k) moment current needs = ((refl, held lane g current), needs)
allows spells ok s lane g (settle (was_refused kind) k) moment current needs = ((refl, held lane g current), needs)
allows spells ok s lane g (settle was_denied k) moment current needs = ((refl, held lane g current), needs)
allows spells ok s lane g (settle was_dropped k) moment current needs = ((refl, held lane g current), needs)
allows spells ok s lane g (abandon k) moment current needs = (refl, needs.0)
allows spells ok s lane g (secure k n piece) moment current needs =
    ((refl, held lane g current), needs.agreed, needs.taken)
allows spells ok s lane g (complete k n piece) moment current needs = (
  (refl, held lane g current),
  needs.0.agreed,
  needs.0.taken,
  ap spells (sym (joined-concat (take (n - 1) lane.pieces) piece)) ∙ ok
      (concat (with_piece lane.pieces n piece)) needs.1,
)
allows spells ok s lane g (drop_pieces k) moment current needs = ((refl, held lane g current), needs)
allows spells ok s lane g close moment current needs = ((refl, held lane g current), needs)

settled-same : (lane : Lane) (k : ℕ) → last_of lane.sending ≡ k
    → record (halves_of lane) {
      state = Idle k;
      octets = [];
    } ≡ halves_of (record lane { sending = Idle (last_of lane.sending); transfer = None })
settled-same lane k e = ap (λ (j : ℕ). record (halves_of lane) { state = Idle j; octets = [] }) (sym e)

-- a step that does not close the lane
abbrev StaysOpen : LaneStep → Type 0
StaysOpen close = ⊥
StaysOpen step = Unit {0}

leaves : (s : State) (lane : Lane) (g : Option ℕ) (step : LaneStep) (moment : ℕ) → StaysOpen step
    → IsOfGeneration lane g step → LaneNeeds s lane step moment
    → halves_after (halves_of lane) (seen_by s (told g) step moment) ≡ halves_of (lane_after s lane step moment)
leaves s lane g (agree checkpoint window) moment open_still current needs = refl
leaves s lane g bind moment open_still current needs =
    ap (λ (n : ℕ). record (halves_of lane) { generation = n }) (told-is g (lane.generation + 1) current)
leaves s lane g (start k i rs) moment open_still current needs =
    ap (λ (j : ℕ). record (halves_of lane) {
      state = Sending j 0;
      octets = (transfer_of s.machine i rs moment).octets;
    }) needs.next
leaves s lane g (confirm k n) moment open_still current needs = refl
leaves s lane g (to_end k) moment open_still current needs = refl
leaves s lane g (settle was_sent k) moment open_still current needs =
    settled-same lane k (ending-last lane.sending k needs)
leaves s lane g (settle (was_refused kind) k) moment open_still current needs =
    settled-same lane k (live-last lane.sending k needs)
leaves s lane g (settle was_denied k) moment open_still current needs =
    settled-same lane k (live-last lane.sending k needs)
leaves s lane g (settle was_dropped k) moment open_still current needs =
    settled-same lane k (live-last lane.sending k needs)
leaves s lane g (abandon k) moment open_still current needs = refl
leaves s lane g (secure k n piece) moment open_still current needs = refl
leaves s lane g (complete k n piece) moment open_still current needs = refl
leaves s lane g (drop_pieces k) moment open_still current needs = refl
leaves s lane g close moment open_still current needs = absurd open_still

-- ---- what a number shows

-- the halves of the open lane of this number; those of a lane that was closed, or that was not opened, where there is
-- none
abbrev Shows : Lanes → ℕ → Option Lane → Halves → Type 0
Shows lanes n None h = ((1 ≤ n) × (n ≤ lanes.count) × (h.phase ≡ Closed))
    ⊎ ((1 ≤ n → lanes.count < n) × (h ≡ unopened))
Shows lanes n (Some lane) h = h ≡ halves_of lane

abbrev IsShown : Lanes → ℕ → Halves → Type 0
IsShown lanes n h = Shows lanes n (lane_at n lanes.open_lanes) h

-- the steps that the lane of this number sees are possible for its halves, and show what is left
abbrev IsLed : (List ℕ → Bool) → Lanes → ℕ → Halves → List SeenStep → Type 0
IsLed spells after n h steps = AreAllowed spells h steps × IsShown after n (halves_run h steps)

-- the same open lane, and as many lanes
shown-same : (before now : Lanes) (n : ℕ) (h : Halves) → before.count ≡ now.count
    → lane_at n now.open_lanes ≡ lane_at n before.open_lanes → IsShown before n h → IsShown now n h
shown-same before now n h count same shown =
    subst (λ (o : Option Lane). Shows now n o h) (sym same) (by_lane (lane_at n before.open_lanes) shown)
  where
    by_lane : (o : Option Lane) → Shows before n o h → Shows now n o h
    by_lane (Some lane) e = e
    by_lane None (inl closed) = inl (closed.0, omega (arith, count, closed.1), closed.2)
    by_lane None (inr new) = inr (λ some. let b : before.count < n = new.0 some in omega (arith, count, b), new.1)

-- a step on no lane
elsewhere : (spells : List ℕ → Bool) (lanes : Lanes) (n : ℕ) (h : Halves) → IsShown lanes n h
    → IsLed spells lanes n h []
elsewhere spells lanes n h shown = (tt, shown)

-- a step on one lane, by whether the number is that lane's
abbrev Picked : (List ℕ → Bool) → Lanes → ℕ → Halves → SeenStep → Bool → Type 0
Picked spells after n h step b = IsLed spells after n h (cond b (step ∷ []) [])

-- no open lane has a number above the count
none-above : (lanes : List Lane) (count n : ℕ) → AreNumbered 0 lanes count → count < n
    → lane_at n lanes ≡ None
none-above lanes count n numbered above = by_lane (lane_at n lanes) refl
  where
    by_lane : (o : Option Lane) → lane_at n lanes ≡ o → o ≡ None
    by_lane None e = refl
    by_lane (Some lane) e =
        let number = number-at lanes n lane e in
        let within = number-within 0 lanes count n lane numbered e in
        absurd (omega (arith, above, number, within))

-- so what it shows is new
new-shown : (lanes : Lanes) (n : ℕ) (h : Halves) → AreNumbered 0 lanes.open_lanes lanes.count → lanes.count < n
    → IsShown lanes n h → h ≡ unopened
new-shown lanes n h numbered above shown =
    by_case (subst (λ (o : Option Lane). Shows lanes n o h)
    (none-above lanes.open_lanes lanes.count n numbered above) shown)
  where
    by_case : Shows lanes n None h → h ≡ unopened
    by_case (inl closed) = absurd (omega (arith, above, closed.1))
    by_case (inr new) = new.1

-- a number that is at least another one and not the same is above it
beyond : (a b : ℕ) → a ≤ b → (b ≡ a → ⊥) → a < b
beyond a b le ne = elim (cases_lt a b) [ inl lt ↦ lt | inr ge ↦ absurd (ne (omega (arith, le, ge))) ]

-- a lane is opened
opened-led : (spells : List ℕ → Bool) (s : State) (new : Lane) (agreed : Bool) (size window n : ℕ) (h : Halves)
    → IsKept s → new.number ≡ s.lanes.count + 1
    → halves_after unopened (LaneOpen agreed size window) ≡ halves_of new → IsShown s.lanes n h
    → IsLed spells (record {
      count = s.lanes.count + 1;
      open_lanes = s.lanes.open_lanes ++ new ∷ [];
    }) n h (of_lane n (On (s.lanes.count + 1) (LaneOpen agreed size window)))
opened-led spells s new agreed size window n h kept number is shown = elim (cases_Bool (eqb (s.lanes.count + 1) n)) [
  | inl here ↦ subst (Picked spells now n h (LaneOpen agreed size window)) (sym here)
      (at-it (eqb-true (s.lanes.count + 1) n here))
  | inr apart ↦ subst (Picked spells now n h (LaneOpen agreed size window)) (sym apart) (tt, beside (differs apart))
]
  where
    now : Lanes
    now = record { count = s.lanes.count + 1; open_lanes = s.lanes.open_lanes ++ new ∷ [] }

    differs : eqb (s.lanes.count + 1) n ≡ false → n ≡ s.lanes.count + 1 → ⊥
    differs apart e = true≢false (sym (eq-eqb (s.lanes.count + 1) n (sym e)) ∙ apart)

    at-it : s.lanes.count + 1 ≡ n → IsLed spells now n h (LaneOpen agreed size window ∷ [])
    at-it e =
        let fresh : h ≡ unopened = new-shown s.lanes n h kept.numbered_lanes (omega (arith, e)) shown in
        let found : lane_at n (s.lanes.open_lanes ++ new ∷ []) ≡ Some new =
        subst (λ (k : ℕ). lane_at k (s.lanes.open_lanes ++ new ∷ []) ≡ Some new) (number ∙ e)
        (more-found 0 new s.lanes.open_lanes s.lanes.count number kept.numbered_lanes) in (
          (ap (λ (x : Halves). x.phase) fresh, tt),
          subst (λ (o : Option Lane). Shows now n o (halves_after h (LaneOpen agreed size window))) (sym found)
              (ap (λ (x : Halves). halves_after x (LaneOpen agreed size window)) fresh ∙ is),
        )

    beside : (n ≡ s.lanes.count + 1 → ⊥) → IsShown now n h
    beside ne =
        subst (λ (o : Option Lane). Shows now n o h)
        (sym (more-other n new s.lanes.open_lanes (ne_eqb n new.number (λ e. ne (e ∙ number)))))
        (by_lane (lane_at n s.lanes.open_lanes) shown)
      where
        by_lane : (o : Option Lane) → Shows s.lanes n o h → Shows now n o h
        by_lane (Some lane) e = e
        by_lane None (inl closed) = inl (closed.0, omega (arith, closed.1), closed.2)
        by_lane None (inr fresh) = inr (λ some. above (fresh.0 some), fresh.1)
          where
            above : s.lanes.count < n → s.lanes.count + 1 < n
            above lt = beyond (s.lanes.count + 1) n (omega (arith, lt)) ne

-- a step on an open lane that leaves it open
put-led : (spells : List ℕ → Bool)
    (s : State) (n m : ℕ) (lane : Lane) (step : SeenStep) (new : Lane) (h : Halves)
    → lane_at m s.lanes.open_lanes ≡ Some lane → new.number ≡ lane.number
    → Allows spells (halves_of lane) step → halves_after (halves_of lane) step ≡ halves_of new
    → IsShown s.lanes n h
    → IsLed spells (record s.lanes { open_lanes = put_lane new s.lanes.open_lanes }) n h (of_lane n (On m step))
put-led spells s n m lane step new h found same may left shown = elim (cases_Bool (eqb m n)) [
  | inl here ↦ subst (Picked spells now n h step) (sym here) (at-it (eqb-true m n here))
  | inr apart ↦ subst (Picked spells now n h step) (sym apart) (
    tt,
    shown-same s.lanes now n h refl
        (put-other n new s.lanes.open_lanes (ne_eqb n new.number (differs apart))) shown,
  )
]
  where
    now : Lanes
    now = record s.lanes { open_lanes = put_lane new s.lanes.open_lanes }

    number : m ≡ new.number
    number = number-at s.lanes.open_lanes m lane found ∙ sym same

    differs : eqb m n ≡ false → n ≡ new.number → ⊥
    differs apart e = true≢false (sym (eq-eqb m n (number ∙ sym e)) ∙ apart)

    at-it : m ≡ n → IsLed spells now n h (step ∷ [])
    at-it e =
        let is : h ≡ halves_of lane =
        subst (λ (o : Option Lane). Shows s.lanes n o h)
        (subst (λ (k : ℕ). lane_at k s.lanes.open_lanes ≡ Some lane) e found) shown in
        let there : lane_at new.number s.lanes.open_lanes ≡ Some lane =
        subst (λ (k : ℕ). lane_at k s.lanes.open_lanes ≡ Some lane) number found in
        let put : lane_at n (put_lane new s.lanes.open_lanes) ≡ Some new =
        subst (λ (k : ℕ). lane_at k (put_lane new s.lanes.open_lanes) ≡ Some new) (sym number ∙ e)
        (put-found new lane s.lanes.open_lanes there) in (
          (subst (λ (x : Halves). Allows spells x step) (sym is) may, tt),
          subst (λ (o : Option Lane). Shows now n o (halves_after h step)) (sym put)
              (ap (λ (x : Halves). halves_after x step) is ∙ left),
        )

-- a lane is closed
close-led : (spells : List ℕ → Bool) (s : State) (n m : ℕ) (lane : Lane) (g : ℕ) (h : Halves) → IsKept s
    → lane_at m s.lanes.open_lanes ≡ Some lane → Allows spells (halves_of lane) (CloseLane g)
    → IsShown s.lanes n h → IsLed spells (record s.lanes {
      open_lanes = without_lane lane.number s.lanes.open_lanes;
    }) n h (of_lane n (On m (CloseLane g)))
close-led spells s n m lane g h kept found may shown = elim (cases_Bool (eqb m n)) [
  | inl here ↦ subst (Picked spells now n h (CloseLane g)) (sym here) (at-it (eqb-true m n here))
  | inr apart ↦ subst (Picked spells now n h (CloseLane g)) (sym apart) (
    tt,
    shown-same s.lanes now n h refl
        (without-other n lane.number s.lanes.open_lanes (ne_eqb n lane.number (differs apart))) shown,
  )
]
  where
    now : Lanes
    now = record s.lanes { open_lanes = without_lane lane.number s.lanes.open_lanes }

    number : m ≡ lane.number
    number = number-at s.lanes.open_lanes m lane found

    differs : eqb m n ≡ false → n ≡ lane.number → ⊥
    differs apart e = true≢false (sym (eq-eqb m n (number ∙ sym e)) ∙ apart)

    at-it : m ≡ n → IsLed spells now n h (CloseLane g ∷ [])
    at-it e =
        let is : h ≡ halves_of lane =
        subst (λ (o : Option Lane). Shows s.lanes n o h)
        (subst (λ (k : ℕ). lane_at k s.lanes.open_lanes ≡ Some lane) e found) shown in
        let gone : lane_at n (without_lane lane.number s.lanes.open_lanes) ≡ None =
        subst (λ (k : ℕ). lane_at k (without_lane lane.number s.lanes.open_lanes) ≡ None) (sym number ∙ e)
        (without-none lane.number 0 s.lanes.open_lanes s.lanes.count kept.numbered_lanes) in
        let low = number-above 0 s.lanes.open_lanes s.lanes.count m lane kept.numbered_lanes found in
        let within = number-within 0 s.lanes.open_lanes s.lanes.count m lane kept.numbered_lanes found in (
          (subst (λ (x : Halves). Allows spells x (CloseLane g)) (sym is) may, tt),
          subst (λ (o : Option Lane). Shows now n o (halves_after h (CloseLane g))) (sym gone)
              (inl (omega (arith, e, number, low), omega (arith, e, number, within), refl)),
        )

-- ---- a step

on-lane-led : (spells : List ℕ → Bool) → ((octets : List ℕ) → IsApdu octets → spells octets ≡ true)
    → (s : State) (n m : ℕ) (lane : Lane) (g : Option ℕ) (step : LaneStep) (moment : ℕ) (h : Halves)
    → IsKept s → lane_at m s.lanes.open_lanes ≡ Some lane → IsOfGeneration lane g step
    → LaneNeeds s lane step moment → IsShown s.lanes n h
    → IsLed spells (record s.lanes {
      open_lanes = on_lane_after s (Some lane) step moment;
    }) n h (of_lane n (On m (seen_by s (told g) step moment)))
on-lane-led spells ok s n m lane g (agree checkpoint window) moment h kept found current needs shown =
    put-led spells s n m lane _ _ h found refl
    (allows spells ok s lane g (agree checkpoint window) moment current needs)
    (leaves s lane g (agree checkpoint window) moment tt current needs) shown
on-lane-led spells ok s n m lane g bind moment h kept found current needs shown =
    put-led spells s n m lane _ _ h found refl (allows spells ok s lane g bind moment current needs)
    (leaves s lane g bind moment tt current needs) shown
on-lane-led spells ok s n m lane g (start k i rs) moment h kept found current needs shown =
    put-led spells s n m lane _ _ h found refl (allows spells ok s lane g (start k i rs) moment current needs)
    (leaves s lane g (start k i rs) moment tt current needs) shown
on-lane-led spells ok s n m lane g (confirm k c) moment h kept found current needs shown =
    put-led spells s n m lane _ _ h found refl (allows spells ok s lane g (confirm k c) moment current needs)
    (leaves s lane g (confirm k c) moment tt current needs) shown
on-lane-led spells ok s n m lane g (to_end k) moment h kept found current needs shown =
    put-led spells s n m lane _ _ h found refl (allows spells ok s lane g (to_end k) moment current needs)
    (leaves s lane g (to_end k) moment tt current needs) shown
on-lane-led spells ok s n m lane g (settle outcome k) moment h kept found current needs shown =
    put-led spells s n m lane _ _ h found refl (allows spells ok s lane g (settle outcome k) moment current needs)
    (leaves s lane g (settle outcome k) moment tt current needs) shown
on-lane-led spells ok s n m lane g (abandon k) moment h kept found current needs shown =
    put-led spells s n m lane _ _ h found refl (allows spells ok s lane g (abandon k) moment current needs)
    (leaves s lane g (abandon k) moment tt current needs) shown
on-lane-led spells ok s n m lane g (secure k p piece) moment h kept found current needs shown =
    put-led spells s n m lane _ _ h found refl (allows spells ok s lane g (secure k p piece) moment current needs)
    (leaves s lane g (secure k p piece) moment tt current needs) shown
on-lane-led spells ok s n m lane g (complete k p piece) moment h kept found current needs shown =
    put-led spells s n m lane _ _ h found refl (allows spells ok s lane g (complete k p piece) moment current needs)
    (leaves s lane g (complete k p piece) moment tt current needs) shown
on-lane-led spells ok s n m lane g (drop_pieces k) moment h kept found current needs shown =
    put-led spells s n m lane _ _ h found refl (allows spells ok s lane g (drop_pieces k) moment current needs)
    (leaves s lane g (drop_pieces k) moment tt current needs) shown
on-lane-led spells ok s n m lane g close moment h kept found current needs shown =
    close-led spells s n m lane (told g) h kept found (allows spells ok s lane g close moment current needs) shown

class-led : (spells : List ℕ → Bool) → ((octets : List ℕ) → IsApdu octets → spells octets ≡ true)
    → (s : State) (c : Class) (moment n : ℕ) (h : Halves) → IsKept s → StepNeeds s c moment
    → ((t : SnapshotValue) → c ≡ begins t → ⊥) → IsShown s.lanes n h
    → IsLed spells (lanes_after s c moment) n h (of_lane n (seen_of s c moment))
class-led spells ok s (begins t) moment n h kept needs other shown = absurd (other t refl)
class-led spells ok s sets_format moment n h kept needs other shown = elsewhere spells s.lanes n h shown
class-led spells ok s (records text) moment n h kept needs other shown = elsewhere spells s.lanes n h shown
class-led spells ok s (accepts octets) moment n h kept needs other shown = elsewhere spells s.lanes n h shown
class-led spells ok s (settles how i r) moment n h kept needs other shown = elsewhere spells s.lanes n h shown
class-led spells ok s (opens role peer reference twa checkpoint window) moment n h kept needs other shown =
    opened-led spells s (new_lane
    (s.lanes.count + 1) role peer reference twa checkpoint window) _ _ window n h kept refl refl shown
class-led spells ok s (on_lane m g step) moment n h kept needs other shown =
    subst (λ (o : Option Lane). IsLed spells (record s.lanes {
      open_lanes = on_lane_after s o step moment;
    }) n h (of_lane n (On m (seen_by s (told g) step moment)))) (sym needs.lane_is)
    (on-lane-led spells ok s n m needs.lane g step moment h kept needs.lane_is needs.current needs.needs shown)

-- ---- a history

allowed-append : (spells : List ℕ → Bool) (h : Halves) (xs ys : List SeenStep) → AreAllowed spells h xs
    → AreAllowed spells (halves_run h xs) ys → AreAllowed spells h (xs ++ ys)
allowed-append spells h [] ys first rest = rest
allowed-append spells h (x ∷ xs) ys first rest =
    (first.0, allowed-append spells (halves_after h x) xs ys first.1 rest)

halves_run-append : (h : Halves) (xs ys : List SeenStep) → halves_run h (xs ++ ys) ≡ halves_run (halves_run h xs) ys
halves_run-append h [] ys = refl
halves_run-append h (x ∷ xs) ys = halves_run-append (halves_after h x) xs ys

-- a step that is no snapshot, and what follows it
abbrev Along : (List ℕ → Bool) → State → Class → ℕ → List Step → ℕ → Halves → Type 0
Along spells s c moment steps n h =
    IsLed spells (after_from (state_left s c moment) steps).lanes n h
    (of_lane n (seen_of s c moment) ++ of_lane_all n (annotated_from (state_left s c moment) steps))

led-then : (spells : List ℕ → Bool) (after_all : Lanes) (n : ℕ) (h : Halves) (here behind : List SeenStep)
    → AreAllowed spells h here → IsLed spells after_all n (halves_run h here) behind
    → IsLed spells after_all n h (here ++ behind)
led-then spells after_all n h here behind first rest = (
  allowed-append spells h here behind first rest.0,
  subst (IsShown after_all n) (sym (halves_run-append h here behind)) rest.1,
)

led-along : (spells : List ℕ → Bool) → ((octets : List ℕ) → IsApdu octets → spells octets ≡ true)
    → (s : State) (steps : List Step) (n : ℕ) (h : Halves) → IsKept s → s.begun ≡ true → ArePossible s steps
    → IsShown s.lanes n h
    → IsLed spells (after_from s steps).lanes n h (of_lane_all n (annotated_from s steps))
led-along spells ok s [] n h kept begun possible shown = (tt, shown)
led-along spells ok s (step ∷ steps) n h kept begun possible shown =
    let one = class-led spells ok s (class_of step) (when s step) n h kept possible.0.allowed
    (not-begun-again s (class_of step) (when s step) begun possible.0.allowed) shown in
    let here : List SeenStep = of_lane n (seen_of s (class_of step) (when s step)) in
    led-then spells (after_from (after_step s step) steps).lanes n h here
    (of_lane_all n (annotated_from (after_step s step) steps)) one.0
    (led-along spells ok (after_step s step) steps n (halves_run h here) (steps_keep s step kept possible.0) refl
    possible.1 one.1)

as-many : (s : State) (steps : List Step) → length (annotated_from s steps) ≡ length steps
as-many s [] = refl
as-many s (step ∷ steps) = ap (λ (k : ℕ). suc k) (as-many (after_step s step) steps)

at-first : (n : ℕ) → IsShown empty.lanes n unopened
at-first n = inr (λ some. omega (arith, some), refl)

every-test : (octets : List ℕ) → IsApdu octets → true ≡ true
every-test octets is = refl

-- the halves with which a history begins show the lanes of its snapshot
abbrev BegunAs : Option Lane → ℕ → ℕ → Halves → Type 0
BegunAs None count n h = ((1 ≤ n) × (n ≤ count) × (h.phase ≡ Closed)) ⊎ ((1 ≤ n → count < n) × (h ≡ unopened))
BegunAs (Some lane) count n h = h ≡ halves_of lane

-- the open lane of a number among those of a snapshot
begun-lane : (lanes : List Lane) (count n : ℕ)
    → BegunAs (lane_at n lanes) count n (lane_begun count (map numbered_halves lanes) n)
begun-lane [] count n = by_test (nat_le 1 n) refl
  where
    by_count : (b : Bool) → nat_le n count ≡ b → 1 ≤ n
        → BegunAs None count n (cond b closed_before unopened)
    by_count true e some = inl (some, leb-true n count e, refl)
    by_count false e some = inr (λ _. leb-false n count e, refl)

    by_test : (b : Bool) → nat_le 1 n ≡ b
        → BegunAs None count n (cond b (cond (nat_le n count) closed_before unopened) unopened)
    by_test true e = by_count (nat_le n count) refl (leb-true 1 n e)
    by_test false e = inr (λ some. absurd (omega (arith, some, leb-false 1 n e)), refl)
begun-lane (l ∷ lanes) count n = by_test (eqb n l.number) refl (begun-lane lanes count n)
  where
    by_test : (b : Bool) → eqb n l.number ≡ b
        → BegunAs (lane_at n lanes) count n (lane_begun count (map numbered_halves lanes) n)
        → BegunAs (cond b (Some l) (lane_at n lanes)) count n
        (cond (eqb l.number n) (halves_of l) (lane_begun count (map numbered_halves lanes) n))
    by_test true e rest =
        subst (λ (b : Bool). (cond b (halves_of l) (lane_begun count (map numbered_halves lanes) n)) ≡ halves_of l)
        (sym (eq-eqb l.number n (sym (eqb-true n l.number e)))) refl
    by_test false e rest =
        subst (λ (b : Bool). BegunAs (lane_at n lanes) count n
        (cond b (halves_of l) (lane_begun count (map numbered_halves lanes) n)))
        (sym (ne_eqb l.number n (λ f. eqb-false n l.number e (sym f)))) rest

begun-shown : (t : SnapshotValue) (n : ℕ) (h : Halves) (o : Option Lane) → BegunAs o t.lane_count n h
    → Shows (lanes_begun t) n o h
begun-shown t n h None e = e
begun-shown t n h (Some lane) e = e

no-snapshot : (spells : List ℕ → Bool) → ((octets : List ℕ) → IsApdu octets → spells octets ≡ true)
    → (c : Class) (moment : ℕ) (steps : List Step) (n : ℕ) → StepNeeds empty c moment
    → ((t : SnapshotValue) → c ≡ begins t → ⊥)
    → IsKept (state_left empty c moment) → ArePossible (state_left empty c moment) steps
    → Along spells empty c moment steps n unopened
no-snapshot spells ok c moment steps n needs other kept possible =
    let one = class-led spells ok empty c moment n unopened empty_kept needs other (at-first n) in
    let here : List SeenStep = of_lane n (seen_of empty c moment) in
    led-then spells (after_from (state_left empty c moment) steps).lanes n unopened here
    (of_lane_all n (annotated_from (state_left empty c moment) steps)) one.0
    (led-along spells ok (state_left empty c moment) steps n (halves_run unopened here) kept refl possible one.1)

-- where a history begins, and what follows it
first-led : (spells : List ℕ → Bool) → ((octets : List ℕ) → IsApdu octets → spells octets ≡ true)
    → (c : Class) (moment : ℕ) (steps : List Step) (n : ℕ) → StepNeeds empty c moment
    → IsKept (state_left empty c moment) → ArePossible (state_left empty c moment) steps
    → Along spells empty c moment steps n (lane_at_first n (seen_of empty c moment ∷ []))
first-led spells ok (begins t) moment steps n needs kept possible =
    led-along spells ok (state_left empty (begins t) moment) steps n
    (lane_begun t.lane_count (map numbered_halves t.lanes) n) kept refl possible
    (begun-shown t n (lane_begun t.lane_count (map numbered_halves t.lanes) n) (lane_at n t.lanes)
    (begun-lane t.lanes t.lane_count n))
first-led spells ok sets_format moment steps n needs kept possible =
    no-snapshot spells ok sets_format moment steps n needs (λ t e. absurd cc) kept possible
first-led spells ok (records text) moment steps n needs kept possible =
    no-snapshot spells ok (records text) moment steps n needs (λ t e. absurd cc) kept possible
first-led spells ok (accepts octets) moment steps n needs kept possible =
    no-snapshot spells ok (accepts octets) moment steps n needs (λ t e. absurd cc) kept possible
first-led spells ok (settles how i r) moment steps n needs kept possible =
    no-snapshot spells ok (settles how i r) moment steps n needs (λ t e. absurd cc) kept possible
first-led spells ok (opens role peer reference twa checkpoint window) moment steps n needs kept possible =
    no-snapshot spells ok (opens role peer reference twa checkpoint window) moment steps n needs (λ t e. absurd cc)
    kept possible
first-led spells ok (on_lane m g step) moment steps n needs kept possible =
    no-snapshot spells ok (on_lane m g step) moment steps n needs (λ t e. absurd cc) kept possible

-- at first each lane is as the first step has it, whatever follows
first-only : (n : ℕ) (x : Seen) (xs : List Seen) → lane_at_first n (x ∷ xs) ≡ lane_at_first n (x ∷ [])
first-only n (On j step) xs = refl
first-only n Elsewhere xs = refl
first-only n (Begins count lanes) xs = refl

history-led : (spells : List ℕ → Bool) → ((octets : List ℕ) → IsApdu octets → spells octets ≡ true)
    → (steps : List Step) (n : ℕ) → IsHistory steps
    → IsLed spells (after steps).lanes n (lane_at_first n (annotated steps)) (of_lane_all n (annotated steps))
history-led spells ok [] n history = (tt, at-first n)
history-led spells ok (step ∷ steps) n history =
    subst (λ (h : Halves). IsLed spells (after (step ∷ steps)).lanes n h (of_lane_all n (annotated (step ∷ steps))))
    (sym (first-only n (seen_of empty (class_of step) (when empty step))
    (annotated_from (after_step empty step) steps)))
    (first-led spells ok (class_of step) (when empty step) steps n history.0.allowed
    (steps_keep empty step empty_kept history.0) history.1)

pub lanes_see_histories : LanesSeeHistories
lanes_see_histories steps history = record {
  as_many = as-many empty steps;
  opened =
      each-weaker (λ l. lane_at l.number (after steps).lanes.open_lanes ≡ Some l)
      (λ l. lane_in l.number (annotated steps) ≡ halves_of l)
      (after steps).lanes.open_lanes
      (λ l found. subst (λ (o : Option Lane). Shows (after steps).lanes l.number o
      (lane_in l.number (annotated steps))) found (shown l.number))
      (each-found 0 (after steps).lanes.open_lanes (after steps).lanes.count kept.numbered_lanes);
  new = λ n above. new-shown (after steps).lanes n (lane_in n (annotated steps)) kept.numbered_lanes above (shown n);
  allowed = λ spells ok n. (history-led spells ok steps n history).0;
}
  where
    kept : IsKept (after steps)
    kept = histories_keep steps history

    shown : (n : ℕ) → IsShown (after steps).lanes n (lane_in n (annotated steps))
    shown n = (history-led (λ octets. true) every-test steps n history).1
