-- Who is not touched by a change waits after it exactly where he waited before.
use Rattle.std.proofs.Common.{◌≡◌, inl, inr, ℕ, Bool, true, false, cond, eqb, List, [], ◌∷◌, ◌++◌}
use Rattle.std.proofs.Common.{Option, Some, None, refl, sym, ap, subst, ◌∙◌, arith}
use Rattle.std.specs.Prelude.{◌&&◌, ◌||◌, ◌==◌, option_and_then, option_to_list}
use Rattle.std.proofs.lemmas.Bool.{eqb-true}
use Rattle.mta_lane_send.specs.declared.state.SendState.{SendState}
use Rattle.mta_lane_send.specs.declared.state.SendState.TheVariants.{Idle, Sending, Ending, Dropping}
use Rattle.mta_lane_send.specs.Half.{confirmed_at, confirmed_of, is_idle, is_possible, is_sending, made}
use Rattle.mta_lane_send.specs.Half as send
use Rattle.mta_records.specs.declared.state.Status.{Status}
use Rattle.mta_machine.specs.Items.{ItemValue, Machine, has_status, is_pending, names, numbered}
use Rattle.mta_machine.specs.Items.{set_numbered}
use Rattle.mta_machine.specs.Items.{status_in}
use Rattle.mta_machine.proofs.Numbered.{numbered-front, set-other, set-same}
use Rattle.mta_machine.proofs.Steps.{replaced, replaced-other, with-other}
use Rattle.mta_histories.specs.Lanes.{Lane, State, Transfer, activities_of, holds, is_for, is_transferring, lane_at}
use Rattle.mta_histories.specs.Lanes.{without_lane}
use Rattle.mta_histories.specs.History.{sends}
use Rattle.mta_histories.proofs.LaneLists.{bit_of, count-more, count-put, count-without, number-at}
use Rattle.mta_lanes.specs.declared.change.LaneChange.{LaneChange}
use Rattle.mta_lanes.specs.declared.change.LaneChange.TheVariants as lane_change
use Rattle.mta_lanes.specs.Changes.{MayChange, MayChangeAt, changed, put_changed}
use Rattle.mta_state.specs.Parts.{made_items}
use Rattle.mta_state.specs.Settled.{put_settled, settled, with_settled}
use Rattle.mta_state.specs.Kept.{CanChange, changed_state, settled_in_turn}
use Rattle.mta_state.specs.declared.change.Settlement.{Settlement}
use Rattle.mta_state.specs.declared.change.Change.{Change}
use Rattle.mta_state.specs.declared.change.Change.TheVariants as change
use Rattle.mta_replay.specs.Queued.{GoesOn}
use Rattle.mta_replay.specs.Touched.{IsTouched, all_of, also, is_waiting, item_by, item_in, item_on, touched_by}

-- there is an item of this number
abbrev pub IsThere : List ItemValue → ℕ → Type 0
IsThere items i = (item : ItemValue) × (numbered items i ≡ Some item)

-- ---- statuses

front : (items more : List ItemValue) (i r : ℕ) → IsThere items i → status_in (items ++ more) i r ≡ status_in items i r
front items more i r there =
    let at : Option ItemValue → Option (Option Status) =
    λ o. option_and_then (λ (item : ItemValue). numbered item.statuses r) o in
    ap at (numbered-front items more i there.0 there.1) ∙ sym (ap at there.1)

stays_there : (items : List ItemValue) (j : ℕ) (new : ItemValue) (i : ℕ) → IsThere items i
    → IsThere (set_numbered items j new) i
stays_there items j new i there = by_test (eqb i j) refl
  where
    by_test : (b : Bool) → eqb i j ≡ b → IsThere (set_numbered items j new) i
    by_test true e =
        let same : i ≡ j = eqb-true i j e in (
          new,
          subst (λ (k : ℕ). numbered (set_numbered items k new) i ≡ Some new) same
              (set-same items i new there.0 there.1),
        )
    by_test false e = (there.0, set-other items j i new e ∙ there.1)

there_settled : (items : List ItemValue) (j : ℕ) (rs : List ℕ) (s : Status) (i : ℕ) → IsThere items i
    → IsThere (with_settled items j rs s) i
there_settled items j rs s i there = by_item (numbered items j)
  where
    by_item : (o : Option ItemValue) → IsThere (put_settled items j o rs s) i
    by_item None = there
    by_item (Some item) = stays_there items j (settled item rs s) i there

-- another item keeps its statuses
other_item : (items : List ItemValue) (j : ℕ) (rs : List ℕ) (s : Status) (i r : ℕ) → eqb i j ≡ false
    → status_in (with_settled items j rs s) i r ≡ status_in items i r
other_item items j rs s i r apart = by_item (numbered items j)
  where
    by_item : (o : Option ItemValue) → status_in (put_settled items j o rs s) i r ≡ status_in items i r
    by_item None = refl
    by_item (Some item) = replaced-other items (settled item rs s) j i r apart

-- and so does another recipient of the item
other_recipient : (items : List ItemValue) (j : ℕ) (rs : List ℕ) (s : Status) (i r : ℕ) → i ≡ j
    → names rs r ≡ false → status_in (with_settled items j rs s) i r ≡ status_in items i r
other_recipient items j rs s i r same isnt = by_item (numbered items j) refl
  where
    at : Option ItemValue → Option (Option Status)
    at o = option_and_then (λ (item : ItemValue). numbered item.statuses r) o

    by_item : (o : Option ItemValue) → numbered items j ≡ o
        → status_in (put_settled items j o rs s) i r ≡ status_in items i r
    by_item None is = refl
    by_item (Some item) is =
        replaced items item (settled item rs s) j i r same is
        ∙ (with-other item.statuses rs s r isnt ∙ sym (ap at (ap (numbered items) same ∙ is)))

settled_status : (m : Machine) (j q : ℕ) (s : Status) (made : List ItemValue) (i r : ℕ) → IsThere m.items i
    → ((i ≡ j) × (r ≡ q) → ⊥)
    → status_in (with_settled m.items j (q ∷ []) s ++ made) i r ≡ status_in m.items i r
settled_status m j q s made i r there isnt =
    front (with_settled m.items j (q ∷ []) s) made i r (there_settled m.items j (q ∷ []) s i there)
    ∙ by_test (eqb i j) refl
  where
    named : (b : Bool) → eqb r q ≡ b → (b ≡ true → ⊥) → names (q ∷ []) r ≡ false
    named true e never = absurd (never refl)
    named false e never = ap (λ (b : Bool). b || false) e

    by_test : (b : Bool) → eqb i j ≡ b
        → status_in (with_settled m.items j (q ∷ []) s) i r ≡ status_in m.items i r
    by_test false e = other_item m.items j (q ∷ []) s i r e
    by_test true e =
        other_recipient m.items j (q ∷ []) s i r (eqb-true i j e)
        (named (eqb r q) refl (λ same. isnt (eqb-true i j e, eqb-true r q same)))

-- recipients of one item are discharged in turn
turn_there : (m : Machine) (j : ℕ) (settlements : List Settlement) (moment i : ℕ) → IsThere m.items i
    → IsThere (settled_in_turn m j settlements moment).items i
turn_there m j [] moment i there = there
turn_there m j (x ∷ rest) moment i there =
    let before = turn_there m j rest moment i there in
    let here = there_settled (settled_in_turn m j rest moment).items j (x.recipient ∷ []) x.status i before in (
      here.0,
      numbered-front (with_settled (settled_in_turn m j rest moment).items j (x.recipient ∷ []) x.status)
          (option_to_list x.made) i here.0 here.1,
    )

turn_status : (m : Machine) (j : ℕ) (settlements : List Settlement) (moment i r : ℕ) → IsThere m.items i
    → eqb i j ≡ false
    → status_in (settled_in_turn m j settlements moment).items i r ≡ status_in m.items i r
turn_status m j [] moment i r there apart = refl
turn_status m j (x ∷ rest) moment i r there apart =
    let before = turn_there m j rest moment i there in
    front (with_settled (settled_in_turn m j rest moment).items j (x.recipient ∷ []) x.status)
    (option_to_list x.made) i r
    (there_settled (settled_in_turn m j rest moment).items j (x.recipient ∷ []) x.status i before)
    ∙ (other_item (settled_in_turn m j rest moment).items j (x.recipient ∷ []) x.status i r apart
    ∙ turn_status m j rest moment i r there apart)

-- ---- lanes

apart_from : (i j : ℕ) → (i ≡ j → ⊥) → eqb i j ≡ false
apart_from i j never = by_test (eqb i j) refl
  where
    by_test : (b : Bool) → eqb i j ≡ b → eqb i j ≡ false
    by_test true e = absurd (never (eqb-true i j e))
    by_test false e = e

-- a lane that transfers nothing for the item does not hold the recipient
not_of : (i r : ℕ) (sending : SendState) (o : Option Transfer) → ((j : ℕ) → item_in o ≡ Some j → i ≡ j → ⊥)
    → (is_transferring sending && is_for i r o) ≡ false
not_of i r sending o never = ap (λ (b : Bool). is_transferring sending && b) (isnt o never)
    ∙ both (is_transferring sending)
  where
    both : (b : Bool) → (b && false) ≡ false
    both true = refl
    both false = refl

    isnt : (o : Option Transfer) → ((j : ℕ) → item_in o ≡ Some j → i ≡ j → ⊥) → is_for i r o ≡ false
    isnt None never = refl
    isnt (Some t) never =
        ap (λ (b : Bool). b && names t.recipients r) (apart_from i t.item (λ e. never t.item refl e))

idle_holds : (i r : ℕ) (lane : Lane) → is_idle lane.sending ≡ true → holds i r lane ≡ false
idle_holds i r lane idle = ap (λ (b : Bool). b && is_for i r lane.transfer) (by_state lane.sending idle)
  where
    by_state : (s : SendState) → is_idle s ≡ true → is_transferring s ≡ false
    by_state (Idle last) e = refl
    by_state (Sending k c) e = absurd cc
    by_state (Ending k c) e = absurd cc
    by_state (Dropping k) e = absurd cc

confirmed_transfers : (s : SendState) (n : ℕ) → is_transferring (confirmed_at s n) ≡ is_transferring s
confirmed_transfers (Idle last) n = refl
confirmed_transfers (Sending k c) n = refl
confirmed_transfers (Ending k c) n = refl
confirmed_transfers (Dropping k) n = refl

sending_transfers : (s : SendState) (k : ℕ) → is_sending s k ≡ true → is_transferring s ≡ true
sending_transfers (Idle last) k e = absurd cc
sending_transfers (Sending j c) k e = refl
sending_transfers (Ending j c) k e = absurd cc
sending_transfers (Dropping j) k e = absurd cc

-- a change of a lane leaves who is not of the item that it begins or ends to transfer
holds_same : (lane : Lane) (new : LaneChange) (i r : ℕ) → MayChange lane new
    → ((j : ℕ) → item_by (Some lane) new ≡ Some j → i ≡ j → ⊥)
    → holds i r (changed lane new) ≡ holds i r lane
holds_same lane (lane_change.Agree checkpoint window) i r may never = refl
holds_same lane lane_change.Bind i r may never = refl
holds_same lane (lane_change.Start t) i r may never =
    not_of i r (sends lane (send.Start 0)) (Some t) (λ j is. never j is) ∙ sym (idle_holds i r lane may.1)
holds_same lane (lane_change.Confirm k n) i r may never =
    ap (λ (b : Bool). b && is_for i r lane.transfer) (confirmed_transfers lane.sending n)
holds_same lane (lane_change.ToEnd k) i r may never =
    ap (λ (b : Bool). b && is_for i r lane.transfer) (sym (sending_transfers lane.sending k may))
holds_same lane lane_change.Settle i r may never =
    sym (not_of i r lane.sending lane.transfer (λ j is. never j is))
holds_same lane (lane_change.Abandon k) i r may never =
    sym (not_of i r lane.sending lane.transfer (λ j is. never j is))
holds_same lane (lane_change.Secure k n piece places) i r may never = refl
holds_same lane (lane_change.Complete k) i r may never = refl
holds_same lane lane_change.DropPieces i r may never = refl

number_stays : (lane : Lane) (new : LaneChange) → (changed lane new).number ≡ lane.number
number_stays lane (lane_change.Agree checkpoint window) = refl
number_stays lane lane_change.Bind = refl
number_stays lane (lane_change.Start t) = refl
number_stays lane (lane_change.Confirm k n) = refl
number_stays lane (lane_change.ToEnd k) = refl
number_stays lane lane_change.Settle = refl
number_stays lane (lane_change.Abandon k) = refl
number_stays lane (lane_change.Secure k n piece places) = refl
number_stays lane (lane_change.Complete k) = refl
number_stays lane lane_change.DropPieces = refl

-- in as many activities after a change of a lane
count_changed : (lanes : List Lane) (n : ℕ) (new : LaneChange) (i r : ℕ)
    → MayChangeAt (lane_at n lanes) new
    → ((j : ℕ) → item_by (lane_at n lanes) new ≡ Some j → i ≡ j → ⊥)
    → activities_of (put_changed lanes (lane_at n lanes) new) i r ≡ activities_of lanes i r
count_changed lanes n new i r may never = by_lane (lane_at n lanes) refl may never
  where
    by_lane : (o : Option Lane) → lane_at n lanes ≡ o → MayChangeAt o new
        → ((j : ℕ) → item_by o new ≡ Some j → i ≡ j → ⊥)
        → activities_of (put_changed lanes o new) i r ≡ activities_of lanes i r
    by_lane None is may never = refl
    by_lane (Some lane) is may never =
        let number : n ≡ (changed lane new).number = number-at lanes n lane is ∙ sym (number_stays lane new) in
        let there : lane_at (changed lane new).number lanes ≡ Some lane =
        subst (λ (k : ℕ). lane_at k lanes ≡ Some lane) number is in
        let counts = count-put lanes lane (changed lane new) i r there in
        let bits : bit_of (holds i r (changed lane new)) ≡ bit_of (holds i r lane) =
        ap bit_of (holds_same lane new i r may never) in
        omega (arith, counts, bits)

count_closed : (lanes : List Lane) (n : ℕ) (i r : ℕ)
    → ((j : ℕ) → item_on (lane_at n lanes) ≡ Some j → i ≡ j → ⊥)
    → activities_of (without_lane n lanes) i r ≡ activities_of lanes i r
count_closed lanes n i r never = by_lane (lane_at n lanes) refl never
  where
    none_closed : (ls : List Lane) → lane_at n ls ≡ None → without_lane n ls ≡ ls
    none_closed [] is = refl
    none_closed (l ∷ ls) is = by_test (none_closed ls) (eqb n l.number) is
      where
        by_test : (lane_at n ls ≡ None → without_lane n ls ≡ ls) → (b : Bool)
            → cond b (Some l) (lane_at n ls) ≡ None → cond b ls (l ∷ without_lane n ls) ≡ l ∷ ls
        by_test again true e = absurd cc
        by_test again false e = ap (λ (xs : List Lane). l ∷ xs) (again e)

    by_lane : (o : Option Lane) → lane_at n lanes ≡ o → ((j : ℕ) → item_on o ≡ Some j → i ≡ j → ⊥)
        → activities_of (without_lane n lanes) i r ≡ activities_of lanes i r
    by_lane None is never = ap (λ (ls : List Lane). activities_of ls i r) (none_closed lanes is)
    by_lane (Some lane) is never =
        let counts = count-without lanes lane n i r is in
        let bits : bit_of (holds i r lane) ≡ 0 = ap bit_of (not_of i r lane.sending lane.transfer never) in
        omega (arith, counts, bits)

-- ---- whose items are touched

none_of : (o : Option ℕ) (i r : ℕ) → (IsTouched (all_of o) i r → ⊥) → (j : ℕ) → o ≡ Some j → i ≡ j → ⊥
none_of None i r never j is same = cc
none_of (Some k) i r never j is same = let kj : k ≡ j = cc in never (same ∙ sym kj)

none_also : (o : Option ℕ) (k i r : ℕ) → (IsTouched (also o k) i r → ⊥) → (j : ℕ) → o ≡ Some j → i ≡ j → ⊥
none_also None k i r never j is same = cc
none_also (Some m) k i r never j is same = let mj : m ≡ j = cc in never (inl (same ∙ sym mj))

apart_also : (o : Option ℕ) (k i r : ℕ) → (IsTouched (also o k) i r → ⊥) → i ≡ k → ⊥
apart_also None k i r never same = never same
apart_also (Some m) k i r never same = never (inr same)

both_same : (p q : Bool) (m n : ℕ) → p ≡ q → m ≡ n → (p && (m == 0)) ≡ (q && (n == 0))
both_same p q m n pq mn = λ k. pq k && (mn k == 0)

-- ---- the law

pub untouched : (s : State) (new : Change) (i r : ℕ) → GoesOn new → CanChange s new → IsThere s.machine.items i
    → (IsTouched (touched_by s.lanes.open_lanes new) i r → ⊥)
    → is_waiting (changed_state s new) i r ≡ is_waiting s i r
untouched s (change.Begin kept) i r goes_on can there never = absurd goes_on
untouched s change.Format i r goes_on can there never = refl
untouched s (change.Tables text) i r goes_on can there never = refl
untouched s (change.Accept item moment) i r goes_on can there never =
    both_same _ _ _ _ (ap (has_status is_pending) (front s.machine.items (item ∷ []) i r there)) refl
untouched s (change.Settle item recipient status made line moment) i r goes_on can there never =
    both_same _ _ _ _
    (ap (has_status is_pending) (settled_status s.machine item recipient status (made_items made) i r there never))
    refl
untouched s (change.Open lane moment) i r goes_on can there never =
    let counts = count-more s.lanes.open_lanes lane i r in
    let bits : bit_of (holds i r lane) ≡ 0 =
    ap bit_of (not_of i r lane.sending lane.transfer (none_of (item_in lane.transfer) i r never)) in
    let same : activities_of (s.lanes.open_lanes ++ lane ∷ []) i r ≡ activities_of s.lanes.open_lanes i r =
    omega (arith, counts, bits) in
    both_same _ _ _ _ refl same
untouched s (change.OnLane n new moment) i r goes_on can there never =
    both_same _ _ _ _ refl
    (count_changed s.lanes.open_lanes n new i r can
    (none_of (item_by (lane_at n s.lanes.open_lanes) new) i r never))
untouched s (change.Complete n activity item moment) i r goes_on can there never =
    both_same _ _ _ _ (ap (has_status is_pending) (front s.machine.items (item ∷ []) i r there))
    (count_changed s.lanes.open_lanes n (lane_change.Complete activity) i r
    (may_complete (lane_at n s.lanes.open_lanes)) (nobody (lane_at n s.lanes.open_lanes)))
  where
    may_complete : (o : Option Lane) → MayChangeAt o (lane_change.Complete activity)
    may_complete None = tt
    may_complete (Some lane) = tt

    nobody : (o : Option Lane) (j : ℕ) → item_by o (lane_change.Complete activity) ≡ Some j → i ≡ j → ⊥
    nobody o j is same = cc
untouched s (change.Discharge n new item settlements moment) i r goes_on can there never =
    both_same _ _ _ _
    (ap (has_status is_pending)
    (turn_status s.machine item settlements.items moment i r there
    (apart_from i item (apart_also (item_by (lane_at n s.lanes.open_lanes) new) item i r never))))
    (count_changed s.lanes.open_lanes n new i r can
    (none_also (item_by (lane_at n s.lanes.open_lanes) new) item i r never))
untouched s (change.Close n) i r goes_on can there never =
    both_same _ _ _ _ refl
    (count_closed s.lanes.open_lanes n i r (none_of (item_on (lane_at n s.lanes.open_lanes)) i r never))
