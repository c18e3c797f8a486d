-- The queues follow a change: what was put down before it is so of whom it does not touch, and the recipients of the
-- items that it makes come behind the others.
use Rattle.std.proofs.Common.{◌≡◌, ◌≤◌, ◌<◌, ◌+◌, ◌-◌, ℕ, zero, suc, List, [], ◌∷◌, ◌++◌}
use Rattle.std.proofs.Common.{inl, inr, length, Option, Some, None, refl, sym, ap, subst, ◌∙◌, arith}
use Rattle.std.specs.Prelude.{◌⊎◌, IfSome, option_to_list, slice_get}
use Rattle.std.proofs.lemmas.Bool.{cases_lt}
use Rattle.std.proofs.lemmas.List.{length-append}
use Rattle.std.proofs.lemmas.Option.{same_Some, slice_get_within}
use Rattle.mta_queue.specs.declared.mark.Mark.{Mark}
use Rattle.mta_queue.specs.Marks.{marks_in, row_of}
use Rattle.mta_queue.specs.Queues.{QueuesValue}
use Rattle.mta_queue.proofs.Marked.{same_or_not, unequal}
use Rattle.mta_records.specs.declared.state.Status.{Status}
use Rattle.mta_machine.specs.Items.{ItemValue, Machine, numbered, set_numbered}
use Rattle.mta_machine.specs.Machine.{with_statuses}
use Rattle.mta_machine.specs.Rules.{route_word}
use Rattle.mta_machine.proofs.Later.{length-set_numbered}
use Rattle.mta_machine.proofs.Numbered.{numbered-front, set-other, set-same}
use Rattle.mta_histories.specs.Lanes.{State}
use Rattle.mta_histories.specs.Due.{routed}
use Rattle.mta_state.specs.Parts.{made_items}
use Rattle.mta_state.specs.Settled.{put_settled, settled, with_settled}
use Rattle.mta_state.specs.Kept.{CanChange, changed_state, settled_in_turn}
use Rattle.mta_state.specs.Readings.{IsDecodedOf}
use Rattle.mta_state.specs.declared.decoded.Decoded.{Decoded}
use Rattle.mta_state.specs.declared.change.Settlement.{Settlement}
use Rattle.mta_state.specs.declared.change.Change.{Change}
use Rattle.mta_state.specs.declared.change.Change.TheVariants as change
use Rattle.mta_replay.specs.declared.replay.InForce.{InForce}
use Rattle.mta_replay.specs.declared.touched.Touched.{Touched}
use Rattle.mta_replay.specs.Expected.{AreAlike, AreQueuedUnder, Follows, IsExpected, IsExpectedUnder, IsReadOfLast}
use Rattle.mta_replay.specs.Expected.{IsReadOfMade, IsReadUnder, MayFollow}
use Rattle.mta_replay.specs.Queued.{AreComing, AreQueued, AreRows, GoesOn, IsMark, IsQueuedUpTo, IsRow, made_by}
use Rattle.mta_replay.specs.Queued.{made_in_turn, place_by}
use Rattle.mta_replay.specs.Touched.{IsTouched, touched_by}
use Rattle.mta_replay.proofs.Rowed.{rows_count}
use Rattle.mta_replay.proofs.Untouched.{untouched}

-- ---- items stay, but for the statuses of their recipients

-- an item with these octets, and as many recipients
pub record IsLike (new : Option ItemValue) (item : ItemValue) : Type 0 where
  pub other : ItemValue
  pub other_is : new ≡ Some other
  pub octets : other.octets ≡ item.octets
  pub count : length other.statuses ≡ length item.statuses

like_trans : (a : Option ItemValue) (item : ItemValue) (one : IsLike a item) (b : Option ItemValue)
    → IsLike b one.other → IsLike b item
like_trans a item one b two = record {
  other = two.other;
  other_is = two.other_is;
  octets = two.octets ∙ one.octets;
  count = two.count ∙ one.count;
}

like_self : (o : Option ItemValue) (item : ItemValue) → o ≡ Some item → IsLike o item
like_self o item is = record { other = item; other_is = is; octets = refl; count = refl }

-- The items of before are like themselves, and those that were made come behind them.
pub record HaveGrown (old new made : List ItemValue) : Type 0 where
  pub length_is : length new ≡ length old + length made
  pub like : (i : ℕ) (item : ItemValue) → numbered old i ≡ Some item → IsLike (numbered new i) item
  pub behind : (k : ℕ) (item : ItemValue) → slice_get made k ≡ Some item
      → IsLike (numbered new (suc (length old + k))) item

get_after : (xs ys : List ItemValue) (k : ℕ) → slice_get (xs ++ ys) (length xs + k) ≡ slice_get ys k
get_after [] ys k = ap (λ (n : ℕ). slice_get ys n) (let same : 0 + k ≡ k = omega arith in same)
get_after (x ∷ xs) ys k =
    ap (λ (n : ℕ). slice_get (x ∷ xs ++ ys) n)
    (let same : suc (length xs) + k ≡ suc (length xs + k) = omega arith in same)
    ∙ get_after xs ys k

get_before : (xs ys : List ItemValue) (k : ℕ) (item : ItemValue) → slice_get (xs ++ ys) k ≡ Some item → k < length xs
    → slice_get xs k ≡ Some item
get_before [] ys k item is within = absurd (omega (arith, within))
get_before (x ∷ xs) ys zero item is within = is
get_before (x ∷ xs) ys (suc k) item is within = get_before xs ys k item is (omega (arith, within))

no_items : (items : List ItemValue) → HaveGrown items items []
no_items items = record {
  length_is = omega arith;
  like = λ i item is. like_self (numbered items i) item is;
  behind = λ k item is. absurd cc;
}

-- items of which one has other statuses, and more
module _ (now : List ItemValue) (j : ℕ) (rs : List ℕ) (s : Status) where
  length-with : (ss : List (Option Status)) (qs : List ℕ) → length (with_statuses ss qs s) ≡ length ss
  length-with ss [] = refl
  length-with ss (q ∷ qs) = length-with (set_numbered ss q (Some s)) qs ∙ length-set_numbered ss q (Some s)

  length_settled : length (with_settled now j rs s) ≡ length now
  length_settled = by_item (numbered now j)
    where
      by_item : (o : Option ItemValue) → length (put_settled now j o rs s) ≡ length now
      by_item None = refl
      by_item (Some item) = length-set_numbered now j (settled item rs s)

  like_settled : (i : ℕ) (item : ItemValue) → numbered now i ≡ Some item
      → IsLike (numbered (with_settled now j rs s) i) item
  like_settled i item is = by_item (numbered now j) refl
    where
      by_place : (x : ItemValue) → numbered now j ≡ Some x → (i ≡ j) ⊎ (i ≡ j → ⊥)
          → IsLike (numbered (set_numbered now j (settled x rs s)) i) item
      by_place x at (inl same) =
          let xi : x ≡ item = same_Some x item (sym at ∙ (ap (numbered now) (sym same) ∙ is)) in
          record {
            other = settled x rs s;
            other_is =
                ap (λ (k : ℕ). numbered (set_numbered now j (settled x rs s)) k) same
                ∙ set-same now j (settled x rs s) x at;
            octets = ap (λ (y : ItemValue). y.octets) xi;
            count = length-with x.statuses rs ∙ ap (λ (y : ItemValue). length y.statuses) xi;
          }
      by_place x at (inr never) =
          like_self (numbered (set_numbered now j (settled x rs s)) i) item
          (set-other now j i (settled x rs s) (unequal i j never) ∙ is)

      by_item : (o : Option ItemValue) → numbered now j ≡ o → IsLike (numbered (put_settled now j o rs s) i) item
      by_item None at = like_self (numbered now i) item is
      by_item (Some x) at = by_place x at (same_or_not i j)

-- more behind items of which one has other statuses, or none
more_behind : (now mid more : List ItemValue) → length mid ≡ length now
    → ((i : ℕ) (item : ItemValue) → numbered now i ≡ Some item → IsLike (numbered mid i) item)
    → (old made : List ItemValue) → HaveGrown old now made → HaveGrown old (mid ++ more) (made ++ more)
more_behind now mid more same alike old made grown = record {
  length_is =
      (let a = length-append mid more in let b = length-append made more in let c = grown.length_is in
      omega (arith, a, b, c, same));
  like = λ i item is.
      step i item (grown.like i item is);
  behind = λ k item is. behind k item is (cases_lt k (length made));
}
  where
    step : (i : ℕ) (item : ItemValue) → IsLike (numbered now i) item → IsLike (numbered (mid ++ more) i) item
    step i item one =
        let two = alike i one.other one.other_is in
        let there = numbered-front mid more i two.other two.other_is in
        like_trans (numbered now i) item one (numbered (mid ++ more) i)
        (record { other = two.other; other_is = there; octets = two.octets; count = two.count })

    behind : (k : ℕ) (item : ItemValue) → slice_get (made ++ more) k ≡ Some item
        → (k < length made) ⊎ (length made ≤ k) → IsLike (numbered (mid ++ more) (suc (length old + k))) item
    behind k item is (inl less) =
        step (suc (length old + k)) item (grown.behind k item (get_before made more k item is less))
    behind k item is (inr far) =
        let d : ℕ = k - length made in
        let at : length mid + d ≡ length old + k = (let c = grown.length_is in omega (arith, c, same, far)) in
        let here : length made + d ≡ k = omega (arith, far) in
        like_self (numbered (mid ++ more) (suc (length old + k))) item
        (ap (λ (n : ℕ). slice_get (mid ++ more) n) (sym at)
        ∙ (get_after mid more d
        ∙ (sym (get_after made more d) ∙ (ap (λ (n : ℕ). slice_get (made ++ more) n) here ∙ is))))

same_items : (items made : List ItemValue) → HaveGrown items (items ++ made) made
same_items items made =
    more_behind items items made refl (λ i item is. like_self (numbered items i) item is) items [] (no_items items)

grown_settled : (items made : List ItemValue) (j : ℕ) (rs : List ℕ) (s : Status)
    → HaveGrown items (with_settled items j rs s ++ made) made
grown_settled items made j rs s =
    more_behind items (with_settled items j rs s) made (length_settled items j rs s) (like_settled items j rs s) items
    []
    (no_items items)

grown_turn : (m : Machine) (j : ℕ) (settlements : List Settlement) (moment : ℕ)
    → HaveGrown m.items (settled_in_turn m j settlements moment).items (made_in_turn settlements)
grown_turn m j [] moment = no_items m.items
grown_turn m j (x ∷ rest) moment =
    let now = settled_in_turn m j rest moment in
    more_behind now.items (with_settled now.items j (x.recipient ∷ []) x.status) (option_to_list x.made)
    (length_settled now.items j (x.recipient ∷ []) x.status)
    (like_settled now.items j (x.recipient ∷ []) x.status) m.items (made_in_turn rest)
    (grown_turn m j rest moment)

grown : (s : State) (new : Change) → GoesOn new
    → HaveGrown s.machine.items (changed_state s new).machine.items (made_by new)
grown s (change.Begin kept) goes_on = absurd goes_on
grown s change.Format goes_on = no_items s.machine.items
grown s (change.Tables text) goes_on = no_items s.machine.items
grown s (change.Accept item moment) goes_on = same_items s.machine.items (item ∷ [])
grown s (change.Settle item recipient status made line moment) goes_on =
    grown_settled s.machine.items (made_items made) item (recipient ∷ []) status
grown s (change.Open lane moment) goes_on = no_items s.machine.items
grown s (change.OnLane n new moment) goes_on = no_items s.machine.items
grown s (change.Complete n activity item moment) goes_on = same_items s.machine.items (item ∷ [])
grown s (change.Discharge n new item settlements moment) goes_on = grown_turn s.machine item settlements.items moment
grown s (change.Close n) goes_on = no_items s.machine.items

-- ---- what was put down before

-- there is an item of a recipient
record IsFor (items : List ItemValue) (i : ℕ) : Type 0 where
  item : ItemValue
  item_is : numbered items i ≡ Some item

is_for : (items : List ItemValue) (rows : List (List Mark)) (i r : ℕ) → length rows ≡ length items → IsMark rows i r
    → IsFor items i
is_for items rows zero r same mark = absurd (let one = mark.0 in let le = mark.1 in omega (arith, one, le))
is_for items rows (suc n) r same mark = by_row (slice_get rows n) refl mark.0 mark.1
  where
    at : (xs : List ItemValue) (k : ℕ) → k < length xs → IsFor xs (suc k)
    at [] k within = absurd (omega (arith, within))
    at (x ∷ xs) zero within = record { item = x; item_is = refl }
    at (x ∷ xs) (suc k) within =
        let later = at xs k (omega (arith, within)) in record { item = later.item; item_is = later.item_is }

    by_row : (o : Option (List Mark)) → slice_get rows n ≡ o → 1 ≤ r → r ≤ length (marks_in o) → IsFor items (suc n)
    by_row None e one le = absurd (omega (arith, one, le))
    by_row (Some row) e one le =
        at items n (let less = slice_get_within rows n row e in omega (arith, less, same))

module _ (text : List ℕ) (s : State) (new : Change) (v : QueuesValue) (queued : AreQueued text s v)
    (goes_on : GoesOn new) (can : CanChange s new)
  where
    still : (i : ℕ) (item : ItemValue) → numbered s.machine.items i ≡ Some item
        → IsLike (numbered (changed_state s new).machine.items i) item
    still i item is = (grown s new goes_on).like i item is

    counts_still : (i : ℕ) (item : ItemValue) → numbered (changed_state s new).machine.items i ≡ Some item
        → i ≤ length v.rows → length (row_of v.rows i) ≡ length item.statuses
    counts_still zero item is within = absurd cc
    counts_still (suc n) item is within =
        by_old (slice_get s.machine.items n) refl
      where
        by_old : (o : Option ItemValue) → slice_get s.machine.items n ≡ o
            → length (row_of v.rows (suc n)) ≡ length item.statuses
        by_old None none = absurd
            (let there = at s.machine.items n (let same = queued.rows in omega (arith, within, same)) in
            let never = sym none ∙ there.item_is in cc)
          where
            at : (xs : List ItemValue) (k : ℕ) → k < length xs → IsFor xs (suc k)
            at [] k within = absurd (omega (arith, within))
            at (x ∷ xs) zero within = record { item = x; item_is = refl }
            at (x ∷ xs) (suc k) within =
                let later = at xs k (omega (arith, within)) in record { item = later.item; item_is = later.item_is }
        by_old (Some old) was =
            let one = still (suc n) old was in
            let same : one.other ≡ item = same_Some one.other item (sym one.other_is ∙ is) in
            queued.counts (suc n) old was (let all = queued.rows in omega (arith, within, all))
            ∙ (sym one.count ∙ ap (λ (x : ItemValue). length x.statuses) same)

    route_still : (i r : ℕ) → IsMark v.rows i r
        → routed (Some text) (numbered s.machine.items i) r
        ≡ routed (Some text) (numbered (changed_state s new).machine.items i) r
    route_still i r mark =
        let one_of = is_for s.machine.items v.rows i r queued.rows mark in
        let one = still i one_of.item one_of.item_is in
        ap (λ (o : Option ItemValue). routed (Some text) o r) one_of.item_is
        ∙ (ap (λ (octets : List ℕ). route_word text octets r) (sym one.octets)
        ∙ sym (ap (λ (o : Option ItemValue). routed (Some text) o r) one.other_is))

    pub queued_still : IsQueuedUpTo text (changed_state s new) v (length v.rows)
        (IsTouched (touched_by s.lanes.open_lanes new))
    queued_still = record {
      named = queued.named;
      rows = refl;
      counts = counts_still;
      routes = λ i r mark. queued.routes i r mark ∙ ap (place_by v.words) (route_still i r mark);
      waits = λ i r mark apart.
          queued.waits i r mark (λ nobody. nobody)
          ∙ sym (untouched s new i r goes_on can (there i r mark) apart);
    }
      where
        there : (i r : ℕ) → IsMark v.rows i r → (item : ItemValue) × (numbered s.machine.items i ≡ Some item)
        there i r mark =
            (let one_of = is_for s.machine.items v.rows i r queued.rows mark in (one_of.item, one_of.item_is))

-- ---- what is to come

coming : (text : List ℕ) (words : List (List ℕ)) (items : List ItemValue) (count : ℕ) (rows : List (List Mark))
    (made : List ItemValue)
    → ((k : ℕ) (item : ItemValue) → slice_get made k ≡ Some item → IsLike (numbered items (suc (count + k))) item)
    → length items ≡ count + length made → AreRows text words rows made → AreComing text words items count rows
coming text words items count [] [] behind all are = omega (arith, all)
coming text words items count [] (x ∷ made) behind all are = absurd are
coming text words items count (row ∷ rows) [] behind all are = absurd are
coming text words items count (row ∷ rows) (x ∷ made) behind all are = (
  (let first = behind 0 x refl in
      let at : count + 0 ≡ count = omega arith in
      record {
        item = first.other;
        item_is = ap (λ (n : ℕ). numbered items (suc n)) (sym at) ∙ first.other_is;
        row_is =
            subst (λ (n : ℕ). IsRow text words first.other.octets n row) (sym first.count)
            (subst (λ (octets : List ℕ). IsRow text words octets (length x.statuses) row) (sym first.octets) are.0);
      }),
  coming text words items (suc count) rows made
      (λ k item is. (let at : count + suc k ≡ suc count + k = omega arith in
      subst (λ (n : ℕ). IsLike (numbered items (suc n)) item) at (behind (suc k) item is)))
      (omega (arith, all)) are.1,
)

-- ---- the rules in force

module _ {R : Type 0} (text : R → List ℕ) where
  follows : (s t : State) (new : Change) (touched : Touched) (force : InForce R)
      → AreQueued (text force.rules) s force.queues → IsExpected text force new → CanChange s new
      → t ≡ changed_state s new → touched ≡ touched_by s.lanes.open_lanes new → Follows text t touched force
  follows s t new touched force queued expected can is same =
      subst (λ (x : State). Follows text x touched force) (sym is)
      (subst (λ (x : Touched). Follows text (changed_state s new) x force) (sym same)
      (record {
        queued = queued_still (text force.rules) s new force.queues queued expected.goes_on can;
        coming =
            coming (text force.rules) force.queues.words (changed_state s new).machine.items (length force.queues.rows)
            force.coming.items (made_by new)
            (λ k item at. (let all = queued.rows in
            subst (λ (n : ℕ). IsLike (numbered (changed_state s new).machine.items (suc (n + k))) item) (sym all)
            ((grown s new expected.goes_on).behind k item at)))
            (let all = queued.rows in let long = (grown s new expected.goes_on).length_is in omega (arith, all, long))
            expected.rows;
        room = (let count = rows_count (text force.rules) force.queues.words force.coming.items (made_by new)
            expected.rows in let room = expected.room in omega (arith, count, room));
        places = λ place within. (let count = rows_count (text force.rules) force.queues.words force.coming.items
            (made_by new) expected.rows in let room = expected.places place within in omega (arith, count, room));
      }))

  pub may_follow : (s t : State) (new : Change) (touched : Touched) (rules : Option (InForce R))
      → AreQueuedUnder text s rules → IsExpectedUnder text rules new → CanChange s new
      → t ≡ changed_state s new → touched ≡ touched_by s.lanes.open_lanes new → MayFollow text t touched rules
  may_follow s t new touched None queued expected can is same = tt
  may_follow s t new touched (Some force) queued expected can is same =
      follows s t new touched force queued expected can is same

  -- ---- the reading of what was made

  -- the one item that a change makes is the last one
  made_last : (s : State) (new : Change) (decoded : Decoded) → GoesOn new → IsReadOfMade new decoded
      → IsReadOfLast (changed_state s new).machine.items decoded
  made_last s new decoded goes_on read =
      let more = grown s new goes_on in
      let first : slice_get (made_by new) 0 ≡ Some read.item =
      ap (λ (xs : List ItemValue). slice_get xs 0) read.made in
      let one = more.behind 0 read.item first in
      let count : length (made_by new) ≡ 1 = ap (λ (xs : List ItemValue). length xs) read.made in
      let all = more.length_is in
      let last : suc (length s.machine.items + 0) ≡ length (changed_state s new).machine.items =
      omega (arith, all, count) in
      record {
        item = one.other;
        item_is =
            subst (λ (n : ℕ). numbered (changed_state s new).machine.items n ≡ Some one.other) last one.other_is;
        decoded = subst (λ (octets : List ℕ). IsDecodedOf octets decoded) (sym one.octets) read.read_as;
      }

  some_last : (s : State) (new : Change) (read : Option Decoded) → GoesOn new → IfSome read (IsReadOfMade new)
      → IfSome read (IsReadOfLast (changed_state s new).machine.items)
  some_last s new None goes_on is = tt
  some_last s new (Some decoded) goes_on is = made_last s new decoded goes_on is

  pub read_under : (s t : State) (new : Change) (old now : Option (InForce R)) → IsExpectedUnder text old new
      → t ≡ changed_state s new → AreAlike old now → IsReadUnder t.machine.items now
  read_under s t new None None expected is alike = tt
  read_under s t new None (Some g) expected is alike = absurd alike
  read_under s t new (Some f) None expected is alike = absurd alike
  read_under s t new (Some f) (Some g) expected is alike =
      subst (λ (x : State). IfSome g.read (IsReadOfLast x.machine.items)) (sym is)
      (subst (λ (o : Option Decoded). IfSome o (IsReadOfLast (changed_state s new).machine.items)) (sym alike.2)
      (some_last s new f.read expected.goes_on expected.read))
