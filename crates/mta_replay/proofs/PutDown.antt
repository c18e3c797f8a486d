-- What is put down of recipients is so afterwards, and the rest stays.
use Rattle.std.proofs.Common.{◌≡◌, ◌≤◌, ◌<◌, ◌+◌, ℕ, zero, suc, Bool, List, [], ◌∷◌, ◌++◌}
use Rattle.std.proofs.Common.{inl, inr, length, Option, Some, refl, sym, ap, subst, ◌∙◌, arith}
use Rattle.std.specs.Prelude.{◌⊎◌, ◌&&◌, ◌==◌}
use Rattle.std.proofs.lemmas.Bool.{cases_lt}
use Rattle.std.proofs.lemmas.List.{length-append}
use Rattle.std.proofs.lemmas.Option.{same_Some}
use Rattle.mta_queue.specs.declared.mark.Mark.{Mark}
use Rattle.mta_queue.specs.Marks as marks
use Rattle.mta_queue.specs.Marks.{mark_of, route_by, route_in, row_of, set_mark, waits_in}
use Rattle.mta_queue.specs.Queues.{QueuesValue, places_at, room_at}
use Rattle.mta_queue.proofs.Counted.{row_before, row_last}
use Rattle.mta_queue.proofs.Marked.{same_or_not, set_apart, set_here, set_length, set_route, set_rows}
use Rattle.mta_machine.specs.Items.{ItemValue, has_status, is_pending, numbered, status_in}
use Rattle.mta_histories.specs.Lanes.{Lane, State, activities_of}
use Rattle.mta_histories.specs.Due.{routed}
use Rattle.mta_replay.specs.declared.touched.Touched.{Touched}
use Rattle.mta_replay.specs.declared.touched.Touched.TheVariants.{Nothing, One, All, Both}
use Rattle.mta_replay.specs.Queued.{AreQueued, IsMark, IsNamedBy, IsNextRow, IsOnePutDown, IsPutDown}
use Rattle.mta_replay.specs.Queued.{IsQueuedUpTo, Nobody, place_by}
use Rattle.mta_replay.specs.Touched.{IsTouched, is_waiting}

-- ---- recipients of one item

abbrev pub UpTo : (item most : ℕ) → ℕ → ℕ → Type 0
UpTo item most i r = (i ≡ item) × (r ≤ most)

-- what is put down of the recipients up to a number
pub record IsPutUpTo (s : State) (item most : ℕ) (old new : QueuesValue) : Type 0 where
  pub words : new.words ≡ old.words
  pub rows : length new.rows ≡ length old.rows
  pub lengths : (i : ℕ) → length (row_of new.rows i) ≡ length (row_of old.rows i)
  pub routes : (i r : ℕ) → route_in new.rows i r ≡ route_in old.rows i r
  pub touched : (i r : ℕ) → IsMark old.rows i r → UpTo item most i r → waits_in new.rows i r ≡ is_waiting s i r
  pub others : (i r : ℕ) → (UpTo item most i r → ⊥) → waits_in new.rows i r ≡ waits_in old.rows i r
  pub count : length new.queues ≡ length old.queues
  pub places : (place : ℕ) → places_at old.queues place item ≤ places_at new.queues place item
  pub room : new.room ≡ old.room

pub put_none : (s : State) (item : ℕ) (old : QueuesValue) → IsPutUpTo s item 0 old old
put_none s item old = record {
  words = refl;
  rows = refl;
  lengths = λ i. refl;
  routes = λ i r. refl;
  touched = λ i r mark to. absurd (let one = mark.0 in let most = to.1 in omega (arith, one, most));
  others = λ i r never. refl;
  count = refl;
  places = λ place. omega arith;
  room = refl;
}

pub put_more : (s : State) (item most : ℕ) (old now new : QueuesValue) → IsPutUpTo s item most old now
    → IsOnePutDown s item (most + 1) now new → IsPutUpTo s item (most + 1) old new
put_more s item most old now new before one = record {
  words = one.words ∙ before.words;
  rows = ap length one.rows ∙ (set_rows now.rows item (most + 1) w ∙ before.rows);
  lengths = λ i. lengths_here i ∙ before.lengths i;
  routes = λ i r.
      ap (λ (rows : List (List Mark)). route_in rows i r) one.rows
      ∙ (set_route now.rows item (most + 1) i r w ∙ before.routes i r);
  touched = λ i r mark to. touched_here i r mark to (cases_lt most r);
  others = λ i r never.
      ap (λ (rows : List (List Mark)). waits_in rows i r) one.rows
      ∙ (set_apart now.rows item (most + 1) i r w
      (λ same. never (same.0, (let at = same.1 in omega (arith, at))))
      ∙ before.others i r (λ to. never (to.0, (let le = to.1 in omega (arith, le)))));
  count = one.count ∙ before.count;
  places = λ place. (let a = before.places place in let b = one.places place in omega (arith, a, b));
  room = one.room ∙ before.room;
}
  where
    w : Bool
    w = is_waiting s item (most + 1)

    lengths_here : (i : ℕ) → length (row_of new.rows i) ≡ length (row_of now.rows i)
    lengths_here i =
        ap (λ (rows : List (List Mark)). length (row_of rows i)) one.rows ∙ set_length now.rows item (most + 1) i w

    touched_here : (i r : ℕ) → IsMark old.rows i r → UpTo item (most + 1) i r → (most < r) ⊎ (r ≤ most)
        → waits_in new.rows i r ≡ is_waiting s i r
    touched_here i r mark to (inr less) =
        ap (λ (rows : List (List Mark)). waits_in rows i r) one.rows
        ∙ (set_apart now.rows item (most + 1) i r w (λ same. (let at = same.1 in omega (arith, at, less)))
        ∙ before.touched i r mark (to.0, less))
    touched_here i r mark to (inl more) =
        let at : r ≡ most + 1 = (let le = to.1 in omega (arith, le, more)) in
        let there : most + 1 ≤ length (row_of now.rows item) =
        (let le = mark.1 in let same = before.lengths item in
        let here : length (row_of old.rows i) ≡ length (row_of old.rows item) =
        ap (λ (k : ℕ). length (row_of old.rows k)) to.0 in
        omega (arith, le, same, here, at)) in
        ap (λ (rows : List (List Mark)). waits_in rows i r) one.rows
        ∙ (ap (λ (k : ℕ). waits_in (set_mark now.rows item (most + 1) w) k r) to.0
        ∙ (ap (λ (k : ℕ). waits_in (set_mark now.rows item (most + 1) w) item k) at
        ∙ (set_here now.rows item (most + 1) w (omega arith) there
        ∙ (ap (λ (k : ℕ). is_waiting s item k) (sym at) ∙ ap (λ (k : ℕ). is_waiting s k r) (sym to.0)))))

-- all recipients of an item
pub put_all : (s : State) (item most : ℕ) (old new : QueuesValue) → length (row_of old.rows item) ≤ most
    → IsPutUpTo s item most old new → IsPutDown s (λ i r. i ≡ item) 1 old new
put_all s item most old new all up = record {
  words = up.words;
  rows = up.rows;
  lengths = up.lengths;
  routes = up.routes;
  touched = λ i r mark same. up.touched i r mark (same, within i r mark same);
  others = λ i r never. up.others i r (λ to. never to.0);
  count = up.count;
  places = λ place. room_left place (up.places place);
  room = up.room;
}
  where
    within : (i r : ℕ) → IsMark old.rows i r → i ≡ item → r ≤ most
    within i r mark same =
        let here : length (row_of old.rows i) ≡ length (row_of old.rows item) =
        ap (λ (k : ℕ). length (row_of old.rows k)) same in
        let le = mark.1 in omega (arith, le, here, all)

    room_left : (place : ℕ) → places_at old.queues place item ≤ places_at new.queues place item
        → room_at old.queues place ≤ room_at new.queues place + 1
    room_left place le = omega (arith, le)

pub ruleset all_laws = (put_none, put_more, put_all)

-- one recipient alone
pub put_one : (s : State) (item recipient : ℕ) (old new : QueuesValue) → IsOnePutDown s item recipient old new
    → IsPutDown s (λ i r. (i ≡ item) × (r ≡ recipient)) 2 old new
put_one s item recipient old new one = record {
  words = one.words;
  rows = ap length one.rows ∙ set_rows old.rows item recipient w;
  lengths = λ i.
      ap (λ (rows : List (List Mark)). length (row_of rows i)) one.rows ∙ set_length old.rows item recipient i w;
  routes = λ i r.
      ap (λ (rows : List (List Mark)). route_in rows i r) one.rows ∙ set_route old.rows item recipient i r w;
  touched = λ i r mark same. touched_here i r mark same.0 same.1;
  others = λ i r never.
      ap (λ (rows : List (List Mark)). waits_in rows i r) one.rows ∙ set_apart old.rows item recipient i r w never;
  count = one.count;
  places = λ place. (let le = one.places place in omega (arith, le));
  room = one.room;
}
  where
    w : Bool
    w = is_waiting s item recipient

    touched_here : (i r : ℕ) → IsMark old.rows i r → i ≡ item → r ≡ recipient
        → waits_in new.rows i r ≡ is_waiting s i r
    touched_here i r mark same at =
        let there : (1 ≤ recipient) × (recipient ≤ length (row_of old.rows item)) =
        subst (λ (k : ℕ). (1 ≤ k) × (k ≤ length (row_of old.rows item))) at
        (subst (λ (k : ℕ). (1 ≤ r) × (r ≤ length (row_of old.rows k))) same mark) in
        ap (λ (rows : List (List Mark)). waits_in rows i r) one.rows
        ∙ (ap (λ (k : ℕ). waits_in (set_mark old.rows item recipient w) k r) same
        ∙ (ap (λ (k : ℕ). waits_in (set_mark old.rows item recipient w) item k) at
        ∙ (set_here old.rows item recipient w there.0 there.1
        ∙ (ap (λ (k : ℕ). is_waiting s item k) (sym at) ∙ ap (λ (k : ℕ). is_waiting s k r) (sym same)))))

-- ---- whom a change touches

pub put_nothing : (s : State) (old : QueuesValue) → IsPutDown s (IsTouched Nothing) 2 old old
put_nothing s old = record {
  words = refl;
  rows = refl;
  lengths = λ i. refl;
  routes = λ i r. refl;
  touched = λ i r mark never. absurd never;
  others = λ i r never. refl;
  count = refl;
  places = λ place. omega arith;
  room = refl;
}

pub put_touched : (s : State) (item recipient : ℕ) (old new : QueuesValue) → IsOnePutDown s item recipient old new
    → IsPutDown s (IsTouched (One item recipient)) 2 old new
put_touched s item recipient old new one = put_one s item recipient old new one

pub put_item : (s : State) (item : ℕ) (old new : QueuesValue) → IsPutDown s (λ i r. i ≡ item) 1 old new
    → IsPutDown s (IsTouched (All item)) 2 old new
put_item s item old new all = record {
  words = all.words;
  rows = all.rows;
  lengths = all.lengths;
  routes = all.routes;
  touched = all.touched;
  others = all.others;
  count = all.count;
  places = λ place. (let le = all.places place in omega (arith, le));
  room = all.room;
}

pub put_both : (s : State) (item other : ℕ) (old now new : QueuesValue)
    → IsPutDown s (λ i r. i ≡ item) 1 old now → IsPutDown s (λ i r. i ≡ other) 1 now new
    → IsPutDown s (IsTouched (Both item other)) 2 old new
put_both s item other old now new first second = record {
  words = second.words ∙ first.words;
  rows = second.rows ∙ first.rows;
  lengths = λ i. second.lengths i ∙ first.lengths i;
  routes = λ i r. second.routes i r ∙ first.routes i r;
  touched = λ i r mark to. touched_here i r mark to (same_or_not i other);
  others = λ i r never.
      second.others i r (λ same. never (inr same)) ∙ first.others i r (λ same. never (inl same));
  count = second.count ∙ first.count;
  places = λ place. (let a = first.places place in let b = second.places place in omega (arith, a, b));
  room = second.room ∙ first.room;
}
  where
    still : (i r : ℕ) → IsMark old.rows i r → IsMark now.rows i r
    still i r mark = (mark.0, (let le = mark.1 in let same = first.lengths i in omega (arith, le, same)))

    touched_here : (i r : ℕ) → IsMark old.rows i r → (i ≡ item) ⊎ (i ≡ other) → (i ≡ other) ⊎ (i ≡ other → ⊥)
        → waits_in new.rows i r ≡ is_waiting s i r
    touched_here i r mark to (inl same) = second.touched i r (still i r mark) same
    touched_here i r mark (inl same) (inr never) = second.others i r never ∙ first.touched i r mark same
    touched_here i r mark (inr same) (inr never) = absurd (never same)

pub ruleset touched_laws = (put_nothing, put_touched, put_item, put_both)

-- a recipient is touched or not
pub is_touched : (t : Touched) (i r : ℕ) → IsTouched t i r ⊎ (IsTouched t i r → ⊥)
is_touched Nothing i r = inr (λ never. never)
is_touched (One item recipient) i r = by_two (same_or_not i item) (same_or_not r recipient)
  where
    by_two : (i ≡ item) ⊎ (i ≡ item → ⊥) → (r ≡ recipient) ⊎ (r ≡ recipient → ⊥)
        → ((i ≡ item) × (r ≡ recipient)) ⊎ ((i ≡ item) × (r ≡ recipient) → ⊥)
    by_two (inl same) (inl at) = inl (same, at)
    by_two (inr never) b = inr (λ to. never to.0)
    by_two (inl same) (inr never) = inr (λ to. never to.1)
is_touched (All item) i r = same_or_not i item
is_touched (Both item other) i r = by_two (same_or_not i item) (same_or_not i other)
  where
    by_two : (i ≡ item) ⊎ (i ≡ item → ⊥) → (i ≡ other) ⊎ (i ≡ other → ⊥)
        → ((i ≡ item) ⊎ (i ≡ other)) ⊎ ((i ≡ item) ⊎ (i ≡ other) → ⊥)
    by_two (inl same) b = inl (inl same)
    by_two (inr never) (inl same) = inl (inr same)
    by_two (inr never) (inr nor) = inr (λ to. neither to)
      where
        neither : (i ≡ item) ⊎ (i ≡ other) → ⊥
        neither (inl same) = never same
        neither (inr same) = nor same

-- ---- the queues

module _ (text : List ℕ) (s : State) where
  -- once those who were apart are put down, nobody is
  pub put_queued : (T : ℕ → ℕ → Type 0) (most count : ℕ) (old new : QueuesValue)
      → ((i r : ℕ) → T i r ⊎ (T i r → ⊥)) → IsQueuedUpTo text s old count T → IsPutDown s T most old new
      → IsQueuedUpTo text s new count Nobody
  put_queued T most count old new decide queued put = record {
    named = subst (λ (words : List (List ℕ)). IsNamedBy text words) (sym put.words) queued.named;
    rows = put.rows ∙ queued.rows;
    counts = λ i item is within. put.lengths i ∙ queued.counts i item is within;
    routes = λ i r mark.
        put.routes i r
        ∙ (queued.routes i r (before i r mark)
        ∙ ap (λ (words : List (List ℕ)). place_by words (routed (Some text) (numbered s.machine.items i) r))
        (sym put.words));
    waits = λ i r mark never. waits_here i r (before i r mark) (decide i r);
  }
    where
      before : (i r : ℕ) → IsMark new.rows i r → IsMark old.rows i r
      before i r mark = (mark.0, (let le = mark.1 in let same = put.lengths i in omega (arith, le, same)))

      waits_here : (i r : ℕ) → IsMark old.rows i r → T i r ⊎ (T i r → ⊥)
          → waits_in new.rows i r ≡ is_waiting s i r
      waits_here i r mark (inl to) = put.touched i r mark to
      waits_here i r mark (inr never) = put.others i r never ∙ queued.waits i r mark never

  -- one item more, of which nothing is put down yet
  pub push_queued : (count : ℕ) (old new : QueuesValue) (row : List Mark) → IsQueuedUpTo text s old count Nobody
      → IsNextRow text old.words s.machine.items count row → new.words ≡ old.words
      → new.rows ≡ old.rows ++ row ∷ [] → IsQueuedUpTo text s new (count + 1) (λ i r. i ≡ count + 1)
  push_queued count old new row queued next words rows = record {
    named = subst (λ (ws : List (List ℕ)). IsNamedBy text ws) (sym words) queued.named;
    rows = ap length rows ∙ more;
    counts = λ i item is within. counts i item is within (same_or_not i (suc (length old.rows)));
    routes = λ i r mark. routes i r mark (same_or_not i (suc (length old.rows)));
    waits = λ i r mark apart. waits i r mark apart (same_or_not i (suc (length old.rows)));
  }
    where
      more : length (old.rows ++ row ∷ []) ≡ count + 1
      more = (let c = queued.rows in let all = length-append old.rows (row ∷ []) in omega (arith, c, all))

      here : (i : ℕ) → i ≡ suc (length old.rows) → i ≡ suc count
      here i at = at ∙ ap suc queued.rows

      last : (i : ℕ) → i ≡ suc (length old.rows) → row_of new.rows i ≡ row
      last i at =
          ap (λ (rs : List (List Mark)). row_of rs i) rows
          ∙ (ap (λ (k : ℕ). row_of (old.rows ++ row ∷ []) k) at ∙ row_last old.rows row)

      before : (i : ℕ) → (i ≡ suc (length old.rows) → ⊥) → row_of new.rows i ≡ row_of old.rows i
      before i never = ap (λ (rs : List (List Mark)). row_of rs i) rows ∙ row_before old.rows row i never

      counts : (i : ℕ) (item : ItemValue) → numbered s.machine.items i ≡ Some item → i ≤ count + 1
          → (i ≡ suc (length old.rows)) ⊎ (i ≡ suc (length old.rows) → ⊥)
          → length (row_of new.rows i) ≡ length item.statuses
      counts i item is within (inl at) =
          let same : next.item ≡ item =
          same_Some next.item item
          (sym next.item_is ∙ (ap (λ (k : ℕ). numbered s.machine.items k) (sym (here i at)) ∙ is)) in
          ap length (last i at) ∙ (next.row_is.count_is ∙ ap (λ (x : ItemValue). length x.statuses) same)
      counts i item is within (inr never) =
          ap length (before i never) ∙ queued.counts i item is (earlier (cases_lt count i))
        where
          earlier : (count < i) ⊎ (i ≤ count) → i ≤ count
          earlier (inl far) = absurd (never (let c = queued.rows in omega (arith, far, within, c)))
          earlier (inr le) = le

      routes : (i r : ℕ) → IsMark new.rows i r
          → (i ≡ suc (length old.rows)) ⊎ (i ≡ suc (length old.rows) → ⊥)
          → route_in new.rows i r ≡ place_by new.words (routed (Some text) (numbered s.machine.items i) r)
      routes i r mark (inl at) =
          let same : length (row_of new.rows i) ≡ length row = ap length (last i at) in
          let count_is = next.row_is.count_is in
          let most = mark.1 in
          ap (λ (x : List Mark). route_by (mark_of x r)) (last i at)
          ∙ (next.row_is.routes r mark.0 (omega (arith, most, same, count_is))
          ∙ (ap (λ (o : Option ItemValue). place_by old.words (routed (Some text) o r))
          (sym next.item_is ∙ ap (λ (k : ℕ). numbered s.machine.items k) (sym (here i at)))
          ∙ ap (λ (ws : List (List ℕ)). place_by ws (routed (Some text) (numbered s.machine.items i) r)) (sym words)))
      routes i r mark (inr never) =
          ap (λ (x : List Mark). route_by (mark_of x r)) (before i never)
          ∙ (queued.routes i r (subst (λ (x : List Mark). (1 ≤ r) × (r ≤ length x)) (before i never) mark)
          ∙ ap (λ (ws : List (List ℕ)). place_by ws (routed (Some text) (numbered s.machine.items i) r)) (sym words))

      waits : (i r : ℕ) → IsMark new.rows i r → (i ≡ count + 1 → ⊥)
          → (i ≡ suc (length old.rows)) ⊎ (i ≡ suc (length old.rows) → ⊥)
          → waits_in new.rows i r ≡ is_waiting s i r
      waits i r mark apart (inl at) = absurd (apart (let same = here i at in omega (arith, same)))
      waits i r mark apart (inr never) =
          ap (λ (x : List Mark). marks.is_waiting (mark_of x r)) (before i never)
          ∙ queued.waits i r (subst (λ (x : List Mark). (1 ≤ r) × (r ≤ length x)) (before i never) mark)
          (λ nobody. nobody)

  -- without items
  pub none_queued : (v : QueuesValue) → IsNamedBy text v.words → v.rows ≡ [] → IsQueuedUpTo text s v 0 Nobody
  none_queued v named none = record {
    named = named;
    rows = ap length none;
    counts = λ i item is within. absurd (no_item i is within);
    routes = λ i r mark. absurd (no_mark i r mark);
    waits = λ i r mark never. absurd (no_mark i r mark);
  }
    where
      no_item : (i : ℕ) {item : ItemValue} → numbered s.machine.items i ≡ Some item → i ≤ 0 → ⊥
      no_item zero is within = cc
      no_item (suc k) is within = omega (arith, within)

      empty : (i : ℕ) → length (row_of [] i) ≡ 0
      empty zero = refl
      empty (suc k) = refl

      no_mark : (i r : ℕ) → IsMark v.rows i r → ⊥
      no_mark i r mark =
          let nothing : length (row_of v.rows i) ≡ 0 =
          ap (λ (rows : List (List Mark)). length (row_of rows i)) none ∙ empty i in
          let one = mark.0 in let le = mark.1 in omega (arith, one, le, nothing)

  -- the same of queues with the same words and recipients
  pub queued_same : (count : ℕ) (T : ℕ → ℕ → Type 0) (old new : QueuesValue) → new.words ≡ old.words
      → new.rows ≡ old.rows → IsQueuedUpTo text s old count T → IsQueuedUpTo text s new count T
  queued_same count T old new words rows queued = record {
    named = subst (λ (ws : List (List ℕ)). IsNamedBy text ws) (sym words) queued.named;
    rows = ap length rows ∙ queued.rows;
    counts = λ i item is within.
        ap (λ (rs : List (List Mark)). length (row_of rs i)) rows ∙ queued.counts i item is within;
    routes = λ i r mark.
        ap (λ (rs : List (List Mark)). route_in rs i r) rows
        ∙ (queued.routes i r (subst (λ (rs : List (List Mark)). IsMark rs i r) rows mark)
        ∙ ap (λ (ws : List (List ℕ)). place_by ws (routed (Some text) (numbered s.machine.items i) r)) (sym words));
    waits = λ i r mark never.
        ap (λ (rs : List (List Mark)). waits_in rs i r) rows
        ∙ queued.waits i r (subst (λ (rs : List (List Mark)). IsMark rs i r) rows mark) never;
  }

-- an item more, of which it was put down whether its recipients wait
pub row_added : (text : List ℕ) (s : State) (old pushed new : QueuesValue) (row : List Mark) (number : ℕ)
    → IsQueuedUpTo text s old (length old.rows) Nobody
    → IsNextRow text old.words s.machine.items (length old.rows) row → pushed.words ≡ old.words
    → pushed.rows ≡ old.rows ++ row ∷ [] → number ≡ length pushed.rows
    → IsPutDown s (λ i r. i ≡ number) 1 pushed new → IsQueuedUpTo text s new (length new.rows) Nobody
row_added text s old pushed new row number queued next words rows is put =
    let more : length pushed.rows ≡ length old.rows + 1 =
    ap length rows ∙ (let all = length-append old.rows (row ∷ []) in omega (arith, all)) in
    let down = subst (λ (k : ℕ). IsPutDown s (λ i r. i ≡ k) 1 pushed new) (is ∙ more) put in
    subst (λ (k : ℕ). IsQueuedUpTo text s new k Nobody) (sym (put.rows ∙ more))
    (put_queued text s (λ i r. i ≡ length old.rows + 1) 1 (length old.rows + 1) pushed new
    (λ i r. same_or_not i (length old.rows + 1))
    (push_queued text s (length old.rows) old pushed row queued next words rows) down)

-- the same in a state with the same items and lanes
pub queued_by : (text : List ℕ) (s t : State) (v : QueuesValue) → t.machine.items ≡ s.machine.items
    → t.lanes.open_lanes ≡ s.lanes.open_lanes → AreQueued text s v → AreQueued text t v
queued_by text s t v items lanes queued = record {
  named = queued.named;
  rows = queued.rows ∙ ap length (sym items);
  counts = λ i item is within.
      queued.counts i item (ap (λ (xs : List ItemValue). numbered xs i) (sym items) ∙ is)
      (let all = ap length items in omega (arith, within, all));
  routes = λ i r mark.
      queued.routes i r mark
      ∙ ap (λ (xs : List ItemValue). place_by v.words (routed (Some text) (numbered xs i) r)) (sym items);
  waits = λ i r mark apart.
      queued.waits i r mark apart
      ∙ (ap (λ (xs : List ItemValue). has_status is_pending (status_in xs i r)
      && (activities_of s.lanes.open_lanes i r == 0)) (sym items)
      ∙ ap (λ (ls : List Lane). has_status is_pending (status_in t.machine.items i r) && (activities_of ls i r == 0))
      (sym lanes));
}
