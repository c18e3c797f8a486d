-- The last activity of a sending half is the highest that was started.
use Rattle.std.proofs.Common.{◌≡◌, ℕ, ◌+◌, ◌≤◌, ◌<◌, max, Bool, true, false, cond, eqb, List, []}
use Rattle.std.proofs.Common.{◌∷◌, Option, Some, refl, sym, ap, subst, ◌∙◌, arith}
use Rattle.std.proofs.lemmas.Bool.{eqb-true, eqb-false, eq-eqb, ne_eqb}
use Rattle.mta_lane_send.specs.Half.{last_of}
use Rattle.mta_records.specs.declared.step.Step.{Step}
use Rattle.mta_histories.specs.Lanes.{Lane, Lanes, State, empty, lane_at, put_lane, without_lane, EachLane}
use Rattle.mta_histories.specs.Classes.{was_sent, was_refused, was_denied, was_dropped, LaneStep, agree, bind, start}
use Rattle.mta_histories.specs.Classes.{confirm, to_end, settle, abandon, secure, complete, drop_pieces, close, Class}
use Rattle.mta_histories.specs.Classes.{begins, sets_format, records, accepts, settles, opens, on_lane, class_of}
use Rattle.mta_records.specs.State.{SnapshotValue}
use Rattle.mta_histories.specs.Sound.{lanes_begun}
use Rattle.mta_histories.proofs.Falls.{each-found}
use Rattle.mta_histories.specs.History.{LaneNeeds, StepNeeds, lane_after, on_lane_after, lanes_after, new_lane, when}
use Rattle.mta_histories.specs.History.{after_step, after_from, ArePossible}
use Rattle.mta_histories.specs.Kept.{IsKept, AreNumbered, started_in, started_by, last_among, highest_started}
use Rattle.mta_histories.specs.Laws.{LastIsHighestStarted}
use Rattle.mta_histories.proofs.LaneLists.{each-at, each-without, each-more, each-weaker, number-at, number-within}
use Rattle.mta_histories.proofs.Halves.{confirmed-last, sending-last}
use Rattle.mta_histories.proofs.Keeps.{empty_kept, steps_keep}

-- the lane that a step puts, among lanes with other numbers
each-put-other : (P : Lane → Type 0) (new : Lane) (above : ℕ) (lanes : List Lane) (most : ℕ)
    → AreNumbered above lanes most → P new
    → EachLane (λ l. eqb l.number new.number ≡ false → P l) lanes → EachLane P (put_lane new lanes)
each-put-other P new above [] most a p each = tt
each-put-other P new above (l ∷ lanes) most a p each =
    by_test (each-put-other P new l.number lanes most a.1 p each.1) (eqb new.number l.number) refl
  where
    further : (low : ℕ) (rest : List Lane) → new.number ≤ low → AreNumbered low rest most
        → EachLane (λ x. eqb x.number new.number ≡ false → P x) rest → EachLane P rest
    further low [] le b e = tt
    further low (x ∷ rest) le b e = (
      e.0 (ne_eqb x.number new.number (λ f. omega (arith, b.0, le, f))),
      further x.number rest
          (omega (arith, b.0, le)) b.1 e.1,
    )

    by_test : EachLane P (put_lane new lanes) → (b : Bool) → eqb new.number l.number ≡ b
        → EachLane P (cond b (new ∷ lanes) (l ∷ put_lane new lanes))
    by_test again true test = let same : new.number ≡ l.number =
        eqb-true new.number l.number test in (p, further l.number lanes (omega (arith, same)) a.1 each.1)
    by_test again false test =
        (each.0 (ne_eqb l.number new.number (λ f. eqb-false new.number l.number test (sym f))), again)

-- what was started so far
record Tracks (h : ℕ → ℕ) (lanes : Lanes) : Type 0 where
  pub each : EachLane (λ l. last_of l.sending ≡ h l.number) lanes.open_lanes
  pub none : (n : ℕ) → lanes.count < n → h n ≡ 0

last-after : (s : State) (lane : Lane) (step : LaneStep) (moment : ℕ) → LaneNeeds s lane step moment
    → last_of (lane_after s lane step moment).sending ≡ max (last_of lane.sending) (started_in step)
last-after s lane (agree checkpoint window) moment needs = omega arith
last-after s lane bind moment needs = omega arith
last-after s lane (start k i rs) moment needs = omega (arith, needs.next)
last-after s lane (confirm k n) moment needs = omega (arith, confirmed-last lane.sending n)
last-after s lane (to_end k) moment needs = omega (arith, sending-last lane.sending k needs)
last-after s lane (settle was_sent k) moment needs = omega arith
last-after s lane (settle (was_refused kind) k) moment needs = omega arith
last-after s lane (settle was_denied k) moment needs = omega arith
last-after s lane (settle was_dropped k) moment needs = omega arith
last-after s lane (abandon k) moment needs = omega (arith, sending-last lane.sending k needs.0)
last-after s lane (secure k n piece) moment needs = omega arith
last-after s lane (complete k n piece) moment needs = omega arith
last-after s lane (drop_pieces k) moment needs = omega arith
last-after s lane close moment needs = omega arith

abbrev with_step : (ℕ → ℕ) → ℕ → ℕ → ℕ → ℕ
with_step h m k n = max (h n) (cond (eqb n m) k 0)

step-here : (h : ℕ → ℕ) (m k n : ℕ) → n ≡ m → with_step h m k n ≡ max (h n) k
step-here h m k n e = ap (λ (b : Bool). max (h n) (cond b k 0)) (eq-eqb n m e)

step-other : (h : ℕ → ℕ) (m k n : ℕ) → eqb n m ≡ false → with_step h m k n ≡ h n
step-other h m k n e = ap (λ (b : Bool). max (h n) (cond b k 0)) e ∙ bare (h n)
  where
    bare : (a : ℕ) → max a 0 ≡ a
    bare a = omega arith

put-tracks : (h : ℕ → ℕ) (s : State) (n : ℕ) (lane : Lane) (step : LaneStep) (moment : ℕ)
    → lane_at n s.lanes.open_lanes ≡ Some lane → (lane_after s lane step moment).number ≡ lane.number
    → IsKept s
    → LaneNeeds s lane step moment → Tracks h s.lanes
    → EachLane (λ l. last_of l.sending ≡ with_step h n (started_in step) l.number)
    (put_lane (lane_after s lane step moment) s.lanes.open_lanes)
put-tracks h s n lane step moment found same kept needs t =
    each-put-other (λ l. last_of l.sending ≡ with_step h n (started_in step) l.number)
    (lane_after s lane step moment) 0 s.lanes.open_lanes s.lanes.count kept.numbered_lanes here
    (each-weaker (λ l. last_of l.sending ≡ h l.number)
    (λ l. eqb l.number (lane_after s lane step moment).number ≡ false
    → last_of l.sending ≡ with_step h n (started_in step) l.number) s.lanes.open_lanes
    (λ l was apart. was ∙ sym
    (step-other h n (started_in step) l.number (ap (eqb l.number) number ∙ apart))) t.each)
  where
    number : n ≡ (lane_after s lane step moment).number
    number = number-at s.lanes.open_lanes n lane found ∙ sym same

    was : last_of lane.sending ≡ h lane.number
    was = each-at (λ l. last_of l.sending ≡ h l.number) s.lanes.open_lanes n lane found t.each

    here : last_of (lane_after s lane step moment).sending ≡ with_step h n (started_in step)
        (lane_after s lane step moment).number
    here =
        last-after s lane step moment needs
        ∙ (ap (λ (a : ℕ). max a (started_in step)) (was ∙ ap h (sym same)) ∙ sym
        (step-here h n (started_in step) (lane_after s lane step moment).number (sym number)))

bare-max : (a : ℕ) → a ≡ max a 0
bare-max a = omega arith

close-tracks : (h : ℕ → ℕ) (s : State) (n m : ℕ) → Tracks h s.lanes
    → EachLane (λ l. last_of l.sending ≡ with_step h n 0 l.number) (without_lane m s.lanes.open_lanes)
close-tracks h s n m t =
    each-without (λ l. last_of l.sending ≡ with_step h n 0 l.number) m s.lanes.open_lanes
    (each-weaker (λ l. last_of l.sending ≡ h l.number)
    (λ l. last_of l.sending ≡ with_step h n 0 l.number) s.lanes.open_lanes
    (λ l was. was ∙ nothing l.number (eqb l.number n)) t.each)
  where
    nothing : (k : ℕ) (b : Bool) → h k ≡ max (h k) (cond b 0 0)
    nothing k true = bare-max (h k)
    nothing k false = bare-max (h k)

on-lane-tracks : (h : ℕ → ℕ) (s : State) (n : ℕ) (lane : Lane) (step : LaneStep) (moment : ℕ)
    → lane_at n s.lanes.open_lanes ≡ Some lane → IsKept s → LaneNeeds s lane step moment → Tracks h s.lanes
    → EachLane (λ l. last_of l.sending ≡ with_step h n (started_in step) l.number)
    (on_lane_after s (Some lane) step moment)
on-lane-tracks h s n lane (agree checkpoint window) moment found kept needs t =
    put-tracks h s n lane (agree checkpoint window) moment found refl kept needs t
on-lane-tracks h s n lane bind moment found kept needs t = put-tracks h s n lane bind moment found refl kept needs t
on-lane-tracks h s n lane (start k i rs) moment found kept needs t =
    put-tracks h s n lane (start k i rs) moment found refl kept needs t
on-lane-tracks h s n lane (confirm k c) moment found kept needs t =
    put-tracks h s n lane (confirm k c) moment found refl kept needs t
on-lane-tracks h s n lane (to_end k) moment found kept needs t =
    put-tracks h s n lane (to_end k) moment found refl kept needs t
on-lane-tracks h s n lane (settle outcome k) moment found kept needs t =
    put-tracks h s n lane (settle outcome k) moment found refl kept needs t
on-lane-tracks h s n lane (abandon k) moment found kept needs t =
    put-tracks h s n lane (abandon k) moment found refl kept needs t
on-lane-tracks h s n lane (secure k p piece) moment found kept needs t =
    put-tracks h s n lane (secure k p piece) moment found refl kept needs t
on-lane-tracks h s n lane (complete k p piece) moment found kept needs t =
    put-tracks h s n lane (complete k p piece) moment found refl kept needs t
on-lane-tracks h s n lane (drop_pieces k) moment found kept needs t =
    put-tracks h s n lane (drop_pieces k) moment found refl kept needs t
on-lane-tracks h s n lane close moment found kept needs t = close-tracks h s n lane.number t

with-none : (h : ℕ → ℕ) (lanes : Lanes) → Tracks h lanes → Tracks (λ n. max (h n) 0) lanes
with-none h lanes t = record {
  each = each-weaker (λ l. last_of l.sending ≡ h l.number)
      (λ l. last_of l.sending ≡ max (h l.number) 0) lanes.open_lanes
      (λ l was. was ∙ bare-max (h l.number)) t.each;
  none = λ n above. omega (arith, t.none n above);
}

-- the lanes of a snapshot
among-each : (above : ℕ) (lanes : List Lane) (most : ℕ) → AreNumbered above lanes most
    → EachLane (λ l. last_among l.number lanes ≡ last_of l.sending) lanes
among-each above lanes most a =
    each-weaker (λ l. lane_at l.number lanes ≡ Some l) (λ l. last_among l.number lanes ≡ last_of l.sending) lanes
    (λ l found. among lanes l.number l found) (each-found above lanes most a)
  where
    among : (all : List Lane) (n : ℕ) (l : Lane) → lane_at n all ≡ Some l → last_among n all ≡ last_of l.sending
    among [] n l e = absurd cc
    among (x ∷ all) n l e = by_test (eqb n x.number) e (among all n l)
      where
        by_test : (b : Bool) → cond b (Some x) (lane_at n all) ≡ Some l
            → (lane_at n all ≡ Some l → last_among n all ≡ last_of l.sending)
            → cond b (last_of x.sending) (last_among n all) ≡ last_of l.sending
        by_test true f later = ap (λ (y : Lane). last_of y.sending) (some-same x l f)
          where
            some-same : (a c : Lane) → Some a ≡ Some c → a ≡ c
            some-same a c g = cc
        by_test false f later = later f

among-none : (above : ℕ) (lanes : List Lane) (most n : ℕ) → AreNumbered above lanes most → most < n
    → last_among n lanes ≡ 0
among-none above [] most n a past = refl
among-none above (l ∷ lanes) most n a past =
    ap (λ (b : Bool). cond b (last_of l.sending) (last_among n lanes))
    (ne_eqb n l.number (λ e. omega (arith, past, e, number-most l.number lanes most a.1)))
    ∙ among-none l.number lanes most n a.1 past
  where
    number-most : (low : ℕ) (rest : List Lane) (top : ℕ) → AreNumbered low rest top → low ≤ top
    number-most low [] top b = b
    number-most low (x ∷ rest) top b = omega (arith, b.0, number-most x.number rest top b.1)

begun-tracks : (h : ℕ → ℕ) (s : State) (t : SnapshotValue) → s ≡ empty → AreNumbered 0 t.lanes t.lane_count
    → Tracks h s.lanes → Tracks (λ n. max (h n) (last_among n t.lanes)) (lanes_begun t)
begun-tracks h s t none numbered tracks = record {
  each = above-zero (λ l. last_of l.sending ≡ max (h l.number) (last_among l.number t.lanes)) 0 t.lanes t.lane_count
      numbered
      (each-weaker (λ l. last_among l.number t.lanes ≡ last_of l.sending)
      (λ l. 0 < l.number → last_of l.sending ≡ max (h l.number) (last_among l.number t.lanes)) t.lanes
      (λ l e above. omega (arith, e, tracks.none l.number (omega (arith, count, above))))
      (among-each 0 t.lanes t.lane_count numbered));
  none = λ n above. omega (
    arith,
    among-none 0 t.lanes t.lane_count n numbered above,
    tracks.none n (omega (arith, count, above)),
  );
} where
  count : s.lanes.count ≡ 0
  count = ap (λ (x : State). x.lanes.count) none

  above-zero : (P : Lane → Type 0) (low : ℕ) (lanes : List Lane) (most : ℕ) → AreNumbered low lanes most
      → EachLane (λ l. 0 < l.number → P l) lanes → EachLane P lanes
  above-zero P low [] most a each = tt
  above-zero P low (l ∷ lanes) most a each =
      (each.0 (omega (arith, a.0)), above-zero P l.number lanes most a.1 each.1)

class-tracks : (h : ℕ → ℕ) (s : State) (c : Class) (moment : ℕ) → IsKept s → StepNeeds s c moment
    → Tracks h s.lanes → Tracks (λ n. max (h n) (started_by n c)) (lanes_after s c moment)
class-tracks h s (begins b) moment kept needs t =
    begun-tracks h s b (kept.at_first needs.first) needs.kept.numbered_lanes t
class-tracks h s sets_format moment kept needs t = with-none h s.lanes t
class-tracks h s (records text) moment kept needs t = with-none h s.lanes t
class-tracks h s (accepts octets) moment kept needs t = with-none h s.lanes t
class-tracks h s (settles how i r) moment kept needs t = with-none h s.lanes t
class-tracks h s (opens role peer reference twa checkpoint window) moment kept needs t = record {
  each = each-more (λ l. last_of l.sending ≡ max (h l.number) 0) s.lanes.open_lanes
      (new_lane (s.lanes.count + 1) role peer reference twa checkpoint window)
      (omega (arith, t.none (s.lanes.count + 1) (omega arith))) (with-none h s.lanes t).each;
  none = λ n above. omega (arith, t.none n (omega (arith, above)));
}
class-tracks h s (on_lane n g step) moment kept needs t = record {
  each = subst (λ (o : Option Lane). EachLane (λ l. last_of l.sending ≡ with_step h n (started_in step) l.number)
      (on_lane_after s o step moment)) (sym needs.lane_is)
      (on-lane-tracks h s n needs.lane step moment needs.lane_is kept needs.needs t);
  none = λ m above. step-other h n (started_in step) m (ne_eqb m n (apart m above)) ∙ t.none m above;
} where
  within : n ≤ s.lanes.count
  within =
      let same = number-at s.lanes.open_lanes n needs.lane needs.lane_is in
      omega (
        arith,
        same,
        number-within 0 s.lanes.open_lanes s.lanes.count n needs.lane kept.numbered_lanes
            needs.lane_is,
      )

  apart : (m : ℕ) → s.lanes.count < m → m ≡ n → ⊥
  apart m above e = omega (arith, above, e, within)

track-along : (h : ℕ → ℕ) (s : State) (steps : List Step) → IsKept s → ArePossible s steps
    → Tracks h s.lanes → EachLane (λ l. last_of l.sending ≡ max (h l.number) (highest_started l.number steps))
    (after_from s steps).lanes.open_lanes
track-along h s [] kept p t = (with-none h s.lanes t).each
track-along h s (step ∷ steps) kept p t =
    each-weaker
    (λ l. last_of l.sending ≡ max (max (h l.number) (started_by l.number (class_of step)))
    (highest_started l.number steps))
    (λ l. last_of l.sending ≡ max (h l.number) (highest_started l.number (step ∷ steps)))
    (after_from (after_step s step) steps).lanes.open_lanes
    (λ l was. was ∙ grouped (h l.number) (started_by l.number (class_of step)) (highest_started l.number steps))
    (track-along (λ n. max (h n) (started_by n (class_of step))) (after_step s step) steps
    (steps_keep s step kept p.0) p.1 (class-tracks h s (class_of step) (when s step) kept p.0.allowed t))
  where
    grouped : (a b c : ℕ) → max (max a b) c ≡ max a (max b c)
    grouped a b c = omega arith

pub last_is_highest_started : LastIsHighestStarted
last_is_highest_started steps history =
    each-weaker (λ l. last_of l.sending ≡ max 0 (highest_started l.number steps))
    (λ l. last_of l.sending ≡ highest_started l.number steps) (after_from empty steps).lanes.open_lanes
    (λ l was. was ∙ bare (highest_started l.number steps))
    (track-along (λ n. 0) empty steps empty_kept history (record { each = tt; none = λ n above. refl }))
  where
    bare : (a : ℕ) → max 0 a ≡ a
    bare a = omega arith
