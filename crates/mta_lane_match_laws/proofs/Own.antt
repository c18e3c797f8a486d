-- A session's own step leaves its lane as it knows it then.
use Rattle.std.proofs.Common.{◌≡◌, ℕ, ◌+◌, ◌≤◌, true, List, Option, Some, refl, sym, ap, subst, ◌∙◌, arith, inl, inr}
use Rattle.std.specs.Prelude.{◌&&◌, nat_lt}
use Rattle.std.proofs.lemmas.Bool.{and_parts}
use Rattle.mta_lane_send.specs.declared.state.SendState.{SendState}
use Rattle.mta_lane_send.specs.declared.state.SendState.TheVariants.{Idle, Sending, Ending, Dropping}
use Rattle.mta_lane_send.specs.Pieces.{has_piece_after}
use Rattle.mta_lane_send.specs.Half.{is_sending, goes_on, last_of, confirmed_of, confirmed_at}
use Rattle.mta_histories.specs.Lanes.{Lane, lane_at, put_lane, total_of}
use Rattle.mta_histories.specs.Lanes as spool
use Rattle.mta_histories.specs.Classes.{LaneStep, agree, bind, start, confirm, to_end, settle, abandon, secure}
use Rattle.mta_histories.specs.Classes.{complete, drop_pieces, close, Class, on_lane, class_of}
use Rattle.mta_histories.specs.Classes.{Outcome, was_sent, was_refused, was_denied, was_dropped}
use Rattle.mta_histories.specs.History.{IsOfGeneration, LaneNeeds, lane_after, StepNeeds, lanes_after, on_lane_after}
use Rattle.mta_histories.specs.History.{when, send_step, sends, with_piece}
use Rattle.mta_histories.proofs.LaneLists.{number-at}
use Rattle.mta_histories.proofs.Shown.{put-found}
use Rattle.mta_lane_match_laws.specs.Matches.{Known, IsHalf, IsKnown, IsLaterOrKnown, MatchesLane, Matches}
use Rattle.mta_lane_match_laws.specs.Steps.{IsAsked, IsTold, learned}
use Rattle.mta_lane_match_laws.specs.Laws.{OwnStepsMatch}

pub same_last : (known kept : SendState) → IsHalf known kept → last_of kept ≡ last_of known
same_last (Sending k c) kept (inl h) = ap last_of h
same_last (Sending k c) kept (inr h) = ap last_of h
same_last any0 kept h = ap last_of h

going_half : (known kept : SendState) (k : ℕ) → goes_on kept k ≡ true → IsHalf known kept → kept ≡ known
going_half (Sending j c) kept k e (inl h) = h
going_half (Sending j c) kept k e (inr h) =
    absurd (let none : goes_on (Dropping j) k ≡ true = subst (λ (x : SendState). goes_on x k ≡ true) h e in cc)
going_half any0 kept k e h = h

sending_goes : (kept : SendState) (k : ℕ) → is_sending kept k ≡ true → goes_on kept k ≡ true
sending_goes (Sending j c) k e = e
sending_goes any0 k e = absurd cc

half_same : (x : SendState) → IsHalf x x
half_same (Sending k c) = inl refl
half_same any0 = refl

settled_is : (lane : Lane) (outcome : Outcome) (k : ℕ)
    → sends lane (send_step outcome k) ≡ Idle (last_of lane.sending)
settled_is lane was_sent k = refl
settled_is lane (was_refused kind) k = refl
settled_is lane was_denied k = refl
settled_is lane was_dropped k = refl

confirm_goes : (lane : Lane) (k n : ℕ)
    → (goes_on lane.sending k && nat_lt (confirmed_of lane.sending) n
    && has_piece_after lane.checkpoint (total_of lane.transfer) n) ≡ true
    → goes_on lane.sending k ≡ true
confirm_goes lane k n e =
    let first = and_parts (goes_on lane.sending k && nat_lt (confirmed_of lane.sending) n)
    (has_piece_after lane.checkpoint (total_of lane.transfer) n) e in
    (and_parts (goes_on lane.sending k) (nat_lt (confirmed_of lane.sending) n) first.0).0

module _ (t : Known) (s : spool.State) (lane : Lane) (moment : ℕ) (octets : List ℕ) where
  known_after : (step : LaneStep) → IsAsked t step → LaneNeeds s lane step moment → IsTold s step moment octets
      → IsKnown t lane → IsKnown (learned t octets step) (lane_after s lane step moment)
  known_after (agree c w) asked needs told m = record {
    generation = m.generation;
    agreed = refl;
    twa = m.twa;
    checkpoint = asked.0;
    window = asked.1;
    sending = m.sending;
    octets = m.octets;
    high = m.high;
    last = m.last;
    pieces = m.pieces;
  }
  known_after bind asked needs told m = absurd asked
  known_after (start k i rs) asked needs told m = record {
    generation = m.generation;
    agreed = m.agreed;
    twa = m.twa;
    checkpoint = m.checkpoint;
    window = m.window;
    sending = inl (ap (λ (l : ℕ). Sending (l + 1) 0) (same_last t.sending lane.sending m.sending));
    octets = sym told;
    high = m.high;
    last = m.last;
    pieces = m.pieces;
  }
  known_after (confirm k n) asked needs told m =
      let same : lane.sending ≡ t.sending =
      going_half t.sending lane.sending k (confirm_goes lane k n needs) m.sending in
      record {
        generation = m.generation;
        agreed = m.agreed;
        twa = m.twa;
        checkpoint = m.checkpoint;
        window = m.window;
        sending = subst (λ (x : SendState). IsHalf (confirmed_at t.sending n) (confirmed_at x n)) (sym same)
            (half_same (confirmed_at t.sending n));
        octets = m.octets;
        high = m.high;
        last = m.last;
        pieces = m.pieces;
      }
  known_after (to_end k) asked needs told m =
      let same : lane.sending ≡ t.sending =
      going_half t.sending lane.sending k (sending_goes lane.sending k needs) m.sending in
      record {
        generation = m.generation;
        agreed = m.agreed;
        twa = m.twa;
        checkpoint = m.checkpoint;
        window = m.window;
        sending = ap (λ (l : ℕ). Ending l (confirmed_of lane.sending)) asked
            ∙ ap (λ (x : SendState). Ending (last_of t.sending) (confirmed_of x)) same;
        octets = m.octets;
        high = m.high;
        last = m.last;
        pieces = m.pieces;
      }
  known_after (settle outcome k) asked needs told m = record {
    generation = m.generation;
    agreed = m.agreed;
    twa = m.twa;
    checkpoint = m.checkpoint;
    window = m.window;
    sending = settled_is lane outcome k ∙ ap Idle (same_last t.sending lane.sending m.sending);
    octets = refl;
    high = m.high;
    last = m.last;
    pieces = m.pieces;
  }
  known_after (abandon k) asked needs told m = absurd asked
  known_after (secure k n piece) asked needs told m = record {
    generation = m.generation;
    agreed = m.agreed;
    twa = m.twa;
    checkpoint = m.checkpoint;
    window = m.window;
    sending = m.sending;
    octets = m.octets;
    high = refl;
    last = refl;
    pieces = ap (λ (xs : List (List ℕ)). with_piece xs n piece) m.pieces;
  }
  known_after (complete k n piece) asked needs told m = record {
    generation = m.generation;
    agreed = m.agreed;
    twa = m.twa;
    checkpoint = m.checkpoint;
    window = m.window;
    sending = m.sending;
    octets = m.octets;
    high = refl;
    last = refl;
    pieces = refl;
  }
  known_after (drop_pieces k) asked needs told m = record {
    generation = m.generation;
    agreed = m.agreed;
    twa = m.twa;
    checkpoint = m.checkpoint;
    window = m.window;
    sending = m.sending;
    octets = m.octets;
    high = m.high;
    last = refl;
    pieces = refl;
  }
  known_after close asked needs told m = absurd asked

  leads : (step : LaneStep) → lane.generation ≡ t.generation → IsAsked t step → LaneNeeds s lane step moment
      → IsTold s step moment octets → IsLaterOrKnown t lane
      → IsLaterOrKnown (learned t octets step) (lane_after s lane step moment)
  leads step same asked needs told (inl lt) = absurd (omega (arith, lt, same))
  leads step same asked needs told (inr m) = inr (known_after step asked needs told m)

  put_own : (new : Lane) (u : Known) → u.lane ≡ t.lane → new.number ≡ lane.number
      → lane_at t.lane s.lanes.open_lanes ≡ Some lane → IsLaterOrKnown u new
      → MatchesLane u (lane_at u.lane (put_lane new s.lanes.open_lanes))
  put_own new u mine kept at k =
      let here : t.lane ≡ new.number = number-at s.lanes.open_lanes t.lane lane at ∙ sym kept in
      let was : lane_at new.number s.lanes.open_lanes ≡ Some lane =
      subst (λ (v : ℕ). lane_at v s.lanes.open_lanes ≡ Some lane) here at in
      let found : lane_at u.lane (put_lane new s.lanes.open_lanes) ≡ Some new =
      subst (λ (v : ℕ). lane_at v (put_lane new s.lanes.open_lanes) ≡ Some new) (sym (mine ∙ here))
      (put-found new lane s.lanes.open_lanes was) in
      subst (MatchesLane u) (sym found) k

  -- after the step the session and the lane match
  abbrev IsLed : LaneStep → Type 0
  IsLed step =
      ((learned t octets step).lane ≤ s.lanes.count)
      × MatchesLane (learned t octets step)
      (lane_at (learned t octets step).lane (on_lane_after s (Some lane) step moment))

  led : (step : LaneStep) → (learned t octets step).lane ≡ t.lane
      → (lane_after s lane step moment).number ≡ lane.number → lane_at t.lane s.lanes.open_lanes ≡ Some lane
      → lane.generation ≡ t.generation → IsAsked t step → LaneNeeds s lane step moment
      → IsTold s step moment octets → IsLaterOrKnown t lane
      → MatchesLane (learned t octets step)
      (lane_at (learned t octets step).lane (put_lane (lane_after s lane step moment) s.lanes.open_lanes))
  led step mine kept at same asked needs told m =
      put_own (lane_after s lane step moment) (learned t octets step) mine kept at (leads step same asked needs told m)

  own_on : (step : LaneStep) → lane_at t.lane s.lanes.open_lanes ≡ Some lane → lane.generation ≡ t.generation
      → IsAsked t step → LaneNeeds s lane step moment → IsTold s step moment octets → t.lane ≤ s.lanes.count
      → IsLaterOrKnown t lane → IsLed step
  own_on (agree c w) at same asked needs told le m = (le, led (agree c w) refl refl at same asked needs told m)
  own_on bind at same asked needs told le m = absurd asked
  own_on (start k i rs) at same asked needs told le m = (le, led (start k i rs) refl refl at same asked needs told m)
  own_on (confirm k n) at same asked needs told le m = (le, led (confirm k n) refl refl at same asked needs told m)
  own_on (to_end k) at same asked needs told le m = (le, led (to_end k) refl refl at same asked needs told m)
  own_on (settle how k) at same asked needs told le m = (le, led (settle how k) refl refl at same asked needs told m)
  own_on (abandon k) at same asked needs told le m = absurd asked
  own_on (secure k n x) at same asked needs told le m = (le, led (secure k n x) refl refl at same asked needs told m)
  own_on (complete k n x) at same asked needs told le m =
      (le, led (complete k n x) refl refl at same asked needs told m)
  own_on (drop_pieces k) at same asked needs told le m = (le, led (drop_pieces k) refl refl at same asked needs told m)
  own_on close at same asked needs told le m = absurd asked

current : (t : Known) (lane : Lane) (step : LaneStep) → IsAsked t step
    → IsOfGeneration lane (Some t.generation) step → lane.generation ≡ t.generation
current t lane (agree c w) asked e = cc
current t lane bind asked e = absurd asked
current t lane (start k i rs) asked e = cc
current t lane (confirm k n) asked e = cc
current t lane (to_end k) asked e = cc
current t lane (settle how k) asked e = cc
current t lane (abandon k) asked e = absurd asked
current t lane (secure k n piece) asked e = cc
current t lane (complete k n piece) asked e = cc
current t lane (drop_pieces k) asked e = cc
current t lane close asked e = absurd asked

module _ (t : Known) (s : spool.State) (on : LaneStep) (octets : List ℕ) (moment : ℕ) where
  -- so behind a step of this class
  abbrev LedBy : Class → Type 0
  LedBy c =
      ((learned t octets on).lane ≤ (lanes_after s c moment).count)
      × MatchesLane (learned t octets on) (lane_at (learned t octets on).lane (lanes_after s c moment).open_lanes)

  abbrev LedAt : Option Lane → Type 0
  LedAt x =
      ((learned t octets on).lane ≤ s.lanes.count)
      × MatchesLane (learned t octets on) (lane_at (learned t octets on).lane (on_lane_after s x on moment))

  own_class : (c : Class) → c ≡ on_lane t.lane (Some t.generation) on → StepNeeds s c moment → IsAsked t on
      → IsTold s on moment octets → Matches t s → LedBy c
  own_class c is needs asked told m =
      let n = subst (λ (x : Class). StepNeeds s x moment) is needs in
      let same : n.lane.generation ≡ t.generation = current t n.lane on asked n.current in
      let held : MatchesLane t (Some n.lane) = subst (MatchesLane t) n.lane_is m.1 in
      subst LedBy (sym is)
      (subst LedAt (sym n.lane_is)
      (own_on t s n.lane moment octets on n.lane_is same asked n.needs told m.0 held))

pub own_steps_match : OwnStepsMatch
own_steps_match t s step on octets is possible asked told m =
    own_class t s on octets (when s step) (class_of step) is possible.allowed asked told m
