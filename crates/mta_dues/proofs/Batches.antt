-- What goes to a peer next, found in its queue.
use Rattle.std.proofs.Common.{inl, inr, ◌≡◌, ◌≢◌, ◌≤◌, ◌<◌, ◌+◌, ℕ, zero, suc, true, false, eqb, List, [], ◌∷◌}
use Rattle.std.proofs.Common.{length, get_or, Option, Some, None, refl, sym, ap, subst, ◌∙◌, arith}
use Rattle.std.specs.Prelude.{slice_get}
use Rattle.std.proofs.lemmas.Bool.{cases_lt, eqb-true, or_cases}
use Rattle.std.proofs.lemmas.Option.{same_Some}
use Rattle.mta_lanes.specs.Order.{AreInOrder}
use Rattle.mta_machine.specs.Items.{ItemValue, has_status, is_pending, names, numbered}
use Rattle.mta_machine.specs.Machine.{last_tables, relay_by}
use Rattle.mta_machine.specs.Rules.{peer_word, verdict_of}
use Rattle.mta_histories.specs.Lanes.{State}
use Rattle.mta_histories.specs.Due.{IsAscending, IsQueue, IsRoutedTo, IsToRelay, routed}
use Rattle.mta_idle_laws.proofs.Spans.{place_of_relay, relays_are_routed}
use Rattle.mta_state.specs.declared.rest.Span.{Span}
use Rattle.mta_state.specs.Spans.{has}
use Rattle.mta_dues.specs.Answers.{AreRelayed, IsBatchOf, NoneRelayedBefore}
use Rattle.mta_dues.specs.Index.{AreSpansIn}
use Rattle.mta_dues.specs.Spans.{IsNextOpen, NoneOpenBetween, is_open, open_by}
use Rattle.mta_dues.proofs.Passed.{pending_in}
use Rattle.mta_dues.proofs.Relays.{relay_is}

-- ---- ascending numbers

behind_first : (a : ℕ) (xs : List ℕ) → IsAscending (a ∷ xs) → IsAscending xs
behind_first a [] up = tt
behind_first a (b ∷ xs) up = up.1

above_first : (a : ℕ) (xs : List ℕ) → IsAscending (a ∷ xs) → (k : ℕ) → k < length xs → a < get_or xs k 0
above_first a [] up k within = absurd (omega (arith, within))
above_first a (b ∷ xs) up zero within = up.0
above_first a (b ∷ xs) up (suc k) within =
    let less = up.0 in
    let more = above_first b xs up.1 k (omega (arith, within)) in
    omega (arith, less, more)

pub in_order : (xs : List ℕ) → IsAscending xs → AreInOrder xs
in_order [] up i j most within = absurd (omega (arith, within))
in_order (a ∷ xs) up zero zero most within = omega arith
in_order (a ∷ xs) up zero (suc j) most within =
    let less = above_first a xs up j (omega (arith, within)) in omega (arith, less)
in_order (a ∷ xs) up (suc i) zero most within = absurd (omega (arith, most))
in_order (a ∷ xs) up (suc i) (suc j) most within =
    in_order xs (behind_first a xs up) i j (omega (arith, most)) (omega (arith, within))

-- where a number stands
record IsPlaced (xs : List ℕ) (x : ℕ) : Type 0 where
  place : ℕ
  within : place < length xs
  there : get_or xs place 0 ≡ x

placed : (xs : List ℕ) (x : ℕ) → names xs x ≡ true → IsPlaced xs x
placed [] x is = absurd cc
placed (y ∷ xs) x is = elim (or_cases (eqb x y) (names xs x) is) [
  | inl same ↦ record { place = 0; within = omega arith; there = sym (eqb-true x y same) }
  | inr among ↦ (let later = placed xs x among in
      record {
        place = suc later.place;
        within = (let within = later.within in omega (arith, within));
        there = later.there;
      })
]

-- ---- who is relayed

module _ (s : State) (format : ℕ) (text peer : List ℕ) (moment : ℕ)
    (text_is : numbered s.machine.tables (last_tables s.machine) ≡ Some text)
    (format_is : format ≡ s.machine.format) where
  relayed_of : (i r : ℕ) (item : ItemValue) → numbered s.machine.items i ≡ Some item → IsToRelay s peer moment i r
      → relay_by text (verdict_of format text item.octets item.arrival r moment) ≡ Some peer
  relayed_of i r item item_is to =
      sym (relay_is s.machine i r moment format text item text_is format_is item_is) ∙ to.relayed

  -- who is to be relayed to the peer waits for it
  pub relayed_routed : (i r : ℕ) → IsToRelay s peer moment i r → IsRoutedTo s peer i r
  relayed_routed i r to =
      let there = pending_in s.machine i r to.waiting.pending in
      record {
        waiting = to.waiting;
        to_peer =
            ap (λ (t : Option (List ℕ)). routed t (numbered s.machine.items i) r) text_is
            ∙ ap (λ (x : Option ItemValue). routed (Some text) x r) there.item_is
            ∙ relays_are_routed format text there.item.octets there.item.arrival r moment peer
            (relayed_of i r there.item there.item_is to);
      }

  -- and it is a peer of the tables
  pub relayed_named : (i r : ℕ) → IsToRelay s peer moment i r → (place : ℕ) × (peer_word text place ≡ Some peer)
  relayed_named i r to =
      let there = pending_in s.machine i r to.waiting.pending in
      let at = place_of_relay text (verdict_of format text there.item.octets there.item.arrival r moment) peer
      (relayed_of i r there.item there.item_is to) in
      (at.place, at.word)

  module _ (spans : List Span) (are : AreSpansIn format text s.machine.items spans) where
    -- nobody of an item is to be relayed whose span has not the moment
    pub closed_not_relayed : (i r : ℕ) → is_open spans i moment ≡ false → IsToRelay s peer moment i r → ⊥
    closed_not_relayed zero r closed to =
        let there = pending_in s.machine zero r to.waiting.pending in
        let from = there.from in
        omega (arith, from)
    closed_not_relayed (suc n) r closed to = by_span (slice_get spans n) refl closed
      where
        by_span : (o : Option Span) → slice_get spans n ≡ o → open_by o moment ≡ false → ⊥
        by_span None is never = cc
        by_span (Some span) is isnt =
            let own = are (suc n) span is in
            let there = pending_in s.machine (suc n) r to.waiting.pending in
            let same : there.item ≡ own.item = same_Some there.item own.item (sym there.item_is ∙ own.item_is) in
            let pending : has_status is_pending (numbered own.item.statuses r) ≡ true =
            subst (λ (x : ItemValue). has_status is_pending (numbered x.statuses r) ≡ true) same there.pending in
            let does : has span moment ≡ true =
            own.within r moment peer pending (relayed_of (suc n) r own.item own.item_is to) in
            cc

    module _ (queue : List ℕ) (is_queue : IsQueue s peer queue) where
      -- where an item with a recipient to relay stands in the queue
      place_in : (i r : ℕ) → IsToRelay s peer moment i r → IsPlaced queue i
      place_in i r to = placed queue i ((is_queue.each i).1 (r, relayed_routed i r to))

      pub none_before_first : NoneRelayedBefore s peer moment queue 0
      none_before_first k r less within to = absurd (omega (arith, less))

      -- none of what was passed over is relayed
      none_passed : (from most : ℕ) → NoneRelayedBefore s peer moment queue from
          → NoneOpenBetween spans queue from most moment → NoneRelayedBefore s peer moment queue most
      none_passed from most before none k r less within to = elim (cases_lt k from) [
        | inl below ↦ before k r below within to
        | inr on ↦ closed_not_relayed (get_or queue k 0) r (none k on less) to
      ]

      pub none_with_one : (from place : ℕ) (rs : List ℕ) → NoneRelayedBefore s peer moment queue from
          → IsNextOpen spans queue from moment (Some place)
          → AreRelayed s peer moment (get_or queue place 0) rs → rs ≡ []
          → NoneRelayedBefore s peer moment queue (place + 1)
      none_with_one from place rs before next are_rs none k r less within to = elim (cases_lt k place) [
        | inl below ↦ none_passed from place before next.none k r below within to
        | inr on ↦ (let here : k ≡ place = omega (arith, less, on) in
            let named : names rs r ≡ true =
            (are_rs.each r).1
            (subst (λ (p : ℕ). IsToRelay s peer moment (get_or queue p 0) r) here to) in
            let nobody : names rs r ≡ false = rw none refl in
            cc)
      ]

      pub no_batch : (from : ℕ) → NoneRelayedBefore s peer moment queue from
          → IsNextOpen spans queue from moment None → IsBatchOf s peer moment None
      no_batch from before next i r to =
          let at = place_in i r to in
          none_passed from (length queue) before next at.place r at.within at.within
          (subst (λ (j : ℕ). IsToRelay s peer moment j r) (sym at.there) to)

      pub a_batch : (from place : ℕ) (rs : List ℕ) → NoneRelayedBefore s peer moment queue from
          → IsNextOpen spans queue from moment (Some place)
          → AreRelayed s peer moment (get_or queue place 0) rs → rs ≢ []
          → IsBatchOf s peer moment (Some (record { item = get_or queue place 0; recipients = rs }))
      a_batch from place rs before next are_rs some = record {
        some_recipients = some;
        ascending = are_rs.ascending;
        each = are_rs.each;
        lowest = λ j r to. by_place j r to (place_in j r to);
      } where
        by_place : (j r : ℕ) → IsToRelay s peer moment j r → IsPlaced queue j → get_or queue place 0 ≤ j
        by_place j r to at = elim (cases_lt at.place place) [
          | inl below ↦
              absurd
              (none_passed from place before next.none at.place r below at.within
              (subst (λ (i : ℕ). IsToRelay s peer moment i r) (sym at.there) to))
          | inr on ↦ (let up = in_order queue is_queue.ascending place at.place on at.within in
              let there = at.there in
              omega (arith, up, there))
        ]
