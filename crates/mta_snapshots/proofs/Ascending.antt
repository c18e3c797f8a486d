-- The numbers of lanes.
use Rattle.std.proofs.Common.{◌≡◌, ℕ, ◌+◌, ◌<◌, ◌≤◌, Bool, true, false, List, [], ◌∷◌, length, get_or, drop, refl, sym}
use Rattle.std.proofs.Common.{subst, arith}
use Rattle.std.specs.Prelude.{◌↔◌, ◌≢◌}
use Rattle.std.proofs.lemmas.List.{drop_all}
use Rattle.mta_records.specs.State.{Lane}
use Rattle.mta_histories.specs.Kept.{AreNumbered}
use Rattle.mta_machine.specs.Items.{ItemValue}
use Rattle.mta_histories.specs.Lanes.{State, EachLane}
use Rattle.mta_snapshots.specs.Fits.{IsRecorded}
use Rattle.mta_snapshots.proofs.Each.{next, not_so}

module _ (most : ℕ) (all : List Lane) (above k n : ℕ) (lane : Lane) (within : k < length all)
    (is : lane ≡ get_or all k lane) (number : n ≡ lane.number)
    (way : AreNumbered 0 all most ↔ AreNumbered above (drop k all) most)
  where
    pub numbers_next : above < n → AreNumbered 0 all most ↔ AreNumbered n (drop (k + 1) all) most
    numbers_next more =
        let rest = drop (k + 1) all in
        let at = next all k lane within is in (
          λ e. subst (λ (m : ℕ). AreNumbered m rest most) (sym number)
              (subst (λ (ls : List Lane). AreNumbered above ls most) at (way.0 e)).1,
          λ e. way.1 (subst (λ (ls : List Lane). AreNumbered above ls most) (sym at)
              (omega (arith, more, number), subst (λ (m : ℕ). AreNumbered m rest most) number e)),
        )

    pub numbers_never : n ≤ above → (false ≡ true) ↔ AreNumbered 0 all most
    numbers_never few =
        let at = next all k lane within is in (
          λ e. absurd cc,
          λ e.
              let more = (subst (λ (ls : List Lane). AreNumbered above ls most) at (way.0 e)).0 in
              absurd (omega (arith, more, few, number)),
        )

pub numbers_done : (most : ℕ) (all : List Lane) (above k : ℕ) (b : Bool) → length all ≤ k → (b ≡ true) ↔ (above ≤ most)
    → AreNumbered 0 all most ↔ AreNumbered above (drop k all) most → (b ≡ true) ↔ AreNumbered 0 all most
numbers_done most all above k b past test way =
    let none = drop_all k all past in (
      λ e. way.1 (subst (λ (ls : List Lane). AreNumbered above ls most) (sym none) (test.0 e)),
      λ e. test.1 (subst (λ (ls : List Lane). AreNumbered above ls most) none (way.0 e)),
    )

-- ---- what was recorded before there are items and lanes

some_lanes : (xs : List (List ℕ)) (lanes : List Lane) → (xs ≡ [] → ⊥) → EachLane (λ lane. xs ≢ []) lanes
some_lanes xs [] some = tt
some_lanes xs (lane ∷ lanes) some = (some, some_lanes xs lanes some)

no_lanes : (xs : List (List ℕ)) (lanes : List Lane) → lanes ≡ [] → EachLane (λ lane. xs ≢ []) lanes
no_lanes xs [] none = tt
no_lanes xs (lane ∷ lanes) none = absurd cc

none_of : (xs : List (List ℕ)) (lanes : List Lane) → xs ≡ [] → EachLane (λ lane. xs ≢ []) lanes → lanes ≡ []
none_of xs [] none each = refl
none_of xs (lane ∷ lanes) none each = absurd (each.0 none)

no_items : (xs : List (List ℕ)) (items : List ItemValue) → xs ≡ [] → (items ≢ [] → xs ≢ []) → items ≡ []
no_items xs [] none some = refl
no_items xs (item ∷ items) none some = absurd (some (λ e. cc) none)

module _ (s : State) (a : Bool) (tables : (a ≡ true) ↔ (s.machine.tables ≡ [])) where
  pub recorded_some : a ≡ false → (true ≡ true) ↔ IsRecorded s
  recorded_some some = (
    λ e. record {
      items = λ f. not_so a tables some;
      lanes = some_lanes s.machine.tables s.lanes.open_lanes (not_so a tables some);
    },
    λ r. refl,
  )

  module _ (b : Bool) (items : (b ≡ true) ↔ (s.machine.items ≡ [])) (none : a ≡ true) where
    pub recorded_not : b ≡ false → (false ≡ true) ↔ IsRecorded s
    recorded_not some = (
      λ e. absurd cc,
      λ r. absurd (not_so b items some (no_items s.machine.tables s.machine.items (tables.0 none) r.items)),
    )

    pub recorded_none : (c : Bool) → b ≡ true → (c ≡ true) ↔ (s.lanes.open_lanes ≡ []) → (c ≡ true) ↔ IsRecorded s
    recorded_none c nothing lanes = (
      λ e. record {
        items = λ f. absurd (f (items.0 nothing));
        lanes = no_lanes s.machine.tables s.lanes.open_lanes (lanes.0 e);
      },
      λ r. lanes.1 (none_of s.machine.tables s.lanes.open_lanes (tables.0 none) r.lanes),
    )
