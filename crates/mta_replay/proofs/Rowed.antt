-- The recipients of items that are made, with the routes of their names.
use Rattle.std.proofs.Common.{◌≡◌, ◌≤◌, ◌<◌, ◌+◌, ◌^◌, ℕ, zero, suc, false, List, [], ◌∷◌, ◌++◌}
use Rattle.std.proofs.Common.{inl, inr, length, Option, Some, refl, sym, ap, subst, ◌∙◌, arith}
use Rattle.std.specs.Prelude.{◌⊎◌, slice_get}
use Rattle.std.proofs.lemmas.Bool.{cases_lt}
use Rattle.std.proofs.lemmas.List.{append-nil, length-append}
use Rattle.mta_queue.specs.declared.mark.Mark.{Mark}
use Rattle.mta_queue.specs.Marks as marks
use Rattle.mta_queue.specs.Marks.{mark_of, route_by}
use Rattle.mta_queue.proofs.Marked.{same_or_not}
use Rattle.mta_machine.specs.Items.{ItemValue}
use Rattle.mta_machine.specs.Rules.{route_word}
use Rattle.mta_replay.specs.Queued.{AreRows, IsRow, IsRowOf, place_by}

mark_last : (row : List Mark) (m : Mark) → mark_of (row ++ m ∷ []) (suc (length row)) ≡ Some m
mark_last [] m = refl
mark_last (x ∷ row) m = mark_last row m

mark_before : (row : List Mark) (m : Mark) (r : ℕ) → (r ≡ suc (length row) → ⊥)
    → mark_of (row ++ m ∷ []) r ≡ mark_of row r
mark_before row m zero never = refl
mark_before row m (suc k) never = at row k (λ e. never (ap suc e))
  where
    at : (xs : List Mark) (k : ℕ) → (k ≡ length xs → ⊥) → slice_get (xs ++ m ∷ []) k ≡ slice_get xs k
    at [] zero never = absurd (never refl)
    at [] (suc k) never = refl
    at (x ∷ xs) zero never = refl
    at (x ∷ xs) (suc k) never = at xs k (λ e. never (ap suc e))

module _ (text : List ℕ) (words : List (List ℕ)) (octets : List ℕ) where
  pub no_row : IsRow text words octets 0 []
  no_row = record {
    count_is = refl;
    few = omega arith;
    idle = λ r. idle r;
    routes = λ r one most. absurd (omega (arith, one, most));
  }
    where
      idle : (r : ℕ) → marks.is_waiting (mark_of [] r) ≡ false
      idle zero = refl
      idle (suc k) = refl

  pub row_more : (n : ℕ) (row : List Mark) (route : Option ℕ) → IsRow text words octets n row → n + 1 < 2 ^ 32
      → route ≡ place_by words (route_word text octets (n + 1))
      → IsRow text words octets (n + 1) (row ++ record { route = route; waits = false } ∷ [])
  row_more n row route is few to = record {
    count_is = count;
    few = omega (arith, count, few);
    idle = λ r. idle r (same_or_not r (suc (length row)));
    routes = λ r one most. routes r one most (same_or_not r (suc (length row)));
  }
    where
      m : Mark
      m = record { route = route; waits = false }

      count : length (row ++ m ∷ []) ≡ n + 1
      count = (let c = is.count_is in let all = length-append row (m ∷ []) in omega (arith, c, all))

      idle : (r : ℕ) → (r ≡ suc (length row)) ⊎ (r ≡ suc (length row) → ⊥)
          → marks.is_waiting (mark_of (row ++ m ∷ []) r) ≡ false
      idle r (inl at) =
          ap (λ (k : ℕ). marks.is_waiting (mark_of (row ++ m ∷ []) k)) at ∙ ap marks.is_waiting (mark_last row m)
      idle r (inr never) = ap marks.is_waiting (mark_before row m r never) ∙ is.idle r

      routes : (r : ℕ) → 1 ≤ r → r ≤ n + 1 → (r ≡ suc (length row)) ⊎ (r ≡ suc (length row) → ⊥)
          → route_by (mark_of (row ++ m ∷ []) r) ≡ place_by words (route_word text octets r)
      routes r one most (inl at) =
          let here : n + 1 ≡ r = (let c = is.count_is in omega (arith, c, at)) in
          ap (λ (k : ℕ). route_by (mark_of (row ++ m ∷ []) k)) at
          ∙ (ap route_by (mark_last row m)
          ∙ (to ∙ ap (λ (k : ℕ). place_by words (route_word text octets k)) here))
      routes r one most (inr never) =
          ap route_by (mark_before row m r never) ∙ is.routes r one (earlier (cases_lt n r))
        where
          earlier : (n < r) ⊎ (r ≤ n) → r ≤ n
          earlier (inl more) = absurd (never (let c = is.count_is in omega (arith, more, most, c)))
          earlier (inr less) = less

-- the recipients of an item come behind those of others
pub rows_more : (text : List ℕ) (words : List (List ℕ)) (rows : List (List Mark)) (made : List ItemValue)
    (row : List Mark) (item : ItemValue) → AreRows text words rows made → IsRowOf text words item row
    → AreRows text words (rows ++ row ∷ []) (made ++ item ∷ [])
rows_more text words [] [] row item are is = (is, tt)
rows_more text words [] (x ∷ made) row item are is = absurd are
rows_more text words (x ∷ rows) [] row item are is = absurd are
rows_more text words (x ∷ rows) (y ∷ made) row item are is = (are.0, rows_more text words rows made row item are.1 is)

pub rows_count : (text : List ℕ) (words : List (List ℕ)) (rows : List (List Mark)) (made : List ItemValue)
    → AreRows text words rows made → length rows ≡ length made
rows_count text words [] [] are = refl
rows_count text words [] (x ∷ made) are = absurd are
rows_count text words (x ∷ rows) [] are = absurd are
rows_count text words (x ∷ rows) (y ∷ made) are = ap suc (rows_count text words rows made are.1)

-- those of nothing, and of one more where there is one
pub rows_some : (text : List ℕ) (words : List (List ℕ)) (rows : List (List Mark)) (made : List ItemValue)
    (row : List Mark) (item : ItemValue) (new : List (List Mark)) → new ≡ rows ++ row ∷ []
    → AreRows text words rows made → IsRowOf text words item row → AreRows text words new (made ++ item ∷ [])
rows_some text words rows made row item new same are is =
    subst (λ (x : List (List Mark)). AreRows text words x (made ++ item ∷ [])) (sym same)
    (rows_more text words rows made row item are is)

pub rows_still : (text : List ℕ) (words : List (List ℕ)) (rows : List (List Mark)) (made : List ItemValue)
    → AreRows text words rows made → AreRows text words rows (made ++ [])
rows_still text words rows made are =
    subst (λ (x : List ItemValue). AreRows text words rows x) (sym (append-nil made)) are

pub ruleset row_laws = (no_row, row_more)

pub ruleset rows_laws = (rows_some, rows_still)
