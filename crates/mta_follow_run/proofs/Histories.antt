-- A copy of a history is a beginning of it.
use Rattle.std.proofs.Common.{◌≡◌, append_assoc, append-nil, inl, inr, ℕ, ◌^◌, ◌<◌}
use Rattle.std.proofs.Common.{List, []}
use Rattle.std.proofs.Common.{◌∷◌, ◌++◌, length, map, drop, get_or, refl, sym, ap, subst, ◌∙◌, arith}
use Rattle.std.specs.Int.{w32, w64, to_be_bytes, from_be_bytes}
use Rattle.std.proofs.lemmas.List.{length-map, map-append}
use Rattle.std.proofs.lemmas.Nat.{from_be_bytes-to_be_bytes_4}
use Rattle.mta_journal.specs.Bodies.{AreWithin, HasSecondArea, StandsFor, longest_body, longest_first}
use Rattle.mta_records.specs.Body.{body_of}
use Rattle.mta_records.specs.State.{SnapshotValue}
use Rattle.mta_records.specs.declared.step.Step.{Step}
use Rattle.mta_records.specs.declared.step.Step.TheVariants.{Snapshot}
use Rattle.mta_histories.specs.Lanes.{State, empty}
use Rattle.mta_histories.specs.History.{ArePossible, IsHistory, after_step}
use Rattle.mta_images.specs.Image.{AreRecords, StandsFor as StandsForHistory}
use Rattle.mta_follow_units.specs.Units.{done_kind, done_unit, record_kind, record_unit, record_units}
use Rattle.mta_follow_run.specs.Copies.{Follows, IsCopy, and_more, as_before}
use Rattle.mta_follow_run.specs.Fronts.{IsFront}
use Rattle.mta_follow_run.specs.Ran.{StandsForFront, units_of}
use Rattle.mta_follow_run.proofs.Fronts.{same_front}

-- ---- beginnings of histories

front_possible : (s : State) (xs ys : List Step) → ArePossible s (xs ++ ys) → ArePossible s xs
front_possible s [] ys h = tt
front_possible s (x ∷ xs) ys h = (h.0, front_possible (after_step s x) xs ys h.1)

front_records : (xs ys : List Step) → AreRecords (xs ++ ys) → AreRecords xs
front_records [] ys h = tt
front_records (x ∷ xs) ys h = (h.0, front_records xs ys h.1)

front_history : (steps whole : List Step) → IsFront steps whole → IsHistory whole → IsHistory steps
front_history steps whole f h = front_possible empty steps f.rest (subst IsHistory f.whole_is h)

front_are_records : (steps whole : List Step) → IsFront steps whole → AreRecords whole → AreRecords steps
front_are_records steps whole f h = front_records steps f.rest (subst AreRecords f.whole_is h)

-- ---- beginnings of what is put

-- two records at the front of octets are one
one_record : (a b x y : List ℕ) → length a < 2 ^ 32 → length b < 2 ^ 32 → record_unit a ++ x ≡ record_unit b ++ y
    → (a ≡ b) × (x ≡ y)
one_record a b x y short small is =
    let shape_a : record_unit a ++ x ≡ to_be_bytes w32 (length a) ++ record_kind ∷ (a ++ x) = simp append_assoc in
    let shape_b : record_unit b ++ y ≡ to_be_bytes w32 (length b) ++ record_kind ∷ (b ++ y) = simp append_assoc in
    let both = same_front (to_be_bytes w32 (length a)) (to_be_bytes w32 (length b)) (record_kind ∷ (a ++ x))
    (record_kind ∷ (b ++ y)) refl (sym shape_a ∙ is ∙ shape_b) in
    let long : length a ≡ length b =
    sym (from_be_bytes-to_be_bytes_4 (length a) short) ∙ ap (from_be_bytes w32) both.0
    ∙ from_be_bytes-to_be_bytes_4 (length b) small in
    let tails : a ++ x ≡ b ++ y = ap (λ (l : List ℕ). drop 1 l) both.1 in
    same_front a b x y long tails

-- a record is not the end
not_the_end : (a x : List ℕ) (n : ℕ) (y : List ℕ) → record_unit a ++ x ≡ done_unit n ++ y → ⊥
not_the_end a x n y is =
    let shape_a : record_unit a ++ x ≡ to_be_bytes w32 (length a) ++ record_kind ∷ (a ++ x) = simp append_assoc in
    let both = same_front (to_be_bytes w32 (length a)) (0 ∷ 0 ∷ 0 ∷ 8 ∷ []) (record_kind ∷ (a ++ x))
    (done_kind ∷ (to_be_bytes w64 n ++ y)) refl (sym shape_a ∙ is) in
    kinds (a ++ x) (to_be_bytes w64 n ++ y) both.1
  where
    kinds : (s t : List ℕ) → record_kind ∷ s ≡ done_kind ∷ t → ⊥
    kinds s t e = let one : record_kind ≡ done_kind = ap (λ (l : List ℕ). get_or l 0 0) e in omega (arith, one)

-- all are short enough for a unit
abbrev AreShort : List (List ℕ) → Type 0
AreShort [] = Unit {0}
AreShort (b ∷ bodies) = (length b < 2 ^ 32) × AreShort bodies

-- records whose units begin what is put begin those that are put
units_front : (bodies all : List (List ℕ)) (n : ℕ) (rest : List ℕ) → AreShort bodies → AreShort all
    → record_units all ++ done_unit n ≡ record_units bodies ++ rest → IsFront bodies all
units_front [] all n rest short small is = record { rest = all; whole_is = refl }
units_front (b ∷ bodies) [] n rest short small is =
    absurd (not_the_end b (record_units bodies ++ rest) n []
    (sym (append_assoc (record_unit b) (record_units bodies) rest) ∙ sym is ∙ sym (append-nil (done_unit n))))
units_front (b ∷ bodies) (a ∷ all) n rest short small is =
    let both = one_record a b (record_units all ++ done_unit n) (record_units bodies ++ rest) small.0 short.0
    (sym (append_assoc (record_unit a) (record_units all) (done_unit n)) ∙ is
    ∙ append_assoc (record_unit b) (record_units bodies) rest) in
    let f = units_front bodies all n rest short.1 small.1 both.1 in
    record {
      rest = f.rest;
      whole_is = ap (λ (l : List (List ℕ)). a ∷ l) f.whole_is ∙ ap (λ (l : List ℕ). l ∷ (bodies ++ f.rest)) both.0;
    }

-- ---- steps of bodies

-- the first steps have the first bodies
steps_of : (bodies rest : List (List ℕ)) (whole : List Step) → map body_of whole ≡ bodies ++ rest
    → (steps : List Step) × IsFront steps whole × (map body_of steps ≡ bodies)
steps_of [] rest whole is = ([], record { rest = whole; whole_is = refl }, refl)
steps_of (b ∷ bodies) rest [] is = absurd cc
steps_of (b ∷ bodies) rest (step ∷ whole) is =
    let head : body_of step ≡ b = cc in
    let tail : map body_of whole ≡ bodies ++ rest = cc in
    let more = steps_of bodies rest whole tail in (
      step ∷ more.0,
      record { rest = more.1.rest; whole_is = ap (λ (l : List Step). step ∷ l) more.1.whole_is },
      ap (λ (l : List (List ℕ)). body_of step ∷ l) more.2 ∙ ap (λ (x : List ℕ). x ∷ bodies) head,
    )

within_short : (bodies : List (List ℕ)) → AreWithin longest_first bodies → AreShort bodies
within_short [] each = tt
within_short (b ∷ bodies) each = (omega (arith, each.0), behind bodies each.1)
  where
    behind : (bodies : List (List ℕ)) → AreWithin longest_body bodies → AreShort bodies
    behind [] each = tt
    behind (b ∷ bodies) each = (omega (arith, each.0), behind bodies each.1)

-- ---- a copy

within_of : (g : List ℕ) (bodies : List (List ℕ)) → StandsFor g bodies → AreWithin longest_first bodies
within_of g bodies (inl none) = subst (AreWithin longest_first) (sym none.1) tt
within_of g bodies (inr long) = long.1.1.stand.each

module _ (f : List ℕ) (steps whole : List Step) (octets spool : List ℕ) (stood : StandsForHistory f steps)
    (is_whole : StandsForHistory spool whole) (front : IsFront steps whole) (puts : IsFront octets (units_of whole))
  where
    -- a copy of the bodies that were kept, or of those and some that came, is of a beginning of the history
    copy_of : (g : List ℕ) (bodies : List (List ℕ)) → StandsFor g bodies
        → (HasSecondArea g → HasSecondArea f × (bodies ≡ map body_of steps)) → IsFront bodies (map body_of whole)
        → StandsForFront whole g
    copy_of g bodies stands second b =
        let s = steps_of bodies b.rest whole b.whole_is in record {
          steps = s.0;
          front = s.1;
          stands = record {
            bodies = subst (StandsFor g) (sym s.2) stands;
            each = front_are_records s.0 whole s.1 is_whole.each;
            history = front_history s.0 whole s.1 is_whole.history;
            second = λ chosen.
                let both = second chosen in
                let same : s.0 ≡ steps = one_front s.0 steps (s.2 ∙ both.1) s.1 front in
                subst (λ (l : List Step). (t : SnapshotValue) × (l ≡ Snapshot t ∷ [])) (sym same)
                (stood.second both.0);
          };
        }
      where
        -- beginnings of one list with as many bodies are one
        one_front : (s t : List Step) → map body_of s ≡ map body_of t → IsFront s whole → IsFront t whole → s ≡ t
        one_front s t is p q =
            (same_front s t p.rest q.rest (sym (length-map s body_of) ∙ ap length is ∙ length-map t body_of)
            (sym p.whole_is ∙ q.whole_is)).0

    pub copy_front : (g : List ℕ) → IsCopy f (map body_of steps) octets g → StandsForFront whole g
    copy_front g c = copy_of g c.bodies c.stands c.second (by c.follows)
      where
        by : Follows (map body_of steps) octets c.bodies → IsFront c.bodies (map body_of whole)
        by (as_before is) =
            subst (λ (l : List (List ℕ)). IsFront l (map body_of whole)) (sym is)
            (record {
              rest = map body_of front.rest;
              whole_is = ap (map body_of) front.whole_is ∙ map-append body_of steps front.rest;
            })
        by (and_more kept bring) =
            units_front c.bodies (map body_of whole) (length whole) (bring.rest ++ puts.rest)
            (within_short c.bodies (within_of g c.bodies c.stands))
            (within_short (map body_of whole) (within_of spool (map body_of whole) is_whole.bodies))
            (puts.whole_is ∙ ap (λ (l : List ℕ). l ++ puts.rest) bring.whole_is
            ∙ append_assoc (record_units c.bodies) bring.rest puts.rest)
