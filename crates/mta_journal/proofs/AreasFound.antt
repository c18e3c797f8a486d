-- What marks two areas, and what stands in the current one.
use Rattle.std.proofs.Common.{inl, inr, ⊎_elim, ◌≡◌, ◌⊎◌, ℕ, ◌+◌, ◌≤◌, ◌<◌, List, [], ◌∷◌, ◌++◌, length, take, drop}
use Rattle.std.proofs.Common.{get_or, Option, None, Some, refl, sym, ap, subst, ◌∙◌, arith}
use Rattle.std.specs.Int.{w64, from_be_bytes}
use Rattle.std.proofs.lemmas.List.{take-take, drop-drop, drop-take, drop_more, drop_all, get_or-take, get_or-drop}
use Rattle.std.proofs.Math.Seq.{take-add}
use Rattle.mta_edge.specs.Views.{DiskView}
use Rattle.mta_disk.specs.Records.{frame_of}
use Rattle.mta_disk.proofs.Writing.{length-closed}
use Rattle.mta_journal.specs.Bodies.{magic, longest_first, need_of, records, AreWithin, HasRecords, HasAreas, IsCurrent}
use Rattle.mta_journal.specs.Bodies.{high, alone, first, second}
use Rattle.mta_journal.specs.Faults.{FaultyAt, HasNoAreaAt, outside, not_one, too_low, in_first, in_only, IsNoJournalAt}
use Rattle.mta_journal.specs.Opening.{HasNotOne, IsPlaced, Marks, head}
use Rattle.mta_journal.specs.Shown.{IsPlain}
use Rattle.mta_journal.proofs.Appended.{mark_is, mark_head}
use Rattle.mta_journal.proofs.Stages.{length-one}

eight_of : (o : List ℕ) → length o ≡ 15
    → drop 7 o ≡ get_or o 7 0 ∷ get_or o 8 0 ∷ get_or o 9 0 ∷ get_or o 10 0 ∷ get_or o 11 0 ∷ get_or o 12 0
    ∷ get_or o 13 0 ∷ get_or o 14 0 ∷ []
eight_of o n =
    drop_more o 7 0 (omega (arith, n)) ∙ ap (λ (x : List ℕ). get_or o 7 0 ∷ x) (drop_more o 8 0 (omega (arith, n))
    ∙ ap (λ (x : List ℕ). get_or o 8 0 ∷ x)
    (drop_more o 9 0 (omega (arith, n)) ∙ ap (λ (x : List ℕ). get_or o 9 0 ∷ x) (drop_more o 10 0 (omega (arith, n))
    ∙ ap (λ (x : List ℕ). get_or o 10 0 ∷ x)
    (drop_more o 11 0 (omega (arith, n))
    ∙ ap (λ (x : List ℕ). get_or o 11 0 ∷ x) (drop_more o 12 0 (omega (arith, n))
    ∙ ap (λ (x : List ℕ). get_or o 12 0 ∷ x)
    (drop_more o 13 0 (omega (arith, n))
    ∙ ap (λ (x : List ℕ). get_or o 13 0 ∷ x) (drop_more o 14 0 (omega (arith, n))
    ∙ ap (λ (x : List ℕ). get_or o 14 0 ∷ x) (drop_all 15 o (omega (arith, n))))))))))

pub marks : (o f : List ℕ) → length o ≡ 15 → 24 ≤ length f → take 8 f ≡ magic → o ≡ take 15 (drop 8 f) → take 6 o ≡ head
    → Marks f (get_or o 6 0) (from_be_bytes w64
    (get_or o 7 0 ∷ get_or o 8 0 ∷ get_or o 9 0 ∷ get_or o 10 0 ∷ get_or o 11 0 ∷ get_or o 12 0 ∷ get_or o 13 0
    ∷ get_or o 14 0 ∷ []))
marks o f n long begins o_is is =
    let six : take 6 (drop 8 f) ≡ head = sym (take-take 6 15 (drop 8 f) (omega arith)) ∙ ap (take 6) (sym o_is) ∙ is in
    let seven : take 8 (drop 15 f) ≡ drop 7 o = ap (take 8) (sym (drop-drop 7 8 f)) ∙ sym (drop-take 7 8 (drop 8 f))
    ∙ ap (drop 7) (sym o_is) in
    record {
      areas = record {
        front = take-add 8 6 f ∙ ap (λ (x : List ℕ). x ++ take 6 (drop 8 f)) begins
            ∙ ap (λ (x : List ℕ). magic ++ x) six ∙ mark_is;
        inside = long;
      };
      selector_is = sym (get_or-drop 8 f 6 0) ∙ sym (get_or-take 15 (drop 8 f) 6 0 (omega arith))
          ∙ ap (λ (l : List ℕ). get_or l 6 0) (sym o_is);
      high_is = ap (from_be_bytes w64) (seven ∙ eight_of o n);
    }

pub no_marks : (o f : List ℕ) → o ≡ take 15 (drop 8 f) → (take 6 o ≡ head → ⊥) → HasAreas f → ⊥
no_marks o f o_is other areas =
    other (ap (take 6) o_is ∙ take-take 6 15 (drop 8 f) (omega arith) ∙ sym (drop-take 8 6 f) ∙ ap (drop 8) areas.front
    ∙ mark_head)

pub no_room : (f : List ℕ) → length f < 24 → HasAreas f → ⊥
no_room f short areas = omega (arith, short, areas.inside)

-- a faulty record of an area that is current, whatever its bodies
pub faulty_area : (begin : ℕ) (f : List ℕ) (at : ℕ) → IsCurrent begin [] f → FaultyAt begin f at → HasNoAreaAt f at
faulty_area begin f at (alone m lone is) faulty = in_only m lone (subst (λ (n : ℕ). FaultyAt n f at) is faulty)
faulty_area begin f at (first a other is) faulty = in_first a other (subst (λ (n : ℕ). FaultyAt n f at) is faulty)
faulty_area begin f at (second a one is body none below) faulty = absurd cc

module _ {D : Type 0} (model : DiskView D) (disk : D) where
  pub placed_plain : (begin size whole : ℕ) (bodies : List (List ℕ)) → IsPlain begin
      → ((f : List ℕ) → model.content disk ≡ Some f → (bs : List (List ℕ)) → IsCurrent begin bs f)
      → ((f : List ℕ) → model.content disk ≡ Some f → HasRecords begin bodies f) → size ≡ begin
      + length (records bodies) + 1
      → size ≤ whole → ((f : List ℕ) → model.content disk ≡ Some f → whole ≡ length f) → AreWithin longest_first bodies
      → IsPlaced model disk begin size bodies None
  placed_plain begin size whole bodies plain place found size_is le whole_is each = record {
    file = λ f told. record { current = place f told bodies; stand = found f told };
    size_is = size_is;
    each = each;
    within = λ f told. let is = whole_is f told in omega (arith, le, is);
    plain = λ none. plain;
    second = λ kept is. absurd cc;
  }

  pub placed_second : (e size whole : ℕ) (body frame : List ℕ) (bodies : List (List ℕ)) → bodies ≡ body ∷ [] → frame
      ≡ frame_of body
      → ((f : List ℕ) → model.content disk ≡ Some f → Marks f 1 e)
      → ((f : List ℕ) → model.content disk ≡ Some f → HasRecords e (body ∷ []) f)
      → 24 + need_of body ≤ e → size ≡ e + length body + 6 → size ≤ whole
      → ((f : List ℕ) → model.content disk ≡ Some f → whole ≡ length f)
      → length body ≤ longest_first → IsPlaced model disk e size bodies (Some frame)
  placed_second e size whole body frame bodies are frame_is marked found below size_is le whole_is short = record {
    file = λ f told.
        let mark = marked f told in
        record {
          current = second mark.areas mark.selector_is (sym mark.high_is) body are below;
          stand = subst (λ (b : List (List ℕ)). HasRecords e b f) (sym are) (found f told);
        };
    size_is = omega (arith, size_is, length-one body, ap (λ (b : List (List ℕ)). length (records b)) are);
    each = subst (AreWithin longest_first) (sym are) (short, tt);
    within = λ f told. let is = whole_is f told in omega (arith, le, is);
    plain = λ none. absurd cc;
    second = λ kept is.
        let same : frame ≡ kept = cc in
        (body, are, sym same ∙ frame_is, omega (arith, below, ap length (sym same ∙ frame_is), length-closed body));
  }

pub is_outside : (e : ℕ) (f : List ℕ) → 9 < length f → Marks f 1 e → (e < 24) ⊎ (length f ≤ e) → IsNoJournalAt f 15
is_outside e f long mark apart = (
  long,
  inr (outside mark.areas mark.selector_is (⊎_elim {C = (high f < 24) ⊎ (length f ≤ high f)}
      (λ (low : e < 24). inl (omega (arith, mark.high_is, low)))
      (λ (end : length f ≤ e). inr (omega (arith, mark.high_is, end))) apart) refl),
)

pub is_not_one : (e : ℕ) (f : List ℕ) → 9 < length f → Marks f 1 e → 24 ≤ e → e < length f → HasNotOne e f
    → IsNoJournalAt f e
is_not_one e f long mark low end none = (
  long,
  inr (not_one mark.areas mark.selector_is (omega (arith, mark.high_is, low)) (omega (arith, mark.high_is, end))
      (λ body has. none body (subst (λ (n : ℕ). HasRecords n (body ∷ []) f) mark.high_is has)) (sym mark.high_is)),
)

pub is_too_low : (e : ℕ) (body f : List ℕ) → 9 < length f → Marks f 1 e → 24 ≤ e → HasRecords e (body ∷ []) f → e < 29
    + length body → IsNoJournalAt f 15
is_too_low e body f long mark low has less = (
  long,
  inr (too_low mark.areas mark.selector_is (omega (arith, mark.high_is, low)) body
      (subst (λ (n : ℕ). HasRecords n (body ∷ []) f) (sym mark.high_is) has) (omega (arith, mark.high_is, less)) refl),
)

-- where both disks tell the same, what was found on one stands on the other
pub placed_same : {D : Type 0} (model : DiskView D) (old new : D) (begin size : ℕ) (bodies : List (List ℕ))
    (frame : Option (List ℕ))
    → model.content new ≡ model.content old → IsPlaced model new begin size bodies frame
    → IsPlaced model old begin size bodies frame
placed_same model old new begin size bodies frame same placed = record {
  file = λ f told. placed.file f (same ∙ told);
  size_is = placed.size_is;
  each = placed.each;
  within = λ f told. placed.within f (same ∙ told);
  plain = placed.plain;
  second = placed.second;
}
