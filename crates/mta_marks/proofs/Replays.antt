-- Marks that are taken up one after the other.
use Rattle.std.proofs.Common.{◌≡◌, ℕ, ◌+◌, ◌≤◌, List, [], ◌∷◌, ◌++◌, length, map, Result, Ok, Err, refl, sym, ap}
use Rattle.std.proofs.Common.{subst, ◌∙◌, append_assoc, arith}
use Rattle.std.proofs.lemmas.List.{append-nil, length-append}
use Rattle.mta_journal.specs.Bodies.{open_record, records}
use Rattle.mta_journal.proofs.Appended.{length-records-more}
use Rattle.mta_marks.specs.declared.mark.Mark.{Mark}
use Rattle.mta_marks.specs.declared.mark.Standing.{Standing}
use Rattle.mta_marks.specs.declared.replay.NotTaken.{NotTaken}
use Rattle.mta_marks.specs.declared.replay.NotTaken.TheVariants as NotTakens
use Rattle.mta_marks.specs.Image.{StopsAt, size_of}
use Rattle.mta_marks.specs.Marks.{IsMark, body_of}
use Rattle.mta_marks.specs.Replaying.{HasReplayed, HasStopped, HasTaken, IsReplay, open_why}
use Rattle.mta_marks.proofs.Kept.{allowed, are_more, knows_more, knows_none, possible}

pub map-more : (marks : List Mark) (m : Mark) → map body_of (marks ++ m ∷ []) ≡ map body_of marks ++ body_of m ∷ []
map-more [] m = refl
map-more (x ∷ marks) m = ap (λ (t : List (List ℕ)). body_of x ∷ t) (map-more marks m)

pub size-more : (first : ℕ) (marks : List Mark) (m : Mark)
    → size_of first (marks ++ m ∷ []) ≡ size_of first marks + (length (body_of m) + 5)
size-more first marks m =
    omega (
      arith,
      ap (λ (bodies : List (List ℕ)). length (records bodies)) (map-more marks m),
      length-records-more (map body_of marks) (body_of m),
    )

-- what is taken up of a row whose records stand from this gate on, and what is left of it
pub record IsUnderWay (first : ℕ) (bodies rest : List (List ℕ)) (entries : List (List ℕ × Standing)) (at : ℕ)
    : Type 0 where
  pub done : List (List ℕ)
  pub marks : List Mark
  pub are : bodies ≡ done ++ rest
  pub replayed : IsReplay done entries marks
  pub place : at + 1 ≡ size_of first marks

pub way_first : (first : ℕ) (bodies rest : List (List ℕ)) (entries : List (List ℕ × Standing)) → rest ≡ bodies
    → entries ≡ [] → IsUnderWay first bodies rest entries first
way_first first bodies rest entries same none = record {
  done = [];
  marks = [];
  are = sym same;
  replayed = subst (λ (es : List (List ℕ × Standing)). IsReplay [] es []) (sym none)
      (record { bodies_are = refl; are = tt; knows = knows_none });
  place = omega arith;
}

pub way_further : (first : ℕ) (bodies was rest : List (List ℕ)) (body : List ℕ) (old new : List (List ℕ × Standing))
    (at more : ℕ) → IsUnderWay first bodies was old at → was ≡ body ∷ rest → HasTaken body old new (Ok tt)
    → more ≡ at + (length body + 5) → IsUnderWay first bodies rest new more
way_further first bodies was rest body old new at more way is taken same =
    let t = taken.made refl in
    let m = t.0 in
    let r = way.replayed in
    record {
      done = way.done ++ body ∷ [];
      marks = way.marks ++ m ∷ [];
      are = way.are ∙ ap (λ (xs : List (List ℕ)). way.done ++ xs) is ∙ sym (append_assoc way.done (body ∷ []) rest);
      replayed = record {
        bodies_are = map-more way.marks m ∙ ap (λ (b : List ℕ). map body_of way.marks ++ b ∷ []) t.2
            ∙ ap (λ (bs : List (List ℕ)). bs ++ body ∷ []) r.bodies_are;
        are = are_more [] way.marks m r.are t.1 (allowed old way.marks m t.1 r.knows t.3);
        knows = knows_more old new way.marks m t.1 r.knows t.4;
      };
      place =
          (let size = size-more first way.marks m in
          let place = way.place in
          let body_is = ap (λ (b : List ℕ). length b) t.2 in
          omega (arith, same, size, place, body_is));
    }

-- the records so far are no longer than all
pub way_fits : (first : ℕ) (bodies rest : List (List ℕ)) (entries : List (List ℕ × Standing)) (at : ℕ)
    → IsUnderWay first bodies rest entries at → at ≤ first + length (records bodies)
way_fits first bodies rest entries at way =
    let place = way.place in
    let done = ap (λ (bs : List (List ℕ)). length (records bs)) way.replayed.bodies_are in
    let all = ap (λ (bs : List (List ℕ)). length (records bs)) way.are in
    omega (arith, place, done, all, longer way.done rest)
  where
    longer : (xs ys : List (List ℕ)) → length (records xs) ≤ length (records (xs ++ ys))
    longer [] ys = omega arith
    longer (x ∷ xs) ys =
        omega (
          arith,
          longer xs ys,
          length-append (open_record x) (records xs),
          length-append (open_record x) (records (xs ++ ys)),
        )

pub way_stopped : (first : ℕ) (bodies was rest : List (List ℕ)) (body : List ℕ)
    (old new : List (List ℕ × Standing)) (why : NotTaken) (at : ℕ) → IsUnderWay first bodies was old at
    → was ≡ body ∷ rest → HasTaken body old new (Err why) → HasStopped first bodies (open_why why at)
way_stopped first bodies was rest body old new NotTakens.Memory at way is taken = tt
way_stopped first bodies was rest body old new NotTakens.Impossible at way is taken =
    let r = way.replayed in
    record {
      marks = way.marks;
      body = body;
      more = rest;
      bodies_are = way.are ∙ ap (λ (xs : List (List ℕ)). way.done ++ xs) is
          ∙ ap (λ (bs : List (List ℕ)). bs ++ body ∷ rest) (sym r.bodies_are);
      are = r.are;
      none = λ m mark same can. taken.impossible refl m mark same (possible old way.marks m mark r.knows can);
      place = (let place = way.place in omega (arith, place));
    }

pub way_ended : (first : ℕ) (bodies rest : List (List ℕ)) (entries : List (List ℕ × Standing)) (at : ℕ)
    → IsUnderWay first bodies rest entries at → rest ≡ [] → HasReplayed bodies entries
way_ended first bodies rest entries at way none =
    (way.marks, subst (λ (bs : List (List ℕ)). IsReplay bs entries way.marks) (sym whole) way.replayed)
  where
    whole : bodies ≡ way.done
    whole = way.are ∙ ap (λ (xs : List (List ℕ)). way.done ++ xs) none ∙ append-nil way.done
