-- The image that a choice picks is one that a crash may leave.
use Rattle.std.proofs.Common.{inl, inr, ⊎_elim, ◌≡◌, ◌⊎◌, ℕ, zero, suc, ◌≤◌, ◌<◌, min, List, [], ◌∷◌, length, take}
use Rattle.std.proofs.Common.{refl, sym, ap, ◌∙◌, subst, arith, Some, None}
use Rattle.std.specs.Prelude.{slice_get}
use Rattle.std.proofs.lemmas.Bool.{cases_lt}
use Rattle.std.proofs.lemmas.Bool.Decides.{nat_tests}
use Rattle.std.proofs.lemmas.List.{length-append, length-take, length-drop, length-map, length-replicate, take_min}
use Rattle.mta_edge.specs.Outside.{Torn, written}
use Rattle.mta_edge.specs.Crashes.{CutShort}
use Rattle.mta_edge.specs.Held.{HeldDisk}
use Rattle.mta_edge.specs.Tears.{piece_of, torn_write, kept_of, torn_cut, tear_of}
use Rattle.mta_edge.specs.Images.{after_call, after_calls, MayLeave, seen_at, LeftAt, image_after, rest_after}
use Rattle.mta_edge.specs.Images.{image_from, image_of}
use Rattle.mta_edge.specs.declared.log.Called.{Called}
use Rattle.mta_edge.specs.declared.log.Done.{Done}
use Rattle.mta_edge.specs.declared.log.Done.TheVariants.{Look, Write, Cut, Sync}
use Rattle.mta_edge.specs.declared.tear.Tear.{Tear}
use Rattle.mta_edge.specs.declared.tear.Tear.TheVariants.{Nothing, Whole, Half, Other, OtherHalf, Zeros, Ones, Late}
use Rattle.mta_edge.proofs.Logged.{written_torn, Torn-same}

length-piece : (tear : Tear) (bytes : List ℕ) → length (piece_of tear bytes) ≤ length bytes
length-piece Nothing bytes = omega arith
length-piece Whole bytes = omega arith
length-piece Half bytes = simp length-take (omega arith)
length-piece Other bytes = simp length-map (omega arith)
length-piece OtherHalf bytes = simp (length-map, length-take) (omega arith)
length-piece Zeros bytes = simp length-replicate (omega arith)
length-piece Ones bytes = simp length-replicate (omega arith)
length-piece Late bytes = simp (length-append, length-replicate, length-drop) (omega arith)

torn_write_is : (tear : Tear) (at : ℕ) (bytes f : List ℕ) → Torn at (length bytes) f (torn_write tear at bytes f)
torn_write_is tear at bytes f = ⊎_elim {C = Torn at (length bytes) f (torn_write tear at bytes f)}
    (λ (short : length f < at).
    let same : torn_write tear at bytes f ≡ f = grind (arith, nat_tests) in
    subst (Torn at (length bytes) f) (sym same) (Torn-same at (length bytes) f))
    (λ (le : at ≤ length f).
    let same : torn_write tear at bytes f ≡ written at (piece_of tear bytes) f = grind (arith, nat_tests) in
    subst (Torn at (length bytes) f) (sym same)
    (written_torn at bytes (piece_of tear bytes) f (length-piece tear bytes) le))
    (cases_lt (length f) at)

kept_least : (tear : Tear) (size n : ℕ) → min size n ≤ kept_of tear size n
kept_least Nothing size n = omega arith
kept_least Half size n = omega arith
kept_least Whole size n = omega arith
kept_least Other size n = omega arith
kept_least OtherHalf size n = omega arith
kept_least Zeros size n = omega arith
kept_least Ones size n = omega arith
kept_least Late size n = omega arith

torn_cut_is : (tear : Tear) (size : ℕ) (f : List ℕ) → CutShort size f (torn_cut tear size f)
torn_cut_is tear size f = record {
  no_shorter = let least = kept_least tear size (length f) in simp length-take (omega arith);
  front = ap (λ (n : ℕ). take n f) (length-take (kept_of tear size (length f)) f)
      ∙ take_min (kept_of tear size (length f)) f;
}

-- one call leads from an image to an image
picks : (images : List ℕ → Type 0) (before : List ℕ) (done : Done) (rest : ℕ) (f : List ℕ) → images f
    → after_call images before done (image_after before done rest f)
picks images before Look rest f h = h
picks images before (Write at octets) rest f h = (f, h, torn_write_is (tear_of rest) at octets f)
picks images before (Cut size) rest f h = (f, h, torn_cut_is (tear_of rest) size f)
picks images before Sync rest f h = refl

picks_all : (images : List ℕ → Type 0) (choice : ℕ) (log : List Called) (rest : ℕ) (f : List ℕ) → images f
    → after_calls images log (image_from choice log rest f)
unfolding after_calls image_from
picks_all images choice [] rest f h = h
picks_all images choice (call ∷ log) rest f h =
    picks_all (after_call (λ g. images g ⊎ (g ≡ call.before)) call.before call.done) choice log
    (rest_after choice call.done rest) (image_after call.before call.done rest f)
    (picks (λ g. images g ⊎ (g ≡ call.before)) call.before call.done rest f (inl h))

picked : (log : List Called) (now : List ℕ) (k choice : ℕ)
    → MayLeave (take k log) (seen_at log k now) (image_from choice (take k log) choice (seen_at log 0 now))
unfolding after_calls image_from seen_at
picked [] now zero choice = inr refl
picked [] now (suc k) choice = inr refl
picked (call ∷ log) now zero choice = inr refl
picked (call ∷ log) now (suc k) choice =
    inl (picks_all (after_call (λ g. ⊥ ⊎ (g ≡ call.before)) call.before call.done) choice (take k log)
    (rest_after choice call.done choice) (image_after call.before call.done choice call.before)
    (picks (λ g. ⊥ ⊎ (g ≡ call.before)) call.before call.done choice call.before (inr refl)))

pub image_left : (d : HeldDisk) (k choice : ℕ) → LeftAt d k (image_of d k choice)
image_left d k choice = picked d.log d.octets k choice

-- one call more
pub image_from-more : (choice : ℕ) (call : Called) (log : List Called) (rest next : ℕ) (f g : List ℕ)
    → g ≡ image_after call.before call.done rest f → next ≡ rest_after choice call.done rest
    → image_from choice (call ∷ log) rest f ≡ image_from choice log next g
unfolding image_from
image_from-more choice call log rest next f g e r =
    sym (ap (λ (x : List ℕ). image_from choice log next x) e
    ∙ ap (λ (n : ℕ). image_from choice log n (image_after call.before call.done rest f)) r)

pub image_from-none : (choice rest : ℕ) (f : List ℕ) → image_from choice [] rest f ≡ f
unfolding image_from
image_from-none choice rest f = refl

pub seen_at_first : (call : Called) (log : List Called) (now : List ℕ) → seen_at (call ∷ log) 0 now ≡ call.before
unfolding seen_at
seen_at_first call log now = refl

-- what a read gave before the first call, by the first of the calls
pub seen_at_some : (log calls : List Called) (call : Called) (now : List ℕ) → Some call ≡ slice_get log 0 → log ≡ calls
    → call.before ≡ seen_at calls 0 now
unfolding seen_at
seen_at_some log [] call now first same = let none : slice_get log 0 ≡ None =
    ap (λ (l : List Called). slice_get l 0) same in absurd (cc (none, first))
seen_at_some log (x ∷ calls) call now first same =
    let one : slice_get log 0 ≡ Some x = ap (λ (l : List Called). slice_get l 0) same in
    let is : call ≡ x = cc (one, first) in
    ap (λ (y : Called). y.before) is

pub seen_at_none : (log calls : List Called) (now : List ℕ) → None ≡ slice_get log 0 → log ≡ calls
    → now ≡ seen_at calls 0 now
unfolding seen_at
seen_at_none log [] now first same = refl
seen_at_none log (x ∷ calls) now first same = let one : slice_get log 0 ≡ Some x =
    ap (λ (l : List Called). slice_get l 0) same in absurd (cc (one, first))

pub image_is : (d : HeldDisk) (log : List Called) (count k choice : ℕ) (first image : List ℕ) → log ≡ d.log
    → count ≡ min k (length log) → first ≡ seen_at d.log 0 d.octets
    → image ≡ image_from choice (take count log) choice first → image ≡ image_of d k choice
image_is d log count k choice first image same fits begins is =
    let calls : take count log ≡ take k d.log = ap (λ (n : ℕ). take n log) fits ∙ take_min k log ∙ ap (take k) same in
    is ∙ ap (λ (l : List Called). image_from choice l choice first) calls
    ∙ ap (image_from choice (take k d.log) choice) begins
