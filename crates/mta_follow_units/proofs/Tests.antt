-- The tests of a look, and what they say of a unit.
use Rattle.std.proofs.Common.{◌≡◌, ◌⊎◌, ℕ, ◌≤◌, ◌<◌, Bool, true, false, eqb, leb, List, length, inl, inr, ⊎_elim, refl}
use Rattle.std.proofs.Common.{arith}
use Rattle.std.specs.Prelude.{◌&&◌, ◌||◌}
use Rattle.std.specs.Int.{w64, from_be_bytes}
use Rattle.std.proofs.lemmas.Bool.{leb-true, leb-false, le-leb, lt-leb, eqb-true, eqb-false, eq-eqb, ne_eqb, and_parts}
use Rattle.std.proofs.lemmas.Bool.{and_cases, and_from, or_cases, or_parts, or_left, or_right, false_from_ne_true}
use Rattle.mta_follow_units.specs.declared.due.Due.{Due}
use Rattle.mta_follow_units.specs.declared.due.Due.TheVariants as due
use Rattle.mta_follow_units.specs.Units.{MayHaveKind, MayHaveSize, done_kind, kept_kind, most, record_kind}
use Rattle.mta_follow_units.specs.Look.{fits, has_number, is_of}

-- ---- the length

pub fits_so : (d : Due) (size : ℕ) → fits d size ≡ true → MayHaveSize d size
fits_so (due.Record got) size e = leb-true size (most got) e
fits_so (due.Kept number) size e = eqb-true size 8 e

pub so_fits : (d : Due) (size : ℕ) → MayHaveSize d size → fits d size ≡ true
so_fits (due.Record got) size h = le-leb size (most got) h
so_fits (due.Kept number) size h = eq-eqb size 8 h

pub fits_not : (d : Due) (size : ℕ) → fits d size ≡ false → MayHaveSize d size → ⊥
fits_not d size e h = let so = so_fits d size h in absurd cc

pub not_fits : (d : Due) (size : ℕ) → (MayHaveSize d size → ⊥) → fits d size ≡ false
not_fits d size h = false_from_ne_true (fits d size) (λ e. h (fits_so d size e))

-- ---- the kind

pub of_so : (d : Due) (kind size : ℕ) → is_of d kind size ≡ true → MayHaveKind d size kind
of_so (due.Record got) kind size e =
    ⊎_elim (λ one. inl (eqb-true kind record_kind one))
    (λ both. let parts = and_parts (eqb kind done_kind) (eqb size 8) both in
    inr (eqb-true kind done_kind parts.0, eqb-true size 8 parts.1))
    (or_cases (eqb kind record_kind) (eqb kind done_kind && eqb size 8) e)
of_so (due.Kept number) kind size e = eqb-true kind kept_kind e

pub so_of : (d : Due) (kind size : ℕ) → MayHaveKind d size kind → is_of d kind size ≡ true
so_of (due.Record got) kind size (inl one) =
    or_left (eqb kind record_kind) (eqb kind done_kind && eqb size 8) (eq-eqb kind record_kind one)
so_of (due.Record got) kind size (inr both) =
    or_right (eqb kind record_kind) (eqb kind done_kind && eqb size 8)
    (and_from (eqb kind done_kind) (eqb size 8) (eq-eqb kind done_kind both.0) (eq-eqb size 8 both.1))
so_of (due.Kept number) kind size h = eq-eqb kind kept_kind h

pub of_not : (d : Due) (kind size : ℕ) → is_of d kind size ≡ false → MayHaveKind d size kind → ⊥
of_not d kind size e h = let so = so_of d kind size h in absurd cc

pub not_of : (d : Due) (kind size : ℕ) → (MayHaveKind d size kind → ⊥) → is_of d kind size ≡ false
not_of d kind size h = false_from_ne_true (is_of d kind size) (λ e. h (of_so d kind size e))

-- ---- the number

pub number_so : (body : List ℕ) (number : ℕ) → has_number body number ≡ true
    → (length body ≡ 8) × (from_be_bytes w64 body ≡ number)
number_so body number e =
    let parts = and_parts (eqb (length body) 8) (eqb (from_be_bytes w64 body) number) e in
    (eqb-true (length body) 8 parts.0, eqb-true (from_be_bytes w64 body) number parts.1)

pub so_number : (body : List ℕ) (number : ℕ) → length body ≡ 8 → from_be_bytes w64 body ≡ number
    → has_number body number ≡ true
so_number body number long is =
    and_from (eqb (length body) 8) (eqb (from_be_bytes w64 body) number) (eq-eqb (length body) 8 long)
    (eq-eqb (from_be_bytes w64 body) number is)

pub number_not : (body : List ℕ) (number : ℕ) → length body ≡ 8 → has_number body number ≡ false
    → from_be_bytes w64 body ≡ number → ⊥
number_not body number long e is = let so = so_number body number long is in absurd cc

pub not_number : (body : List ℕ) (number : ℕ) → (from_be_bytes w64 body ≡ number → ⊥)
    → has_number body number ≡ false
not_number body number h = false_from_ne_true (has_number body number) (λ e. h (number_so body number e).1)
