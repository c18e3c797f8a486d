-- Forms: how values are spelled as octets, one behind the other, and read again from the front of octets. A fault is
-- told by the number of octets that are left where the faulty field begins.
use Rattle.std.specs.Prelude.{◌≡◌, ◌==◌, find, ℕ, ◌<◌, ◌^◌, zero, suc, Bool, true, false, List, [], ◌∷◌, ◌++◌}
use Rattle.std.specs.Prelude.{length, take, drop, flat_map, Option, Some, None, IfSome, Result, Ok, Err, nat_lt}
use Rattle.std.specs.Prelude.{if◌then◌else◌}
use Rattle.std.specs.List.{AllByRecursion}
use Rattle.std.specs.Int.{Width, w32, byte_len, from_be_bytes, to_be_bytes}

infixl 10 ◌>>=◌
abbrev pub ◌>>=◌ : {A B : Type 0} → Result A ℕ → (A → Result B ℕ) → Result B ℕ
(Ok x) >>= f = f x
(Err left) >>= f = Err left

-- what is read at the front, and what follows it; how a value is spelled; and which values are
pub record Form (A : Type 0) : Type 1 where
  pub at : List ℕ → Result (A × List ℕ) ℕ
  pub spelled : A → List ℕ
  pub Fits : A → Type 0

-- one octet
unfoldable pub octet_at : List ℕ → Result (ℕ × List ℕ) ℕ
octet_at [] = Err 0
octet_at (o ∷ octets) = Ok (o, octets)

abbrev pub an_octet : Form ℕ
an_octet = record { at = octet_at; spelled = λ o. o ∷ []; Fits = λ o. o < 256 }

-- a number of this width, its most significant octet first
unfoldable pub number_at : Width → List ℕ → Result (ℕ × List ℕ) ℕ
number_at w octets =
    if nat_lt (length octets) (byte_len w) then Err (length octets)
    else Ok (from_be_bytes w (take (byte_len w) octets), drop (byte_len w) octets)

unfoldable pub number_octets : Width → ℕ → List ℕ
number_octets w n = to_be_bytes w n

abbrev pub number_of : (w : Width) (limit : ℕ) → Form ℕ
number_of w limit = record { at = number_at w; spelled = number_octets w; Fits = λ n. n < limit }

-- two values, one behind the other
abbrev pub both : {A B : Type 0} → Form A → Form B → Form (A × B)
both f g = record {
  at = λ octets. f.at octets >>= λ x. g.at x.1 >>= λ y. Ok ((x.0, y.0), y.1);
  spelled = λ p. f.spelled p.0 ++ g.spelled p.1;
  Fits = λ p. f.Fits p.0 × g.Fits p.1;
}

-- the values that pass a test, which says that they fit; another value is a fault of this field
abbrev pub narrowed : {A : Type 0} → Form A → (A → Bool) → (A → Type 0) → Form A
narrowed f test Fits = record {
  at = λ octets. f.at octets >>= λ x. if test x.0 then Ok x else Err (length octets);
  spelled = f.spelled;
  Fits = Fits;
}

-- what a value stands for; one that stands for nothing is a fault of this field
abbrev pub meant : {A : Type 0} → ℕ → Option A → List ℕ → Result (A × List ℕ) ℕ
meant left (Some x) octets = Ok (x, octets)
meant left None octets = Err left

abbrev pub standing_for : {A B : Type 0} → Form A → (A → Option B) → (B → A) → (B → Type 0) → Form B
standing_for f meaning sign Fits = record {
  at = λ octets. f.at octets >>= λ x. meant (length octets) (meaning x.0) x.1;
  spelled = λ y. f.spelled (sign y);
  Fits = Fits;
}

-- a value made of its parts
abbrev pub made_of : {A B : Type 0} → Form A → (A → B) → (B → A) → (B → Type 0) → Form B
made_of f make parts Fits = record {
  at = λ octets. f.at octets >>= λ x. Ok (make x.0, x.1);
  spelled = λ y. f.spelled (parts y);
  Fits = Fits;
}

-- whether a value is given, and the value; in place of one that is not given stands nothing else than `blank`
abbrev pub given_or_blank : {A : Type 0} → ℕ → Bool → Bool → A → List ℕ →
    Result (Option A × List ℕ) ℕ
given_or_blank left true blank x octets = Ok (Some x, octets)
given_or_blank left false true x octets = Ok (None, octets)
given_or_blank left false false x octets = Err left

abbrev pub spelled_or_blank : {A : Type 0} → Form Bool → Form A → A → Option A → List ℕ
spelled_or_blank given f blank (Some x) = given.spelled true ++ f.spelled x
spelled_or_blank given f blank None = given.spelled false ++ f.spelled blank

abbrev pub optional : {A : Type 0} → Form Bool → Form A → A → (A → Bool) → Form (Option A)
optional given f blank is_blank = record {
  at = λ octets. given.at octets >>= λ g. f.at g.1 >>= λ x. given_or_blank (length g.1) g.0 (is_blank x.0) x.0 x.1;
  spelled = spelled_or_blank given f blank;
  Fits = λ o. IfSome o f.Fits;
}

-- as many values as this, one behind the other
abbrev pub values_at : {A : Type 0} → (List ℕ → Result (A × List ℕ) ℕ) → ℕ → List ℕ →
    Result (List A × List ℕ) ℕ
values_at at zero octets = Ok ([], octets)
values_at at (suc count) octets = at octets >>= λ x. values_at at count x.1 >>= λ xs. Ok (x.0 ∷ xs.0, xs.1)

-- their number, and the values; each of them is a field
abbrev pub listed_at : {A : Type 0} → (List ℕ → Result (A × List ℕ) ℕ) → List ℕ
    → Result (List A × List ℕ) ℕ
listed_at at octets = number_at w32 octets >>= λ count. values_at at count.0 count.1

abbrev pub listed : {A : Type 0} → (A → List ℕ) → List A → List ℕ
listed spelled xs = number_octets w32 (length xs) ++ flat_map spelled xs

abbrev pub list_of : {A : Type 0} → Form A → Form (List A)
list_of f = record {
  at = listed_at f.at;
  spelled = listed f.spelled;
  Fits = λ xs. (length xs < 2 ^ 32) × AllByRecursion f.Fits xs;
}

-- one field, whatever is at fault inside it
abbrev pub as_a_whole : {A : Type 0} → ℕ → Result A ℕ → Result A ℕ
as_a_whole left (Ok x) = Ok x
as_a_whole left (Err inside) = Err left

abbrev pub one_field : {A : Type 0} → Form A → Form A
one_field f = record { at = λ octets. as_a_whole (length octets) (f.at octets); spelled = f.spelled; Fits = f.Fits }

-- no octets, which stand for one value
abbrev pub nothing_for : {A : Type 0} → A → Form A
nothing_for x = record { at = λ octets. Ok (x, octets); spelled = λ _. []; Fits = λ y. y ≡ x }

-- a field in which nothing else stands than this
abbrev pub blanked : ℕ → Bool → List ℕ → Result (Unit {0} × List ℕ) ℕ
blanked left true octets = Ok (tt, octets)
blanked left false octets = Err left

abbrev pub nothing_but : {A : Type 0} → Form A → A → (A → Bool) → Form (Unit {0})
nothing_but f blank is_blank = record {
  at = λ octets. f.at octets >>= λ x. blanked (length octets) (is_blank x.0) x.1;
  spelled = λ _. f.spelled blank;
  Fits = λ _. Unit {0};
}

-- the values that are made of other values
abbrev pub variant : {A B : Type 0} → Form A → (A → B) → (B → A) → Form B
variant f make parts = record {
  at = λ octets. f.at octets >>= λ x. Ok (make x.0, x.1);
  spelled = λ y. f.spelled (parts y);
  Fits = λ y. f.Fits (parts y) × (make (parts y) ≡ y);
}

-- a key, and a value of the form that goes with the key
abbrev pub keyed : {K A : Type 0} → Form K → (K → Form A) → (A → K) → Form A
keyed f g key = record {
  at = λ octets. f.at octets >>= λ k. (g k.0).at k.1;
  spelled = λ x. f.spelled (key x) ++ (g (key x)).spelled x;
  Fits = λ x. f.Fits (key x) × (g (key x)).Fits x;
}

-- one octet, which stands for one of these
abbrev pub one_listed : {K : Type 0} → List K → (K → ℕ) → Form K
one_listed all octet =
    standing_for an_octet (λ o. find (λ k. octet k == o) all) octet (λ _. Unit {0})
