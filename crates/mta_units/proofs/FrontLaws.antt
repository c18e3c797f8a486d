-- What a whole body at the front says of the octets.
use Rattle.std.proofs.Common.{◌≡◌, append_assoc, ℕ, ◌+◌, ◌-◌, ◌≤◌, Bool, true, false, cond, eqb, ltb, List, [], ◌∷◌}
use Rattle.std.proofs.Common.{◌++◌, length, take, drop, Option, Some, None, refl, sym, ap, subst, ◌∙◌, arith}
use Rattle.std.specs.Prelude.{find}
use Rattle.std.proofs.lemmas.Bool.{ltb-false, eqb-true}
use Rattle.std.proofs.lemmas.List.{length-append, length-take, take-append-drop}
use Rattle.std.specs.Int.{w32, from_be_bytes}
use Rattle.mta_units.specs.declared.front.BadUnit.TheVariants as bad
use Rattle.mta_units.specs.declared.kind.UnitKind.{UnitKind}
use Rattle.mta_units.specs.Kind.{kind_number, all_kinds, kind_at}
use Rattle.mta_units.specs.Front.{Cut, Faulty, Whole, front, sized, kinded, listed, longest_body}

-- what is found passes the test
found_passes : {A : Type 0} (test : A → Bool) (xs : List A) (x : A) → find test xs ≡ Some x → test x ≡ true
found_passes test [] x e = absurd cc
found_passes {A} test (y ∷ ys) x e = go (test y) refl e (found_passes test ys x)
  where
    go : (b : Bool) → test y ≡ b → cond b (Some y) (find test ys) ≡ Some x → (find test ys ≡ Some x → test x ≡ true)
        → test x ≡ true
    go true is e later = let same : y ≡ x = cc in let P : A → Type 0 = λ z. test z ≡ true in subst P same is
    go false is e later = later e

-- the kind of a kind octet has that number
pub kind_so : (octet : ℕ) (kind : UnitKind) → kind_at octet ≡ Some kind → kind_number kind ≡ octet
kind_so octet kind e = eqb-true (kind_number kind) octet
    (found_passes (λ k. eqb (kind_number k) octet) all_kinds kind e)

-- a body of this kind and this size, and what follows it, behind the length
pub record IsBody (size : ℕ) (octets : List ℕ) (kind : UnitKind) (body rest : List ℕ) : Type 0 where
  pub small : size ≤ longest_body
  pub size_is : size ≡ length body
  pub octets_are : octets ≡ kind_number kind ∷ (body ++ rest)

listed_so : (size octet : ℕ) (k : Option UnitKind) (octets : List ℕ) (kind : UnitKind) (body rest : List ℕ)
    → kind_at octet ≡ k → size ≤ longest_body → listed size k octets ≡ Whole kind body rest
    → IsBody size (octet ∷ octets) kind body rest
listed_so size octet None octets kind body rest is small e = absurd cc
listed_so size octet (Some k) octets kind body rest is small e = go (ltb (length octets) size) refl e
  where
    go : (b : Bool) → ltb (length octets) size ≡ b
        → cond b Cut (Whole k (take size octets) (drop size octets)) ≡ Whole kind body rest
        → IsBody size (octet ∷ octets) kind body rest
    go true lt e = absurd cc
    go false le e =
        let kind_is : k ≡ kind = cc in
        let body_is : take size octets ≡ body = cc in
        let rest_is : drop size octets ≡ rest = cc in
        let fits = ltb-false (length octets) size le in
        let number = kind_so octet k is in
        let whole : octets ≡ body ++ rest = sym (take-append-drop size octets) ∙ cc in
        record {
          small = small;
          size_is = omega (arith, fits, length-take size octets, ap length body_is);
          octets_are = cc;
        }

pub sized_so : (size : ℕ) (octets : List ℕ) (kind : UnitKind) (body rest : List ℕ)
    → sized size octets ≡ Whole kind body rest → IsBody size octets kind body rest
sized_so size octets kind body rest e = go (ltb longest_body size) refl octets e
  where
    go : (b : Bool) → ltb longest_body size ≡ b → (octets : List ℕ)
        → cond b (Faulty bad.Length) (kinded size octets) ≡ Whole kind body rest → IsBody size octets kind body rest
    go true is octets e = absurd cc
    go false is [] e = absurd cc
    go false is (octet ∷ octets) e = listed_so size octet (kind_at octet) octets kind body rest refl
        (ltb-false longest_body size is) e

-- a whole body at the front, behind the octets of its length and its kind
pub record IsWhole (octets : List ℕ) (kind : UnitKind) (body rest : List ℕ) : Type 0 where
  pub length_octets : List ℕ
  pub four : length length_octets ≡ 4
  pub is_body : IsBody (from_be_bytes w32 length_octets) (kind_number kind ∷ (body ++ rest)) kind body rest
  pub octets_are : octets ≡ length_octets ++ kind_number kind ∷ (body ++ rest)

pub front_so : (octets : List ℕ) (kind : UnitKind) (body rest : List ℕ) → front octets ≡ Whole kind body rest
    → IsWhole octets kind body rest
front_so [] kind body rest e = absurd cc
front_so (a ∷ []) kind body rest e = absurd cc
front_so (a ∷ b ∷ []) kind body rest e = absurd cc
front_so (a ∷ b ∷ c ∷ []) kind body rest e = absurd cc
front_so (a ∷ b ∷ c ∷ d ∷ octets) kind body rest e =
    let h = sized_so (from_be_bytes w32 (a ∷ b ∷ c ∷ d ∷ [])) octets kind body rest e in
    record {
      length_octets = a ∷ b ∷ c ∷ d ∷ [];
      four = refl;
      is_body = record { small = h.small; size_is = h.size_is; octets_are = refl };
      octets_are = ap (λ l. a ∷ b ∷ c ∷ d ∷ l) h.octets_are;
    }

drop_front : (a b : List ℕ) → drop (length a) (a ++ b) ≡ b
drop_front [] b = refl
drop_front (x ∷ a) b = drop_front a b

-- what follows a body is the end of the octets
pub record IsEnd (octets body rest : List ℕ) : Type 0 where
  pub small : length body ≤ longest_body
  pub within : length rest ≤ length octets
  pub rest_is : rest ≡ drop (length octets - length rest) octets

pub whole_end : (octets : List ℕ) (kind : UnitKind) (body rest : List ℕ) → front octets ≡ Whole kind body rest
    → IsEnd octets body rest
whole_end octets kind body rest e =
    let w = front_so octets kind body rest e in
    let before : List ℕ = w.length_octets ++ kind_number kind ∷ body in
    let split : octets ≡ before ++ rest = w.octets_are ∙ simp append_assoc in
    let sizes : length octets ≡ length before + length rest = ap length split ∙ length-append before rest in
    let many : length octets - length rest ≡ length before = omega (arith, sizes) in
    record {
      small = omega (arith, w.is_body.small, w.is_body.size_is);
      within = omega (arith, sizes);
      rest_is = sym (drop_front before rest) ∙ cc (many, split);
    }
