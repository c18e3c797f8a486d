-- An object identifier is read exactly where it is spelled.
use Rattle.std.proofs.Common.{◌≡◌, ℕ, suc, ◌-◌, ◌≤◌, ◌<◌, Bool, true, false, ltb, List, [], ◌∷◌, ◌++◌, length, Ok, refl}
use Rattle.std.proofs.Common.{sym, ap, subst, ◌∙◌, arith, inl, inr}
use Rattle.std.specs.Prelude.{◌↔◌, ◌&&◌, IsTrue, slice_index}
use Rattle.std.specs.List.{concat}
use Rattle.std.proofs.lemmas.Bool.{cases_lt, ltb-true, lt-ltb}
use Rattle.std.proofs.lemmas.List.{append-nil}
use Rattle.mta_ber.specs.Element.{Part}
use Rattle.mta_ber.specs.Spelling.{IsGroup}
use Rattle.mta_ber.specs.Oid.{is_oid, oid_in, AreSubidentifiers, IsOid, SpellsOid}
use Rattle.mta_ber.proofs.Steps.{passed, taken, ok_is}

-- the last octet has its top bit clear
abbrev LastIsLow : List ℕ → Type 0
LastIsLow [] = ⊥
LastIsLow (b ∷ []) = b < 128
LastIsLow (b ∷ c ∷ bs) = LastIsLow (c ∷ bs)

-- more octets in front change nothing
as_behind : (b c : ℕ) (bs : List ℕ) → is_oid (b ∷ c ∷ bs) ≡ is_oid (c ∷ bs)
as_behind b c bs =
    let some : ltb 0 (length (b ∷ c ∷ bs)) ≡ true = lt-ltb 0 (length (b ∷ c ∷ bs)) (omega arith) in
    let some' : ltb 0 (length (c ∷ bs)) ≡ true = lt-ltb 0 (length (c ∷ bs)) (omega arith) in
    let last : length (b ∷ c ∷ bs) - 1 ≡ suc (length (c ∷ bs) - 1) = omega arith in
    ap (λ t. t && ltb (slice_index (b ∷ c ∷ bs) (length (b ∷ c ∷ bs) - 1)) 128) some
    ∙ ap (λ n. ltb (slice_index (b ∷ c ∷ bs) n) 128) last
    ∙ ap (λ t. t && ltb (slice_index (c ∷ bs) (length (c ∷ bs) - 1)) 128) (sym some')

low_so : (octets : List ℕ) → is_oid octets ≡ true → LastIsLow octets
low_so [] e = absurd cc
low_so (b ∷ []) e = ltb-true b 128 e
low_so (b ∷ c ∷ bs) e = low_so (c ∷ bs) (sym (as_behind b c bs) ∙ e)

low_full : (octets : List ℕ) → LastIsLow octets → is_oid octets ≡ true
low_full [] h = absurd h
low_full (b ∷ []) h = lt-ltb b 128 h
low_full (b ∷ c ∷ bs) h = as_behind b c bs ∙ low_full (c ∷ bs) h

-- an octet with its top bit set goes on with the first subidentifier
goes_on : (b : ℕ) (octets : List ℕ) → 128 ≤ b → (ss : List (List ℕ)) → 1 ≤ length ss → AreSubidentifiers ss
    → octets ≡ concat ss → IsOid (b ∷ octets)
goes_on b octets high [] some each joined = absurd (omega arith)
goes_on b octets high ([] ∷ ss) some each joined = absurd each.0
goes_on b octets high ((c ∷ s) ∷ ss) some each joined =
    record {
      subidentifiers = (b ∷ c ∷ s) ∷ ss;
      some = omega arith;
      each = ((high, each.0), each.1);
      joined =
          ap (λ x. b ∷ x) joined;
    }

split : (octets : List ℕ) → LastIsLow octets → IsOid octets
split [] h = absurd h
split (b ∷ []) h = record { subidentifiers = (b ∷ []) ∷ []; some = omega arith; each = (h, tt); joined = refl }
split (b ∷ c ∷ bs) h =
    let r = split (c ∷ bs) h in
    elim (cases_lt b 128) [
      | inl low ↦ record {
        subidentifiers = (b ∷ []) ∷ r.subidentifiers;
        some = omega arith;
        each = (low, r.each);
        joined = ap (λ x. b ∷ x) r.joined;
      }
      | inr high ↦ goes_on b (c ∷ bs) high r.subidentifiers r.some r.each r.joined
    ]

group_low : (s : List ℕ) → IsGroup s → LastIsLow s
group_low [] h = absurd h
group_low (b ∷ []) h = h
group_low (b ∷ c ∷ s) h = group_low (c ∷ s) h.1

behind_low : (front rest : List ℕ) → LastIsLow rest → LastIsLow (front ++ rest)
behind_low [] rest h = h
behind_low (b ∷ front) rest h = on (front ++ rest) (behind_low front rest h)
  where
    on : (octets : List ℕ) → LastIsLow octets → LastIsLow (b ∷ octets)
    on [] h = absurd h
    on (c ∷ octets) h = h

all_low : (ss : List (List ℕ)) → 1 ≤ length ss → AreSubidentifiers ss → LastIsLow (concat ss)
all_low [] some each = absurd (omega arith)
all_low (s ∷ []) some each = subst LastIsLow (sym (append-nil s)) (group_low s each.0)
all_low (s ∷ r ∷ ss) some each = behind_low s (concat (r ∷ ss)) (all_low (r ∷ ss) (omega arith) each.1)

pub is_oid_sound : (octets : List ℕ) → is_oid octets ≡ true → IsOid octets
is_oid_sound octets e = split octets (low_so octets e)

pub is_oid_full : (octets : List ℕ) → IsOid octets → is_oid octets ≡ true
is_oid_full octets h = low_full octets (subst LastIsLow (sym h.joined) (all_low h.subidentifiers h.some h.each))

pub is_oid_is : (octets : List ℕ) (b : Bool) → b ≡ is_oid octets → IsTrue b ↔ IsOid octets
is_oid_is octets true e = (λ _. is_oid_sound octets (sym e), λ _. refl)
is_oid_is octets false e = (λ h. absurd cc, λ h. absurd (let k = is_oid_full octets h in cc))

pub oid_sound : (p : Part) (o : List ℕ) → oid_in p ≡ Ok o → SpellsOid p.tag.constructed p.content o
unfolding oid_in
oid_sound p o e =
    let a = passed p.tag.constructed _ _ o e in
    let b = taken (is_oid p.content) (Ok p.content) _ o a.1 in
    record { primitive = a.0; is_oid_of = is_oid_sound p.content b.0; kept = sym (ok_is p.content o b.1) }

pub oid_full : (p : Part) (o : List ℕ) → SpellsOid p.tag.constructed p.content o → oid_in p ≡ Ok o
unfolding oid_in
oid_full p o h =
    let is = is_oid_full p.content h.is_oid_of in
    rw (h.primitive, is) (ap (λ (x : List ℕ). Ok x) (sym h.kept))
