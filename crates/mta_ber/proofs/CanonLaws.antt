-- What is written is read again, whatever follows it.
use Rattle.std.proofs.Common.{◌≡◌, ℕ, zero, suc, ◌+◌, ◌*◌, ◌/◌, ◌%◌, ◌≤◌, ◌<◌, ◌^◌, true, false, ltb, List, [], ◌∷◌}
use Rattle.std.proofs.Common.{◌++◌, length, Some, refl, sym, ap, ◌∙◌, append_assoc, arith, inl, inr}
use Rattle.std.specs.Prelude.{fold}
use Rattle.std.specs.Int.{w64, to_be_bytes, bytes_high_first, byte_at}
use Rattle.std.proofs.Math.Nat.{pow-succ', mul-le-mul_right, one-le-pow}
use Rattle.std.proofs.lemmas.Bool.{cases_lt, lt-ltb, le-ltb}
use Rattle.std.proofs.lemmas.Nat.{mod-mul-add, mod_below, div-add-mod'}
use Rattle.mta_ber.specs.declared.tag.Tag.{Tag}
use Rattle.mta_ber.specs.Head.{base}
use Rattle.mta_ber.specs.Element.{Part}
use Rattle.mta_ber.specs.Canon.{IsTag, drop_zeros, length_octets, high_octets, ident_octets, element}
use Rattle.mta_ber.specs.Spelling.{IsHigh, IsIdent, IsLength, IsHeader}

-- ---- the least octets of a length

base_significant : (bs : List ℕ) → base 256 (drop_zeros bs) ≡ base 256 bs
base_significant [] = refl
base_significant (zero ∷ bs) = base_significant bs
base_significant (suc b ∷ bs) = refl

pub few_significant : (bs : List ℕ) → length (drop_zeros bs) ≤ length bs
few_significant [] = omega arith
few_significant (zero ∷ bs) = let h = few_significant bs in omega arith
few_significant (suc b ∷ bs) = omega arith

abbrev pub digits : ℕ → List ℕ → ℕ
digits a bs = fold (λ n b. n * 256 + b % 256) a bs

-- one digit more of a remainder
more_of : (n w : ℕ) → 0 < w → n / w % 256 * w + n % w ≡ n % (256 * w)
more_of n w pos =
    let q = n / w in
    let n-is = div-add-mod' n w in
    let q-is : 256 * (q / 256) + q % 256 ≡ q = omega arith in
    let r = mod_below n w pos in
    let c : q % 256 ≤ 255 = omega arith in
    let cw = mul-le-mul_right w c in
    let small : q % 256 * w + n % w < 256 * w = omega (arith, cw, r) in
    let split : n ≡ q / 256 * (256 * w) + (q % 256 * w + n % w) = omega (arith, n-is, ap (λ x. x * w) q-is) in
    sym (ap (λ x. x % (256 * w)) split ∙ mod-mul-add (q / 256) (256 * w) (q % 256 * w + n % w) small)

byte_is : (k n : ℕ) → byte_at k n * 256 ^ k + n % 256 ^ k ≡ n % 256 ^ suc k
byte_is zero n = omega arith
byte_is (suc k) n = rw (pow-succ' 256 (suc k)) (more_of n (256 ^ suc k) (one-le-pow (suc k) 256 (omega arith)))

pub byte_small : (k n : ℕ) → byte_at k n % 256 ≡ byte_at k n
byte_small zero n = omega arith
byte_small (suc k) n = omega arith

regroup : (a b w m : ℕ) → (a * 256 + b) * w + m ≡ a * (256 * w) + (b * w + m)
regroup a b w m = grind arith

pub digits_of : (k a n : ℕ) → digits a (bytes_high_first k n) ≡ a * 256 ^ k + n % 256 ^ k
digits_of zero a n = omega arith
digits_of (suc k) a n =
    let h = digits_of k (a * 256 + byte_at k n % 256) n in
    let s = byte_small k n in
    let b = byte_is k n in
    let p = pow-succ' 256 k in
    h ∙ ap (λ x. (a * 256 + x) * 256 ^ k + n % 256 ^ k) s ∙ regroup a (byte_at k n) (256 ^ k) (n % 256 ^ k)
    ∙ ap (λ x. a * x + (byte_at k n * 256 ^ k + n % 256 ^ k)) (sym p) ∙ ap (λ x. a * 256 ^ suc k + x) b

whole_value : (n : ℕ) → n < 2 ^ 64 → base 256 (drop_zeros (to_be_bytes w64 n)) ≡ n
whole_value n lt =
    base_significant (to_be_bytes w64 n) ∙ digits_of 8 0 n
    ∙ (let small : 0 * 2 ^ 64 + n % 2 ^ 64 ≡ n = omega arith in small)

some_significant : (n : ℕ) (ds : List ℕ) → 128 ≤ n → base 256 ds ≡ n → 1 ≤ length ds
some_significant n [] big e = absurd (omega arith)
some_significant n (d ∷ ds) big e = omega arith

pub length_spelled : (n : ℕ) → n < 2 ^ 64 → IsLength n (length_octets n)
unfolding length_octets
length_spelled n lt = elim (cases_lt n 128) [
  | inl short ↦ inl (short, rw (lt-ltb n 128 short) refl)
  | inr long ↦ (
      let v = whole_value n lt in
      let t : ltb n 128 ≡ false = le-ltb n 128 long in
      inr (record {
        digits = drop_zeros (to_be_bytes w64 n);
        some =
            some_significant n (drop_zeros (to_be_bytes w64 n)) long v;
        few = few_significant (to_be_bytes w64 n);
        value =
            sym v;
        octets_are = rw t refl;
      }))
]

-- ---- elements

-- the least octets of a high tag number
high_spelled : (n : ℕ) → 31 ≤ n → n < 2 ^ 28 → IsHigh n (high_octets n)
unfolding high_octets
high_spelled n ge lt = elim (cases_lt n 128) [
  | inl a ↦ rw (lt-ltb n 128 a) (record {
    group = a;
    few = omega arith;
    no_zero = λ e. omega arith;
    value = omega arith;
    high = ge;
  })
  | inr a ↦ elim (cases_lt n (2 ^ 14)) [
    | inl b ↦ rw (le-ltb n 128 a, lt-ltb n (2 ^ 14) b)
        (record {
          group = (omega arith, omega arith);
          few = omega arith;
          no_zero = λ e. omega arith;
          value =
              omega arith;
          high = ge;
        })
    | inr b ↦ elim (cases_lt n (2 ^ 21)) [
      | inl d ↦ rw (le-ltb n 128 a, le-ltb n (2 ^ 14) b, lt-ltb n (2 ^ 21) d)
          (record {
            group = (omega arith, (omega arith, omega arith));
            few = omega arith;
            no_zero = λ e. omega arith;
            value = omega arith;
            high = ge;
          })
      | inr d ↦ rw (le-ltb n 128 a, le-ltb n (2 ^ 14) b, le-ltb n (2 ^ 21) d)
          (record {
            group = (omega arith, (omega arith, (omega arith, omega arith)));
            few = omega arith;
            no_zero =
                λ e. omega arith;
            value = omega arith;
            high = ge;
          })
    ]
  ]
]

ident_spelled : (t : Tag) → IsTag t → IsIdent t (ident_octets t)
unfolding ident_octets
ident_spelled t h = elim (cases_lt t.number 31) [
  | inl low ↦ (let e : ltb t.number 31 ≡ true = lt-ltb _ _ low in
      (h.class, inl (record { low = low; octet = rw e refl })))
  | inr high ↦ (let e : ltb t.number 31 ≡ false = le-ltb _ _ high in (
    h.class,
    inr (record {
      number = high_octets t.number;
      high = high_spelled t.number high h.number;
      octets_are =
          rw e refl;
    }),
  ))
]

pub header_octets : Tag → List ℕ → List ℕ
header_octets t content = ident_octets t ++ length_octets (length content)

pub header_spelled : (t : Tag) (content : List ℕ) → IsTag t → length content < 2 ^ 64
    → IsHeader t (Some (length content)) (header_octets t content)
unfolding header_octets
header_spelled t content low lt =
    record {
      ident = ident_octets t;
      lengths = length_octets (length content);
      is_ident = ident_spelled t low;
      is_count = length_spelled (length content) lt;
      octets_are = refl;
    }

pub element_is : (t : Tag) (content r : List ℕ) → element t content ++ r ≡ header_octets t content ++ (content ++ r)
unfolding element header_octets
element_is t content r = simp append_assoc

-- an element that is written is read, whatever follows it
abbrev pub lent : ℕ → ℕ → Tag → List ℕ → List ℕ → Part
lent at depth t content r = record {
  tag = t;
  at = at;
  depth = depth;
  start = at + length (header_octets t content);
  content = content;
  rest = r;
  octets = element t content;
}

pub element_split : (t : Tag) (content : List ℕ) → header_octets t content ++ content ≡ element t content
unfolding element header_octets
element_split t content = simp append_assoc
