-- Values that are written are read again.
use Rattle.std.proofs.Common.{◌≡◌, ℕ, zero, suc, ◌+◌, ◌-◌, ◌*◌, ◌/◌, ◌%◌, ◌≤◌, ◌<◌, ◌^◌, ◌⊎◌, Bool, true, false, cond}
use Rattle.std.proofs.Common.{ltb, leb, eqb, List, [], ◌∷◌, ◌++◌, length, get_or, Result, Ok, refl, sym, ap, subst, ◌∙◌}
use Rattle.std.proofs.Common.{arith, inl, inr, ℤ, pos, negsuc, to_z, of_z, w64, FitsSigned}
use Rattle.std.specs.Prelude.{map, not, ◌&&◌, ◌||◌}
use Rattle.std.specs.Int.{to_be_bytes, bytes_high_first, byte_at}
use Rattle.std.proofs.Math.Nat.{pow-succ', mod-eq_of_lt}
use Rattle.std.proofs.lemmas.Nat.{shl-shr, shl_below}
use Rattle.std.proofs.lemmas.Bool.{cases_lt, eqb-true, leb-true, le-ltb}
use Rattle.std.proofs.lemmas.List.{append-nil}
use Rattle.std.proofs.lemmas.Int.{ints, to_z-of_z}
use Rattle.std.proofs.Math.Facts.{to_z-neg}
use Rattle.mta_ber.specs.declared.fault.Fault.{Fault}
use Rattle.mta_ber.specs.declared.tag.Tag.{Tag}
use Rattle.mta_ber.specs.Head.{◌>>=◌, base}
use Rattle.mta_ber.specs.Element.{Part, part, first, outermost, inner, alone, explicit}
use Rattle.mta_ber.specs.Int.{is_short, signed, in_range, int_in, SpellsInteger}
use Rattle.mta_ber.specs.Strings.{text_in}
use Rattle.mta_ber.specs.Bits.{BitString, no_bits, with_bits, at_most_64, too_many, bits_in}
use Rattle.mta_ber.specs.Segmented.{AddsBits, SpellsString, SpellsBits}
use Rattle.mta_ber.specs.Canon.{IsTag, element}
use Rattle.mta_ber.specs.Contents.{as_primitive, is_redundant, shortest, int_content, octet_count, unused_bits}
use Rattle.mta_ber.specs.Contents.{bits_content}
use Rattle.mta_ber.specs.Oid.{oid_in}
use Rattle.mta_ber.specs.Laws.{Lent, with_rest, beside, lent_of, ElementsAreReadAgain, NumbersAreReadAgain}
use Rattle.mta_ber.specs.Laws.{BitsAreReadAgain, TextsAreReadAgain, OidsAreReadAgain, ExplicitTagsAreReadAgain}
use Rattle.mta_ber.proofs.HeadLaws.{and_true}
use Rattle.mta_ber.proofs.CanonLaws.{digits, digits_of, byte_small, lent}
use Rattle.mta_ber.proofs.RoundTrip.{first_again, part_again, text_again, element_short}
use Rattle.mta_ber.proofs.BitLaws.{octets_as_bits}
use Rattle.mta_ber.proofs.Numbers.{signed_low}
use Rattle.mta_ber.proofs.IntLaws.{int_full}
use Rattle.mta_ber.proofs.OidLaws.{oid_full}
use Rattle.mta_ber.proofs.StringLaws.{bits_in_full}

low_outermost : (t : Tag) → outermost t ≤ 2
low_outermost t = low_cond (eqb t.class 2 && eqb t.number 2)
  where
    low_cond : (b : Bool) → cond b 2 1 ≤ 2
    low_cond true = omega arith
    low_cond false = omega arith

pub primitive_tag : (t : Tag) → IsTag t → IsTag (as_primitive t)
primitive_tag t h = record { class = h.class; number = h.number }

-- what reads the content of an element, reads the element
pub again : {A : Type 0} (read : Part → Result A Fault) (v : A) (t : Tag) (content more : List ℕ) (at : ℕ) → IsTag t
    → length content < 2 ^ 64
    → ((depth : ℕ) → depth ≤ 16 → read (lent at depth t content more) ≡ Ok v)
    → (first at (element t content ++ more) >>= with_rest read) ≡ beside v more
again read v t content more at h short f =
    ap (λ x. x >>= with_rest read) (first_again at t content more h short)
    ∙ ap (λ x. x >>= λ v. beside v more) (f (outermost t) (let low = low_outermost t in omega arith))

pub elements_again : ElementsAreReadAgain
elements_again t content more at h short = ap (λ x. x >>= with_rest lent_of) (first_again at t content more h short)

pub texts_again : TextsAreReadAgain
texts_again t class low high text more at h is short =
    again (text_in class low high) text (as_primitive t) text more at (primitive_tag t h) short
    (λ depth d. text_again class low high (lent at depth (as_primitive t) text more) refl d is)

pub oids_again : OidsAreReadAgain
oids_again t octets more at h is short =
    again oid_in octets (as_primitive t) octets more at (primitive_tag t h) short
    (λ depth d. oid_full (lent at depth (as_primitive t) octets more) octets
    (record { primitive = refl; is_oid_of = is; kept = refl }))

-- ---- explicit tags

abbrev lent_element : Tag → List ℕ → Lent
lent_element u content = record { tag = u; content = content; octets = element u content }

inside_again : (p : Part) (u : Tag) (content : List ℕ) → p.tag.constructed ≡ true → p.depth ≤ 15
    → p.content ≡ element u content → IsTag u → length content < 2 ^ 64
    → explicit lent_of p ≡ Ok (lent_element u content)
unfolding inner alone
inside_again p u content c d is h short =
    let found : part p.start (p.depth + 1) p.content ≡ Ok (lent p.start (p.depth + 1) u content []) =
    ap (part p.start (p.depth + 1)) (is ∙ sym (append-nil (element u content)))
    ∙ part_again p.start (p.depth + 1) u content [] h short (omega arith) in
    rw (c, found) refl

pub explicit_again : ExplicitTagsAreReadAgain
explicit_again t u content more at h c k short =
    let long = element_short u content in
    let low = low_outermost t in
    ap (λ x. x >>= with_rest (explicit lent_of)) (first_again at t (element u content) more h (omega arith))
    ∙ ap (λ x. x >>= λ v. beside v more)
    (inside_again (lent at (outermost t) t (element u content) more) u content c (omega arith) refl k (omega arith))

-- ---- numbers

or_true : (a b : Bool) → (a || b) ≡ true → (a ≡ true) ⊎ (b ≡ true)
or_true true b e = inl refl
or_true false b e = inr e

short_so : (octets : List ℕ) → 1 ≤ length octets → is_short (shortest octets) ≡ true
short_so [] h = absurd (omega arith)
short_so (b ∷ []) h = refl
short_so (b ∷ c ∷ bs) h = go (is_redundant b (c ∷ bs)) refl (short_so (c ∷ bs) (omega arith))
  where
    go : (r : Bool) → is_redundant b (c ∷ bs) ≡ r → is_short (shortest (c ∷ bs)) ≡ true
        → is_short (cond r (shortest (c ∷ bs)) (b ∷ c ∷ bs)) ≡ true
    go true e h = h
    go false e h = ap not e

few_so : (octets : List ℕ) → length (shortest octets) ≤ length octets
few_so [] = omega arith
few_so (b ∷ bs) = go (is_redundant b bs) (few_so bs)
  where
    go : (r : Bool) → length (shortest bs) ≤ length bs → length (cond r (shortest bs) (b ∷ bs)) ≤ suc (length bs)
    go true h = omega arith
    go false h = omega arith

-- an octet that says no more can be left out
redundant_signed : (b : ℕ) (bs : List ℕ) → is_redundant b bs ≡ true → signed (b ∷ bs) ≡ signed bs
redundant_signed b [] e = absurd cc
redundant_signed b (c ∷ bs) e = elim (or_true ((eqb b 0) && (ltb c 128)) ((eqb b 255) && (leb 128 c)) e) [
  | inl h ↦ (
      let a = and_true (eqb b 0) (ltb c 128) h in
      let zero_is = eqb-true b 0 a.0 in
      ap (λ x. signed (x ∷ c ∷ bs)) zero_is
      ∙ sym (ap (λ t. cond t (pos (base 256 (c ∷ bs))) (negsuc (base 256 (map (λ x. 255 - x) (c ∷ bs))))) a.1))
  | inr h ↦ (
      let a = and_true (eqb b 255) (leb 128 c) h in
      let ones_is = eqb-true b 255 a.0 in
      let high : ltb c 128 ≡ false = le-ltb c 128 (leb-true 128 c a.1) in
      ap (λ x. signed (x ∷ c ∷ bs)) ones_is
      ∙ sym (ap (λ t. cond t (pos (base 256 (c ∷ bs))) (negsuc (base 256 (map (λ x. 255 - x) (c ∷ bs))))) high))
]

signed_so : (octets : List ℕ) → signed (shortest octets) ≡ signed octets
signed_so [] = refl
signed_so (b ∷ bs) = go (is_redundant b bs) refl (signed_so bs)
  where
    go : (r : Bool) → is_redundant b bs ≡ r → signed (shortest bs) ≡ signed bs
        → signed (cond r (shortest bs) (b ∷ bs)) ≡ signed (b ∷ bs)
    go true e h = h ∙ sym (redundant_signed b bs e)
    go false e h = refl

-- the complements of octets
complements : (k a b n : ℕ) → digits a (bytes_high_first k n) + digits b
    (map (λ x. 255 - x) (bytes_high_first k n)) + 1 ≡ (a + b + 1) * 256 ^ k
complements zero a b n = omega arith
complements (suc k) a b n =
    let s = byte_small k n in
    let below : byte_at k n < 256 = omega (arith, s) in
    let h = complements k (a * 256 + byte_at k n % 256) (b * 256 + (255 - byte_at k n) % 256) n in
    let sum : a * 256 + byte_at k n % 256 + (b * 256 + (255 - byte_at k n) % 256) + 1 ≡ (a + b + 1) * 256 =
    omega (arith, s, below) in
    h ∙ ap (λ x. x * 256 ^ k) sum ∙ regroup (a + b + 1) (256 ^ k) ∙ ap (λ x. (a + b + 1) * x) (sym (pow-succ' 256 k))
  where
    regroup : (c w : ℕ) → c * 256 * w ≡ c * (256 * w)
    regroup c w = grind arith

first_byte : (m : ℕ) → get_or (to_be_bytes w64 m) 0 0 ≡ m / 2 ^ 56 % 256
first_byte m = refl

value_so : (m : ℕ) → m < 2 ^ 64 → to_z w64 m ≡ signed (to_be_bytes w64 m)
value_so m lt =
    let value : base 256 (to_be_bytes w64 m) ≡ m = digits_of 8 0 m
    ∙ (let e : 0 * 2 ^ 64 + m % 2 ^ 64 ≡ m = omega arith in e) in
    elim (cases_lt m (2 ^ 63)) [
      | inl low ↦ signed_low (to_be_bytes w64 m) m (omega (arith, first_byte m)) (sym value) low
      | inr high ↦ (
          let octets = to_be_bytes w64 m in
          let n = base 256 (map (λ x. 255 - x) octets) in
          let sum : m + n + 1 ≡ 2 ^ 64 = omega (arith, complements 8 0 0 m, value) in
          let first : ltb (get_or octets 0 0) 128 ≡ false =
          le-ltb (get_or octets 0 0) 128 (omega (arith, first_byte m)) in
          let m-is : m ≡ 2 ^ 64 - suc n = omega (arith, sum) in
          let below : to_z w64 m ≡ negsuc n = ap (to_z w64) m-is ∙ to_z-neg w64 n (omega (arith, sum, high)) in
          below ∙ sym (ap (λ t. cond t (pos (base 256 octets)) (negsuc n)) first))
    ]

int_spelled : (low high n : ℤ) → FitsSigned w64 n → in_range low high n ≡ true
    → SpellsInteger low high false (int_content n) n
unfolding int_content
int_spelled low high n fits range =
    let m = of_z w64 n in
    let octets = to_be_bytes w64 m in
    let below : m < 2 ^ 64 = omega (arith, ints) in
    let value : n ≡ signed (shortest octets) = sym (to_z-of_z w64 n fits) ∙ value_so m below ∙ sym (signed_so octets) in
    record {
      primitive = refl;
      short = short_so octets (omega arith);
      few = few_so octets;
      value = value;
      range =
          range;
    }

pub numbers_again : NumbersAreReadAgain
numbers_again t n low high more at h fits range =
    let s = int_spelled low high n fits range in
    let few = s.few in
    again (λ p. int_in p.at p.tag.constructed low high p.content) n (as_primitive t) (int_content n) more at
    (primitive_tag t h) (omega arith) (λ depth d. int_full at false low high (int_content n) n s)

-- ---- bits

pub length_bytes : (k n : ℕ) → length (bytes_high_first k n) ≡ k
length_bytes zero n = refl
length_bytes (suc k) n = ap (λ x. suc x) (length_bytes k n)

bits_few : (b : BitString) → b.count ≤ 64 → length (bits_content b) ≤ 9
unfolding bits_content
bits_few b few = omega (arith, length_bytes (octet_count b.count) (b.word * 2 ^ unused_bits b.count))

made_is : (c c' w w' : ℕ) → c ≡ c' → w ≡ w'
    → ◌≡◌ {A = BitString} (record { count = c; word = w }) (record { count = c'; word = w' })
made_is c c' w w' a b = cc

bits_spelled : (depth : ℕ) (b : BitString) → depth ≤ 16 → b.count ≤ 64 → b.word < 2 ^ b.count
    → SpellsBits depth false (bits_content b) b
unfolding bits_content
bits_spelled depth b d few below =
    let unused = unused_bits b.count in
    let count = octet_count b.count in
    let number = b.word * 2 ^ unused in
    let octets = bytes_high_first count number in
    let size = length_bytes count number in
    let whole : b.count + unused ≡ 8 * count = omega arith in
    let small : number < 256 ^ count =
    omega (arith, shl_below b.word b.count unused below, ap (λ k. 2 ^ k) whole, octets_as_bits count) in
    let value : base 256 octets ≡ number = digits_of count 0 number
    ∙ (let e : 0 * 256 ^ count + number % 256 ^ count ≡ number = ap (λ x. 0 * 256 ^ count + x) (mod-eq_of_lt small)
    ∙ (let z : 0 * 256 ^ count + number ≡ number = omega arith in z) in e) in
    let word : base 256 octets / 2 ^ unused ≡ b.word = ap (λ x. x / 2 ^ unused) value ∙ shl-shr b.word unused in
    let count_is : 8 * length octets - unused ≡ b.count = omega (arith, size) in
    let adds : AddsBits true no_bits (unused ∷ octets) b =
    record {
      unused = unused;
      octets = octets;
      content_is = refl;
      few = omega arith;
      some =
          some_unused b.count count number size;
      after_is =
          joined_is b (8 * length octets - unused) (base 256 octets / 2 ^ unused) few count_is word;
    } in
    let left : suc (16 - depth) ≡ 17 - depth = omega arith in
    record {
      spelled = subst (λ k. SpellsString AddsBits 3 3 k false true no_bits (unused ∷ octets) b) left adds;
      few =
          few;
    }
  where
    some_unused : (bits count number : ℕ) → length (bytes_high_first (octet_count bits) number) ≡ octet_count bits
        → (unused_bits bits ≡ 0) ⊎ ((true ≡ true) × (1 ≤ length (bytes_high_first (octet_count bits) number)))
    some_unused bits count number size =
        elim (cases_lt 0 bits) [ inl some ↦ inr (refl, omega (arith, size)) | inr none ↦ inl (omega arith) ]

    joined_is : (b : BitString) (c w : ℕ) → b.count ≤ 64 → c ≡ b.count → w ≡ b.word
        → b ≡ at_most_64 (with_bits no_bits (record { count = c; word = w }))
    joined_is b c w few ce we =
        let small : ltb 64 (0 + c) ≡ false = le-ltb 64 (0 + c) (omega arith) in
        let count_is : 0 + c ≡ b.count = omega arith in
        let word_is : 0 * 2 ^ c + w ≡ b.word = omega arith in
        sym (ap (λ t. cond t too_many (with_bits no_bits (record { count = c; word = w }))) small
        ∙ made_is (0 + c) b.count (0 * 2 ^ c + w) b.word count_is word_is)

pub bits_again : BitsAreReadAgain
bits_again t b more at h few below =
    let short = bits_short b few in
    again bits_in b (as_primitive t) (bits_content b) more at (primitive_tag t h) (omega arith)
    (λ depth d. bits_in_full (lent at depth (as_primitive t) (bits_content b) more) b d
    (bits_spelled depth b d few below))
  where
    bits_short : (b : BitString) → b.count ≤ 64 → length (bits_content b) ≤ 9
    bits_short b few = bits_few b few
