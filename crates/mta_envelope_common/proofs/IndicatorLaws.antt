-- Indicators are read exactly where they are spelled, and are 8 to 64 bits.
use Rattle.std.proofs.Common.{◌≡◌, ℕ, zero, suc, ◌+◌, ◌-◌, ◌*◌, ◌/◌, ◌≤◌, ◌<◌, ◌^◌, Bool, true, false, cond, List, []}
use Rattle.std.proofs.Common.{◌∷◌, length, Ok, sym, ap, subst, ◌∙◌, arith, ◌⊎◌, inl, inr, lit<}
use Rattle.std.proofs.Math.Nat.{one-le-pow}
use Rattle.std.specs.Prelude.{max, nat_lt, ◌&&◌}
use Rattle.mta_ber.specs.Bits.{BitString, no_bits, with_bits, bits_of, at_most_64, too_many, padded, bits_in}
use Rattle.mta_ber.specs.Element.{Part}
use Rattle.mta_ber.specs.Head.{◌>>=◌, base}
use Rattle.mta_ber.specs.Octet.{IsOctets}
use Rattle.mta_ber.specs.Segmented.{Adds, AddsBits, AreSegments, SpellsString, SpellsBits, is_none}
use Rattle.mta_ber.proofs.BitLaws.{shifted_room, number_below}
use Rattle.mta_ber.proofs.Steps.{bind_ok, ok_is}
use Rattle.mta_ber.proofs.StringLaws.{bits_in_sound, bits_in_full}
use Rattle.mta_envelope_common.specs.Indicators.{IsIndicators, indicators_in, SpellsIndicators}

pub indicators_sound : (b : BitString) (p : Part) → p.depth ≤ 16 → IsOctets p.content → indicators_in p ≡ Ok b
    → SpellsIndicators p.depth p.tag.constructed p.content b
indicators_sound b p d octets e =
    let a = bind_ok (bits_in p) (λ x. Ok (padded 8 x)) b e in
    record { bits = a.0; spelled = bits_in_sound p a.0 d octets a.1; value = sym (ok_is (padded 8 a.0) b a.2) }

pub indicators_full : (b : BitString) (p : Part) → p.depth ≤ 16 → SpellsIndicators p.depth p.tag.constructed p.content b
    → indicators_in p ≡ Ok b
indicators_full b p d h = ap (λ r. r >>= λ x. Ok (padded 8 x)) (bits_in_full p h.bits d h.spelled)
    ∙ ap (λ (x : BitString). Ok x) (sym h.value)

-- ---- bits are the digits of a number below 2 to the power of their count

abbrev Fits : BitString → Type 0
Fits b = b.word < 2 ^ b.count

joined_fits : (w c n m : ℕ) → w < 2 ^ c → n < 2 ^ m → w * 2 ^ m + n < 2 ^ (c + m)
joined_fits w c n m a b = let r = shifted_room w c m a in omega (arith, r, b)

few_bits : (last : Bool) (unused : ℕ) (octets : List ℕ) → unused < 8 → (unused ≡ 0)
    ⊎ ((last ≡ true) × (1 ≤ length octets)) → unused ≤ 8 * length octets
few_bits last unused octets few some =
    elim some [ inl z ↦ omega (arith, z) | inr l ↦ (let n : 1 ≤ length octets = l.1 in omega arith) ]

limited : (b : BitString) → Fits b → Fits (at_most_64 b)
limited b h = go (nat_lt 64 b.count)
  where
    go : (t : Bool) → Fits (cond t too_many b)
    go true = lit< tt
    go false = h

piece_fits : (last : Bool) (s : BitString) (content : List ℕ) (t : BitString) → AddsBits last s content t → Fits s
    → Fits t
piece_fits last s content t m h =
    let few = few_bits last m.unused m.octets m.few m.some in
    let n = number_below m.unused m.octets few in
    let w = limited (with_bits s (bits_of m.unused m.octets))
    (joined_fits s.word s.count (base 256 m.octets / 2 ^ m.unused) (8 * length m.octets - m.unused) h n) in
    subst Fits (sym m.after_is) w

-- what each segment keeps, all of them keep
segments_fit : (inside : Bool → Adds BitString)
    → ((constructed last : Bool) (s : BitString) (content : List ℕ) (t : BitString)
    → inside constructed last s content t → Fits s → Fits t)
    → (depth : ℕ) (last : Bool) (s : BitString) (es : List (List ℕ)) (t : BitString)
    → AreSegments inside 3 3 depth last s es t → Fits s → Fits t
segments_fit inside each depth last s [] t m h = subst Fits m h
segments_fit inside each depth last s (e ∷ es) t m h =
    segments_fit inside each depth last m.0 es t m.2
    (each m.1.tag.constructed (last && is_none es) s m.1.content m.0 m.1.is_string h)

string_fits : (left : ℕ) (constructed last : Bool) (s : BitString) (content : List ℕ) (t : BitString)
    → SpellsString AddsBits 3 3 left constructed last s content t → Fits s → Fits t
string_fits zero constructed last s content t m h = absurd m
string_fits (suc left) false last s content t m h = piece_fits last s content t m h
string_fits (suc left) true last s content t m h = segments_fit (SpellsString AddsBits 3 3 left) (string_fits left)
    (17 - left) last s m.0 t m.2 h

pub bits_fit : (depth : ℕ) (constructed : Bool) (content : List ℕ) (b : BitString)
    → SpellsBits depth constructed content b → b.word < 2 ^ b.count
bits_fit depth constructed content b h = string_fits (17 - depth) constructed true no_bits content b h.spelled (lit< tt)

padded_is : (b : BitString) → b.count ≤ 64 → Fits b → IsIndicators (padded 8 b)
padded_is b few h =
    let e : max 8 b.count ≡ b.count + (8 - b.count) = omega arith in
    let r = shifted_room b.word b.count (8 - b.count) h in
    let some = one-le-pow (8 - b.count) 2 (omega arith) in
    let within : b.word * 2 ^ (8 - b.count) < 2 ^ (b.count + (8 - b.count)) = omega (arith, r, some) in
    record { at_least = omega (arith, e); at_most = omega (arith, e); within = rw e within }

-- what is spelled is a list of indicators
pub indicators_are : (depth : ℕ) (constructed : Bool) (content : List ℕ) (b : BitString)
    → SpellsIndicators depth constructed content b → IsIndicators b
indicators_are depth constructed content b h =
    subst IsIndicators (sym h.value)
    (padded_is h.bits h.spelled.few (bits_fit depth constructed content h.bits h.spelled))
