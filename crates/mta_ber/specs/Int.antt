-- INTEGER and ENUMERATED contents: two's complement, at least one octet, the first nine bits never all equal.
use Rattle.std.specs.Prelude.{◌≡◌, ◌≤◌, ℕ, ℤ, pos, negsuc, ◌-◌, Bool, true, false, List, [], ◌∷◌, length, map, Result}
use Rattle.std.specs.Prelude.{Ok, nat_lt, nat_le, int_lt, slice_index, ◌==◌, if◌then◌else◌, ◌&&◌, ◌||◌, not}
use Rattle.mta_ber.specs.declared.fault.Fault.{Fault}
use Rattle.mta_ber.specs.declared.fault.Kind.TheVariants.{BadTag, BadInt}
use Rattle.mta_ber.specs.Head.{fault, base}

abbrev pub is_short : List ℕ → Bool
is_short [] = false
is_short (b ∷ []) = true
is_short (b ∷ c ∷ bs) = not (((b == 0) && nat_lt c 128) || ((b == 255) && nat_le 128 c))

-- the number: with its first bit set it is below zero, and the octets of -1 - n are the complements
abbrev pub signed : List ℕ → ℤ
signed bytes = if nat_lt (slice_index bytes 0) 128 then pos (base 256 bytes)
    else negsuc (base 256 (map (λ x. 255 - x) bytes))

abbrev pub in_range : ℤ → ℤ → ℤ → Bool
in_range low high n = not (int_lt n low || int_lt high n)

unfoldable pub int_in : ℕ → Bool → ℤ → ℤ → List ℕ → Result ℤ Fault
int_in at constructed low high content =
    if constructed then fault at BadTag
    else if not (is_short content) || nat_lt 8 (length content) || not (in_range low high (signed content)) then
    fault at BadInt
    else Ok (signed content)

-- a primitive content that spells a number of a range: at most eight octets of two's complement, the first nine bits
-- not all equal
pub record SpellsInteger (low high : ℤ) (constructed : Bool) (content : List ℕ) (n : ℤ) : Type 0 where
  pub primitive : constructed ≡ false
  pub short : is_short content ≡ true
  pub few : length content ≤ 8
  pub value : n ≡ signed content
  pub range : in_range low high n ≡ true
