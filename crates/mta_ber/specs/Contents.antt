-- The canonical contents of integers, bit strings and times.
use Rattle.std.specs.Prelude.{ℕ, zero, suc, ◌+◌, ◌-◌, ◌*◌, ◌/◌, ◌%◌, ◌^◌, Bool, false, List, []}
use Rattle.std.specs.Prelude.{◌∷◌, nat_lt, nat_le, ◌==◌, if◌then◌else◌, ◌&&◌, ◌||◌, ℤ, pos}
use Rattle.std.specs.Int.{w64, to_be_bytes, bytes_high_first, cast_unsigned}
use Rattle.jiff_core.specs.Calendar.{days_in_month}
use Rattle.mta_ber.specs.declared.tag.Tag.{Tag}
use Rattle.mta_ber.specs.Bits.{BitString}
use Rattle.mta_ber.specs.Canon.{element, primitive}

-- the tag of a primitive element
abbrev pub as_primitive : Tag → Tag
as_primitive t = primitive t.class t.number

-- ---- INTEGER and ENUMERATED (X.690, 8.3): the shortest two's complement

-- a first octet that says no more than the next one's first bit
abbrev pub is_redundant : ℕ → List ℕ → Bool
is_redundant first [] = false
is_redundant first (second ∷ rest) = ((first == 0) && nat_lt second 128) || ((first == 255) && nat_le 128 second)

abbrev pub shortest : List ℕ → List ℕ
shortest [] = []
shortest (first ∷ rest) = if is_redundant first rest then shortest rest else first ∷ rest

unfoldable pub int_content : ℤ → List ℕ
int_content n = shortest (to_be_bytes w64 (cast_unsigned w64 n))

abbrev pub canon_int : Tag → ℤ → List ℕ
canon_int t n = element (as_primitive t) (int_content n)

-- ---- BIT STRING (X.690, 8.6 and 11.2): all its bits, and zeros behind them up to whole octets

abbrev pub octet_count : ℕ → ℕ
octet_count bits = (bits + 7) / 8

abbrev pub unused_bits : ℕ → ℕ
unused_bits bits = 8 * octet_count bits - bits

unfoldable pub bits_content : BitString → List ℕ
bits_content b = unused_bits b.count ∷ bytes_high_first (octet_count b.count) (b.word * 2 ^ unused_bits b.count)

abbrev pub canon_bits : Tag → BitString → List ℕ
canon_bits t b = element (as_primitive t) (bits_content b)

-- ---- UTCTime (X.690, 11.8): with seconds and Z

pub record Civil : Type 0 where
  pub year : ℕ
  pub month : ℕ
  pub day : ℕ

abbrev pub civil : ℕ → ℕ → ℕ → Civil
civil y m d = record { year = y; month = m; day = d }

-- the date of a day that is counted from the first of a month
unfoldable pub civil_from : ℕ → ℕ → ℕ → ℕ → Civil
civil_from zero y m d = civil y m d
civil_from (suc turns) y m d =
    if nat_le d (days_in_month (pos y) m) then civil y m d
    else if m == 12 then civil_from turns (y + 1) 1 (d - days_in_month (pos y) m)
    else civil_from turns y (m + 1) (d - days_in_month (pos y) m)

-- the date of a day counted from 1 January 1950
unfoldable pub civil_of : ℕ → Civil
civil_of day = civil_from (day + 1) 1950 1 (day + 1)

abbrev pub two_digits : ℕ → List ℕ → List ℕ
two_digits n rest = (48 + n / 10) ∷ (48 + n % 10) ∷ rest

abbrev pub date_digits : Civil → List ℕ → List ℕ
date_digits c rest = two_digits (c.year % 100) (two_digits c.month (two_digits c.day rest))

abbrev pub clock_digits : ℕ → List ℕ → List ℕ
clock_digits second rest = two_digits (second / 3600) (two_digits (second / 60 % 60) (two_digits (second % 60) rest))

unfoldable pub utc_content : ℕ → List ℕ
utc_content moment = date_digits (civil_of (moment / 86400)) (clock_digits (moment % 86400) (90 ∷ []))

abbrev pub canon_utc : Tag → ℕ → List ℕ
canon_utc t moment = element (as_primitive t) (utc_content moment)
