-- UTCTime (X.690, 8.25 and 11.8; X.680, clause 47): YYMMDDhhmm or YYMMDDhhmmss, and then Z, or + or - and hhmm.
use Rattle.std.specs.Prelude.{ℕ, ◌+◌, ◌-◌, ◌*◌, Bool, true, false, List, [], ◌∷◌, ◌++◌, length, take}
use Rattle.std.specs.Prelude.{Option, Some, None, option_and_then, Result, Ok, nat_lt, ◌==◌, if◌then◌else◌}
use Rattle.std.specs.Prelude.{◌&&◌, ◌||◌, ℤ, pos, ◌+ℤ◌, ◌-ℤ◌, ◌*ℤ◌, int_lt, unsigned_abs}
use Rattle.jiff_core.specs.Calendar.{days_from_civil, days_in_month}
use Rattle.mta_ber.specs.declared.fault.Fault.{Fault}
use Rattle.mta_ber.specs.declared.fault.Kind.TheVariants.{BadTime}
use Rattle.mta_ber.specs.declared.stamp.Stamp.{Stamp}
use Rattle.mta_ber.specs.Head.{◌>>=◌, fault}
use Rattle.mta_ber.specs.Element.{Part}
use Rattle.mta_ber.specs.Strings.{Piece, gather, joined_as, between}

infixl 10 ◌then?◌
abbrev pub ◌then?◌ : {A B : Type 0} → Option A → (A → Option B) → Option B
o then? f = option_and_then f o

abbrev pub is_digit : ℕ → Bool
is_digit c = between 48 57 c

-- the number of two digits, and what follows
abbrev pub two : List ℕ → Option (ℕ × List ℕ)
two [] = None
two (a ∷ []) = None
two (a ∷ b ∷ rest) = if is_digit a && is_digit b then Some ((a - 48) * 10 + (b - 48), rest) else None

-- seconds may be left out
abbrev pub seconds : List ℕ → Option (ℕ × List ℕ)
seconds [] = None
seconds (a ∷ rest) = if is_digit a then two (a ∷ rest) else Some (0, a ∷ rest)

abbrev pub at_the_end : {A : Type 0} → A → List ℕ → Option A
at_the_end x [] = Some x
at_the_end x (c ∷ cs) = None

-- hours and minutes at the end, ahead of UTC or behind it
unfoldable pub offset : Bool → List ℕ → Option (Bool × ℕ × ℕ)
offset ahead text = two text then? λ hour. two hour.1 then? λ minute. at_the_end (ahead, hour.0, minute.0) minute.1

-- Z, or an offset
abbrev pub zone : List ℕ → Option (Bool × ℕ × ℕ)
zone [] = None
zone (c ∷ rest) =
    if c == 90 then at_the_end (true, 0, 0) rest
    else if c == 43 then offset true rest
    else if c == 45 then offset false rest
    else None

-- the digits, read as numbers
unfoldable pub stamp : List ℕ → Option Stamp
stamp text =
    two text then? λ year.
    two year.1 then? λ month.
    two month.1 then? λ day.
    two day.1 then? λ hour.
    two hour.1 then? λ minute.
    seconds minute.1 then? λ second.
    zone second.1 then? λ z.
    Some (record {
      year = year.0;
      month = month.0;
      day = day.0;
      hour = hour.0;
      minute = minute.0;
      second = second.0;
      ahead = z.0;
      offset_hour = z.1;
      offset_minute = z.2;
    })

-- years 50 to 99 are 1950 to 1999, and 00 to 49 are 2000 to 2049
abbrev pub whole_year : ℕ → ℕ
whole_year year = if nat_lt year 50 then 2000 + year else 1900 + year

-- the date exists, and hours and minutes are those of a clock
abbrev pub is_date : ℕ → ℕ → ℕ → Bool
is_date year month day = between 1 12 month && between 1 (days_in_month (pos year) month) day

abbrev pub is_clock : ℕ → ℕ → ℕ → Bool
is_clock hour minute second = nat_lt hour 24 && nat_lt minute 60 && nat_lt second 60

abbrev pub is_good : Stamp → Bool
is_good s = is_date (whole_year s.year) s.month s.day && is_clock s.hour s.minute s.second && is_clock s.offset_hour
    s.offset_minute 0

-- days from 1 January 1950, which is 7,305 days before 1 January 1970
abbrev pub day_number : ℕ → ℕ → ℕ → ℤ
day_number year month day = days_from_civil (pos year) month day +ℤ pos 7305

abbrev pub clock_seconds : ℕ → ℕ → ℕ → ℕ
clock_seconds hour minute second = hour * 3600 + minute * 60 + second

-- seconds from 1950-01-01 00:00:00 UTC: local time minus the offset
unfoldable pub stamp_seconds : Stamp → ℤ
stamp_seconds s =
    let local = day_number (whole_year s.year) s.month s.day *ℤ pos 86400 +ℤ pos
    (clock_seconds s.hour s.minute s.second) in
    let away = pos (clock_seconds s.offset_hour s.offset_minute 0) in
    if s.ahead then local -ℤ away else local +ℤ away

-- the last second of 2049
abbrev pub last_moment : ℕ
last_moment = 3155759999

abbrev pub in_range : ℤ → Option ℕ
in_range n = if int_lt n (pos 0) || int_lt (pos last_moment) n then None else Some (unsigned_abs n)

unfoldable pub moment_of_stamp : Stamp → Option ℕ
moment_of_stamp s = if is_good s then in_range (stamp_seconds s) else None

-- the moment of a text of at most 17 characters
unfoldable pub moment_of : List ℕ → Option ℕ
moment_of text = if nat_lt 17 (length text) then None else (stamp text then? moment_of_stamp)

abbrev pub timed : ℕ → Option ℕ → Result ℕ Fault
timed at None = fault at BadTime
timed at (Some n) = Ok n

unfoldable pub utc_in : Part → Result ℕ Fault
utc_in p = joined_as 23 p >>= λ t. timed p.at (moment_of t)

-- what is kept of a text on the way: no more than shows that it is too long
abbrev pub kept : List ℕ → List ℕ
kept t = take 18 t

abbrev pub line_piece : Piece (List ℕ)
line_piece last s p = Ok (kept (s ++ p.content))

abbrev pub line_in : Part → Result (List ℕ) Fault
line_in p = gather line_piece (17 - p.depth) 4 23 true [] p
