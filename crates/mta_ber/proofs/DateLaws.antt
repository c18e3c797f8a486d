-- The dates of the years 1950 to 2049.
use Rattle.std.proofs.Common.{◌≡◌, ℕ, zero, suc, ◌+◌, ◌-◌, ◌*◌, ◌≤◌, ◌<◌, true, false, refl, sym, ◌∙◌, subst, arith}
use Rattle.std.proofs.Common.{pos, ◌+ℤ◌, inl, inr, leb, eqb, eq-eqb, rules}
use Rattle.std.proofs.lemmas.Bool.{cases_lt, le-leb, lt-leb, ne_eqb}
use Rattle.jiff_core.specs.declared.civil.date.Date.{Date}
use Rattle.jiff_core.specs.Calendar.{days_in_month, days_from_civil, day_count, IsCivilDate, IsYear}
use Rattle.jiff_core.specs.Date.{epoch_day}
use Rattle.jiff_core.proofs.SignedLemmas.{signed_arith}
use Rattle.jiff_core.proofs.CalendarLemmas.{days_from_civil-day_count, days_in_month_bounds, day_count-lt_year}
use Rattle.jiff_core.proofs.MarchLemmas.{day_count-late, day_count-early}
use Rattle.jiff_core.proofs.DateLemmas.{epoch_day_injective, days_from_civil-day, days_from_civil-next_month}
use Rattle.jiff_core.proofs.DateLemmas.{days_from_civil-next_year}
use Rattle.mta_ber.specs.Contents.{Civil, civil_from, civil_of}

-- a date with the day number of a day that is counted from the first of a month
pub record Dated (y m d : ℕ) (c : Civil) : Type 0 where
  pub month_low : 1 ≤ c.month
  pub month_high : c.month ≤ 12
  pub day_low : 1 ≤ c.day
  pub day_high : c.day ≤ days_in_month (pos c.year) c.month
  pub later : y ≤ c.year
  pub near : 28 * c.year + c.day ≤ 28 * y + d
  pub same : days_from_civil (pos c.year) c.month c.day ≡ days_from_civil (pos y) m d

next_month : (y m d : ℕ) → 1 ≤ m → days_in_month (pos y) m < d
    → days_from_civil (pos y) (m + 1) (d - days_in_month (pos y) m) ≡ days_from_civil (pos y) m d
next_month y m d low gt =
    let long = days_in_month_bounds (pos y) m in
    let l = days_in_month (pos y) m in
    omega (
      arith,
      signed_arith,
      days_from_civil-day (pos y) m l d (omega arith) (omega arith),
      days_from_civil-next_month (pos y) m l low refl,
      days_from_civil-day (pos y) (m + 1) 1 (d - l) (omega arith)
          (omega arith),
    )

next_year : (y d : ℕ) → days_in_month (pos y) 12 < d
    → days_from_civil (pos (y + 1)) 1 (d - days_in_month (pos y) 12) ≡ days_from_civil (pos y) 12 d
next_year y d gt =
    let next : pos (y + 1) ≡ pos y +ℤ pos 1 = refl in
    omega (
      arith,
      signed_arith,
      days_from_civil-day (pos y) 12 31 d (omega arith) (omega arith),
      days_from_civil-next_year (pos y) (pos (y + 1)) (search rules) next,
      days_from_civil-day (pos (y + 1)) 1 1 (d - 31) (omega arith) (omega arith),
    )

carry : (y m d y' m' d' : ℕ) (c : Civil) → y ≤ y' → 28 * y' + d' ≤ 28 * y + d
    → days_from_civil (pos y') m' d' ≡ days_from_civil (pos y) m d → Dated y' m' d' c → Dated y m d c
carry y m d y' m' d' c later near same h = record {
  month_low = h.month_low;
  month_high = h.month_high;
  day_low = h.day_low;
  day_high = h.day_high;
  later = let k = h.later in omega arith;
  near = let k = h.near in omega arith;
  same = h.same ∙ same;
}

dated : (turns y m d : ℕ) → 1 ≤ m → m ≤ 12 → 1 ≤ d → d ≤ turns → Dated y m d (civil_from turns y m d)
unfolding civil_from
dated zero y m d low high some few = absurd (omega arith)
dated (suc turns) y m d low high some few =
    let long = days_in_month_bounds (pos y) m in
    let l = days_in_month (pos y) m in
    elim (cases_lt (days_in_month (pos y) m) d) [
      | inr le ↦ (
          let t : leb d (days_in_month (pos y) m) ≡ true = le-leb d (days_in_month (pos y) m) le in
          rw t (record {
            month_low = low;
            month_high = high;
            day_low = some;
            day_high = le;
            later = omega arith;
            near =
                omega arith;
            same = refl;
          }))
      | inl gt ↦ (
          let t : leb d (days_in_month (pos y) m) ≡ false = lt-leb d (days_in_month (pos y) m) gt in
          elim (cases_lt m 12) [
            | inl lt ↦ (
                let u : eqb m 12 ≡ false = ne_eqb m 12 (λ e. omega arith) in
                rw (t, u) (carry y m d y (m + 1) (d - l) (civil_from turns y (m + 1) (d - l)) (omega arith)
                (omega arith) (next_month y m d low gt)
                (dated turns y (m + 1) (d - l) (omega arith) (omega arith) (omega arith) (omega arith))))
            | inr ge ↦ (
                let december : m ≡ 12 = omega arith in
                let u : eqb m 12 ≡ true = eq-eqb m 12 december in
                let same : days_from_civil (pos (y + 1)) 1 (d - l) ≡ days_from_civil (pos y) m d =
                subst (λ k. days_from_civil (pos (y + 1)) 1 (d - days_in_month (pos y) k) ≡ days_from_civil
                (pos y) k d) (sym december) (next_year y d (subst (λ k. days_in_month (pos y) k < d) december gt))
                in
                rw (t, u) (carry y m d (y + 1) 1 (d - l) (civil_from turns (y + 1) 1 (d - l)) (omega arith)
                (omega arith) same (dated turns (y + 1) 1 (d - l) (omega arith) (omega arith) (omega arith)
                (omega arith))))
          ])
    ]

first_day : day_count (pos 1950) 1 1 ≡ 4364648
first_day = day_count-early (pos 1950) 11949 1 1 refl (omega arith) (omega arith) (omega arith)

last_day : day_count (pos 2049) 12 31 ≡ 4401172
last_day = day_count-late (pos 2049) 12049 12 31 refl (omega arith) (omega arith) (omega arith)

last_is_date : IsCivilDate (pos 2049) 12 31
last_is_date = search rules

-- the date of a day of the years 1950 to 2049
pub record CivilDated (day : ℕ) (c : Civil) : Type 0 where
  pub low : 1950 ≤ c.year
  pub high : c.year ≤ 2049
  pub month_low : 1 ≤ c.month
  pub month_high : c.month ≤ 12
  pub day_low : 1 ≤ c.day
  pub day_high : c.day ≤ days_in_month (pos c.year) c.month
  pub number : days_from_civil (pos c.year) c.month c.day +ℤ pos 7305 ≡ pos day

short_year : (c : Civil) → 1 ≤ c.day → day_count (pos c.year) c.month c.day ≤ 4401172 → c.year ≤ 2049
short_year c some few = elim (cases_lt 2049 c.year) [
  | inl gt ↦ absurd (omega (
    arith,
    day_count-lt_year (pos 2049) 12 31 (pos c.year) c.month c.day last_is_date some
        (search rules),
    last_day,
    few,
  ))
  | inr le ↦ le
]

pub civil_dated : (day : ℕ) → day < 36525 → CivilDated day (civil_of day)
unfolding civil_of
civil_dated day lt =
    let c = civil_from (day + 1) 1950 1 (day + 1) in
    let s = dated (day + 1) 1950 1 (day + 1) (omega arith) (omega arith) (omega arith) (omega arith) in
    let start = days_from_civil-day (pos 1950) 1 1 (day + 1) (omega arith) (omega arith) in
    let start_is = days_from_civil-day_count (pos 1950) 1 1 in
    let number : days_from_civil (pos c.year) c.month c.day +ℤ pos 7305 ≡ pos day =
    omega (arith, signed_arith, s.same, start, start_is, first_day) in
    record {
      low = s.later;
      high = short_year c s.day_low (omega
          (arith, signed_arith, number, days_from_civil-day_count (pos c.year) c.month c.day));
      month_low = s.month_low;
      month_high = s.month_high;
      day_low = s.day_low;
      day_high = s.day_high;
      number = number;
    }

pub date_is : (day : ℕ) (d : Date) → day < 36525 → epoch_day d +ℤ pos 7305 ≡ pos day
    → (d.year ≡ pos (civil_of day).year) × (d.month ≡ (civil_of day).month) × (d.day ≡ (civil_of day).day)
    × ((civil_of day).year ≤ 2049) × (1950 ≤ (civil_of day).year)
date_is day d lt e =
    let s = civil_dated day lt in
    let c = civil_of day in
    let number : epoch_day d ≡ days_from_civil (pos (civil_of day).year) (civil_of day).month (civil_of day).day =
    omega (arith, signed_arith, s.number, e) in
    let made : Date = record {
      year = pos (civil_of day).year;
      month = (civil_of day).month;
      day = (civil_of day).day;
      year_in = in_years (civil_of day).year (omega (arith, s.high));
      month_in = (s.month_low, s.month_high);
      day_in =
          (s.day_low, s.day_high);
    } in
    let parts = epoch_day_injective d made number in
    (parts.0, parts.1, parts.2, s.high, s.low)
  where
    in_years : (y : ℕ) → y ≤ 9999 → IsYear (pos y)
    in_years y le = search rules
