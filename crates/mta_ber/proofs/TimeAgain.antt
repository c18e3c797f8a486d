-- Times that are written are read again.
use Rattle.std.proofs.Common.{◌≡◌, ℕ, ◌+◌, ◌*◌, ◌/◌, ◌%◌, ◌≤◌, ◌<◌, true, [], ◌∷◌, length, refl, ap, ◌∙◌, arith, inl}
use Rattle.std.proofs.Common.{inr, pos, ◌+ℤ◌, ◌-ℤ◌, ◌*ℤ◌}
use Rattle.std.proofs.lemmas.Bool.{cases_lt, lt-ltb, le-ltb, le-leb}
use Rattle.jiff_core.specs.Calendar.{days_in_month}
use Rattle.jiff_core.proofs.SignedLemmas.{signed_arith}
use Rattle.jiff_core.proofs.CalendarLemmas.{days_in_month_bounds}
use Rattle.mta_ber.specs.declared.stamp.Stamp.{Stamp}
use Rattle.mta_ber.specs.Times.{whole_year, is_date, is_clock, day_number, stamp_seconds, clock_seconds, last_moment}
use Rattle.mta_ber.specs.Times.{utc_in}
use Rattle.mta_ber.specs.Contents.{civil_of, two_digits, utc_content, as_primitive}
use Rattle.mta_ber.specs.Moments.{IsMomentText}
use Rattle.mta_ber.specs.Laws.{MomentsAreReadAgain}
use Rattle.mta_ber.proofs.CanonLaws.{lent}
use Rattle.mta_ber.proofs.DateLaws.{civil_dated}
use Rattle.mta_ber.proofs.MomentLaws.{utc_full}
use Rattle.mta_ber.proofs.StringLaws.{octets_spelled}
use Rattle.mta_ber.proofs.ValueLaws.{again, primitive_tag}

abbrev stamp_of : ℕ → Stamp
stamp_of m = record {
  year = (civil_of (m / 86400)).year % 100;
  month = (civil_of (m / 86400)).month;
  day =
      (civil_of (m / 86400)).day;
  hour = m % 86400 / 3600;
  minute = m % 86400 / 60 % 60;
  second = m % 86400 % 60;
  ahead =
      true;
  offset_hour = 0;
  offset_minute = 0;
}

year_again : (y : ℕ) → 1950 ≤ y → y ≤ 2049 → whole_year (y % 100) ≡ y
year_again y low high = elim (cases_lt (y % 100) 50) [
  | inl lt ↦ rw (lt-ltb (y % 100) 50 lt) (omega arith)
  | inr ge ↦ rw (le-ltb (y % 100) 50 ge) (omega arith)
]

date_so : (y m d : ℕ) → 1 ≤ m → m ≤ 12 → 1 ≤ d → d ≤ days_in_month (pos y) m → is_date y m d ≡ true
date_so y m d a b e f =
    rw (le-leb 1 m a, le-leb m 12 b, le-leb 1 d e, le-leb d (days_in_month (pos y) m) f) refl

clock_so : (h m s : ℕ) → h < 24 → m < 60 → s < 60 → is_clock h m s ≡ true
clock_so h m s a b e = rw (lt-ltb h 24 a, lt-ltb m 60 b, lt-ltb s 60 e) refl

joined : (day second m : ℕ) → day * 86400 + second ≡ m → ((pos day *ℤ pos 86400) +ℤ pos second) -ℤ pos 0 ≡ pos m
joined day second m e = omega (arith, signed_arith, e)

moment_text : (m : ℕ) → m ≤ last_moment → IsMomentText (utc_content m) m
unfolding utc_content stamp_seconds
moment_text m le =
    let day = m / 86400 in
    let second = m % 86400 in
    let c = civil_of (m / 86400) in
    let s = civil_dated (m / 86400) (omega arith) in
    let long = days_in_month_bounds (pos c.year) c.month in
    let year = year_again c.year s.low s.high in
    let date : is_date (whole_year (c.year % 100)) c.month c.day ≡ true = ap (λ y. is_date y c.month c.day) year
    ∙ date_so c.year c.month c.day s.month_low s.month_high s.day_low s.day_high in
    let clock = clock_so (m % 86400 / 3600) (m % 86400 / 60 % 60) (m % 86400 % 60) (omega arith) (omega arith)
    (omega arith) in
    let parts : clock_seconds (m % 86400 / 3600) (m % 86400 / 60 % 60) (m % 86400 % 60) ≡ m % 86400 = omega arith in
    let number : day_number (whole_year (c.year % 100)) c.month c.day ≡ pos (m / 86400) =
    ap (λ y. day_number y c.month c.day) year ∙ s.number in
    record {
      stamp = stamp_of m;
      has_stamp = record {
        small_year = omega arith;
        small_month = omega (arith, s.month_high);
        small_day = omega (arith, s.day_high, long.0);
        small_hour = omega arith;
        small_minute = omega arith;
        seconds = two_digits (m % 86400 % 60) (90 ∷ []);
        has_seconds = record {
          small = omega arith;
          zone = 90 ∷ [];
          is_zone =
              inl (record { ahead = refl; no_hour = refl; no_minute = refl; text_is = refl });
          text_is = inr refl;
        };
        text_is = refl;
      };
      good = rw (date, clock) refl;
      seconds_are =
          ap (λ n. ((n *ℤ pos 86400) +ℤ pos (clock_seconds (m % 86400 / 3600) (m % 86400 / 60 % 60) (m % 86400 % 60)))
          -ℤ pos 0) number
          ∙ ap (λ k. ((pos (m / 86400) *ℤ pos 86400) +ℤ pos k) -ℤ pos 0) parts
          ∙ joined (m / 86400) (m % 86400) m (omega arith);
      in_range = le;
    }

pub text_short : (m : ℕ) → length (utc_content m) ≡ 13
unfolding utc_content
text_short m = refl

pub moments_again : MomentsAreReadAgain
moments_again t m more at h le =
    let short = text_short m in
    again utc_in m (as_primitive t) (utc_content m) more at (primitive_tag t h) (omega arith) (λ depth d.
    utc_full (lent at depth (as_primitive t) (utc_content m) more) m d
    (record {
      text = utc_content m;
      spelled = octets_spelled 23 depth (utc_content m) d;
      is_text =
          moment_text m le;
    }))
