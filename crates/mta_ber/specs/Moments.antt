-- Which texts spell a moment (X.690, 8.25; X.680, clause 47), built from the numbers: apart from reading.
use Rattle.std.specs.Prelude.{◌≡◌, ℕ, ◌<◌, ◌≤◌, ◌⊎◌, Bool, true, false, IsTrue, List, [], ◌∷◌, pos}
use Rattle.mta_ber.specs.declared.stamp.Stamp.{Stamp}
use Rattle.mta_ber.specs.Contents.{two_digits}
use Rattle.mta_ber.specs.Times.{is_good, stamp_seconds, last_moment}
use Rattle.mta_ber.specs.Segmented.{SpellsOctets}

-- hours and minutes at the end of a text
pub record HasOffset (sign hour minute : ℕ) (text : List ℕ) : Type 0 where
  pub small_hour : hour < 100
  pub small_minute : minute < 100
  pub text_is : text ≡ sign ∷ two_digits hour (two_digits minute [])

-- Z, which is no offset
pub record HasNone (s : Stamp) (text : List ℕ) : Type 0 where
  pub ahead : s.ahead ≡ true
  pub no_hour : s.offset_hour ≡ 0
  pub no_minute : s.offset_minute ≡ 0
  pub text_is : text ≡ 90 ∷ []

abbrev pub sign : Bool → ℕ
sign true = 43
sign false = 45

abbrev pub HasZone : Stamp → List ℕ → Type 0
HasZone s text = HasNone s text ⊎ HasOffset (sign s.ahead) s.offset_hour s.offset_minute text

-- seconds, which may be left out where they are 0
pub record HasSeconds (s : Stamp) (text : List ℕ) : Type 0 where
  pub small : s.second < 100
  pub zone : List ℕ
  pub is_zone : HasZone s zone
  pub text_is : ((s.second ≡ 0) × (text ≡ zone)) ⊎ (text ≡ two_digits s.second zone)

-- the digits of a stamp
pub record HasStamp (s : Stamp) (text : List ℕ) : Type 0 where
  pub small_year : s.year < 100
  pub small_month : s.month < 100
  pub small_day : s.day < 100
  pub small_hour : s.hour < 100
  pub small_minute : s.minute < 100
  pub seconds : List ℕ
  pub has_seconds : HasSeconds s seconds
  pub text_is : text ≡ two_digits s.year
      (two_digits s.month (two_digits s.day (two_digits s.hour (two_digits s.minute seconds))))

-- a text of a moment: a date that exists, a time of day and an offset, and the seconds from 1950 on
pub record IsMomentText (text : List ℕ) (moment : ℕ) : Type 0 where
  pub stamp : Stamp
  pub has_stamp : HasStamp stamp text
  pub good : IsTrue (is_good stamp)
  pub seconds_are : stamp_seconds stamp ≡ pos moment
  pub in_range : moment ≤ last_moment

-- a content whose joined octets are a text of a moment
pub record SpellsMoment (depth : ℕ) (constructed : Bool) (content : List ℕ) (moment : ℕ) : Type 0 where
  pub text : List ℕ
  pub spelled : SpellsOctets 23 depth constructed content text
  pub is_text : IsMomentText text moment
