-- Per-recipient indicators (X.411, PerRecipientIndicators): responsibility 0, originating-MTA-report 1,
-- originating-MTA-non-delivery-report 2, originator-report 3, originator-non-delivery-report 4.
use Rattle.std.specs.Prelude.{ℕ, ◌+◌, ◌-◌, ◌^◌, Bool, if◌then◌else◌, ◌||◌}
use Rattle.mta_ber.specs.Bits.{BitString, bit}
use Rattle.mta_envelope_recipient.specs.declared.recipient.RecipientFields.{RecipientFields}

-- the number whose one binary digit is the bit at a place
abbrev pub weight : BitString → ℕ → ℕ
weight b place = 2 ^ (b.count - 1 - place)

abbrev pub with_word : BitString → ℕ → BitString
with_word b word = record { count = b.count; word = word }

-- the bits, with the one at a place set
abbrev pub with_set : ℕ → BitString → BitString
with_set place b = if bit b place then b else with_word b (b.word + weight b place)

-- the bits, with the one at a place cleared
abbrev pub with_clear : ℕ → BitString → BitString
with_clear place b = if bit b place then with_word b (b.word - weight b place) else b

-- the bits, with responsibility as said and the others as they are
unfoldable pub with_responsibility : Bool → BitString → BitString
with_responsibility responsible b = if responsible then with_set 0 b else with_clear 0 b

-- a delivery is to be reported
abbrev pub asks_report : RecipientFields → Bool
asks_report r = bit r.indicators 1 || bit r.indicators 3

-- as a report says them: with originating-MTA-non-delivery-report where neither this nor originating-MTA-report is
-- asked
unfoldable pub reported_indicators : BitString → BitString
reported_indicators b = if bit b 1 || bit b 2 then b else with_set 2 b
