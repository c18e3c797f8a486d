-- What octets are read as, and what is left of it without them.
use Rattle.std.proofs.Common.{◌≡◌, ℕ, List, Option, Some, ap, subst, sym, ◌∙◌}
use Rattle.std.specs.Prelude.{IfSome}
use Rattle.std.specs.Option.{option_map}
use Rattle.mta_apdu.specs.declared.apdu.Apdu.{Apdu}
use Rattle.mta_apdu.specs.Apdus.{apdu_value}
use Rattle.mta_machine.specs.Apdu.{value_of}
use Rattle.mta_state.specs.declared.decoded.DecodedApdu.{DecodedApdu}
use Rattle.mta_state.specs.declared.readings.Reading.{Reading}
use Rattle.mta_state.specs.Readings.{IsCounted, IsDecodedAs, IsDecodedOf, IsLentIn, IsReadingOf}

-- the value is that of the reading
pub reading_is : (octets : List ℕ) (r : Reading) (o : Option Apdu) → IsReadingOf octets r → r.apdu ≡ o
    → value_of octets ≡ option_map apdu_value o
reading_is octets r o reading is = reading.value ∙ ap (λ (x : Option Apdu). option_map apdu_value x) is

-- what was counted of the APDU that was read
pub counted_is : (octets : List ℕ) (r : Reading) (a : Apdu) → IsReadingOf octets r → r.apdu ≡ Some a
    → IsCounted a r.back
counted_is octets r a reading is = subst (λ (o : Option Apdu). IfSome o (λ x. IsCounted x r.back)) is reading.counted

-- and where its content lies
pub lent_is : (octets : List ℕ) (r : Reading) (a : Apdu) → IsReadingOf octets r → r.apdu ≡ Some a
    → IsLentIn octets a
lent_is octets r a reading is = subst (λ (o : Option Apdu). IfSome o (IsLentIn octets)) is reading.lent

-- what is left of an APDU is what is left of its reading
pub decoded_of : (octets : List ℕ) (r : Reading) (a : Apdu) (d : DecodedApdu) → IsReadingOf octets r
    → r.apdu ≡ Some a → ((os : List ℕ) → IsLentIn os a → IsDecodedAs os a d)
    → IsDecodedOf octets (record { apdu = d; back = r.back })
decoded_of octets r a d reading is left =
    let whole = left octets (lent_is octets r a reading is) in
    record {
      value = reading_is octets r (Some a) reading is ∙ sym whole.value;
      within = whole.within;
      counted = whole.counted r.back (counted_is octets r a reading is);
    }
