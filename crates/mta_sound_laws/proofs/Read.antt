-- Text and octets that were read, and items that are sound.
use Rattle.std.proofs.Common.{◌≡◌, ℕ, ◌≤◌, Bool, true, false, cond, List, length, Some, refl, sym}
use Rattle.std.proofs.Common.{subst, ◌∙◌, Result, Ok, Err}
use Rattle.std.specs.Prelude.{nat_le}
use Rattle.std.proofs.lemmas.Bool.{leb-true}
use Rattle.mta_ber.specs.declared.fault.Fault.{Fault}
use Rattle.mta_ber.specs.declared.fault.Kind.TheVariants.{TooLong}
use Rattle.mta_apdu.specs.Apdus.{ApduValue, message, probe, report, front_in, longest_stored, stored_of}
use Rattle.mta_tables.specs.Tables.{TablesValue, tables_of}
use Rattle.mta_procedures.specs.Readings.{EnvelopesWereRead}
use Rattle.mta_machine.specs.Apdu.{value_of, value_read}
use Rattle.mta_machine.specs.Items.{ItemValue}
use Rattle.mta_machine.specs.Rules.{tables_value}
use Rattle.mta_histories.specs.Items.{IsWritten}
use Rattle.mta_histories.specs.Sound.{IsSoundItem}

-- ---- text

read-ok : {A E : Type 0} (r : Result A E) (x : A) → value_read r ≡ Some x → r ≡ Ok x
read-ok (Ok y) x e = cc
read-ok (Err f) x e = absurd cc

pub tables-read : (text : List ℕ) (t : TablesValue) → tables_value text ≡ Some t → tables_of text ≡ Ok t
unfolding tables_value
tables-read text t e = read-ok (tables_of text) t e

-- ---- items

short-if : (b : Bool) (r : Result ApduValue Fault) (f : Fault) (v : ApduValue)
    → value_read (cond b r (Err f)) ≡ Some v → b ≡ true
short-if true r f v e = refl
short-if false r f v e = absurd cc

-- octets that are read are not too many
stored-short : (octets : List ℕ) (v : ApduValue) → value_of octets ≡ Some v → length octets ≤ longest_stored
unfolding value_of stored_of
stored-short octets v e =
    leb-true (length octets) longest_stored
    (short-if (nat_le (length octets) longest_stored) (front_in octets)
    (record { at = longest_stored; kind = TooLong }) v e)

some-same : {A : Type 0} (a b : A) → Some a ≡ Some b → a ≡ b
some-same a b e = cc

-- what an item that is sound spells is written so that it is read again
pub item-written : (n : ℕ) (item : ItemValue) (v : ApduValue) → IsSoundItem n item → value_of item.octets ≡ Some v
    → IsWritten v
item-written n item v sound e =
    let s = sound.spelled (stored-short item.octets v e) in
    subst IsWritten (some-same s.0 v (sym s.1.read ∙ e)) (s.1.whole, s.1.kept)

-- so its envelope was read
pub envelope-read : (v : ApduValue) → IsWritten v → EnvelopesWereRead v
envelope-read (message m) w = record { whole = w.0.0; kept = w.1 }
envelope-read (probe e) w = record { whole = w.0.0; kept = w.1 }
envelope-read (report p) w = tt
