-- The items of a state whose snapshot is a record are no longer than a record may have them.
use Rattle.std.proofs.Common.{◌≡◌, ℕ, suc, ◌≤◌, ◌<◌, ◌^◌, Bool, true, false, cond, nat_le, List, [], ◌∷◌, length}
use Rattle.std.proofs.Common.{Option}
use Rattle.std.proofs.Common.{Some, None, Result, Ok, Err, refl, sym, ap, subst, ◌∙◌, arith}
use Rattle.std.specs.Prelude.{◌&&◌, ◌||◌, not, if◌then◌else◌}
use Rattle.std.specs.List.{AllByRecursion, list_any}
use Rattle.std.proofs.lemmas.Bool.{and_parts, leb-true}
use Rattle.mta_ber.specs.declared.fault.Fault.{Fault}
use Rattle.mta_ber.specs.declared.fault.Kind.TheVariants.{TooLong}
use Rattle.mta_apdu.specs.Apdus.{ApduValue, front_in, longest_stored, message, probe, report, stored_of}
use Rattle.mta_machine.specs.Apdu.{value_of, value_read}
use Rattle.mta_machine.specs.Items.{ItemValue}
use Rattle.mta_records.specs.Body.{HasFields}
use Rattle.mta_records.specs.Snapshots.{a_snapshot, item_form}
use Rattle.mta_records.specs.declared.state.MailboxLine.{MailboxLine}
use Rattle.mta_records.specs.declared.step.Step.TheVariants.{Snapshot}
use Rattle.mta_histories.specs.Compact.{is_message, is_named, is_spent, kept_octets, recorded_from, snapshot_of}
use Rattle.mta_histories.specs.Compact.{wants_content}
use Rattle.mta_histories.specs.Compact.{emptied}
use Rattle.mta_histories.specs.Compaction.{AreShort, HasShortItems, IsShort}
use Rattle.mta_histories.specs.Lanes.{State}

short-if : (b : Bool) (r : Result ApduValue Fault) (f : Fault) (v : ApduValue)
    → value_read (if b then r else Err f) ≡ Some v → b ≡ true
short-if true r f v e = refl
short-if false r f v e = absurd cc

-- octets that are read as an APDU are not too long
stored-short : (octets : List ℕ) (v : ApduValue) → value_of octets ≡ Some v → length octets ≤ longest_stored
unfolding value_of stored_of
stored-short octets v e =
    leb-true (length octets) longest_stored
    (short-if (nat_le (length octets) longest_stored) (front_in octets)
    (record { at = longest_stored; kind = TooLong }) v e)

-- a spent item is a message
spent-short : (octets : List ℕ) (o : Option ApduValue) (b : Bool) → value_of octets ≡ o
    → (is_message o && b) ≡ true → length octets ≤ longest_stored
spent-short octets None b is e = absurd cc
spent-short octets (Some v) b is e = stored-short octets v is

-- an item is short where what is kept of it is
item-short : (named : Bool) (item : ItemValue) → length (kept_octets named item) < 2 ^ 32 → IsShort named item
item-short named item few = by (is_spent named item) refl
  where
    kept : length (kept_octets named item) ≤ longest_stored
    kept = omega (arith, few)

    by : (b : Bool) → is_spent named item ≡ b → IsShort named item
    by true e = (
      spent-short item.octets (value_of item.octets) (not (list_any wants_content item.statuses || named)) refl e,
      kept,
    )
    by false e =
        let same : kept_octets named item ≡ item.octets =
        ap (λ (b : Bool). if b then emptied (value_of item.octets) item.octets else item.octets) e in
        (subst (λ (octets : List ℕ). length octets ≤ longest_stored) same kept, kept)

items-from : (lines : List MailboxLine) (n : ℕ) (items : List ItemValue)
    → AllByRecursion item_form.Fits (recorded_from lines n items) → AreShort lines n items
unfolding item_form
items-from lines n [] each = tt
items-from lines n (item ∷ items) each =
    (item-short (is_named lines n) item each.0.0.1.1.0, items-from lines (suc n) items each.1)

-- and so are all where the snapshot is a record
pub items_short : (s : State) → HasFields (Snapshot (snapshot_of s)) → HasShortItems s
unfolding a_snapshot
items_short s fields = items-from s.machine.mailboxes 1 s.machine.items fields.1.0.1.1.0.1
