-- An item shows the same in a snapshot.
use Rattle.std.proofs.Common.{◌≡◌, ℕ, ◌≤◌, Bool, true, false, cond, List, [], ◌∷◌, length, map, Option, Some, None}
use Rattle.std.proofs.Common.{refl, sym, ap, subst, ◌∙◌}
use Rattle.std.specs.Prelude.{is_some, not, ◌&&◌, ◌||◌}
use Rattle.std.specs.List.{list_any}
use Rattle.mta_envelope.specs.Messages.{MessageValue}
use Rattle.mta_apdu.specs.Apdus.{ApduValue, message, probe, report, canonical_apdu, longest_stored}
use Rattle.mta_apdu.specs.Laws.{IsWholeApdu, KeepsApdu}
use Rattle.mta_apdu.proofs.ApduAgain.{stored_again}
use Rattle.mta_records.specs.declared.state.Status.{Status}
use Rattle.mta_machine.specs.Apdu.{value_read, value_of, responsible_in, IsStoredAs}
use Rattle.mta_machine.specs.Items.{ItemValue}
use Rattle.mta_histories.specs.Sound.{IsSoundItem, item_begun, spread, responsible_of}
use Rattle.mta_histories.specs.Compact.{wants_content, is_message, is_spent, without_content, emptied, kept_octets}
use Rattle.mta_histories.specs.Compact.{codes_of, recorded_item, shown_of, IsShownAs, SnapshotsShowTheSame}
use Rattle.mta_histories.specs.Compact.{NamedItemsKeepTheirOctets}

-- the statuses are those that were recorded
spread-codes : (ss : List (Option Status)) → spread (map is_some ss) (codes_of ss) ≡ ss
spread-codes [] = refl
spread-codes (None ∷ ss) = ap (λ (xs : List (Option Status)). None ∷ xs) (spread-codes ss)
spread-codes (Some s ∷ ss) = ap (λ (xs : List (Option Status)). Some s ∷ xs) (spread-codes ss)

-- ---- what is kept of an item's octets

-- octets that are kept spell an APDU with the same recipients, which is the same but for its content
pub record IsKeptOf (octets : List ℕ) (v : ApduValue) : Type 0 where
  pub value : ApduValue
  pub stored : IsStoredAs octets value
  pub same : without_content value ≡ without_content v
  pub responsible : responsible_in value ≡ responsible_in v

-- a message without its content is read again
emptied-read : (m : MessageValue) → IsWholeApdu (message m) → KeepsApdu (message m)
    → length (canonical_apdu (without_content (message m))) ≤ longest_stored
    → IsKeptOf (canonical_apdu (without_content (message m))) (message m)
unfolding value_of responsible_in
emptied-read m whole kept few = record {
  value = without_content (message m);
  stored = record {
    read = ap value_read (stored_again (without_content (message m)) whole kept few);
    whole = whole;
    kept = kept;
  };
  same = refl;
  responsible = refl;
}

as-it-is : (octets : List ℕ) (x : ApduValue) → IsStoredAs octets x → IsKeptOf octets x
as-it-is octets x is = record { value = x; stored = is; same = refl; responsible = refl }

-- the value of what is left of an APDU
of-value : (octets : List ℕ) (x : ApduValue) → IsStoredAs octets x → length (emptied (Some x) octets) ≤ longest_stored
    → IsKeptOf (emptied (Some x) octets) x
of-value octets (message m) is few = emptied-read m is.whole is.kept few
of-value octets (probe e) is few = as-it-is octets (probe e) is
of-value octets (report p) is few = as-it-is octets (report p) is

-- the value of what is kept of an item
pub kept-shown : (named : Bool) (item : ItemValue) (v : ApduValue) → IsStoredAs item.octets v
    → length (kept_octets named item) ≤ longest_stored → IsKeptOf (kept_octets named item) v
kept-shown named item v is short = by_spent (is_spent named item) short
  where
    by_spent : (b : Bool)
        → length (cond b (emptied (value_of item.octets) item.octets) item.octets) ≤ longest_stored
        → IsKeptOf (cond b (emptied (value_of item.octets) item.octets) item.octets) v
    by_spent false few = as-it-is item.octets v is
    by_spent true few =
        subst (λ (o : Option ApduValue). IsKeptOf (emptied o item.octets) v) (sym is.read)
        (of-value item.octets v is
        (subst (λ (o : Option ApduValue). length (emptied o item.octets) ≤ longest_stored) is.read few))

pub snapshots_show_the_same : SnapshotsShowTheSame
snapshots_show_the_same moment named item sound short few =
    let s = sound.spelled short in
    let k = kept-shown named item s.0 s.1 few in
    record {
      shown = ap shown_of k.stored.read ∙ (ap (λ (x : ApduValue). Some x) k.same ∙ sym (ap shown_of s.1.read));
      arrival = refl;
      origin = refl;
      statuses = ap (λ (o : Option ApduValue). spread (responsible_of o) (codes_of item.statuses)) k.stored.read
          ∙ (ap (λ (bs : List Bool). spread bs (codes_of item.statuses)) (k.responsible ∙ sym s.2)
          ∙ spread-codes item.statuses);
    }

pub named_items_keep : NamedItemsKeepTheirOctets
named_items_keep item =
    by_kind (is_message (value_of item.octets)) (list_any wants_content item.statuses)
  where
    by_kind : (a b : Bool)
        → cond (a && not (b || true)) (emptied (value_of item.octets) item.octets) item.octets ≡ item.octets
    by_kind true true = refl
    by_kind true false = refl
    by_kind false b = refl
