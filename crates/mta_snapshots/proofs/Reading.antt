-- Items that are read.
use Rattle.std.proofs.Common.{◌≡◌, ℕ, ◌+◌, ◌≤◌, ◌<◌, ◌^◌, Bool, true, false, cond, List, [], ◌∷◌, length, map, Option}
use Rattle.std.proofs.Common.{Some}
use Rattle.std.proofs.Common.{None, refl, sym, ap, subst, ◌∙◌, arith}
use Rattle.std.specs.Prelude.{is_some, count_by}
use Rattle.std.specs.Global.{Vec}
use Rattle.std.specs.List.{AllByRecursion}
use Rattle.std.proofs.lemmas.List.Sums.{sum_by-cons}
use Rattle.mta_apdu.specs.Apdus.{ApduValue, SpellsStored}
use Rattle.mta_apdu.proofs.ApduAgain.{stored_kept}
use Rattle.mta_apdu.proofs.ApduLaws.{stored_full}
use Rattle.mta_records.specs.State.{RecordedItem}
use Rattle.mta_records.specs.declared.state.Origin.{Origin}
use Rattle.mta_records.specs.declared.state.Status.{Status}
use Rattle.mta_machine.specs.Apdu.{value_read, value_of, responsible_in, IsStoredAs}
use Rattle.mta_machine.specs.Items.{ItemValue, status_at_first, statuses_of}
use Rattle.mta_histories.specs.Sound.{IsInTime, responsible_of, spread}
use Rattle.mta_snapshots.specs.Items.{AreAsMany, AreRecipients, HasRead, ItemBegins, Spreads, StatusesBegin}

-- octets that are kept and were read
pub stored_as : (octets : List ℕ) (v : ApduValue) → SpellsStored octets v → IsStoredAs octets v
unfolding value_of
stored_as octets v spelled =
    let k = stored_kept octets v spelled in
    record { read = ap value_read (stored_full octets v spelled); whole = k.1; kept = k.0 }

pub read_as : (octets : List ℕ) (v : ApduValue) (statuses : List (Option Status)) → SpellsStored octets v
    → statuses ≡ statuses_of v → AreRecipients octets (Some statuses)
read_as octets v statuses spelled same = (v, stored_as octets v spelled, same)

-- ---- who has a status

pub flags_at_first : (bs : List Bool) → map is_some (map status_at_first bs) ≡ bs
flags_at_first [] = refl
flags_at_first (true ∷ bs) = ap (λ (xs : List Bool). true ∷ xs) (flags_at_first bs)
flags_at_first (false ∷ bs) = ap (λ (xs : List Bool). false ∷ xs) (flags_at_first bs)

many-cons : (b : Bool) (bs : List Bool) → count_by (λ x. x) (b ∷ bs) ≡ cond b 1 0 + count_by (λ x. x) bs
many-cons b bs = sum_by-cons (λ (x : Bool). cond x 1 0) b bs

flags_spread : (bs : List Bool) (codes : List Status) → AreAsMany bs codes → map is_some (spread bs codes) ≡ bs
flags_spread [] codes many = refl
flags_spread (false ∷ bs) codes many =
    ap (λ (xs : List Bool). false ∷ xs) (flags_spread bs codes (omega (arith, many, many-cons false bs)))
flags_spread (true ∷ bs) [] many = absurd (omega (arith, many, many-cons true bs))
flags_spread (true ∷ bs) (code ∷ codes) many =
    ap (λ (xs : List Bool). true ∷ xs) (flags_spread bs codes (omega (arith, many, many-cons true bs)))

-- ---- what becomes of the codes

module _ (moment : ℕ) (octets : List ℕ) (codes : List Status) where
  pub unread : AreRecipients octets None → StatusesBegin moment octets codes None
  unread none v stored many timely = let both : None ≡ Some v = sym none ∙ stored.read in absurd cc

  module _ (statuses : List (Option Status)) (are : AreRecipients octets (Some statuses)) where
    same_value : (v : ApduValue) → IsStoredAs octets v → v ≡ are.0
    same_value v stored = let both : Some v ≡ Some are.0 = sym stored.read ∙ are.1.read in cc

    flags_are : map is_some statuses ≡ responsible_in are.0
    flags_are = ap (map is_some) are.2 ∙ flags_at_first (responsible_in are.0)

    pub unspread : Spreads (map is_some statuses) codes None → StatusesBegin moment octets codes None
    unspread never v stored many timely =
        never (subst (λ (bs : List Bool). AreAsMany bs codes)
        (ap responsible_in (same_value v stored) ∙ sym flags_are) many)

    module _ (spreads : Vec (Option Status)) (are_spread : Spreads (map is_some statuses) codes (Some spreads)) where
      spread_are : spreads.items ≡ spread (responsible_in are.0) codes
      spread_are = are_spread.1 ∙ ap (λ (bs : List Bool). spread bs codes) flags_are

      pub untimely : (AllByRecursion (IsInTime moment) spreads.items → ⊥) → StatusesBegin moment octets codes None
      untimely late v stored many timely =
          late (subst (AllByRecursion (IsInTime moment))
          (ap (λ (w : ApduValue). spread (responsible_in w) codes) (same_value v stored) ∙ sym spread_are) timely)

      pub has_read : AllByRecursion (IsInTime moment) spreads.items → StatusesBegin moment octets codes (Some spreads)
      has_read timely = record {
        value = are.0;
        stored = are.1;
        many = subst (λ (bs : List Bool). AreAsMany bs codes) flags_are are_spread.0;
        same = spread_are;
        timely = timely;
      }

-- ---- the item

abbrev pub item_as : List ℕ → ℕ → Origin → List (Option Status) → ItemValue
item_as octets arrival origin statuses =
    record { octets = octets; arrival = arrival; origin = origin; statuses = statuses }

module _ (moment : ℕ) (i : RecordedItem) where
  pub no_statuses : length i.octets < 2 ^ 32 → StatusesBegin moment i.octets i.codes None → ItemBegins moment i None
  no_statuses short never codes sound =
      let stored = sound.spelled (omega (arith, short)) in
      let of_value : responsible_of (value_of i.octets) ≡ responsible_in stored.0 =
      ap responsible_of stored.1.read in
      never stored.0 stored.1 (subst (λ (bs : List Bool). AreAsMany bs i.codes) of_value codes)
      (subst (λ (bs : List Bool). AllByRecursion (IsInTime moment) (spread bs i.codes)) of_value sound.timely)

  pub not_arrived : moment < i.arrival → ItemBegins moment i None
  not_arrived late codes sound = let arrived = sound.arrived in omega (arith, late, arrived)

  pub is_begun : (statuses : List (Option Status)) (item : ItemValue) → HasRead moment i.octets i.codes statuses
      → i.arrival ≤ moment
      → item ≡ item_as i.octets i.arrival i.origin statuses
      → ItemBegins moment i (Some item)
  is_begun statuses item read arrived is =
      let of_value : responsible_of (value_of i.octets) ≡ responsible_in read.value =
      ap responsible_of read.stored.read in
      let same : statuses ≡ spread (responsible_of (value_of i.octets)) i.codes =
      read.same ∙ ap (λ (bs : List Bool). spread bs i.codes) (sym of_value) in
      record {
        same = is ∙ ap (λ (ss : List (Option Status)). item_as i.octets i.arrival i.origin ss) same;
        codes = subst (λ (bs : List Bool). AreAsMany bs i.codes) (sym of_value) read.many;
        sound = record {
          spelled = λ short. (
            read.value,
            read.stored,
            ap (λ (bs : List Bool). map is_some (spread bs i.codes)) of_value
                ∙ flags_spread (responsible_in read.value) i.codes read.many,
          );
          arrived = arrived;
          timely = subst (AllByRecursion (IsInTime moment)) same read.timely;
        };
      }
