-- Items as a snapshot has them, and in memory.
use Rattle.std.specs.Prelude.{◌≡◌, ℕ, ◌<◌, ◌^◌, Bool, List, length, map, count_by, Option, Some, None}
use Rattle.std.specs.Global.{Vec}
use Rattle.std.specs.List.{AllByRecursion}
use Rattle.mta_apdu.specs.Apdus.{ApduValue}
use Rattle.mta_records.specs.State.{RecordedItem}
use Rattle.mta_records.specs.declared.state.Status.{Status}
use Rattle.mta_machine.specs.Apdu.{value_of, responsible_in, IsStoredAs}
use Rattle.mta_machine.specs.Items.{ItemValue, statuses_of}
use Rattle.mta_histories.specs.Sound.{HasCodes, IsInTime, IsSoundItem, item_begun, spread}

-- these are the statuses of the recipients of what the octets spell at first; none where they spell no APDU
abbrev pub AreRecipients : List ℕ → Option (List (Option Status)) → Type 0
AreRecipients octets None = value_of octets ≡ None
AreRecipients octets (Some statuses) = (v : ApduValue) × IsStoredAs octets v × (statuses ≡ statuses_of v)

-- there is a code for each who is to have one
abbrev pub AreAsMany : List Bool → List Status → Type 0
AreAsMany flags codes = length codes ≡ count_by (λ b. b) flags

-- the codes are these statuses of recipients; none where they are not as many as those who are to have one
abbrev pub Spreads : List Bool → List Status → Option (Vec (Option Status)) → Type 0
Spreads flags codes None = AreAsMany flags codes → ⊥
Spreads flags codes (Some statuses) = AreAsMany flags codes × (statuses.items ≡ spread flags codes)

-- The octets spell an APDU, there are as many codes as recipients for whom this agent is responsible, and the statuses
-- are these codes, none of which is of a later moment.
pub record HasRead (moment : ℕ) (octets : List ℕ) (codes : List Status)
    (statuses : List (Option Status)) : Type 0 where
  pub value : ApduValue
  pub stored : IsStoredAs octets value
  pub many : AreAsMany (responsible_in value) codes
  pub same : statuses ≡ spread (responsible_in value) codes
  pub timely : AllByRecursion (IsInTime moment) statuses

-- these are the statuses in memory; none where there are none such
abbrev pub StatusesBegin : ℕ → List ℕ → List Status → Option (Vec (Option Status)) → Type 0
StatusesBegin moment octets codes None =
    (v : ApduValue) → IsStoredAs octets v → AreAsMany (responsible_in v) codes
    → AllByRecursion (IsInTime moment) (spread (responsible_in v) codes) → ⊥
StatusesBegin moment octets codes (Some statuses) = HasRead moment octets codes statuses.items

-- the item of a record, which has as many codes as recipients for whom this agent is responsible, and is sound
pub record IsBegunAs (moment : ℕ) (i : RecordedItem) (item : ItemValue) : Type 0 where
  pub same : item ≡ item_begun i
  pub codes : HasCodes i
  pub sound : IsSoundItem moment (item_begun i)

-- this is the item in memory; none where it is not such
abbrev pub ItemBegins : ℕ → RecordedItem → Option ItemValue → Type 0
ItemBegins moment i None = HasCodes i → IsSoundItem moment (item_begun i) → ⊥
ItemBegins moment i (Some item) = IsBegunAs moment i item

-- the items of records, each of which is such
pub record AreBegunAs (moment : ℕ) (records : List RecordedItem) (items : List ItemValue) : Type 0 where
  pub same : items ≡ map item_begun records
  pub codes : AllByRecursion HasCodes records
  pub sound : AllByRecursion (IsSoundItem moment) (map item_begun records)

-- these are the items in memory; none where one is not such
abbrev pub ItemsBegin : ℕ → List RecordedItem → Option (Vec ItemValue) → Type 0
ItemsBegin moment records None =
    AllByRecursion HasCodes records → AllByRecursion (IsSoundItem moment) (map item_begun records) → ⊥
ItemsBegin moment records (Some items) = AreBegunAs moment records items.items

-- its octets are those of a string of a record
abbrev pub HasStringOf : RecordedItem → Type 0
HasStringOf i = length i.octets < 2 ^ 32
