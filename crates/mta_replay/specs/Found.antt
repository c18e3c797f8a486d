-- What is found of an item once it is accepted, before anything else is known of it.
use Rattle.std.specs.Prelude.{◌≡◌, ℕ, List, length, Option, Some}
use Rattle.mta_machine.specs.Items.{ItemValue, numbered}
use Rattle.mta_state.specs.Asked.{IsRestOf, IsTextOf}
use Rattle.mta_state.specs.Readings.{IsDecodedOf}
use Rattle.mta_state.specs.declared.change.Change.{Change}
use Rattle.mta_state.specs.declared.change.Change.TheVariants as change
use Rattle.mta_state.specs.declared.decoded.Decoded.{Decoded}
use Rattle.mta_state.specs.declared.kept.Kept.{Kept}
use Rattle.mta_state.specs.declared.rest.Rest.{Rest}
use Rattle.mta_replay.specs.declared.accept.Arrival.{Arrival}

-- what an Accept changes whose item is this one
abbrev pub accept_change : ℕ → Arrival → Change
accept_change moment a = change.Accept a.item moment

-- the item has these octets, and they were read so
pub record IsDecodedItem (octets : List ℕ) (item : ItemValue) (decoded : Decoded) : Type 0 where
  pub octets_are : item.octets ≡ octets
  pub read_as : IsDecodedOf octets decoded

-- this is found of the item at the moment, in the format and under the tables recorded last
abbrev pub IsFound : Kept → ItemValue → ℕ → Option Rest → Type 0
IsFound kept item moment rest =
    (text : List ℕ) → IsTextOf kept text → IsRestOf kept.parts.format text item moment rest

-- and of the last item, whose octets were read so
pub record IsFoundLast (kept : Kept) (moment : ℕ) (rest : Option Rest) (decoded : Decoded) : Type 0 where
  pub item : ItemValue
  pub item_is : numbered kept.parts.items.items (length kept.parts.items.items) ≡ Some item
  pub found : IsFound kept item moment rest
  pub decoded_is : IsDecodedOf item.octets decoded
