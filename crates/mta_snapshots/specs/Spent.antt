-- What is left of a message that is spent.
use Rattle.std.specs.Prelude.{◌≡◌, true, false, List, ℕ, [], Option, Some, None}
use Rattle.mta_envelope.specs.Messages.{message_value}
use Rattle.mta_envelope.specs.declared.message.Message.{Message}
use Rattle.mta_apdu.specs.Apdus.{ApduValue, message}
use Rattle.mta_histories.specs.Compact.{emptied, is_message, without_content}

-- the same message with an empty content, in one piece
abbrev pub IsWithoutContent : Message → Message → Type 0
IsWithoutContent old new = message (message_value new) ≡ without_content (message (message_value old))

-- these are the octets of a message without its content; none of another APDU
abbrev pub IsEmptiedOf : Option ApduValue → Option (List ℕ) → Type 0
IsEmptiedOf v None = is_message v ≡ false
IsEmptiedOf v (Some octets) = (is_message v ≡ true) × (octets ≡ emptied v [])

abbrev pub IsEmptied : ApduValue → Option (List ℕ) → Type 0
IsEmptied v octets = IsEmptiedOf (Some v) octets
