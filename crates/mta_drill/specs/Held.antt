-- What the spools of both agents hold of the messages of a round.
use Rattle.std.specs.Prelude.{◌≡◌, ℕ, ◌+◌, ◌≤◌, List, [], ◌∷◌, length, Option, Some}
use Rattle.mta_apdu.specs.Apdus.{message}
use Rattle.mta_envelope.specs.Messages.{MessageValue}
use Rattle.mta_edge.specs.Held.{HeldDisk}
use Rattle.mta_records.specs.declared.state.MailboxLine.{MailboxLine}
use Rattle.mta_records.specs.declared.state.Status.{Status}
use Rattle.mta_records.specs.declared.state.Status.TheVariants.{Sent}
use Rattle.mta_records.specs.declared.step.Step.{Step}
use Rattle.mta_machine.specs.Apdu.{value_of}
use Rattle.mta_machine.specs.Items.{ItemValue, Machine, numbered}
use Rattle.mta_histories.specs.History.{after}
use Rattle.mta_images.specs.Image.{StandsFor}
use Rattle.mta_drill_text.specs.Text.{content_length}
use Rattle.mta_drill_laws.specs.Messages.{content_of, identifier_of}
use Rattle.mta_drill_laws.specs.Tables.{mailbox}

-- ---- an item

-- the octets spell this message
abbrev pub IsRead : List ℕ → MessageValue → Type 0
IsRead octets v = value_of octets ≡ Some (message v)

-- the octets spell the message of this identifier
pub record IsNamed (octets : List ℕ) (i : ℕ) : Type 0 where
  pub value : MessageValue
  pub read : IsRead octets value
  pub local : value.envelope.id.local ≡ identifier_of i

-- with its content
pub record IsMessage (octets : List ℕ) (i : ℕ) : Type 0 where
  pub value : MessageValue
  pub read : IsRead octets value
  pub local : value.envelope.id.local ≡ identifier_of i
  pub content : value.content.octets ≡ content_of i

-- it is sent on to its one recipient
abbrev pub IsSentOn : List (Option Status) → Type 0
IsSentOn (Some (Sent moment peer) ∷ []) = Unit {0}
IsSentOn _ = ⊥

-- the message of this number was sent
pub record IsSent (item : ItemValue) (i : ℕ) : Type 0 where
  pub named : IsNamed item.octets i
  pub sent : IsSentOn item.statuses

-- ---- the items of a round

-- each item up to this number is the message as far behind this one, and is sent
abbrev pub AreSent : List ItemValue → (before last : ℕ) → Type 0
AreSent items before last =
    (k : ℕ) (item : ItemValue) → k ≤ last → numbered items k ≡ Some item → IsSent item (before + k)

-- and so is each with its content
abbrev pub AreMessages : List ItemValue → (before last : ℕ) → Type 0
AreMessages items before last =
    (k : ℕ) (item : ItemValue) → k ≤ last → numbered items k ≡ Some item
    → IsMessage item.octets (before + k)

-- it is the delivery of the item of this number to watt
abbrev pub IsDelivery : ℕ → MailboxLine → Type 0
IsDelivery number line = (line.item ≡ number) × (line.mailbox ≡ mailbox)

-- each delivery up to this number is that of the item of its number to watt
abbrev pub AreDeliveries : List MailboxLine → (last : ℕ) → Type 0
AreDeliveries lines last =
    (k : ℕ) (line : MailboxLine) → k ≤ last → numbered lines k ≡ Some line → IsDelivery k line

-- The item of this number is the message as far behind this one, with its content of so many octets, and the delivery
-- of that number is its own.
pub record IsDeliveredAt (items : List ItemValue) (lines : List MailboxLine) (before number size : ℕ)
    : Type 0 where
  pub item : (item : ItemValue) → numbered items number ≡ Some item → IsMessage item.octets (before + number)
  pub line : (line : MailboxLine) → numbered lines number ≡ Some line → IsDelivery number line
  pub size_is : size ≡ content_length (before + number)

-- So many messages behind this one are all items that there are, each of which was sent.
pub record HoldsSent (m : Machine) (before count : ℕ) : Type 0 where
  pub items : length m.items ≡ count
  pub sent : AreSent m.items before count

-- So many messages behind this one are all items that there are, and each was delivered to watt once, in order.
pub record HoldsDelivered (m : Machine) (before count : ℕ) : Type 0 where
  pub items : length m.items ≡ count
  pub messages : AreMessages m.items before count
  pub lines : length m.mailboxes ≡ count
  pub deliveries : AreDeliveries m.mailboxes count

-- ---- the disks of a round

-- the disk stands for a history behind which the first agent has sent the messages
pub record HasSent (disk : HeldDisk) (before count : ℕ) : Type 0 where
  pub steps : List Step
  pub stands : StandsFor disk.octets steps
  pub sent : HoldsSent (after steps).machine before count

-- the disk stands for a history behind which the second agent has them, each delivered once, in order
pub record HasDelivered (disk : HeldDisk) (before count : ℕ) : Type 0 where
  pub steps : List Step
  pub stands : StandsFor disk.octets steps
  pub delivered : HoldsDelivered (after steps).machine before count
