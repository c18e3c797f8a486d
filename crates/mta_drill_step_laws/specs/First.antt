-- What the first agent of a drill holds: messages behind those of earlier rounds, of which the first ones are sent.
use Rattle.std.specs.Prelude.{◌≡◌, ◌<◌, ◌≤◌, ℕ, ◌+◌, List, [], ◌∷◌, length, Some}
use Rattle.mta_records.specs.declared.state.Origin.TheVariants.{Submitted}
use Rattle.mta_records.specs.declared.state.Status.TheVariants.{Pending, Sent}
use Rattle.mta_machine.specs.Items.{ItemValue, Machine, numbered}
use Rattle.mta_machine.specs.Machine.{accept, discharge, machine_after, sent}
use Rattle.mta_histories.specs.Due.{IsBatch, IsNoBatch, IsQuiet}
use Rattle.mta_histories.specs.Lanes.{IsFree, State}
use Rattle.mta_drill_laws.specs.Messages.{message_of}
use Rattle.mta_drill_laws.specs.Tables.{east, first_text}

-- the item of a number is the message as far behind those of earlier rounds; it is sent, or waits
pub record IsToSend (before done k : ℕ) (item : ItemValue) : Type 0 where
  pub octets : item.octets ≡ message_of (before + k)
  pub arrival : item.arrival ≡ 0
  pub gone : k ≤ done → item.statuses ≡ Some (Sent 0 east) ∷ []
  pub waits : done < k → item.statuses ≡ Some Pending ∷ []

-- so many messages were accepted, of which the first `done` are sent
pub record HasAccepted (before count done : ℕ) (m : Machine) : Type 0 where
  pub format : m.format ≡ 2
  pub tables : m.tables ≡ first_text ∷ []
  pub moment : m.moment ≡ 0
  pub items : length m.items ≡ count
  pub within : done ≤ count
  pub each : (k : ℕ) (item : ItemValue) → numbered m.items k ≡ Some item → IsToSend before done k item
  pub mailboxes : m.mailboxes ≡ []

-- no recipient is in an activity
abbrev pub AllAreFree : State → Type 0
AllAreFree s = (i r : ℕ) → IsFree s i r

-- ---- the laws

-- nothing is due
abbrev pub FirstIsQuiet : Type 0
FirstIsQuiet = (before count done : ℕ) (s : State) → HasAccepted before count done s.machine → IsQuiet s 0

-- the next message is the next batch for the second agent
abbrev pub NextIsRelayed : Type 0
NextIsRelayed =
    (before count done : ℕ) (s : State) (i : ℕ) (rs : List ℕ) → HasAccepted before count done s.machine
    → AllAreFree s → IsBatch s east 0 i rs → (done < count) × (i ≡ done + 1) × (rs ≡ 1 ∷ [])

-- where there is none, all are sent
abbrev pub NoneIsLeft : Type 0
NoneIsLeft =
    (before count done : ℕ) (s : State) → HasAccepted before count done s.machine → AllAreFree s
    → IsNoBatch s east 0 → done ≡ count

-- a message more
abbrev pub AcceptLeadsOn : Type 0
AcceptLeadsOn =
    (before count : ℕ) (m : Machine) → HasAccepted before count 0 m
    → HasAccepted before (count + 1) 0 (machine_after m (accept (message_of (before + (count + 1))) Submitted 0))

-- one more is sent
abbrev pub SentLeadsOn : Type 0
SentLeadsOn =
    (before count done tables decided format : ℕ) (m : Machine) → HasAccepted before count done m → done < count
    → HasAccepted before count (done + 1)
    (machine_after m (discharge (done + 1) (1 ∷ []) (sent east tables decided format) 0))
