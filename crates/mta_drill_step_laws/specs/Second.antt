-- What the second agent of a drill holds: copies of messages behind those of earlier rounds, of which the first ones
-- are delivered.
use Rattle.std.specs.Prelude.{◌≡◌, ◌<◌, ◌≤◌, ℕ, ◌+◌, [], ◌∷◌, length, Some}
use Rattle.mta_records.specs.declared.state.MailboxLine.{MailboxLine}
use Rattle.mta_records.specs.declared.state.Origin.TheVariants.{Lane}
use Rattle.mta_records.specs.declared.state.Status.TheVariants.{Delivered, Pending}
use Rattle.mta_records.specs.declared.step.Step.{Step}
use Rattle.mta_records.specs.declared.step.Step.TheVariants as step
use Rattle.mta_machine.specs.Items.{ItemValue, Machine, numbered}
use Rattle.mta_machine.specs.Machine.{accept, delivered, discharge, machine_after}
use Rattle.mta_histories.specs.Due.{IsNext, IsQuiet}
use Rattle.mta_histories.specs.Lanes.{State}
use Rattle.mta_drill_laws.specs.Messages.{copy_of}
use Rattle.mta_drill_laws.specs.Tables.{mailbox, second_text}
use Rattle.mta_drill_step_laws.specs.First.{AllAreFree}

-- the item of a number is the copy of the message as far behind those of earlier rounds; it is delivered, or waits
pub record IsGot (before done k : ℕ) (item : ItemValue) : Type 0 where
  pub octets : item.octets ≡ copy_of (before + k)
  pub arrival : item.arrival ≡ 0
  pub gone : k ≤ done → item.statuses ≡ Some (Delivered 0) ∷ []
  pub waits : done < k → item.statuses ≡ Some Pending ∷ []

abbrev pub line_of : ℕ → MailboxLine
line_of k = record { mailbox = mailbox; item = k; moment = 0 }

-- so many copies came, of which the first `done` are delivered to watt, once and in order
pub record HasGot (before count done : ℕ) (m : Machine) : Type 0 where
  pub format : m.format ≡ 2
  pub tables : m.tables ≡ second_text ∷ []
  pub moment : m.moment ≡ 0
  pub items : length m.items ≡ count
  pub within : done ≤ count
  pub each : (k : ℕ) (item : ItemValue) → numbered m.items k ≡ Some item → IsGot before done k item
  pub lines : length m.mailboxes ≡ done
  pub each_line : (k : ℕ) (line : MailboxLine) → numbered m.mailboxes k ≡ Some line → line ≡ line_of k

-- ---- the laws

-- what is due next is the delivery of the next message
abbrev pub NextIsDelivered : Type 0
NextIsDelivered =
    (before count done : ℕ) (s : State) (due : Step) → HasGot before count done s.machine → AllAreFree s
    → IsNext s 0 due → (done < count) × (due ≡ step.Deliver (done + 1) 1 0)

-- where nothing is due, all are delivered
abbrev pub AllAreDelivered : Type 0
AllAreDelivered =
    (before count done : ℕ) (s : State) → HasGot before count done s.machine → AllAreFree s → IsQuiet s 0
    → done ≡ count

-- a copy more
abbrev pub CompleteLeadsOn : Type 0
CompleteLeadsOn =
    (before count done : ℕ) (m : Machine) → HasGot before count done m
    → HasGot before (count + 1) done (machine_after m (accept (copy_of (before + (count + 1))) Lane 0))

-- one more is delivered
abbrev pub DeliverLeadsOn : Type 0
DeliverLeadsOn =
    (before count done : ℕ) (m : Machine) → HasGot before count done m → done < count
    → HasGot before count (done + 1) (machine_after m (discharge (done + 1) (1 ∷ []) delivered 0))
