-- What the rules say of the messages of a drill under the tables of both agents.
use Rattle.std.specs.Prelude.{◌≡◌, ℕ, ◌+◌, ◌≤◌, true, false, [], ◌∷◌, length, Some, None, Ok}
use Rattle.mta_apdu.specs.Apdus.{apdu_of, message}
use Rattle.mta_records.specs.declared.state.Status.TheVariants.{Pending}
use Rattle.mta_procedures.specs.declared.verdict.Verdict.TheVariants.{Deliver, Relay}
use Rattle.mta_machine.specs.Apdu.{value_of}
use Rattle.mta_machine.specs.Items.{ItemValue, statuses_read}
use Rattle.mta_machine.specs.Rules.{delivery_report, is_expired, mailbox_word, names_peer, outgoing_copy, peer_word}
use Rattle.mta_machine.specs.Rules.{route_word, tables_value, verdict_of}
use Rattle.mta_drill_text.specs.Text.{content_length}
use Rattle.mta_drill_laws.specs.Messages.{copied, copy_of, drilled, message_of}
use Rattle.mta_drill_laws.specs.Tables.{east, first_tables, first_text, gold_1, mailbox, second_tables, second_text}

-- ---- tables

-- both texts are tables, and each names the other agent
pub record TablesAreRead : Type 0 where
  pub first : tables_value first_text ≡ Some first_tables
  pub second : tables_value second_text ≡ Some second_tables
  pub first_names : names_peer first_text east ≡ true
  pub second_names : names_peer second_text gold_1 ≡ true
  pub to_east : peer_word first_text 0 ≡ Some east
  pub to_watt : mailbox_word second_text 0 ≡ Some mailbox

-- ---- messages at the first agent, in the format that is set, at the first moment

-- It is a message that may be submitted, with one recipient for whom this agent is responsible. It goes to the second
-- agent, and the copy for it has its content and some octets more.
pub record IsRelayed (i : ℕ) : Type 0 where
  pub read : apdu_of (message_of i) ≡ Ok (message (drilled i))
  pub kept : value_of (message_of i) ≡ Some (message (drilled i))
  pub statuses : statuses_read (value_of (message_of i)) ≡ Some Pending ∷ []
  pub verdict : verdict_of 2 first_text (message_of i) 0 1 0 ≡ Some (Relay 0)
  pub route : route_word first_text (message_of i) 1 ≡ Some east
  pub in_time : is_expired 2 first_text (message_of i) 0 0 ≡ false
  pub copy : outgoing_copy first_text (message_of i) 0 (1 ∷ []) 0 ≡ Some (copy_of i)
  pub some_octets : content_length i ≤ length (copy_of i)
  pub few_octets : length (copy_of i) ≤ content_length i + 300

abbrev pub MessagesAreRelayed : Type 0
MessagesAreRelayed = (i : ℕ) → IsRelayed i

-- ---- copies at the second agent

-- It is a message that may be received, with one recipient for whom this agent is responsible. It is delivered to watt,
-- and no report is made of that.
pub record IsDelivered (i : ℕ) : Type 0 where
  pub read : apdu_of (copy_of i) ≡ Ok (message (copied i))
  pub kept : value_of (copy_of i) ≡ Some (message (copied i))
  pub statuses : statuses_read (value_of (copy_of i)) ≡ Some Pending ∷ []
  pub verdict : verdict_of 2 second_text (copy_of i) 0 1 0 ≡ Some (Deliver 0)
  pub in_time : is_expired 2 second_text (copy_of i) 0 0 ≡ false
  pub no_report : (number : ℕ) (item : ItemValue) → item.octets ≡ copy_of i →
      delivery_report second_text number item 1 0 ≡ None

abbrev pub CopiesAreDelivered : Type 0
CopiesAreDelivered = (i : ℕ) → IsDelivered i
