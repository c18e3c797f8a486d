-- The parts of the machine of recipients in memory.
use Rattle.std.specs.Prelude.{◌≡◌, ℕ, ◌+◌, ◌≤◌, List, ◌++◌, length, Option, option_to_list}
use Rattle.std.specs.Prelude.{vec_len, vec_capacity}
use Rattle.mta_records.specs.declared.state.Status.{Status}
use Rattle.mta_records.specs.declared.state.MailboxLine.{MailboxLine}
use Rattle.mta_machine.specs.Items.{ItemValue, Machine}
use Rattle.mta_state.specs.declared.parts.Parts.{Parts}
use Rattle.mta_state.specs.declared.parts.Made.{Made}
use Rattle.mta_state.specs.Settled.{with_settled}

-- the machine that its parts are
abbrev pub machine_of : Parts → Machine
machine_of p = record {
  format = p.format;
  tables = p.texts.items;
  items = p.items.items;
  mailboxes = p.mailboxes.items;
  moment = p.moment;
}

-- there is room for so many texts, items and deliveries more
pub record HasRoom (p : Parts) (texts items lines : ℕ) : Type 0 where
  pub for_texts : vec_len p.texts + texts ≤ vec_capacity p.texts
  pub for_items : vec_len p.items + items ≤ vec_capacity p.items
  pub for_lines : vec_len p.mailboxes + lines ≤ vec_capacity p.mailboxes

-- the items that were made, in their order
abbrev pub made_items : Made → List ItemValue
made_items m = option_to_list m.first ++ option_to_list m.second

-- the machine once recipients of an item have a status, with items that were made and perhaps a delivery
abbrev pub settled_machine :
    Machine → ℕ → List ℕ → Status → List ItemValue → List MailboxLine → (moment : ℕ) → Machine
settled_machine m i rs s made lines moment = record m {
  items = with_settled m.items i rs s ++ made;
  mailboxes = m.mailboxes ++ lines;
  moment = moment;
}
