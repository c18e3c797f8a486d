-- What is decided before the marks are called.
use Rattle.std.specs.Prelude.{◌≡◌, ◌⊎◌, ℕ, List, Option, Some, Result, Ok, Err}
use Rattle.mta_machine.specs.Items.{ItemValue}
use Rattle.mta_marks.specs.declared.mark.Mark.{Mark}
use Rattle.mta_marks.specs.declared.mark.Standing.{Standing}
use Rattle.mta_records.specs.declared.state.MailboxLine.{MailboxLine}
use Rattle.mta_commands.specs.declared.stop.Stop.TheVariants as AgentStops
use Rattle.mta_store_run.specs.Asked.{mailbox_asked, number_asked}
use Rattle.mta_store_run.specs.Store.{Answer, fetched, gives, item_text, no_entry, no_mailbox, not_fetched}
use Rattle.mta_store_run.specs.declared.asked.Asked.{Asked}
use Rattle.mta_store_run.specs.declared.asked.Asked.TheVariants as Ask
use Rattle.mta_store_run.specs.declared.deciding.Decision.{Decision}
use Rattle.mta_store_run.specs.declared.stop.Stop.{Stop}
use Rattle.mta_store_run.specs.declared.stop.Stop.TheVariants as Stops

-- this stop tells the answer
abbrev pub TellsAnswer : Asked → Answer → Stop → Type 0
TellsAnswer asked answer (Stops.Agent (AgentStops.NoMailbox name)) =
    (answer ≡ no_mailbox) × (name ≡ mailbox_asked asked)
TellsAnswer asked answer (Stops.NoEntry number) = (answer ≡ no_entry) × (number_asked asked ≡ Some number)
TellsAnswer asked answer (Stops.NotFetched number) = (answer ≡ not_fetched) × (number_asked asked ≡ Some number)
TellsAnswer asked answer other = ⊥

-- the answer, or want of memory for it
abbrev pub IsAnswered : Asked → Answer → Result Decision Stop → Type 0
IsAnswered asked answer (Ok d) = answer ≡ gives d.text d.mark
IsAnswered asked answer (Err (Stops.Agent AgentStops.Memory)) = Unit {0}
IsAnswered asked answer (Err stop) = TellsAnswer asked answer stop

-- that no mailbox is named so, or want of memory for it
abbrev pub IsNoMailbox : List ℕ → Stop → Type 0
IsNoMailbox mailbox stop =
    (stop ≡ Stops.Agent (AgentStops.NoMailbox mailbox)) ⊎ (stop ≡ Stops.Agent AgentStops.Memory)

-- the mark that is made when an entry is fetched of which this became, or why it is not fetched
abbrev pub IsMarkToFetch : List ℕ → ℕ → Standing → Result (Option Mark) Stop → Type 0
IsMarkToFetch mailbox number s (Ok mark) =
    (items : List ItemValue) (line : MailboxLine)
    → fetched items mailbox number (Some line) s ≡ gives (item_text items line) mark
IsMarkToFetch mailbox number s (Err stop) =
    (items : List ItemValue) (line : MailboxLine)
    → IsAnswered (Ask.Fetch mailbox number) (fetched items mailbox number (Some line) s) (Err stop)
