-- What is asked of the members' copy of a list.
use Rattle.std.specs.Prelude.{◌≡◌, ℕ, ◌<◌, false, length}
use Rattle.mta_envelope_recipient.specs.declared.recipient.RecipientFields.{RecipientFields}
use Rattle.mta_envelope.specs.declared.envelope.EnvelopeFields.{EnvelopeFields}
use Rattle.mta_envelope.specs.Messages.{MessageValue}
use Rattle.mta_tables.specs.declared.entry.MailList.{MailList}
use Rattle.mta_tables.specs.Tables.{TablesValue}
use Rattle.mta_procedures.specs.Histories.{is_in_history, longest_history}
use Rattle.mta_procedures.specs.Situations.{situation}
use Rattle.mta_procedures.specs.Traces.{longest_trace}
use Rattle.mta_procedures.specs.Verdicts.{verdict_of_message, verdict_on_message}

-- the number stands for the length of the members' copy: with it the verdict is the same, in each format and at each
-- moment
abbrev pub CountsAsLength : TablesValue → ℕ → MessageValue → RecipientFields → ℕ → Type 0
CountsAsLength t arrival m r n =
    (format moment : ℕ)
    → verdict_of_message format (situation t arrival moment) m r n
    ≡ verdict_on_message format (situation t arrival moment) m r

-- the trace has room for an element, and the history for an expansion unless the list was expanded before
pub record HasRoom (l : MailList) (e : EnvelopeFields) : Type 0 where
  pub short_trace : length e.trace < longest_trace
  pub short_history : is_in_history l e ≡ false → length e.history < longest_history
