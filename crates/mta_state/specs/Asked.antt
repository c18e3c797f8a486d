-- What is asked of the rules, and of what they are asked.
use Rattle.std.specs.Prelude.{◌≡◌, ◌≤◌, ◌<◌, ◌^◌, ℕ, true, false, List, length}
use Rattle.std.specs.Prelude.{Option, Some, None, option_map}
use Rattle.mta_ber.specs.Times.{last_moment}
use Rattle.mta_names.specs.Bounded.{IsCode}
use Rattle.mta_procedures.specs.declared.verdict.Verdict.{Verdict}
use Rattle.mta_procedures.specs.declared.verdict.Verdict.TheVariants as Verdicts
use Rattle.mta_machine.specs.Items.{ItemValue, numbered}
use Rattle.mta_machine.specs.Rules.{delivery_report, is_tables_text, verdict_of}
use Rattle.mta_machine.specs.Machine.{last_tables, own_item}
use Rattle.mta_idle_laws.specs.Idle.{IsIdleUntil}
use Rattle.mta_idle_laws.specs.Spans.{relay_span}
use Rattle.mta_state.specs.Parts.{machine_of}
use Rattle.mta_state.specs.declared.delivery.Delivery.{Delivery}
use Rattle.mta_state.specs.declared.kept.Kept.{Kept}
use Rattle.mta_state.specs.declared.rest.Rest.{Rest}
use Rattle.mta_state.specs.Spans.{bounds_of}

-- a reason and a diagnostic that a verdict tells may be written
abbrev pub CodesAreCodes : Option Verdict → Type 0
CodesAreCodes verdict =
    (reason diagnostic : ℕ) → verdict ≡ Some (Verdicts.NonDeliver reason diagnostic)
    → IsCode reason × IsCode diagnostic

-- rules in a format and under the tables of the text, or none where it is no text of tables
abbrev pub AreUnder : {R : Type 0} → (R → ℕ) → (R → List ℕ) → (format : ℕ) → List ℕ → Option R
    → Type 0
AreUnder format_of text_of format text None = is_tables_text text ≡ false
AreUnder format_of text_of format text (Some rules) =
    (format_of rules ≡ format) × (text_of rules ≡ text) × (is_tables_text text ≡ true)

-- the item rests until then, and this is its span
pub record RestsAs (format : ℕ) (text : List ℕ) (item : ItemValue) (moment : ℕ) (rest : Rest) : Type 0 where
  pub idle : IsIdleUntil format text item moment (Some rest.until)
  pub span : relay_span format text item.octets item.arrival ≡ Some (bounds_of rest.span)

-- what is found of an item of which nothing is called for at once; none where something is called for now, or where no
-- change is to come
abbrev pub IsRestOf : (format : ℕ) → List ℕ → ItemValue → ℕ → Option Rest → Type 0
IsRestOf format text item moment None = IsIdleUntil format text item moment None
IsRestOf format text item moment (Some rest) = RestsAs format text item moment rest

-- a list is expanded
abbrev pub Expands : Option Verdict → Type 0
Expands verdict = (place : ℕ) × (verdict ≡ Some (Verdicts.Expand place))

-- the recipient goes to a peer
abbrev pub Relays : Option Verdict → Type 0
Relays verdict = (place : ℕ) × (verdict ≡ Some (Verdicts.Relay place))

-- a report has come to a list, from which it is passed back where it can be
abbrev pub Passes : Option Verdict → Type 0
Passes verdict = verdict ≡ Some Verdicts.Back

-- the mailbox to which a verdict delivers, with this report; none exactly where the verdict is another
abbrev pub Delivers : Option Verdict → Option ItemValue → Option Delivery → Type 0
Delivers verdict report None = (place : ℕ) → verdict ≡ Some (Verdicts.Deliver place) → ⊥
Delivers verdict report (Some d) = (verdict ≡ Some (Verdicts.Deliver d.place)) × (d.report ≡ report)

-- the delivery of an item to a recipient at a moment, with the delivery report as the item of a number
abbrev pub IsDeliveryOf : (format : ℕ) → List ℕ → ℕ → ItemValue → (r moment : ℕ) → Option Delivery
    → Type 0
IsDeliveryOf format text number item r moment =
    Delivers (verdict_of format text item.octets item.arrival r moment)
    (option_map (own_item moment) (delivery_report text number item r moment))

-- this is the text of the tables recorded last
abbrev pub IsTextOf : Kept → List ℕ → Type 0
IsTextOf kept text = let m = machine_of kept.parts in numbered m.tables (last_tables m) ≡ Some text

-- the item arrived up to the last moment of 2049, and its recipients have numbers
pub record IsStored (item : ItemValue) : Type 0 where
  pub arrived : item.arrival ≤ last_moment
  pub few : length item.statuses < 2 ^ 32
