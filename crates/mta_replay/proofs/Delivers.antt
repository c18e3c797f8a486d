-- What a Deliver changes, where a delivery is told or none.
use Rattle.std.proofs.Common.{◌≡◌, ◌+◌, ℕ, List, length, Option, Some, None, refl, sym, ap, ◌∙◌}
use Rattle.std.specs.Prelude.{option_map, option_to_list}
use Rattle.mta_apdu.specs.Apdus.{ApduValue}
use Rattle.mta_records.specs.declared.step.Step.TheVariants as step
use Rattle.mta_procedures.specs.declared.verdict.Verdict.{Verdict}
use Rattle.mta_procedures.specs.declared.verdict.Verdict.TheVariants as Verdicts
use Rattle.mta_records.specs.declared.state.Status.TheVariants as Statuses
use Rattle.mta_records.specs.declared.state.MailboxLine.{MailboxLine}
use Rattle.mta_machine.specs.Items.{ItemValue, Machine, numbered}
use Rattle.mta_machine.specs.Rules.{mailbox_word, passed_back, verdict_of}
use Rattle.mta_machine.specs.Machine.{settled, line_at, verdict_at}
use Rattle.mta_state.specs.Parts.{machine_of}
use Rattle.mta_state.specs.declared.delivery.Delivery.{Delivery}
use Rattle.mta_state.specs.declared.kept.Kept.{Kept}
use Rattle.mta_state.specs.declared.change.Change.{Change}
use Rattle.mta_state.specs.Asked.{IsDeliveryOf, IsTextOf}
use Rattle.mta_state.specs.Kept.{state_of}
use Rattle.mta_state.specs.Prepared.{Prepares}
use Rattle.mta_replay.specs.Settleable.{MaySettle, IsReady}
use Rattle.mta_replay.specs.Settling.{settling_change}
use Rattle.mta_replay.proofs.Called.{never_ready, no_deliver, none_to_deliver, the-verdict}
use Rattle.mta_replay.proofs.Made.{alone, delivery_is}
use Rattle.mta_replay.proofs.Prepared.{delivers, settled-is}

-- the verdict that is told is the one before it is known what is passed back
undelivered : (made : Option ApduValue) (o : Option Verdict) (place : ℕ)
    → option_map (settled made) o ≡ Some (Verdicts.Deliver place) → o ≡ Some (Verdicts.Deliver place)
undelivered made None place e = absurd cc
undelivered made (Some (Verdicts.Deliver p)) place e = e
undelivered made (Some (Verdicts.Expand p)) place e = absurd cc
undelivered made (Some (Verdicts.Relay p)) place e = absurd cc
undelivered made (Some Verdicts.Affirm) place e = absurd cc
undelivered made (Some (Verdicts.NonDeliver a b)) place e = absurd cc
undelivered made (Some (Verdicts.Hold until)) place e = absurd cc
undelivered None (Some Verdicts.Back) place e = absurd cc
undelivered (Some v) (Some Verdicts.Back) place e = absurd cc
undelivered made (Some Verdicts.Discard) place e = absurd cc

module _ (k : Kept) (format : ℕ) (text : List ℕ) (item : ItemValue) (i r moment : ℕ)
    (format_is : format ≡ k.parts.format) (text_is : IsTextOf k text)
    (item_is : numbered k.parts.items.items i ≡ Some item)
  where
    abbrev m : Machine
    m = machine_of k.parts

    abbrev back : Option ApduValue
    back = passed_back text m.items item

    abbrev told : Option Verdict
    told = verdict_of format text item.octets item.arrival r moment

    verdict-is : verdict_at m i r moment ≡ option_map (settled back) told
    verdict-is = settled-is m format i r moment text item format_is text_is item_is

    ready : (place : ℕ) → MaySettle (state_of k) i r moment → told ≡ Some (Verdicts.Deliver place)
        → IsReady (state_of k) i r moment (Verdicts.Deliver place)
    ready place may is = record {
      may = may;
      verdict_is = verdict-is ∙ ap (λ (o : Option Verdict). option_map (settled back) o) is;
    }

    pub delivered_as : (d : Delivery) (line : Option MailboxLine) → MaySettle (state_of k) i r moment
        → IsDeliveryOf format text (length m.items + 1) item r moment (Some d)
        → option_to_list line ≡ line_at (mailbox_word text d.place) i moment
        → (change : Option Change)
        → change ≡ settling_change m.items i r (Statuses.Delivered moment) (alone d.report) line moment
        → Prepares (state_of k) (step.Deliver i r moment) change
    delivered_as d line may is line_is change change_is =
        delivers k text item i r moment text_is item_is d.place (alone d.report) line (ready d.place may is.0)
        (delivery_is m text item r moment d.report (length m.items + 1) refl is.1) line_is change change_is

    pub never_delivered : (number : ℕ) → IsDeliveryOf format text number item r moment None
        → Prepares (state_of k) (step.Deliver i r moment) None
    never_delivered number never possible =
        let place : ℕ = possible.as_machine.2.0 in
        let is : verdict_at m i r moment ≡ Some (Verdicts.Deliver place) =
        the-verdict m i r moment (Verdicts.Deliver place) possible.as_machine.2.1 in
        never place (undelivered back told place (sym verdict-is ∙ is))

pub never_settled : (k : Kept) (i r moment : ℕ) → (MaySettle (state_of k) i r moment → ⊥)
    → Prepares (state_of k) (step.Deliver i r moment) None
never_settled k i r moment never = no_deliver k i r moment None (never_ready (state_of k) i r moment never) refl

pub ruleset no_delivery_laws = (none_to_deliver, never_settled, never_delivered)
