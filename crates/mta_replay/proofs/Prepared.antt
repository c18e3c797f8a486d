-- What each step that settles one recipient changes.
use Rattle.std.proofs.Common.{◌≡◌, ◌+◌, ℕ, List, [], ◌∷◌, map, length, Option, Some, None, refl, sym, ap, ◌∙◌}
use Rattle.std.specs.Prelude.{option_map, option_to_list}
use Rattle.mta_apdu.specs.Apdus.{ApduValue}
use Rattle.mta_records.specs.declared.step.Step.TheVariants as step
use Rattle.mta_procedures.specs.declared.verdict.Verdict.{Verdict}
use Rattle.mta_procedures.specs.declared.verdict.Verdict.TheVariants as Verdicts
use Rattle.mta_machine.specs.Apdu.{value_of, is_report}
use Rattle.mta_records.specs.declared.state.Status.{Status}
use Rattle.mta_records.specs.declared.state.Status.TheVariants as Statuses
use Rattle.mta_records.specs.declared.state.MailboxLine.{MailboxLine}
use Rattle.mta_machine.specs.Items.{ItemValue, Machine, numbered}
use Rattle.mta_machine.specs.Rules.{mailbox_word, expansion, passed_back, verdict_of}
use Rattle.mta_machine.specs.Machine.{Discharge, delivered, expanded, affirmed, not_delivered, discarded, passed}
use Rattle.mta_machine.specs.Machine.{settled, status_after, own_item, made_by, made_for, last_tables, line_at, line_by}
use Rattle.mta_machine.specs.Machine.{lines_of, verdict_on, verdict_at}
use Rattle.mta_state.specs.declared.parts.Made.{Made}
use Rattle.mta_state.specs.Parts.{machine_of, made_items}
use Rattle.mta_histories.specs.Classes.{deliver, expand, report, affirm, discard, back}
use Rattle.mta_state.specs.declared.kept.Kept.{Kept}
use Rattle.mta_state.specs.declared.change.Change.{Change}
use Rattle.mta_state.specs.Asked.{IsTextOf}
use Rattle.mta_state.specs.Kept.{state_of}
use Rattle.mta_state.specs.Prepared.{Prepares}
use Rattle.mta_state.specs.Settling.{IsDischarge}
use Rattle.mta_replay.specs.Settleable.{IsReady}
use Rattle.mta_replay.specs.Settling.{settling_change}
use Rattle.mta_replay.proofs.Made.{alone, made_alone}
use Rattle.mta_replay.proofs.Settles.{settles_so}

abbrev made_of : ℕ → List ApduValue → List ItemValue
made_of moment vs = map (own_item moment) vs

-- what is settled has an item, under the tables recorded last
record IsThere (m : Machine) (i : ℕ) : Type 0 where
  pub text : List ℕ
  pub text_is : numbered m.tables (last_tables m) ≡ Some text
  pub item : ItemValue
  pub item_is : numbered m.items i ≡ Some item

there : (m : Machine) (i r moment : ℕ) (v : Verdict) → verdict_at m i r moment ≡ Some v → IsThere m i
there m i r moment v is = by_both (numbered m.tables (last_tables m)) refl (numbered m.items i) refl is
  where
    by_both : (t : Option (List ℕ)) → numbered m.tables (last_tables m) ≡ t → (x : Option ItemValue)
        → numbered m.items i ≡ x → verdict_on m.format m.items t x r moment ≡ Some v → IsThere m i
    by_both None text_is x item_is e = absurd cc
    by_both (Some text) text_is None item_is e = absurd cc
    by_both (Some text) text_is (Some item) item_is e = record {
      text = text;
      text_is = text_is;
      item = item;
      item_is = item_is;
    }

module _ (k : Kept) (text : List ℕ) (item : ItemValue) (i r moment : ℕ) (text_is : IsTextOf k text) (item_is :
    numbered k.parts.items.items i ≡ Some item)
  where
    abbrev m : Machine
    m = machine_of k.parts

    found : (how : Discharge) (status : Status) (made : Made) (line : Option MailboxLine)
        → status ≡ status_after (is_report (value_of item.octets)) how moment
        → made_items made ≡ made_of moment (made_by m item text r how moment)
        → option_to_list line ≡ lines_of m i (r ∷ []) how moment
        → IsDischarge m i r how moment status (made_items made) (option_to_list line)
    found how status made line status_is made_is line_is = record {
      item = item;
      item_is = item_is;
      status_is = status_is;
      made_is =
          made_is
          ∙ sym (ap (λ (t : Option (List ℕ)). made_of moment (made_for m item t (r ∷ []) how moment)) text_is);
      lines_are = line_is;
    }

    lines-are : (place : ℕ) → verdict_at m i r moment ≡ Some (Verdicts.Deliver place)
        → lines_of m i (r ∷ []) delivered moment ≡ line_at (mailbox_word text place) i moment
    lines-are place verdict_is =
        ap (λ (t : Option (List ℕ)). line_by t (verdict_at m i r moment) i moment) text_is
        ∙ ap (λ (v : Option Verdict). line_by (Some text) v i moment) verdict_is

    pub delivers : (place : ℕ) (made : Made) (line : Option MailboxLine)
        → IsReady (state_of k) i r moment (Verdicts.Deliver place)
        → made_items made ≡ made_of moment (made_by m item text r delivered moment)
        → option_to_list line ≡ line_at (mailbox_word text place) i moment
        → (change : Option Change) → change ≡ settling_change m.items i r (Statuses.Delivered moment) made line moment
        → Prepares (state_of k) (step.Deliver i r moment) change
    delivers place made line ready made_is line_is change change_is =
        settles_so (state_of k) (step.Deliver i r moment) deliver i r moment (Verdicts.Deliver place)
        (Statuses.Delivered moment) made line refl refl ready (place, (r, refl, ready.verdict_is))
        (found delivered (Statuses.Delivered moment) made line refl made_is
        (line_is ∙ sym (lines-are place ready.verdict_is))) change change_is

    pub affirms : (made : Made) → IsReady (state_of k) i r moment Verdicts.Affirm
        → made_items made ≡ made_of moment (made_by m item text r delivered moment)
        → (change : Option Change) → change ≡ settling_change m.items i r (Statuses.Affirmed moment) made None moment
        → Prepares (state_of k) (step.Affirm i r moment) change
    affirms made ready made_is change change_is =
        settles_so (state_of k) (step.Affirm i r moment) affirm i r moment Verdicts.Affirm
        (Statuses.Affirmed moment) made None refl refl ready (r, refl, ready.verdict_is)
        (found affirmed (Statuses.Affirmed moment) made None refl made_is refl) change change_is

    pub expands : (place : ℕ) (made : Made) (number : ℕ) → IsReady (state_of k) i r moment (Verdicts.Expand place)
        → number ≡ length m.items + 1 → made_items made ≡ made_of moment (expansion text number item r moment)
        → (change : Option Change) → change ≡ settling_change m.items i r (Statuses.Expanded moment) made None moment
        → Prepares (state_of k) (step.Expand i r moment) change
    expands place made number ready number_is made_is change change_is =
        settles_so (state_of k) (step.Expand i r moment) expand i r moment (Verdicts.Expand place)
        (Statuses.Expanded moment) made None refl refl ready (place, (r, refl, ready.verdict_is))
        (found expanded (Statuses.Expanded moment) made None refl
        (made_is ∙ ap (λ (n : ℕ). made_of moment (expansion text n item r moment)) number_is) refl) change change_is

    pub reports : (reason diagnostic : ℕ) (status : Status) (made : Made)
        → IsReady (state_of k) i r moment (Verdicts.NonDeliver reason diagnostic)
        → status ≡ status_after (is_report (value_of item.octets)) (not_delivered reason diagnostic) moment
        → made_items made ≡ made_of moment (made_by m item text r (not_delivered reason diagnostic) moment)
        → (change : Option Change) → change ≡ settling_change m.items i r status made None moment
        → Prepares (state_of k) (step.Report i r moment) change
    reports reason diagnostic status made ready status_is made_is change change_is =
        settles_so (state_of k) (step.Report i r moment) report i r moment (Verdicts.NonDeliver reason diagnostic)
        status made None refl refl ready (r, refl, ready.verdict_is)
        (found (not_delivered reason diagnostic) status made None status_is made_is refl) change change_is

    pub passes_back : (first : Option ItemValue) (items : List ItemValue)
        → IsReady (state_of k) i r moment Verdicts.Back → items ≡ m.items
        → first ≡ option_map (own_item moment) (passed_back text items item)
        → (change : Option Change)
        → change ≡ settling_change m.items i r (Statuses.Passed moment) (alone first) None moment
        → Prepares (state_of k) (step.Back i r moment) change
    passes_back first items ready items_are first_is change change_is =
        settles_so (state_of k) (step.Back i r moment) back i r moment Verdicts.Back (Statuses.Passed moment)
        (alone first) None refl refl ready (r, refl, ready.verdict_is)
        (found passed (Statuses.Passed moment) (alone first) None refl
        (made_alone first moment (passed_back text m.items item)
        (first_is
        ∙ ap (λ (xs : List ItemValue). option_map (own_item moment) (passed_back text xs item)) items_are)) refl)
        change change_is

    discards-there : IsReady (state_of k) i r moment Verdicts.Discard
        → (change : Option Change)
        → change ≡ settling_change m.items i r (Statuses.Discarded moment) (alone None) None moment
        → Prepares (state_of k) (step.Discard i r moment) change
    discards-there ready change change_is =
        settles_so (state_of k) (step.Discard i r moment) discard i r moment Verdicts.Discard
        (Statuses.Discarded moment) (alone None) None refl refl ready (r, refl, ready.verdict_is)
        (found discarded (Statuses.Discarded moment) (alone None) None refl refl refl) change change_is

pub discards : (k : Kept) (i r moment : ℕ) → IsReady (state_of k) i r moment Verdicts.Discard
    → (change : Option Change)
    → change
    ≡ settling_change k.parts.items.items i r (Statuses.Discarded moment) (alone None) None moment
    → Prepares (state_of k) (step.Discard i r moment) change
discards k i r moment ready change change_is =
    let t = there (machine_of k.parts) i r moment Verdicts.Discard ready.verdict_is in
    discards-there k t.text t.item i r moment t.text_is t.item_is ready change change_is

-- the verdict is the one before it is known what is passed back
pub settled-is : (m : Machine) (format i r moment : ℕ) (text : List ℕ) (item : ItemValue) → format ≡ m.format
    → numbered m.tables (last_tables m) ≡ Some text → numbered m.items i ≡ Some item
    → verdict_at m i r moment
    ≡ option_map (settled (passed_back text m.items item)) (verdict_of format text item.octets item.arrival r moment)
settled-is m format i r moment text item format_is text_is item_is =
    ap (λ (t : Option (List ℕ)). verdict_on m.format m.items t (numbered m.items i) r moment) text_is
    ∙ (ap (λ (x : Option ItemValue). verdict_on m.format m.items (Some text) x r moment) item_is
    ∙ ap (λ (f : ℕ). verdict_on f m.items (Some text) (Some item) r moment) (sym format_is))
