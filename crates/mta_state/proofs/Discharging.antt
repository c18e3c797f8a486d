-- A step that settles one recipient, and what it changes.
use Rattle.std.proofs.Common.{◌≡◌, ◌≤◌, ◌<◌, ◌^◌, ℕ, List, [], ◌∷◌, ◌++◌, length}
use Rattle.std.proofs.Common.{true, Option, Some, sym, ap, subst, ◌∙◌}
use Rattle.std.specs.Prelude.{option_to_list}
use Rattle.mta_records.specs.declared.step.Step.{Step}
use Rattle.mta_records.specs.declared.state.Status.{Status}
use Rattle.mta_records.specs.declared.state.MailboxLine.{MailboxLine}
use Rattle.mta_machine.specs.Apdu.{value_of, is_report}
use Rattle.mta_machine.specs.Items.{ItemValue, Machine, numbered, set_numbered}
use Rattle.mta_machine.specs.Machine.{Discharge, discharge, Needs, verdict_at, status_after}
use Rattle.mta_machine.specs.Machine.{items_after, machine_after}
use Rattle.mta_state.specs.Settled.{settled, put_settled, with_settled}
use Rattle.mta_state.specs.Parts.{made_items, settled_machine}
use Rattle.mta_state.specs.declared.parts.Made.{Made}
use Rattle.mta_histories.specs.Lanes.{Lanes, State, IsFree}
use Rattle.mta_histories.specs.Classes.{Settling, Class, settles, class_of, moment_of}
use Rattle.mta_histories.specs.History.{StepNeeds, MachineNeeds, discharge_by, machine_left}
use Rattle.mta_histories.specs.History.{lanes_after, later, when}
use Rattle.mta_state.specs.declared.change.Change.TheVariants as change
use Rattle.mta_state.specs.Prepared.{IsChangeOf}
use Rattle.mta_state.specs.Settling.{IsDischarge}

abbrev machine_with : Machine → List ItemValue → List MailboxLine → ℕ → Machine
machine_with m items lines moment = record m { items = items; mailboxes = lines; moment = moment }

-- the change of the machine is the discharge
pub discharged : (m : Machine) (i r : ℕ) (how : Discharge) (moment : ℕ) (status : Status) (made : List ItemValue)
    (lines : List MailboxLine) → IsDischarge m i r how moment status made lines
    → settled_machine m i (r ∷ []) status made lines moment ≡ machine_after m (discharge i (r ∷ []) how moment)
discharged m i r how moment status made lines is =
    ap (λ (items : List ItemValue). machine_with m items (m.mailboxes ++ lines) moment) items
    ∙ ap (λ (ls : List MailboxLine). machine_with m (items_after m (numbered m.items i) i (r ∷ []) how moment)
    (m.mailboxes ++ ls) moment) is.lines_are
  where
    item_status : settled is.item (r ∷ []) status
        ≡ settled is.item (r ∷ []) (status_after (is_report (value_of is.item.octets)) how moment)
    item_status = ap (λ (s : Status). settled is.item (r ∷ []) s) is.status_is

    items : with_settled m.items i (r ∷ []) status ++ made
        ≡ items_after m (numbered m.items i) i (r ∷ []) how moment
    items =
        ap (λ (o : Option ItemValue). put_settled m.items i o (r ∷ []) status ++ made) is.item_is
        ∙ (ap (λ (x : ItemValue). set_numbered m.items i x ++ made) item_status
        ∙ (ap (λ (xs : List ItemValue). set_numbered m.items i
        (settled is.item (r ∷ []) (status_after (is_report (value_of is.item.octets)) how moment)) ++ xs)
        is.made_is
        ∙ sym (ap (λ (o : Option ItemValue). items_after m o i (r ∷ []) how moment) is.item_is)))

abbrev state : Machine → Lanes → ℕ → State
state m l t = record { machine = m; lanes = l; moment = t; begun = true }

module _ (s : State) (step : Step) (how : Settling) (i r moment : ℕ) (status : Status) (made : Made)
    (line : Option MailboxLine) (class_is : class_of step ≡ settles how i r) (moment_is : moment_of step
    ≡ Some moment)
  where
    abbrev by : Discharge
    by = discharge_by how (verdict_at s.machine i r moment)

    when_is : when s step ≡ moment
    when_is = ap (λ (t : Option ℕ). later s.moment t) moment_is

    left_is : machine_left s (class_of step) (when s step)
        ≡ machine_after s.machine (discharge i (r ∷ []) by moment)
    left_is =
        ap (λ (k : Class). machine_left s k (when s step)) class_is
        ∙ ap (λ (t : ℕ). machine_left s (settles how i r) t) when_is

    abbrev new : Machine
    new = settled_machine s.machine i (r ∷ []) status (made_items made) (option_to_list line) moment

    pub machine_is : IsDischarge s.machine i r by moment status (made_items made) (option_to_list line)
        → new ≡ machine_left s (class_of step) (when s step)
    machine_is is =
        discharged s.machine i r by moment status (made_items made) (option_to_list line) is ∙ sym left_is

    lanes_are : s.lanes ≡ lanes_after s (class_of step) (when s step)
    lanes_are = ap (λ (k : Class). lanes_after s k (when s step)) (sym class_is)

    -- a step that settles one recipient changes what the discharge makes
    pub settle_changes : IsFree s i r → Needs s.machine (discharge i (r ∷ []) by moment) → s.moment ≤ moment
        → IsDischarge s.machine i r by moment status (made_items made) (option_to_list line)
        → length new.items < 2 ^ 32 → IsChangeOf s step (change.Settle i r status made line moment)
    settle_changes free needs timely is few = record {
      possible = record {
        allowed = subst (λ (k : Class). StepNeeds s k (when s step)) (sym class_is) free;
        as_machine = subst (λ (k : Class). MachineNeeds s k (when s step)) (sym class_is)
            (subst (λ (t : ℕ). MachineNeeds s (settles how i r) t) (sym when_is) needs);
        timely = subst (λ (t : ℕ). s.moment ≤ t) (sym when_is) timely;
        numbers = subst (λ (m : Machine). length m.items < 2 ^ 32) (machine_is is) few;
      };
      after =
          ap (λ (m : Machine). state m s.lanes moment) (machine_is is)
          ∙ (ap (λ (l : Lanes). state (machine_left s (class_of step) (when s step)) l moment) lanes_are
          ∙ ap (λ (t : ℕ). state (machine_left s (class_of step) (when s step))
          (lanes_after s (class_of step) (when s step)) t) (sym when_is));
      can = tt;
    }
