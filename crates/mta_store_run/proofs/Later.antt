-- Deliveries keep their places over the steps of a history, and their items their octets.
use Rattle.std.proofs.Common.{◌≡◌, ◌≤◌, ◌<◌, length, Option, ap, subst, arith}
use Rattle.std.proofs.Common.{ℕ, zero, suc, Bool, true, false, cond, List, [], ◌∷◌, ◌++◌, Some, refl, sym, ◌∙◌}
use Rattle.std.specs.Prelude.{slice_get, filter}
use Rattle.std.specs.List.{AllByRecursion}
use Rattle.mta_histories.specs.Classes.{Class, accepts, begins, class_of, on_lane, opens, records, sets_format, settles}
use Rattle.mta_histories.specs.History.{ArePossible, StepNeeds, after_from, after_step, class_steps}
use Rattle.mta_histories.specs.History.{machine_left, when}
use Rattle.mta_histories.specs.Lanes.{State}
use Rattle.mta_histories.specs.Sound.{IsSound, IsSoundLine}
use Rattle.mta_machine.specs.Items.{ItemValue, Machine, numbered}
use Rattle.mta_machine.specs.Machine.{MachineStep, accept, discharge, lines_of, machine_after, machine_run, set_format}
use Rattle.mta_machine.specs.Machine.{set_tables}
use Rattle.mta_records.specs.declared.state.MailboxLine.{MailboxLine}
use Rattle.mta_records.specs.declared.step.Step.{Step}
use Rattle.mta_machine.proofs.Decided.{item-stays}
use Rattle.mta_show.specs.Mailbox.{is_for, item_if, octets_text}
use Rattle.mta_store_run.specs.Kept.{StepsKeepEntries}
use Rattle.mta_store_run.specs.Store.{deliveries}

-- each entry that these deliveries make, those make too, by the same number
abbrev Keeps : List MailboxLine → List MailboxLine → Type 0
Keeps these those =
    (mailbox : List ℕ) (number : ℕ) (line : MailboxLine) → numbered (deliveries mailbox these) number ≡ Some line
    → numbered (deliveries mailbox those) number ≡ Some line

keeps_place : (p : MailboxLine → Bool) (lines more : List MailboxLine) (k : ℕ) (line : MailboxLine)
    → slice_get (filter p lines) k ≡ Some line → slice_get (filter p (lines ++ more)) k ≡ Some line
keeps_place p [] more k line e = absurd cc
keeps_place p (x ∷ lines) more k line e = by (p x) k (λ j. keeps_place p lines more j line) e
  where
    by : (b : Bool) (k : ℕ)
        → ((j : ℕ) → slice_get (filter p lines) j ≡ Some line → slice_get (filter p (lines ++ more)) j ≡ Some line)
        → slice_get (cond b (x ∷ filter p lines) (filter p lines)) k ≡ Some line
        → slice_get (cond b (x ∷ filter p (lines ++ more)) (filter p (lines ++ more))) k ≡ Some line
    by true zero rest e = e
    by true (suc j) rest e = rest j e
    by false j rest e = rest j e

keeps_behind : (lines more : List MailboxLine) → Keeps lines (lines ++ more)
keeps_behind lines more mailbox zero line e = absurd cc
keeps_behind lines more mailbox (suc k) line e = keeps_place (is_for mailbox) lines more k line e

-- ---- items

-- each item has in the later list the octets that it has in this one
abbrev KeepsItems : List ItemValue → List ItemValue → Type 0
KeepsItems these those =
    (i : ℕ) (x : ItemValue) → numbered these i ≡ Some x
    → (y : ItemValue) × (numbered those i ≡ Some y) × (y.octets ≡ x.octets)

items_step : (m : Machine) (step : MachineStep) → KeepsItems m.items (machine_after m step).items
items_step m step i x e = let r = item-stays m step i x e in (r.0, r.1, r.2.octets)

-- ---- both over steps

-- what a later machine keeps of entries
record KeepsEntries (m n : Machine) : Type 0 where
  lines : Keeps m.mailboxes n.mailboxes
  items : KeepsItems m.items n.items

keeps_same : (m n : Machine) → n.mailboxes ≡ m.mailboxes → n.items ≡ m.items → KeepsEntries m n
keeps_same m n lines items = record {
  lines = subst (λ (ls : List MailboxLine). Keeps m.mailboxes ls) (sym lines) (λ mailbox number line e. e);
  items = subst (λ (xs : List ItemValue). KeepsItems m.items xs) (sym items) (λ i x e. (x, e, refl));
}

keeps_then : (m n o : Machine) → KeepsEntries m n → KeepsEntries n o → KeepsEntries m o
keeps_then m n o a b = record {
  lines = λ mailbox number line e. b.lines mailbox number line (a.lines mailbox number line e);
  items = λ i x e. let r = a.items i x e in let t = b.items i r.0 r.1 in (t.0, t.1, t.2 ∙ r.2);
}

lines_step : (m : Machine) (step : MachineStep) → Keeps m.mailboxes (machine_after m step).mailboxes
lines_step m (set_tables text) = λ mailbox number line e. e
lines_step m set_format = λ mailbox number line e. e
lines_step m (accept octets origin moment) = λ mailbox number line e. e
lines_step m (discharge i rs how moment) = keeps_behind m.mailboxes (lines_of m i rs how moment)

keeps_run : (m : Machine) (steps : List MachineStep) → KeepsEntries m (machine_run m steps)
keeps_run m [] = keeps_same m m refl refl
keeps_run m (step ∷ steps) =
    keeps_then m (machine_after m step) (machine_run (machine_after m step) steps)
    (record { lines = lines_step m step; items = items_step m step }) (keeps_run (machine_after m step) steps)

true_not_false : true ≡ false → ⊥
true_not_false e = cc

keeps_class : (s : State) (c : Class) (moment : ℕ) → s.begun ≡ true → StepNeeds s c moment
    → KeepsEntries s.machine (machine_left s c moment)
keeps_class s (begins t) moment begun needs = absurd (true_not_false (sym begun ∙ needs.first))
keeps_class s sets_format moment begun needs = keeps_run s.machine (class_steps s sets_format moment)
keeps_class s (records text) moment begun needs = keeps_run s.machine (class_steps s (records text) moment)
keeps_class s (accepts octets) moment begun needs = keeps_run s.machine (class_steps s (accepts octets) moment)
keeps_class s (settles how i r) moment begun needs = keeps_run s.machine (class_steps s (settles how i r) moment)
keeps_class s (opens role peer reference twa checkpoint window) moment begun needs =
    keeps_run s.machine (class_steps s (opens role peer reference twa checkpoint window) moment)
keeps_class s (on_lane n generation step) moment begun needs =
    keeps_run s.machine (class_steps s (on_lane n generation step) moment)

keeps_from : (s : State) (steps : List Step) → s.begun ≡ true → ArePossible s steps
    → KeepsEntries s.machine (after_from s steps).machine
keeps_from s [] begun possible = keeps_same s.machine s.machine refl refl
keeps_from s (step ∷ steps) begun possible =
    keeps_then s.machine (after_step s step).machine (after_from (after_step s step) steps).machine
    (keeps_class s (class_of step) (when s step) begun possible.0.allowed)
    (keeps_from (after_step s step) steps refl possible.1)

-- ---- an entry has an item

got_of : (P : MailboxLine → Type 0) (p : MailboxLine → Bool) (lines : List MailboxLine) (k : ℕ) (line : MailboxLine)
    → AllByRecursion P lines → slice_get (filter p lines) k ≡ Some line → P line
got_of P p [] k line each e = absurd cc
got_of P p (x ∷ lines) k line each e = by (p x) k (λ j. got_of P p lines j line each.1) e
  where
    same_line : (y z : MailboxLine) → ◌≡◌ {A = Option MailboxLine} (Some y) (Some z) → y ≡ z
    same_line y z f = cc

    by : (b : Bool) (k : ℕ) → ((j : ℕ) → slice_get (filter p lines) j ≡ Some line → P line)
        → slice_get (cond b (x ∷ filter p lines) (filter p lines)) k ≡ Some line → P line
    by true zero rest f = subst P (same_line x line f) each.0
    by true (suc j) rest f = rest j f
    by false j rest f = rest j f

sound_entry : (s : State) (mailbox : List ℕ) (number : ℕ) (line : MailboxLine) → IsSound s
    → numbered (deliveries mailbox s.machine.mailboxes) number ≡ Some line → IsSoundLine s line
sound_entry s mailbox zero line sound e = absurd cc
sound_entry s mailbox (suc k) line sound e =
    got_of (IsSoundLine s) (is_for mailbox) s.machine.mailboxes k line sound.lines e

got_item : (xs : List ItemValue) (k : ℕ) → k < length xs → (x : ItemValue) × (slice_get xs k ≡ Some x)
got_item [] k few = absurd (omega (arith, few))
got_item (x ∷ xs) zero few = (x, refl)
got_item (x ∷ xs) (suc k) few = got_item xs k (omega (arith, few))

has_item : (xs : List ItemValue) (n : ℕ) → 1 ≤ n → n ≤ length xs → (x : ItemValue) × (numbered xs n ≡ Some x)
has_item xs zero from most = absurd (omega (arith, from))
has_item xs (suc k) from most = got_item xs k (omega (arith, most))

pub steps_keep_entries : StepsKeepEntries
steps_keep_entries mailbox number line s steps begun sound possible e =
    let keeps = keeps_from s steps begun possible in
    let is = sound_entry s mailbox number line sound e in
    let old = has_item s.machine.items line.item is.some_item is.item in
    let new = keeps.items line.item old.0 old.1 in
    record {
      place = keeps.lines mailbox number line e;
      text = ap item_if new.1 ∙ (ap octets_text new.2 ∙ sym (ap item_if old.1));
    }
