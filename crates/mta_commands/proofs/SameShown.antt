-- What is shown of the history for which a disk stood, and of the one with which opening goes on.
use Rattle.std.proofs.Common.{◌≡◌, ℕ, eqb, Bool, true, false, List, [], ◌∷◌, ◌++◌, refl, ap, ◌∙◌}
use Rattle.std.specs.Prelude.{if◌then◌else◌}
use Rattle.mta_records.specs.declared.step.Step.{Step}
use Rattle.mta_records.specs.declared.step.Step.TheVariants.{Format}
use Rattle.mta_histories.specs.Compact.{base, compact, compact_need, opened, shrinks}
use Rattle.mta_histories.specs.History.{after, after_step, IsHistory}
use Rattle.mta_histories.specs.Lanes.{State, empty}
use Rattle.mta_histories.proofs.Runs.{after_from-more}
use Rattle.mta_images.specs.Image.{AreRecords}
use Rattle.mta_images.specs.Opened.{Opens}
use Rattle.mta_show.specs.Compacted.{mailbox_of, queue_of}
use Rattle.mta_show.proofs.Compacted.{mailboxes_print_the_same, queues_print_the_same}
use Rattle.mta_spool.proofs.Compacted.{CanCompact, can_compact}
use Rattle.mta_commands.specs.Causes.{mailbox_named}

module _ {A : Type 0} (shown : State → A)
    (format : (s : State) → shown (after_step s (Format 2)) ≡ shown s)
    (compacts : (steps : List Step) → CanCompact steps → shown (after (compact steps)) ≡ shown (after steps)) where
  base_same : (b : Bool) (size : ℕ) (steps : List Step) → AreRecords steps → IsHistory steps
      → shown (after (base b size steps)) ≡ shown (after steps)
  base_same false size steps each history = refl
  base_same true size steps each history = by (shrinks true size (compact_need steps)) refl
    where
      by : (c : Bool) → shrinks true size (compact_need steps) ≡ c
          → shown (after (if c then compact steps else steps)) ≡ shown (after steps)
      by true e = compacts steps (can_compact steps each history size e)
      by false e = refl

  opened_same : (b : Bool) (size : ℕ) (steps : List Step) → AreRecords steps → IsHistory steps
      → shown (after (opened b size steps)) ≡ shown (after steps)
  opened_same b size steps each history = by (eqb (after steps).machine.format 2)
    where
      more : shown (after (base b size steps ++ Format 2 ∷ [])) ≡ shown (after (base b size steps))
      more = ap shown (after_from-more empty (base b size steps) (Format 2)) ∙ format (after (base b size steps))

      by : (c : Bool)
          → shown (after (if c then base b size steps else base b size steps ++ Format 2 ∷ [])) ≡ shown (after steps)
      by true = base_same b size steps each history
      by false = more ∙ base_same b size steps each history

  pub opens_same : (f : List ℕ) (found steps : List Step) → Opens f found steps
      → shown (after steps) ≡ shown (after found)
  opens_same f found steps o =
      ap (λ (x : List Step). shown (after x)) o.goes_on_is
      ∙ opened_same o.is.first_of_two o.is.size found o.is.stands.each o.is.stands.history

pub queue_same : (f : List ℕ) (found steps : List Step) → Opens f found steps
    → queue_of (after steps) ≡ queue_of (after found)
queue_same = opens_same queue_of (λ s. refl) (λ steps c. queues_print_the_same (after steps) c.sound c.short)

pub mailbox_same : (name : List ℕ) (f : List ℕ) (found steps : List Step) → Opens f found steps
    → mailbox_of name (after steps) ≡ mailbox_of name (after found)
mailbox_same name =
    opens_same (mailbox_of name) (λ s. refl) (λ steps c. mailboxes_print_the_same name (after steps) c.sound c.short)

pub named_same : (name : List ℕ) (f : List ℕ) (found steps : List Step) → Opens f found steps
    → mailbox_named (after steps) name ≡ mailbox_named (after found) name
named_same name = opens_same (λ s. mailbox_named s name) (λ s. refl) (λ steps c. refl)
