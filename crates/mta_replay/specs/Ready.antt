-- What a step changes, with the rules that are in force from then on.
use Rattle.std.specs.Prelude.{◌≡◌, [], Bool, true, false, List, ℕ, Option, Some, None, Result, IsOk, IsErrOf}
use Rattle.mta_records.specs.declared.step.Step.{Step}
use Rattle.mta_histories.specs.Classes.{Class, begins, sets_format, records, accepts, settles, opens, on_lane, class_of}
use Rattle.mta_histories.specs.Lanes.{State}
use Rattle.mta_histories.specs.History.{IsPossible, after_step}
use Rattle.mta_state.specs.declared.change.Change.{Change}
use Rattle.mta_state.specs.Prepared.{IsChangeOf}
use Rattle.mta_state.specs.Readings.{IsReadingOf}
use Rattle.mta_state.specs.declared.readings.Reading.{Reading}
use Rattle.mta_machine.specs.Items.{ItemValue, Machine, numbered}
use Rattle.mta_replay.specs.declared.replay.InForce.{InForce}
use Rattle.mta_replay.specs.declared.replay.NotMade.{NotMade}
use Rattle.mta_replay.specs.declared.replay.NotMade.TheVariants as NotMades
use Rattle.mta_replay.specs.Expected.{AreQueuedUnder}
use Rattle.mta_replay.specs.Sound.{AreLast}

-- the rules are made anew for the step: it records tables, sets the format, or begins the history with a state
abbrev pub sets_rules : Class → Bool
sets_rules (begins t) = true
sets_rules sets_format = true
sets_rules (records text) = true
sets_rules (accepts octets) = false
sets_rules (settles how i r) = false
sets_rules (opens role peer reference twa checkpoint window) = false
sets_rules (on_lane n generation step) = false

-- the item of which a step settles a recipient; 0 where it settles none
abbrev pub settled_by : Class → ℕ
settled_by (begins t) = 0
settled_by sets_format = 0
settled_by (records text) = 0
settled_by (accepts octets) = 0
settled_by (settles how i r) = i
settled_by (opens role peer reference twa checkpoint window) = 0
settled_by (on_lane n generation step) = 0

-- where there is an item of this number it is read so
abbrev pub IsReadAt : List ItemValue → ℕ → Reading → Type 0
IsReadAt items i reading = (item : ItemValue) → numbered items i ≡ Some item → IsReadingOf item.octets reading

-- nothing is known of any item, nothing is at hand, and nobody was looked at
abbrev pub AreFresh : {R : Type 0} → Option (InForce R) → Type 0
AreFresh None = Unit {0}
AreFresh (Some force) =
    (force.index.agenda.known ≡ 0) × (force.index.spans ≡ []) × (force.index.hand ≡ None)
    × (force.index.looked ≡ None)

-- the rules that are made for a step: where they are made anew those in force behind it, and else none
abbrev pub AreMade : {R : Type 0} → (R → ℕ) → (R → List ℕ) → (anew : Bool) → Machine
    → Option (InForce R) → Type 0
AreMade format text true m rules = AreLast format text m rules
AreMade format text false m rules = rules ≡ None

-- the step is possible, and this is what it changes, with the rules that are made for it, under which nothing is known
-- of items yet, and the queues of peers are those behind the step
pub record IsReady {R : Type 0} (format : R → ℕ) (text : R → List ℕ) (s : State) (step : Step) (change : Change)
    (rules : Option (InForce R)) : Type 0 where
  pub is_change : IsChangeOf s step change
  pub under : AreMade format text (sets_rules (class_of step)) (after_step s step).machine rules
  pub fresh : AreFresh rules
  pub queued : AreQueuedUnder text (after_step s step) rules

-- a step was taken up where it is possible; Impossible comes only where it is not
pub record TakesUp (step : Step) (old new : State) (result : Result (Unit {0}) NotMade) : Type 0 where
  pub made : IsOk result → IsPossible old step × (new ≡ after_step old step)
  pub impossible : IsErrOf result NotMades.Impossible → IsPossible old step → ⊥
