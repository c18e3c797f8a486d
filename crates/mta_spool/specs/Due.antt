-- The steps that may be due.
use Rattle.mta_records.specs.declared.step.Step.{Step}
use Rattle.mta_histories.specs.Classes.{LaneStep, abandon, Class, begins, sets_format, records, accepts, settles, opens}
use Rattle.mta_histories.specs.Classes.{on_lane, class_of}

abbrev pub IsDueOnLane : LaneStep → Type 0
IsDueOnLane (abandon k) = Unit {0}
IsDueOnLane step = ⊥

abbrev pub IsDueClass : Class → Type 0
IsDueClass (begins t) = ⊥
IsDueClass sets_format = ⊥
IsDueClass (records text) = ⊥
IsDueClass (accepts octets) = ⊥
IsDueClass (settles how i r) = Unit {0}
IsDueClass (opens role peer reference twa checkpoint window) = ⊥
IsDueClass (on_lane n generation step) = IsDueOnLane step

-- it settles one recipient, or gives an activity up
abbrev pub IsDueStep : Step → Type 0
IsDueStep step = IsDueClass (class_of step)
