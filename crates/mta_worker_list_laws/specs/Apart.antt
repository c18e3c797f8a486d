-- What a session puts that has no lane, and what it does behind its last call.
use Rattle.std.specs.Prelude.{Bool, ℕ, List, [], ◌∷◌}
use Rattle.mta_units.specs.declared.unit.Unit.{Unit as AnyUnit}
use Rattle.mta_units.specs.declared.unit.Unit.TheVariants as unit
use Rattle.mta_transfer_rules.specs.Lanes.{Seen}
use Rattle.mta_session.specs.State.{State}
use Rattle.mta_session.specs.declared.event.Action.{Action}
use Rattle.mta_session.specs.declared.event.Event.TheVariants as event
use Rattle.mta_transfer_laws.specs.Sessions.{Put, SessionEvent}
use Rattle.mta_session_list_laws.specs.Over.{tail_of}
use Rattle.mta_worker_list_laws.specs.Begun.{IsOver, over_as}

-- Reject and Abort end an association that is not to be had (X.228, RTORJ and RTAB)
abbrev pub IsApart : AnyUnit → Type 0
IsApart (unit.Reject reason) = Unit {0}
IsApart (unit.Abort reason) = Unit {0}
IsApart x = ⊥

-- only such units are put
abbrev pub PutsApart : List SessionEvent → Type 0
PutsApart [] = Unit {0}
PutsApart (Put x ∷ es) = IsApart x × PutsApart es
PutsApart (e ∷ es) = PutsApart es

-- the events behind the last call: what came of its action, and the Abort of a session that is given up
abbrev pub events_over : {spells : List ℕ → Bool} {history : List Seen} {from upto : ℕ} {u : State} {b : Action}
    → IsOver spells history from upto u b → List SessionEvent
events_over {b = b} o = tail_of b (over_as o)
