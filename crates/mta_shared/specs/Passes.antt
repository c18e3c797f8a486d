-- What contracts see of a lock and a turn.
use Rattle.std.specs.Prelude.{◌≡◌, ◌-◌, ◌<◌, List, [], ◌∷◌, ◌++◌, length, true, Option, None}
use mathlib.Core.List.{IsPrefix}
use Rattle.atomic_table.specs.Table.{Me}
use Rattle.atomic_table.specs.Seated.{TableId}
use Rattle.atomic_table.specs.declared.shared.Seat.{Seat}
use Rattle.mta_shared.specs.declared.history.View.{View}
use Rattle.mta_shared.specs.declared.lock.Shared.{Shared}
use Rattle.mta_shared.specs.declared.lock.Turn.{Turn}
use Rattle.mta_shared.specs.Held.{Held, held_as}
use Rattle.mta_shared.specs.Rule.{IsFree, IsSound}
use Rattle.mta_shared.specs.Counts.{row}

-- the pass is of this lock, and has no turn
abbrev pub IsReady : {E : Type 0} → TableId → Held E → Type 0
IsReady z p = (p.lock ≡ z) × (p.rests ≡ true)

-- the pass after a turn that left the history xs
abbrev pub grown : {E : Type 0} → List E → Held E → Held E
grown xs p = record p { seen = xs; own = p.own ++ row (length p.seen) (length xs - length p.seen) }

-- what a worker may have done with its pass
pub record Worked {E : Type 0} (p q : Held E) : Type 0 where
  pub lock : q.lock ≡ p.lock
  pub rests : q.rests ≡ true
  pub seen : IsPrefix p.seen q.seen
  pub own : IsPrefix p.own q.own
  pub parts : q.parts ≡ p.parts
  pub base : q.base ≡ p.base
  pub from : q.from ≡ p.from

module _ {V E : Type 0} where
  -- which lock it is
  abbrev pub lock_of : Shared V E → TableId
  lock_of s = s.table.shared.table_id

  -- what the pass knew when the turn began, with the history as it was then
  abbrev pub begun : Turn V E → Held E
  begun t = held_as t.seat.table_id true t.seat.me.0

module _ {E V : Type 0} where
  -- what a seat knows and holds in a turn, with the value taken out of the slot
  pub record InTurn (m : Me (Option V) (View E)) : Type 0 where
    pub turn : m.0.turn ≡ true
    pub no_met : m.0.met ≡ []
    pub alive : 0 < m.0.parts
    pub out : m.1 ≡ (0, None) ∷ []
    pub sound : IsSound m.0

  -- a seat between turns
  pub record Sits (m : Me (Option V) (View E)) : Type 0 where
    pub empty : m.1 ≡ []
    pub free : IsFree m.0
    pub sound : IsSound m.0

  abbrev pub sitting : Seat (Option V) (View E) → Held E
  sitting s = held_as s.table_id true s.me.0

module _ {V E : Type 0} where
  -- the turn was taken, and not given back
  abbrev pub IsTaken : Turn V E → Type 0
  IsTaken t = InTurn t.seat.me
