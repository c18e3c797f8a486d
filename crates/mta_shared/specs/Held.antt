-- A pass as contracts see it.
use Rattle.std.specs.Prelude.{◌≡◌, ℕ, List, [], ◌∷◌, Bool, true, false}
use Rattle.atomic_table.specs.Seated.{TableId}
use Rattle.mta_shared.specs.declared.history.Base.{Base}
use Rattle.mta_shared.specs.declared.history.View.{View}
use Rattle.atomic_table.specs.declared.badge.Badge.{Badge}
use Rattle.mta_shared.specs.Rule.{spent, IsFree, IsSound}

-- which lock it is
abbrev pub LockId : Type 0
LockId = TableId

-- `rests` says that it has no turn
pub record Held (E : Type 0) : Type 0 where
  pub lock : LockId
  pub rests : Bool
  pub seen : List E
  pub own : List ℕ
  pub parts : ℕ
  pub from : ℕ
  pub base : Base

abbrev pub held_as : {E : Type 0} → TableId → Bool → View E → Held E
held_as z b v = record {
  lock = z;
  rests = b;
  seen = v.seen;
  own = v.own;
  parts = v.parts;
  from = v.from;
  base =
      v.base;
}

abbrev pub held_by : {E : Type 0} → TableId → List (View E) → Held E
held_by z [] = held_as z false spent
held_by z (v ∷ vs) = held_as z true v

abbrev pub held : {E : Type 0} → Badge (View E) → Held E
held b = held_by b.table_id b.views

-- one view at most, between turns
abbrev pub Rests : {E : Type 0} → List (View E) → Type 0
Rests [] = Unit {0}
Rests (v ∷ vs) = IsFree v × IsSound v × (vs ≡ [])
