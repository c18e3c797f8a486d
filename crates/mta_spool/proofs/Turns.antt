-- What a turn leaves, seen from before its clock was asked.
use Rattle.std.proofs.Common.{inl, inr, ℕ, List, Some, Result, Ok, Err, sym, subst}
use Rattle.mta_edge.specs.Views.{DiskView}
use Rattle.mta_journal.specs.Shown.{Shown as JournalShown}
use Rattle.mta_records.specs.declared.step.Step.{Step}
use Rattle.mta_records.specs.declared.fault.StepFault.{StepFault}
use Rattle.mta_histories.specs.Lanes.{State}
use Rattle.mta_spool.specs.declared.spool.Turned.{Turned}
use Rattle.mta_spool.specs.declared.spool.Turned.TheVariants.{Did, Quiet}
use Rattle.mta_spool.specs.Shown.{AtOpening, Shown}
use Rattle.mta_spool.specs.Stands.{IsOfNoLane, fault_of}
use Rattle.mta_spool.specs.Turning.{IsUnchanged, Turns}
use Rattle.mta_spool.proofs.Dues.{next_not_refused}
use Rattle.mta_spool.proofs.Refused.{no_lane}

module _ {D C : Type 0} (model : DiskView D) (when : ℕ) where
  abbrev TurnsBy : C → AtOpening D C → Shown D C → Result Turned StepFault → JournalShown D → State → List Step → Type 0
  TurnsBy clock opened new result journal state entries =
      Turns model when
      (record { journal = journal; clock = clock; current = state; entries = entries; opened = opened }) new result

  along : (old mid new : Shown D C) (result : Result Turned StepFault) → IsUnchanged old mid
      → TurnsBy mid.clock mid.opened new result mid.journal mid.current mid.entries
      → TurnsBy mid.clock mid.opened new result old.journal old.current old.entries
  along old mid new result same t =
      subst (TurnsBy mid.clock mid.opened new result old.journal old.current) same.2
      (subst (λ (s : State). TurnsBy mid.clock mid.opened new result old.journal s mid.entries) same.1
      (subst (λ (j : JournalShown D). TurnsBy mid.clock mid.opened new result j mid.current mid.entries) same.0 t))

  pub turns_along : (old mid new : Shown D C) (result : Result Turned StepFault) → IsUnchanged old mid
      → Turns model when mid new result → Turns model when old new result
  turns_along old mid new (Ok (Did step)) same t = along old mid new (Ok (Did step)) same t
  turns_along old mid new (Ok (Quiet at)) same t = along old mid new (Ok (Quiet at)) same t
  turns_along old mid new (Err fault) same t = along old mid new (Err fault) same t

  -- no step of a turn is refused for a lane
  pub turns_no_lane : (old new : Shown D C) (result : Result Turned StepFault) → Turns model when old new result
      → IsOfNoLane (fault_of result)
  turns_no_lane old new (Ok x) t = tt
  turns_no_lane old new (Err fault) (inl ended) = subst (λ (f : StepFault). IsOfNoLane (Some f)) (sym ended.0) tt
  turns_no_lane old new (Err fault) (inr (inl memory)) =
      subst (λ (f : StepFault). IsOfNoLane (Some f)) (sym memory.0) tt
  turns_no_lane old new (Err fault) (inr (inr refused)) =
      no_lane (Some fault) (λ f e of.
      next_not_refused old.current when refused.1.0 refused.1.1 f (refused.1.2.row f e of))
