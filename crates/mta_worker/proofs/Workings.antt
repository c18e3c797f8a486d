-- What turns of the lock do of what is due, and how many there can be in which a step is made.
use Rattle.std.proofs.Common.{◌≡◌, ◌⊎◌, ℕ, ◌+◌, ◌-◌, ◌≤◌, ◌<◌, List, [], ◌∷◌}
use Rattle.std.proofs.Common.{◌++◌, length, map, None, Some}
use Rattle.std.proofs.Common.{Result, Ok, Err, Bool, true, false, inl, inr, refl, sym, ap, subst, arith}
use Rattle.std.proofs.Common.{length-append}
use Rattle.std.proofs.lemmas.Bool.{cases_lt}
use Rattle.mta_edge.specs.Views.{ClockView, DiskView}
use Rattle.mta_journal.specs.Appending.{journal_limit}
use Rattle.mta_journal.specs.Bodies.{open_record, records}
use Rattle.mta_images.specs.Image.{size_of}
use Rattle.mta_images.proofs.Bodies.{size-more}
use Rattle.mta_records.specs.declared.step.Step.{Step}
use Rattle.mta_records.specs.declared.fault.StepFault.{StepFault}
use Rattle.mta_records.specs.declared.fault.StepFault.TheVariants as StepFaults
use Rattle.mta_records.specs.Body.{body_of}
use Rattle.mta_shared.proofs.Fronts.{prefix_length}
use Rattle.mta_shared.specs.Held.{Held}
use Rattle.mta_shared.specs.Rule.{Grows}
use Rattle.mta_spool.specs.Shown.{Shown}
use Rattle.mta_spool.specs.Stands.{Appends, IsOfNoRefusal, IsSpent, need_of, Stands}
use Rattle.mta_spool.specs.Turning.{Turns}
use Rattle.mta_spool.specs.declared.spool.Turned.{Turned}
use Rattle.mta_spool.specs.declared.spool.Turned.TheVariants.{Did, Quiet}
use Rattle.mta_worker.proofs.Growing.{appended, unchanged}
use Rattle.mta_worker.specs.Serving.{InTurn}
use Rattle.mta_worker.specs.Working.{TurnsOnce}

-- what every step needs at least
count_in_records : (steps : List Step) → length steps ≤ length (records (map body_of steps))
count_in_records [] = omega arith
count_in_records (s ∷ steps) =
    let rest : List ℕ = records (map body_of steps) in
    let e : length (open_record (body_of s) ++ rest) ≡ length (open_record (body_of s)) + length rest =
    length-append (open_record (body_of s)) rest in
    omega (arith, e, count_in_records steps)

count_in_size : (first : ℕ) (steps : List Step) → length steps ≤ size_of first steps
count_in_size first steps = omega (arith, count_in_records steps)

module _ {D C : Type 0} (disks : DiskView D) (clocks : ClockView C) where
  turns_grow : (m : ℕ) (old new : Shown D C) (x : Result Turned StepFault) → Turns disks m old new x
      → Grows old.entries new.entries
  turns_grow m old new (Ok (Did step)) t = appended disks clocks step old new None t.1
  turns_grow m old new (Ok (Quiet at)) t = unchanged disks clocks old new t.3
  turns_grow m old new (Err fault) (inl ended) = unchanged disks clocks old new ended.2
  turns_grow m old new (Err fault) (inr (inl memory)) = unchanged disks clocks old new memory.2
  turns_grow m old new (Err fault) (inr (inr r)) = appended disks clocks r.1.0 old new (Some fault) r.1.2

  pub turned_grows : (old new : Shown D C) (x : Result Turned StepFault) → TurnsOnce disks clocks old x new
      → Grows old.entries new.entries
  turned_grows old new x t = turns_grow _ old new x t.at

  -- what `give` asks of a turn that began so
  pub given_grows : (b p : Held Step) (old new : Shown D C) → b ≡ record p { seen = old.entries }
      → Grows old.entries new.entries → Grows b.seen new.entries
  given_grows b p old new e grows =
      subst (λ (xs : List Step). Grows xs new.entries) (sym (ap (λ (h : Held Step). h.seen) e)) grows

  -- ---- how many turns there can be in which a step is made

  goes_on : (step : Step) (old new : Shown D C) → Appends disks step old new None → old.journal.ended ≡ false
  goes_on step old new appends = ended old.journal.ended refl
    where
      ended : (b : Bool) → old.journal.ended ≡ b → old.journal.ended ≡ false
      ended true e = let f = appends.ended.1 e in absurd cc
      ended false e = e

  no_refusal : (step : Step) (old new : Shown D C) → Appends disks step old new None → old.journal.ended ≡ false
      → IsOfNoRefusal old.current step
  no_refusal step old new appends going f stands = refused (appends.row_where going f stands)
    where
      refused : (None ≡ Some f) ⊎ (None ≡ Some StepFaults.Memory) → ⊥
      refused (inl e) = cc
      refused (inr e) = cc

  numbers_left : (step : Step) (old new : Shown D C) → Appends disks step old new None
      → old.journal.ended ≡ false → IsSpent old.current step → ⊥
  numbers_left step old new appends going spent =
      let e = appends.spent_where going (no_refusal step old new appends going) spent in cc

  -- a step that was made fits
  fits : (step : Step) (old new : Shown D C) → Appends disks step old new None → old.journal.ended ≡ false
      → old.journal.size + need_of step ≤ journal_limit
  fits step old new appends going =
      elim (cases_lt journal_limit (old.journal.size + need_of step)) [
        | inl over ↦ absurd (refused (appends.full_where going (no_refusal step old new appends going)
            (numbers_left step old new appends going) over))
        | inr fit ↦ fit
      ]
    where
      refused : (None ≡ Some (StepFaults.Full old.journal.size (need_of step))) ⊎ (None ≡ Some StepFaults.Memory)
          → ⊥
      refused (inl e) = cc
      refused (inr e) = cc

  -- the steps that were made are not more than the octets of the journal
  few : (first : List Step) (step : Step) (old new : Shown D C) → Appends disks step old new None
      → old.journal.ended ≡ false → Stands disks old (first ++ old.entries)
      → length old.entries + 1 ≤ journal_limit
  few first step old new appends going stands =
      let fit = fits step old new appends going in
      let more = size-more old.journal.first (first ++ old.entries) step in
      let count = count_in_size old.journal.first ((first ++ old.entries) ++ step ∷ []) in
      let one : length ((first ++ old.entries) ++ step ∷ []) ≡ length (first ++ old.entries) + 1 =
      length-append (first ++ old.entries) (step ∷ []) in
      let both : length (first ++ old.entries) ≡ length first + length old.entries =
      length-append first old.entries in
      omega (arith, fit, more, count, one, both, stands.holds.size)

  -- the pass has seen more behind a turn in which a step is made, and never more than the journal's limit
  pub did_less : (step : Step) (p q : Held Step)
      → InTurn disks clocks (λ s t. TurnsOnce disks clocks s (Ok (Did step)) t) p q
      → journal_limit - length q.seen < journal_limit - length p.seen
  did_less step p q i =
      let appends = i.did.at.1 in
      let going = goes_on step i.before i.after appends in
      let most = few i.keeps.first step i.before i.after appends going (i.keeps.stands going) in
      let low = prefix_length p.seen i.before.entries i.begins in
      let e : length i.after.entries ≡ length (i.before.entries ++ step ∷ []) = ap length appends.entries in
      let one : length (i.before.entries ++ step ∷ []) ≡ length i.before.entries + 1 =
      length-append i.before.entries (step ∷ []) in
      let seen : length q.seen ≡ length i.after.entries = ap (λ (h : Held Step). length h.seen) i.left in
      omega (arith, most, low, e, one, seen)

  pub did_turned : (t : Turned) (step : Step) (p q : Held Step) → t ≡ Did step
      → InTurn disks clocks (λ s u. TurnsOnce disks clocks s (Ok t) u) p q
      → journal_limit - length q.seen < journal_limit - length p.seen
  did_turned t step p q e i =
      did_less step p q
      (subst (λ (x : Turned). InTurn disks clocks (λ s u. TurnsOnce disks clocks s (Ok x) u) p q) e i)
