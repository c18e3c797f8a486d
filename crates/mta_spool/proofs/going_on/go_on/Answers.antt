use Rattle.std.proofs.Common.{◌≡◌, ◌≢◌, ℕ, eqb, true, List, map, inl, inr, ⊎_elim, refl, sym, ap, ◌∙◌, arith}
use Rattle.std.proofs.lemmas.Bool.{eqb-true}
use Rattle.std.proofs.lemmas.Result.{err_from_is_err_and}
use Rattle.std.specs.Prelude.{◌⊎◌}
use Rattle.mta_journal.specs.Shown.{Shown as JournalShown, IsPlain}
use Rattle.mta_records.specs.Body.{body_of}
use Rattle.mta_records.specs.declared.step.Step.{Step}
use Rattle.mta_histories.specs.Compact.{base}
use Rattle.mta_histories.specs.Lanes.{State}
use Rattle.mta_state.specs.Kept.{state_of}
use Rattle.mta_spool.specs.GoingOn.{IsGateFrom}
use Rattle.mta_spool.proofs.Compacted.{base_format, is_done}
use Rattle.mta_spool.proofs.Continuing.{becomes_next}
use Rattle.mta_spool.proofs.WaysOn.{base_size, compacted_stage, formatted, formatted_stage, gate_still, settled_stage}
use Rattle.mta_spool.proofs.WaysOn.{stopped, unformatted}
use Rattle.mta_spool.proofs.going_on.go_on.Goals as goal

-- a first area was not moved
same_size : {D : Type 0} (old mid : JournalShown D) → (IsPlain old.first → mid ≡ old) → eqb old.first 23 ≡ true
    → mid.size ≡ old.size
same_size old mid still e = ap (λ (j : JournalShown _). j.size) (still (inr (eqb-true old.first 23 e)))

-- and a second one was
gate_there : {D : Type 0} (old mid high : JournalShown D) → (IsPlain old.first → mid ≡ old)
    → IsPlain old.first ⊎ (mid.first ≡ 23) → high.first ≡ mid.first → IsGateFrom old.first high.first
gate_there old mid high still moved place = ⊎_elim {C = IsGateFrom old.first high.first}
    (λ (plain : IsPlain old.first).
    gate_still old.first high.first plain (place ∙ ap (λ (j : JournalShown _). j.first) (still plain)))
    (λ (at : mid.first ≡ 23). (
      (λ (e : old.first ≡ 8). place ∙ ap (λ (j : JournalShown _). j.first) (still (inl e)) ∙ e),
      (λ (other : old.first ≢ 8). place ∙ at),
    )) moved

pub returns-in_err-settle-clause-goes_on : goal.returns-in_err-settle-clause-goes_on
returns-in_err-settle-clause-goes_on g c = λ steps held.
    let p = err_from_is_err_and c.from_residual.result c.from_residual.ensures.1 in
    let b = c.in_err-settle.ensures.settled (state_of c.args.replay.now.kept) steps held in
    rw (p.1, p.2)
    (stopped g.D.Disk.model steps c.args.journal.now steps steps c.args.journal.now c.settle.new.journal _ _
    (omega arith) b
    (settled_stage g.D.Disk.model steps c.args.journal.now c.settle.new.journal _ _ b) c.in_err-settle.ensures.calm _)

pub compact-requires-clause-of_history : goal.compact-requires-clause-of_history
compact-requires-clause-of_history g c =
    let h = c.requires.of_history in
    (h.0, (c.in_ok-settle.ensures.settled (state_of c.args.replay.now.kept) h.0 h.1).done refl)

pub returns-in_err-snapshot-clause-goes_on : goal.returns-in_err-snapshot-clause-goes_on
returns-in_err-snapshot-clause-goes_on g c = λ steps held.
    let p =
    err_from_is_err_and c.from_residual-in_err-snapshot.result c.from_residual-in_err-snapshot.ensures.1 in
    let one = c.in_ok-settle.ensures.settled (state_of c.args.replay.now.kept) steps held in
    let b = becomes_next g.D.Disk.model steps (base (eqb c.args.journal.now.first 23) c.settle.new.journal.size steps)
    (base (eqb c.first-first_of_two.result 23) c.settle.new.journal.size steps) c.settle.new.journal
    c.compact.new.journal _ _
    (ap (λ (n : ℕ). base (eqb n 23) c.settle.new.journal.size steps) (sym c.first-first_of_two.ensures))
    (c.in_err-snapshot.ensures.compacted steps (one.done refl)) in
    let still = c.settle.ensures.still in
    rw (p.1, p.2)
    (stopped g.D.Disk.model steps c.args.journal.now steps _ c.settle.new.journal c.compact.new.journal _ _ one.later
    b
    (compacted_stage g.D.Disk.model steps c.args.journal.now c.settle.new.journal c.compact.new.journal _ _
    (same_size c.args.journal.now c.settle.new.journal still)
    (settled_stage g.D.Disk.model steps c.args.journal.now c.settle.new.journal _ _ one) b)
    c.in_err-snapshot.ensures.calm _)

pub set_format-requires-clause-of_history : goal.set_format-requires-clause-of_history
set_format-requires-clause-of_history g c =
    let h = c.requires.of_history in
    let one = c.in_ok-settle.ensures.settled (state_of c.args.replay.now.kept) h.0 h.1 in
    (_, (c.in_ok-snapshot.ensures.compacted h.0 (one.done refl)).done refl)

pub returns-in_err-sets_format-clause-goes_on : goal.returns-in_err-sets_format-clause-goes_on
returns-in_err-sets_format-clause-goes_on g c = λ steps held.
    let p =
    err_from_is_err_and c.from_residual-in_err-sets_format.result c.from_residual-in_err-sets_format.ensures.1 in
    let one = c.in_ok-settle.ensures.settled (state_of c.args.replay.now.kept) steps held in
    let two = becomes_next g.D.Disk.model steps
    (base (eqb c.args.journal.now.first 23) c.settle.new.journal.size steps)
    (base (eqb c.first-first_of_two.result 23) c.settle.new.journal.size steps) c.settle.new.journal
    c.compact.new.journal _ _
    (ap (λ (n : ℕ). base (eqb n 23) c.settle.new.journal.size steps) (sym c.first-first_of_two.ensures))
    (c.in_ok-snapshot.ensures.compacted steps (one.done refl)) in
    let b = c.in_err-sets_format.ensures.formatted _ (two.done refl) in
    let still = c.settle.ensures.still in
    let same = same_size c.args.journal.now c.settle.new.journal still in
    let stage = compacted_stage g.D.Disk.model steps c.args.journal.now c.settle.new.journal c.compact.new.journal _ _
    same (settled_stage g.D.Disk.model steps c.args.journal.now c.settle.new.journal _ _ one) two in
    rw (p.1, p.2)
    (unformatted g.D.Disk.model steps c.args.journal.now c.settle.new.journal c.compact.new.journal
    c.set_format.new.journal _ _ same
    (gate_there c.args.journal.now c.settle.new.journal c.compact.new.journal still c.in_ok-settle.ensures.moved
    c.in_ok-snapshot.ensures.place) (two.done refl) _ (omega (arith, one.later, two.later)) b
    (formatted_stage g.D.Disk.model steps c.args.journal.now c.settle.new.journal c.compact.new.journal
    c.set_format.new.journal _ _ same stage b) c.in_err-sets_format.ensures.full _)

pub returns-clause-goes_on : goal.returns-clause-goes_on
returns-clause-goes_on g c = λ steps held.
    let one = c.in_ok-settle.ensures.settled (state_of c.args.replay.now.kept) steps held in
    let two = becomes_next g.D.Disk.model steps
    (base (eqb c.args.journal.now.first 23) c.settle.new.journal.size steps)
    (base (eqb c.first-first_of_two.result 23) c.settle.new.journal.size steps) c.settle.new.journal
    c.compact.new.journal _ _
    (ap (λ (n : ℕ). base (eqb n 23) c.settle.new.journal.size steps) (sym c.first-first_of_two.ensures))
    (c.in_ok-snapshot.ensures.compacted steps (one.done refl)) in
    let b = c.in_ok-sets_format.ensures.formatted _ (two.done refl) in
    let still = c.settle.ensures.still in
    let same = same_size c.args.journal.now c.settle.new.journal still in
    let stage = compacted_stage g.D.Disk.model steps c.args.journal.now c.settle.new.journal c.compact.new.journal _ _
    same (settled_stage g.D.Disk.model steps c.args.journal.now c.settle.new.journal _ _ one) two in
    formatted g.D.Disk.model steps c.args.journal.now c.settle.new.journal c.compact.new.journal
    c.set_format.new.journal _ _ same
    (gate_there c.args.journal.now c.settle.new.journal c.compact.new.journal still c.in_ok-settle.ensures.moved
    c.in_ok-snapshot.ensures.place) (two.done refl) _ _ b
    (formatted_stage g.D.Disk.model steps c.args.journal.now c.settle.new.journal c.compact.new.journal
    c.set_format.new.journal _ _ same stage b) c.in_ok-sets_format.ensures.full c.in_ok-sets_format.ensures.place

pub returns-clause-shown : goal.returns-clause-shown
returns-clause-shown g c =
    let h = c.requires.of_history in
    let before = state_of c.args.replay.now.kept in
    let one = c.in_ok-settle.ensures.settled before h.0 h.1 in
    let two = becomes_next g.D.Disk.model h.0
    (base (eqb c.args.journal.now.first 23) c.settle.new.journal.size h.0)
    (base (eqb c.first-first_of_two.result 23) c.settle.new.journal.size h.0) c.settle.new.journal
    c.compact.new.journal _ _
    (ap (λ (n : ℕ). base (eqb n 23) c.settle.new.journal.size h.0) (sym c.first-first_of_two.ensures))
    (c.in_ok-snapshot.ensures.compacted h.0 (one.done refl)) in
    let same = same_size c.args.journal.now c.settle.new.journal c.settle.ensures.still in
    is_done c.args.journal.now before (state_of c.compact.new.replay.kept) c.in_ok-snapshot.snapshot.value
    c.in_ok-sets_format.sets_format.value
    (λ steps there.
    c.in_ok-snapshot.ensures.shown steps there
    ∙ ap (λ (n : ℕ). map body_of (base (eqb n 23) c.settle.new.journal.size steps)) c.first-first_of_two.ensures
    ∙ ap (map body_of) (base_size (eqb c.args.journal.now.first 23) c.settle.new.journal.size
    c.args.journal.now.size steps same))
    c.in_ok-sets_format.ensures.shown
    (λ steps there.
    ap (λ (s : State). s.machine.format) (two.done refl).state_is
    ∙ base_format (eqb c.args.journal.now.first 23) c.settle.new.journal.size h.0
    ∙ ap (λ (s : State). s.machine.format) (sym h.1.state_is ∙ there))
