use Rattle.std.proofs.Common.{◌≡◌, ℕ, ◌+◌, Bool, true, false, List, ◌∷◌, [], length, Result, Ok, Err, Some, Option}
use Rattle.std.proofs.Common.{refl, sym}
use Rattle.std.proofs.Common.{ap, subst, ◌∙◌, arith}
use Rattle.std.specs.Prelude.{IfOk}
use Rattle.std.proofs.lemmas.Result.{err_from_is_err_and}
use Rattle.mta_records.specs.Body.{body_of, HasFields}
use Rattle.mta_records.specs.Sizes.{capped}
use Rattle.mta_records.specs.State.{SnapshotValue}
use Rattle.mta_records.specs.declared.step.Step.{Step}
use Rattle.mta_records.specs.declared.step.Step.TheVariants.{Snapshot}
use Rattle.mta_histories.specs.Compact.{base, compact, compact_need, shrinks, snapshot_of}
use Rattle.mta_histories.specs.History.{after, IsPossible}
use Rattle.mta_histories.specs.Lanes.{State, empty}
use Rattle.mta_journal.specs.Shown.{Shown as JournalShown}
use Rattle.mta_state.specs.Kept.{state_of}
use Rattle.mta_spool.specs.GoingOn.{Becomes, Shows}
use Rattle.mta_spool.proofs.Compacted.{base_compact, base_same, CanCompact, can_compact, short_stays, shows_some}
use Rattle.mta_spool.proofs.Continuing.{becomes_none, becomes_same}
use Rattle.mta_spool.proofs.going_on.compact.Goals as goal
use Rattle.mta_spool.proofs.going_on.compact.Goals.{then-not-first_of_two-via-then-not-first_of_two}
use Rattle.mta_spool.proofs.going_on.compact.Goals.{then-not-first_of_two-via-else-not-first_of_two+then-size-lt-FEWEST_OCTETS}

-- so many octets the snapshot of the state after these steps needs
needed : (need : ℕ) (t : SnapshotValue) (s : State) (steps : List Step)
    → need ≡ capped (length (body_of (Snapshot t)) + 5) → t ≡ snapshot_of s → s ≡ after steps
    → need ≡ capped (compact_need steps)
needed need t s steps is taken there =
    is ∙ ap (λ (x : SnapshotValue). capped (length (body_of (Snapshot x)) + 5))
    (taken ∙ ap (λ (x : State). snapshot_of x) there)

-- what the test says of the history
decided : (answer : Bool) (need size m : ℕ) (steps : List Step)
    → ((n : ℕ) → need ≡ capped n → answer ≡ shrinks true m n) → need ≡ capped (compact_need steps) → m ≡ size
    → shrinks true size (compact_need steps) ≡ answer
decided answer need size m steps test is same =
    ap (λ (n : ℕ). shrinks true n (compact_need steps)) (sym same) ∙ sym (test (compact_need steps) is)

if-ok : {A E : Type 0} (r : Result A E) (P Q : A → Type 0) → ((x : A) → P x → Q x) → IfOk r P → IfOk r Q
if-ok (Ok x) P Q more p = more x p
if-ok (Err e) P Q more p = p

pub returns-then-not-first_of_two-clause-compacted : goal.returns-then-not-first_of_two-clause-compacted
returns-then-not-first_of_two-clause-compacted g c = λ steps held.
    let same = becomes_same g.D.Disk.model g.met.D.Disk.laws steps c.args.journal.now _ held c.args.journal.now
    (state_of c.args.replay.now.kept) c.of.result refl refl in
    elim c.then-not-first_of_two.branch [
      | then-not-first_of_two-via-then-not-first_of_two w ↦
          subst
          (λ (next : List Step).
          Becomes g.D.Disk.model steps next c.args.journal.now c.args.journal.now (state_of c.args.replay.now.kept)
          (Ok c.of.result))
          (sym (ap (λ (b : Bool). base b c.args.journal.now.size steps) w.if-not-first_of_two.true)) same
      | then-not-first_of_two-via-else-not-first_of_two+then-size-lt-FEWEST_OCTETS w ↦
          subst
          (λ (next : List Step).
          Becomes g.D.Disk.model steps next c.args.journal.now c.args.journal.now (state_of c.args.replay.now.kept)
          (Ok c.of.result))
          (sym (short_stays c.args.first_of_two c.args.journal.now.size steps
          (omega (arith, w.if-size-lt-FEWEST_OCTETS.true, w.size.ensures)))) same
    ]

pub returns-in_err-state-clause-compacted : goal.returns-in_err-state-clause-compacted
returns-in_err-state-clause-compacted g c = λ steps held.
    let p = err_from_is_err_and c.from_residual.result c.from_residual.ensures.1 in
    rw (p.1, p.2)
    (becomes_none g.D.Disk.model g.met.D.Disk.laws steps c.args.journal.now _ held _ c.args.journal.now _ refl)

pub returns-then-not-does_shrink-clause-compacted : goal.returns-then-not-does_shrink-clause-compacted
returns-then-not-does_shrink-clause-compacted g c = λ steps held.
    let is = needed c.octets_needed.result c.in_ok-state.state (state_of c.args.replay.now.kept) steps
    c.octets_needed.ensures c.in_ok-state.ensures held.state_is in
    let answer = decided false c.octets_needed.result c.args.journal.now.size c.size-2.result steps
    c.if-not-does_shrink.ensures is c.size-2.ensures in
    subst
    (λ (next : List Step).
    Becomes g.D.Disk.model steps next c.args.journal.now c.args.journal.now (state_of c.args.replay.now.kept)
    (Ok c.of-then-not-does_shrink.result))
    (sym (ap (λ (b : Bool). base b c.args.journal.now.size steps) c.if-not-first_of_two.false
    ∙ base_same c.args.journal.now.size steps answer))
    (becomes_same g.D.Disk.model g.met.D.Disk.laws steps c.args.journal.now _ held c.args.journal.now
    (state_of c.args.replay.now.kept) c.of-then-not-does_shrink.result refl refl)

pub rewrite-requires-clause-fields : goal.rewrite-requires-clause-fields
rewrite-requires-clause-fields g c =
    let h = c.requires.of_history in
    let is = needed c.octets_needed.result c.in_ok-state.state (state_of c.args.replay.now.kept) h.0
    c.octets_needed.ensures c.in_ok-state.ensures h.1.state_is in
    let answer = decided true c.octets_needed.result c.args.journal.now.size c.size-2.result h.0
    c.if-not-does_shrink.ensures is c.size-2.ensures in
    subst (λ (t : SnapshotValue). HasFields (Snapshot t))
    (sym (c.in_ok-state.ensures ∙ ap (λ (s : State). snapshot_of s) h.1.state_is))
    (can_compact h.0 h.1.each h.1.history c.args.journal.now.size answer).fields

pub rewrite-requires-clause-possible : goal.rewrite-requires-clause-possible
rewrite-requires-clause-possible g c =
    let h = c.requires.of_history in
    let is = needed c.octets_needed.result c.in_ok-state.state (state_of c.args.replay.now.kept) h.0
    c.octets_needed.ensures c.in_ok-state.ensures h.1.state_is in
    let answer = decided true c.octets_needed.result c.args.journal.now.size c.size-2.result h.0
    c.if-not-does_shrink.ensures is c.size-2.ensures in
    subst (λ (t : SnapshotValue). IsPossible empty (Snapshot t))
    (sym (c.in_ok-state.ensures ∙ ap (λ (s : State). snapshot_of s) h.1.state_is))
    (can_compact h.0 h.1.each h.1.history c.args.journal.now.size answer).possible

pub returns-clause-shown : goal.returns-clause-shown
returns-clause-shown g c =
    if-ok c.rewrite.result _ _
    (λ o is.
    subst (Shows c.args.journal.now (state_of c.args.replay.now.kept) c.args.first_of_two) (sym is)
    (subst
    (λ (b : Bool).
    Shows c.args.journal.now (state_of c.args.replay.now.kept) b (Some (body_of (Snapshot c.in_ok-state.state))))
    (sym c.if-not-first_of_two.false)
    (shows_some c.args.journal.now (state_of c.args.replay.now.kept) c.in_ok-state.state
    (λ steps there.
    let need_is = needed c.octets_needed.result c.in_ok-state.state (state_of c.args.replay.now.kept) steps
    c.octets_needed.ensures c.in_ok-state.ensures there in
    let answer = decided true c.octets_needed.result c.args.journal.now.size c.size-2.result steps
    c.if-not-does_shrink.ensures need_is c.size-2.ensures in
    base_compact c.args.journal.now.size steps answer
    ∙ ap (λ (t : SnapshotValue). Snapshot t ∷ [])
    (sym (c.in_ok-state.ensures ∙ ap (λ (s : State). snapshot_of s) there))))))
    c.rewrite.ensures.shown
