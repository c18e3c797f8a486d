use Rattle.std.proofs.Common.{List, ℕ, inl, inr, ⊎_elim, refl, sym, ap, ◌∙◌}
use Rattle.std.proofs.lemmas.Bool.{cases_eq}
use Rattle.std.specs.Prelude.{◌≡◌, ◌≢◌}
use Rattle.mta_journal.specs.Shown.{IsPlain}
use Rattle.mta_state.specs.Kept.{state_of}
use Rattle.mta_spool.specs.GoingOn.{IsGateFrom}
use Rattle.mta_spool.specs.Shown.{compacted_to, with_format}
use Rattle.mta_spool.proofs.Given.{gone_on, not_found, not_gone_on}
use Rattle.mta_spool.proofs.Keeping.{keeps_opened}
use Rattle.mta_spool.proofs.spool.Spool.open.Goals as goal

-- the records stand in the only area or in the first one then
plain-from : (first gate : ℕ) → IsGateFrom first gate → IsPlain gate
plain-from first gate is = ⊎_elim {C = IsPlain gate} (λ (e : first ≡ 8). inl (is.0 e))
    (λ (other : first ≢ 8). inr (is.1 other)) (cases_eq first 8)

pub returns-in-Err-clause-refused : goal.returns-in-Err-clause-refused
returns-in-Err-clause-refused g c =
    rw c.why_of_journal-why.ensures
    (not_found g.D.Disk.model c.args.disk c.in-Err.field-0.disk c.in-Err.field-0.why c.in-Err.ensures.refused)

pub invariant_of-result : goal.invariant_of-result
invariant_of-result g c =
    let found = c.in-Ok.ensures.found in
    record {
      sound = c.in-Ok-go_on.ensures.sound;
      plain = plain-from c.in-Ok.found.journal.first c.go_on.new.journal.first
          ((c.in-Ok-go_on.ensures.goes_on found.steps found.held).place refl);
    }

pub returns-in-Ok-go_on-clause-opened : goal.returns-in-Ok-go_on-clause-opened
returns-in-Ok-go_on-clause-opened g c =
    let found = c.in-Ok.ensures.found in
    let done = c.in-Ok-go_on.ensures.shown in
    gone_on g.D.Disk.model c.args.disk c.in-Ok.found.journal (state_of c.in-Ok.found.replay.kept)
    c.in-Ok.found.bodies.value.items c.in-Ok.found.synced.value found _ _
    (c.in-Ok-go_on.ensures.goes_on found.steps found.held) refl c.new.ensures c.of-handed.ensures
    c.disk_now-over.ensures (c.of-first.ensures ∙ c.first-gate.ensures) refl
    (ap (compacted_to c.in-Ok-go_on.field-0.snapshot.value) found.bodies_are
    ∙ done.0 found.steps found.held.state_is)
    (ap
    (λ (bodies : List (List ℕ)).
    with_format c.in-Ok-go_on.field-0.sets_format.value
    (compacted_to c.in-Ok-go_on.field-0.snapshot.value bodies)) found.bodies_are
    ∙ done.1 found.steps found.held.state_is)

pub returns-in-Ok-go_on-clause-keeps : goal.returns-in-Ok-go_on-clause-keeps
returns-in-Ok-go_on-clause-keeps g c =
    keeps_opened g.D.Disk.model g.C.Clock.model g.met.D.Disk.laws g.met.C.Clock.laws c.args.disk _
    (returns-in-Ok-go_on-clause-opened g c) (sym c.of-at_hand.ensures)

pub returns-in-Err-go_on-clause-refused : goal.returns-in-Err-go_on-clause-refused
returns-in-Err-go_on-clause-refused g c =
    let found = c.in-Ok.ensures.found in
    rw c.end.ensures
    (not_gone_on g.D.Disk.model c.args.disk c.in-Ok.found.journal (state_of c.in-Ok.found.replay.kept)
    c.in-Ok.found.bodies.value.items c.in-Ok.found.synced.value found c.go_on.new.journal _ c.in-Err-go_on.why
    (c.in-Err-go_on.ensures.goes_on found.steps found.held))
