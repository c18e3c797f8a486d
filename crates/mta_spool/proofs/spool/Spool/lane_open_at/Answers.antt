use Rattle.std.proofs.Common.{◌≡◌, ◌≤◌, ℕ, List, true, false, length, refl, sym, ap, subst, ◌∙◌}
use Rattle.mta_journal.specs.Bodies.{longest_body}
use Rattle.mta_records.specs.Body.{HasFields, body_of}
use Rattle.mta_records.specs.declared.fault.StepFault.TheVariants as StepFaults
use Rattle.mta_records.specs.declared.step.Step.TheVariants as steps
use Rattle.mta_spool.specs.Shown.{Shown}
use Rattle.mta_spool.proofs.Making.{refused_for_lane}
use Rattle.mta_spool.proofs.Opened.{opening_fields, opening_short}
use Rattle.mta_spool.proofs.spool.Spool.lane_open_at.Goals as goal

pub returns-then-not-may_open-clause-made : goal.returns-then-not-may_open-clause-made
returns-then-not-may_open-clause-made g c =
    let s = c.args.self.now.current in
    let going = sym (ap (λ (v : Shown _ _). v.journal.ended) c.self.view_is) ∙ sym c.is_ended.ensures
    ∙ c.if-is_ended.false in
    refused_for_lane g.D.Disk.model
    (steps.LaneOpen c.args.role c.args.peer.now c.args.reference c.args.twa c.args.checkpoint c.args.window
    c.args.moment)
    StepFaults.Unexpected c.args.self.now.journal c.args.self.now.journal s s refl refl going
    (λ may.
    let does : c.may_open.result ≡ true = c.may_open.ensures.1 may in
    let isnt : c.may_open.result ≡ false = c.if-not-may_open.true in
    absurd cc)

pub returns-then-count-ge-MOST_LANES-clause-made : goal.returns-then-count-ge-MOST_LANES-clause-made
returns-then-count-ge-MOST_LANES-clause-made g c =
    let s = c.args.self.now.current in
    let going = sym (ap (λ (v : Shown _ _). v.journal.ended) c.self.view_is) ∙ sym c.is_ended.ensures
    ∙ c.if-is_ended.false in
    refused_for_lane g.D.Disk.model
    (steps.LaneOpen c.args.role c.args.peer.now c.args.reference c.args.twa c.args.checkpoint c.args.window
    c.args.moment)
    (StepFaults.BusyLanes c.open_with-count.result) c.args.self.now.journal c.args.self.now.journal s s refl refl going
    (c.may_open.ensures.0 c.if-not-may_open.false, c.open_with-count.ensures, c.if-count-ge-MOST_LANES.true)

pub make-requires-clause-fields : goal.make-requires-clause-fields
make-requires-clause-fields g c =
    subst
    (λ (w : List ℕ).
    HasFields (steps.LaneOpen c.args.role w c.args.reference c.args.twa c.args.checkpoint c.args.window c.args.moment))
    (sym c.in_ok-peer.ensures)
    (opening_fields c.args.self.now.current c.args.role c.args.peer.now c.args.reference c.args.checkpoint
    c.args.window c.args.twa c.args.moment (c.may_open.ensures.0 c.if-not-may_open.false) c.reference_fits.ensures
    c.requires.fits)

pub make-requires-clause-short : goal.make-requires-clause-short
make-requires-clause-short g c =
    subst
    (λ (w : List ℕ).
    length (body_of (steps.LaneOpen c.args.role w c.args.reference c.args.twa c.args.checkpoint c.args.window
    c.args.moment)) ≤ longest_body)
    (sym c.in_ok-peer.ensures)
    (opening_short c.args.self.now.current c.args.role c.args.peer.now c.args.reference c.args.checkpoint
    c.args.window c.args.twa c.args.moment (c.may_open.ensures.0 c.if-not-may_open.false) c.reference_fits.ensures)
