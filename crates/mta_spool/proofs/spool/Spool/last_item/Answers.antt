use Rattle.std.proofs.Common.{◌≡◌, true, refl, sym, ap, subst, ◌∙◌}
use Rattle.mta_records.specs.declared.step.Step.TheVariants as steps
use Rattle.mta_records.specs.declared.fault.StepFault.{StepFault}
use Rattle.mta_histories.specs.Classes.{class_of, complete}
use Rattle.mta_histories.specs.History.{when}
use Rattle.mta_histories.specs.Lanes.{lane_at}
use Rattle.mta_spool.specs.OnLanes.{refusal_on}
use Rattle.mta_spool.specs.Receiving.{IsBad, IsExpected, IsNoApdu}
use Rattle.mta_spool.specs.Refusals.{IsRefused}
use Rattle.mta_spool.specs.Shown.{Shown}
use Rattle.mta_spool.proofs.Pieces.{bad_complete, complete_refused, lane_receives, may_complete}
use Rattle.mta_spool.proofs.spool.Spool.last_item.Goals as goal

pub returns-then-not-expects_piece-clause-refused : goal.returns-then-not-expects_piece-clause-refused
returns-then-not-expects_piece-clause-refused g c =
    let s = c.args.self.now.current in
    let piece = c.args.piece.now in
    let moment = c.args.moment in
    let step = steps.Complete c.args.lane c.args.generation c.args.activity c.args.number piece moment in
    let iff = c.expects_piece.ensures.completes moment in
    let never : IsExpected s c.args.lane c.args.generation (complete c.args.activity c.args.number piece) moment → ⊥ =
    λ is. let does : c.expects_piece.result ≡ true = iff.1 is in
    let isnt = c.if-not-expects_piece.true in absurd cc in
    let going = sym (ap (λ (v : Shown _ _). v.journal.ended) c.self.view_is) ∙ sym c.is_ended.ensures
    ∙ c.if-is_ended.false in
    let fault : c.refusal_on-fault.result
    ≡ refusal_on (lane_at c.args.lane s.lanes.open_lanes) c.args.lane c.args.generation =
    c.refusal_on-fault.ensures
    ∙ ap (λ (v : Shown _ _). refusal_on (lane_at c.args.lane v.current.lanes.open_lanes) c.args.lane c.args.generation)
    c.self.view_is in
    lane_receives g.D.Disk.model step
    (λ f.
    IsBad s c.args.lane c.args.generation (complete c.args.activity c.args.number piece) moment
    (IsNoApdu c.args.number piece f))
    c.args.self.now c.args.self.now
    (λ f bad. never (bad_complete s c.args.lane c.args.generation c.args.activity c.args.number piece moment f bad))
    c.refusal_on-fault.result (refl, refl, refl) going
    (subst (λ (f : StepFault). IsRefused s (class_of step) (when s step) f) (sym fault)
    (complete_refused s c.args.lane c.args.generation c.args.activity c.args.number piece moment never))

pub returns-in-Ok-clause-allowed : goal.returns-in-Ok-clause-allowed
returns-in-Ok-clause-allowed g c =
    let iff = c.expects_piece.ensures.completes c.args.moment in
    may_complete c.args.self.now.current c.args.lane c.args.generation c.args.activity c.args.number c.args.piece.now
    c.args.moment c.in-Ok.item (iff.0 c.if-not-expects_piece.false) c.in-Ok.ensures.item
