use Rattle.std.proofs.Common.{◌≡◌, true, refl, sym, ap, subst, ◌∙◌}
use Rattle.mta_records.specs.declared.step.Step.TheVariants as steps
use Rattle.mta_records.specs.declared.fault.StepFault.{StepFault}
use Rattle.mta_histories.specs.Classes.{class_of, secure}
use Rattle.mta_histories.specs.History.{when}
use Rattle.mta_histories.specs.Lanes.{lane_at}
use Rattle.mta_spool.specs.OnLanes.{refusal_on}
use Rattle.mta_spool.specs.Receiving.{IsBad, IsExpected, IsTooLong}
use Rattle.mta_spool.specs.Refusals.{IsRefused}
use Rattle.mta_spool.specs.Shown.{Shown}
use Rattle.mta_spool.proofs.Pieces.{bad_secure, lane_receives, secure_refused}
use Rattle.mta_spool.proofs.spool.Spool.check_secure.Goals as goal

pub returns-then-not-expects_piece-clause-refused : goal.returns-then-not-expects_piece-clause-refused
returns-then-not-expects_piece-clause-refused g c =
    let s = c.args.self.now.current in
    let piece = c.args.piece.now in
    let step = steps.Secure c.args.lane c.args.generation c.args.activity c.args.number piece in
    let never : IsExpected s c.args.lane c.args.generation (secure c.args.activity c.args.number piece) s.moment → ⊥ =
    λ is. let does : c.expects_piece.result ≡ true = c.expects_piece.ensures.secures.1 is in
    let isnt = c.if-not-expects_piece.true in absurd cc in
    let going = sym (ap (λ (v : Shown _ _). v.journal.ended) c.self.view_is) ∙ sym c.is_ended.ensures
    ∙ c.if-is_ended.false in
    let fault : c.refusal_on-fault.result
    ≡ refusal_on (lane_at c.args.lane s.lanes.open_lanes) c.args.lane c.args.generation =
    c.refusal_on-fault.ensures
    ∙ ap (λ (v : Shown _ _). refusal_on (lane_at c.args.lane v.current.lanes.open_lanes) c.args.lane c.args.generation)
    c.self.view_is in
    lane_receives g.D.Disk.model step
    (λ f.
    IsBad s c.args.lane c.args.generation (secure c.args.activity c.args.number piece) s.moment
    (IsTooLong c.args.number piece f))
    c.args.self.now c.args.self.now
    (λ f bad. never (bad_secure s c.args.lane c.args.generation c.args.activity c.args.number piece s.moment f bad))
    c.refusal_on-fault.result (refl, refl, refl) going
    (subst (λ (f : StepFault). IsRefused s (class_of step) (when s step) f) (sym fault)
    (secure_refused s c.args.lane c.args.generation c.args.activity c.args.number piece s.moment never))

pub returns-then-not-expects_piece-clause-too_long : goal.returns-then-not-expects_piece-clause-too_long
returns-then-not-expects_piece-clause-too_long g c going f bad =
    let is = bad_secure c.args.self.now.current c.args.lane c.args.generation c.args.activity c.args.number
    c.args.piece.now c.args.self.now.current.moment f bad in
    let does : c.expects_piece.result ≡ true = c.expects_piece.ensures.secures.1 is in
    let isnt = c.if-not-expects_piece.true in absurd cc
