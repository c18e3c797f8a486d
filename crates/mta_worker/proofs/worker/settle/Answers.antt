use Rattle.std.proofs.Common.{[], ◌∷◌, ◌++◌, ◌∙◌, refl}
use Rattle.mta_worker.proofs.Working.{dues_did, quiet, refused}
use Rattle.mta_worker.proofs.Turning.{worked_self, worked_trans}
use Rattle.mta_worker.proofs.Workings.{did_turned}
use Rattle.mta_worker.proofs.worker.settle.Goals as goal

pub loop-step-init : goal.loop-step-init
loop-step-init g c = record {
  ready = c.requires.ready;
  worked = worked_self c.args.pass.now c.requires.ready.1;
  dues = ([], refl);
}

pub returns-in-Ok-Quiet-clause-worked : goal.returns-in-Ok-Quiet-clause-worked
returns-in-Ok-Quiet-clause-worked g c =
    worked_trans c.args.pass.now c.loop-step.pass c.due_turn.new.pass c.loop-step.invariant.worked
    c.due_turn.ensures.worked

pub returns-in-Ok-Quiet-clause-settled : goal.returns-in-Ok-Quiet-clause-settled
returns-in-Ok-Quiet-clause-settled g c =
    let dues = c.loop-step.invariant.dues in
    quiet g.D.Disk.model g.C.Clock.model c.args.pass.now dues.0 c.loop-step.pass c.due_turn.new.pass
    c.in-Ok-Quiet.field-0 _ dues.1 c.in-Ok-Quiet.field-0-is c.in-Ok-Quiet.ensures.turned

pub returns-in-Err-clause-worked : goal.returns-in-Err-clause-worked
returns-in-Err-clause-worked g c =
    worked_trans c.args.pass.now c.loop-step.pass c.due_turn.new.pass c.loop-step.invariant.worked
    c.due_turn.ensures.worked

pub returns-in-Err-clause-settled : goal.returns-in-Err-clause-settled
returns-in-Err-clause-settled g c =
    let dues = c.loop-step.invariant.dues in
    refused g.D.Disk.model g.C.Clock.model c.args.pass.now dues.0 c.loop-step.pass c.due_turn.new.pass
    c.in-Err.fault c.halt_of.result dues.1 c.in-Err.ensures.turned c.halt_of.ensures

pub loop-step-smaller : goal.loop-step-smaller
loop-step-smaller g c =
    did_turned g.D.Disk.model g.C.Clock.model c.in-Ok-Did.field-0 c.in-Ok-Did.step c.loop-step.pass
    c.due_turn.new.pass c.in-Ok-Did.field-0-is c.in-Ok-Did.ensures.turned

pub loop-step-preserved : goal.loop-step-preserved
loop-step-preserved g c =
    let i = c.loop-step.invariant in
    let worked = c.due_turn.ensures.worked in
    record {
      ready = (worked.lock ∙ i.ready.0, worked.rests);
      worked = worked_trans c.args.pass.now c.loop-step.pass c.due_turn.new.pass i.worked worked;
      dues = (
        i.dues.0 ++ c.due_turn.new.pass ∷ [],
        dues_did g.D.Disk.model g.C.Clock.model c.args.pass.now i.dues.0 c.loop-step.pass c.due_turn.new.pass
            c.in-Ok-Did.field-0 c.in-Ok-Did.step i.dues.1 c.in-Ok-Did.field-0-is c.in-Ok-Did.ensures.turned,
      );
    }
