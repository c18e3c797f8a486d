use Rattle.mta_records.specs.declared.step.Step.TheVariants as steps
use Rattle.mta_spool.proofs.Lengths.{short_brief}
use Rattle.mta_spool.proofs.OnLanes.{bind_possible, bind_numbers}
use Rattle.mta_spool.proofs.spool.Spool.bind_open.Goals as goal

pub make-requires-clause-short : goal.make-requires-clause-short
make-requires-clause-short g c = short_brief (steps.Bind c.args.lane c.args.generation) tt

pub make-requires-clause-possible : goal.make-requires-clause-possible
make-requires-clause-possible g c =
    bind_possible c.args.self.now.current c.args.lane c.args.generation c.requires.few c.requires.next

pub make-requires-clause-numbers : goal.make-requires-clause-numbers
make-requires-clause-numbers g c =
    bind_numbers c.args.self.now.current c.args.lane c.args.generation c.requires.few
