use Rattle.std.proofs.Common.{◌∙◌}
use Rattle.mta_spool.proofs.make.make_ready.Goals as goal

pub returns-clause-made : goal.returns-clause-made
returns-clause-made g c =
    c.keep.ensures.made c.args.step.now c.requires.fields (c.as_slice.ensures ∙ c.in-Ok.ensures) c.with-longer.ensures
    c.requires.ready c.requires.numbers
