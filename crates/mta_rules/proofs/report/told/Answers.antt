use Rattle.mta_rules.proofs.Made.{told_so}
use Rattle.mta_rules.proofs.report.told.Goals as goal

pub returns : goal.returns
returns c =
    told_so c.args.about c.args.destination c.args.recipients c.new.result c.new-2.result c.new-3.result c.new.ensures
    c.new-2.ensures c.new-3.ensures
