use Rattle.mta_ber.proofs.LentLaws.{plain_found, plain_only}
use Rattle.mta_ber.proofs.view.View.plain.Goals as goal

pub returns-clause-found : goal.returns-clause-found
returns-clause-found c = let v = c.args.self.now in
    plain_found v.depth v.tag.constructed v.content c.plain_of.result v.shallow c.plain_of.ensures

pub returns-clause-only : goal.returns-clause-only
returns-clause-only c = let v = c.args.self.now in
    plain_only v.depth v.tag.constructed v.content c.plain_of.result v.shallow c.plain_of.ensures
