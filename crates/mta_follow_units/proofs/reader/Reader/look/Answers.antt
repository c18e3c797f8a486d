-- What is seen stands there, and nothing behind it.
use Rattle.std.proofs.Common.{◌≡◌, ◌<◌, sym, subst}
use Rattle.mta_follow_units.specs.Feed.{Feed, wanted}
use Rattle.mta_follow_units.specs.Laws.{StandsAlone}
use Rattle.mta_follow_units.specs.Look.{Cut, look}
use Rattle.mta_follow_units.proofs.LookLaws.{stands}
use Rattle.mta_follow_units.proofs.SizeLaws.{cut_wants, stands_alone}
use Rattle.mta_follow_units.proofs.reader.Reader.look.Goals as goal

pub returns-clause-stands : goal.returns-clause-stands
returns-clause-stands c =
    let P : Feed → Type 0 = λ f. StandsAlone c.args.due (look c.args.due f.left) f.left in
    let octets = c.self.inside.octets.items in
    subst P c.self.view_is
    (stands_alone c.args.due (look c.args.due octets) octets c.self.invariant.within
    (stands c.args.due octets c.self.invariant.bytes))

pub returns-clause-wants : goal.returns-clause-wants
returns-clause-wants c =
    let P : Feed → Type 0 = λ f. look c.args.due f.left ≡ Cut → 0 < wanted f.left in
    let octets = c.self.inside.octets.items in
    subst P c.self.view_is (cut_wants c.args.due octets c.self.invariant.bytes)
