use Rattle.mta_ber.specs.Seen.{view}
use Rattle.mta_ber.specs.Strings.{joined, own_number}
use Rattle.mta_ber.specs.Segmented.{SpellsOctets}
use Rattle.mta_ber.proofs.StringLaws.{joined_sound, joined_full, reads_found, reads_as}
use Rattle.mta_ber.proofs.view.View.joined.Goals as goal

pub returns-clause-found : goal.returns-clause-found
returns-clause-found c =
    let v = c.args.self.now in
    reads_found (SpellsOctets (own_number v.tag) v.depth v.tag.constructed v.content.now) c.joined_by.result
    (joined (view v)) (rw c.own_number_of.ensures at c.joined_by.ensures)
    (λ o e. joined_sound (own_number v.tag) (view v) o v.shallow v.bytes e)

pub returns-clause-only : goal.returns-clause-only
returns-clause-only c = λ o h. let v = c.args.self.now in
    reads_as c.joined_by.result (joined (view v)) o (rw c.own_number_of.ensures at c.joined_by.ensures)
    (joined_full (own_number v.tag) (view v) o v.shallow h)
