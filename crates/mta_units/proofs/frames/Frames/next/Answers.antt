-- What is answered continues the one reading.
use Rattle.mta_units.proofs.ReadingLaws.{if_ok, next_reads, next_says, next_cut, next_bad, next_unit}
use Rattle.mta_units.proofs.frames.Frames.next.Goals as goal

pub returns-clause-reading : goal.returns-clause-reading
returns-clause-reading c = λ us stream h.
    if_ok c.next_of.result _ _ c.next_of.ensures.exact
    (λ n goes. next_reads c.args.self.now c.next_of.new.self n c.next_of.ensures.bytes c.next_of.ensures.kept goes
    us stream h)

pub returns-clause-says : goal.returns-clause-says
returns-clause-says c =
    if_ok c.next_of.result _ _ c.next_of.ensures.exact
    (λ n goes. next_says c.args.self.now c.next_of.new.self n c.next_of.ensures.bytes c.next_of.ensures.kept goes)

pub returns-clause-more : goal.returns-clause-more
returns-clause-more c = λ h.
    if_ok c.next_of.result _ _ c.next_of.ensures.exact
    (λ n goes. next_cut c.args.self.now c.next_of.new.self n c.next_of.ensures.bytes c.next_of.ensures.kept goes h)

pub returns-clause-bad : goal.returns-clause-bad
returns-clause-bad c = λ k h.
    if_ok c.next_of.result _ _ c.next_of.ensures.exact
    (λ n goes. next_bad c.args.self.now c.next_of.new.self n c.next_of.ensures.bytes c.next_of.ensures.kept goes k
    h)

pub returns-clause-unit : goal.returns-clause-unit
returns-clause-unit c = λ u first rest h e.
    if_ok c.next_of.result _ _ c.next_of.ensures.exact
    (λ n goes. next_unit c.args.self.now c.next_of.new.self n c.next_of.ensures.bytes c.next_of.ensures.kept goes u
    first rest h e)
