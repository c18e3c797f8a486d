use Rattle.mta_marks.proofs.Adding.{adds_of}
use Rattle.mta_marks.proofs.open.Marks.add.Goals as goal

pub returns : goal.returns
returns g c = λ marks held can.
    rw c.end.ensures
    (adds_of g.E.Disk.model g.met.E.Disk.laws _ c.args.self c.self.view_is marks held c.args.mark.now c.requires.mark
    can
    c.append-outcome.new.journal c.append-outcome.result c.append-outcome.ensures)
