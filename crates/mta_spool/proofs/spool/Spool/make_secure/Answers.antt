use Rattle.std.proofs.Common.{None, Some, Ok, Err, refl, arith}
use Rattle.mta_records.specs.declared.fault.CompleteFault.TheVariants as CompleteFaults
use Rattle.mta_spool.proofs.Pieces.{secure_numbers, secure_possible, secured, secured_fits, short_secure}
use Rattle.mta_spool.proofs.spool.Spool.make_secure.Goals as goal

pub make-requires-clause-fields : goal.make-requires-clause-fields
make-requires-clause-fields g c =
    let s = c.args.self.now.current in
    let fits = secured_fits s c.args.lane c.args.generation c.args.activity c.args.number s.moment c.args.piece
    c.requires.allowed in (
      (((c.ranges.lane.fits, c.ranges.generation.fits), c.ranges.activity.fits), c.ranges.number.fits),
      omega (arith, fits),
    )

pub make-requires-clause-short : goal.make-requires-clause-short
make-requires-clause-short g c =
    let s = c.args.self.now.current in
    short_secure c.args.lane c.args.generation c.args.activity c.args.number c.args.piece
    (secured_fits s c.args.lane c.args.generation c.args.activity c.args.number s.moment c.args.piece
    c.requires.allowed)

pub returns-in-Ok-clause-receives : goal.returns-in-Ok-clause-receives
returns-in-Ok-clause-receives g c =
    secured g.D.Disk.model c.args.self.now c.args.lane c.args.generation c.args.activity c.args.number c.args.piece
    c.requires.allowed c.make.new.self (Ok tt) None refl c.in-Ok.ensures.made

pub returns-in-Err-clause-receives : goal.returns-in-Err-clause-receives
returns-in-Err-clause-receives g c =
    secured g.D.Disk.model c.args.self.now c.args.lane c.args.generation c.args.activity c.args.number c.args.piece
    c.requires.allowed c.make.new.self (Err (CompleteFaults.Step c.in-Err.fault)) (Some c.in-Err.fault) refl
    c.in-Err.ensures.made

pub make-requires-clause-possible : goal.make-requires-clause-possible
make-requires-clause-possible g c =
    secure_possible c.args.self.now.current c.args.lane c.args.generation c.args.activity c.args.number c.args.piece
    c.requires.few c.requires.allowed

pub make-requires-clause-numbers : goal.make-requires-clause-numbers
make-requires-clause-numbers g c spent =
    secure_numbers c.args.self.now.current c.args.lane c.args.generation c.args.activity c.args.number c.args.piece
    c.requires.few spent
