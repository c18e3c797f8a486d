use Rattle.std.proofs.Common.{inr, [], arith}
use Rattle.std.proofs.lemmas.Result.{err_from_is_err_and}
use Rattle.mta_journal.proofs.Reading.{carried}
use Rattle.mta_journal.proofs.AreasFound.{faulty_area, placed_plain}
use Rattle.mta_journal.proofs.areas.in_plain.Goals as goal

pub returns-in_err-found-clause-not_spool : goal.returns-in_err-found-clause-not_spool
returns-in_err-found-clause-not_spool g c =
    let p = err_from_is_err_and c.from_residual.result c.from_residual.ensures.1 in
    λ q e f told.
    let size = c.requires.size f told in (
      omega (arith, size, c.requires.long),
      inr (faulty_area c.args.first f q (c.requires.place f told [])
          (c.read_bodies.ensures.broken q (carried _ _ _ _ _ c.in_err-found.was p.1 p.2 e) f told)),
    )

pub returns-clause-placed : goal.returns-clause-placed
returns-clause-placed g c =
    placed_plain g.D.Disk.model c.args.disk.now c.args.first c.in_ok-found.found.size c.args.size
    c.in_ok-found.found.bodies.items c.requires.plain c.requires.place
    c.in_ok-found.ensures.found c.in_ok-found.ensures.size c.in_ok-found.ensures.within c.requires.size
    c.in_ok-found.ensures.short
