use Rattle.std.proofs.Common.{inl, ◌∙◌, sym, refl, arith}
use Rattle.std.proofs.lemmas.Result.{err_from_is_err_and}
use Rattle.std.proofs.lemmas.Option.{MatchOption-at_some, MatchOption-at_none}
use Rattle.mta_journal.specs.Bodies.{alone}
use Rattle.mta_journal.proofs.Reading.{carried, Stays-then}
use Rattle.mta_journal.proofs.AreasFound.{placed_same}
use Rattle.mta_journal.proofs.areas.find_area.Goals as goal

pub returns-in_err-check_magic-clause-not_spool : goal.returns-in_err-check_magic-clause-not_spool
returns-in_err-check_magic-clause-not_spool g c =
    let p = err_from_is_err_and c.from_residual.result c.from_residual.ensures.1 in
    λ q e f told.
    let size = c.requires.size f told in (
      omega (arith, size, c.requires.long),
      inl (c.check_magic.ensures.differs q (carried _ _ _ _ _ c.in_err-check_magic.was p.1 p.2 e) f told),
    )

pub returns-in_err-areas_of-clause-not_spool : goal.returns-in_err-areas_of-clause-not_spool
returns-in_err-areas_of-clause-not_spool g c =
    let p = err_from_is_err_and c.from_residual-in_err-areas_of.result c.from_residual-in_err-areas_of.ensures.1 in
    λ q e f told.
    absurd (c.areas_of.ensures.not_spool q (carried _ _ _ _ _ c.in_err-areas_of.was p.1 p.2 e) f
    (c.check_magic.ensures.content ∙ told))

pub in_plain-requires-clause-place : goal.in_plain-requires-clause-place
in_plain-requires-clause-place g c = λ f told bodies.
    let lone = MatchOption-at_none _ _ c.in-None.is c.in_ok-areas_of.ensures.none in
    let first_told = sym c.check_magic.ensures.content ∙ sym c.areas_of.ensures.content ∙ told in
    alone (c.in_ok-check_magic.ensures.magic f first_told) (lone f (sym c.areas_of.ensures.content ∙ told)) refl

pub returns-in_err-placed-in-None-clause-not_spool : goal.returns-in_err-placed-in-None-clause-not_spool
returns-in_err-placed-in-None-clause-not_spool g c =
    let p = err_from_is_err_and c.from_residual-in_err-placed-in-None.result
    c.from_residual-in_err-placed-in-None.ensures.1 in
    λ q e f told.
    c.in_plain.ensures.not_spool q (carried _ _ _ _ _ c.in_err-placed-in-None.was p.1 p.2 e) f
    (c.areas_of.ensures.content ∙ c.check_magic.ensures.content ∙ told)

pub returns-in_ok-placed-in-None-clause-placed : goal.returns-in_ok-placed-in-None-clause-placed
returns-in_ok-placed-in-None-clause-placed g c =
    placed_same g.D.Disk.model c.args.disk.now c.areas_of.new.disk _ _ _ _
    (c.areas_of.ensures.content ∙ c.check_magic.ensures.content) c.in_ok-placed-in-None.ensures.placed

pub in_areas-requires-clause-marked : goal.in_areas-requires-clause-marked
in_areas-requires-clause-marked g c = λ f told.
    let marked = MatchOption-at_some _ _ _ c.in-Some.is c.in_ok-areas_of.ensures.some in
    marked f (sym c.areas_of.ensures.content ∙ told)

pub returns-in_err-placed-in-Some-clause-not_spool : goal.returns-in_err-placed-in-Some-clause-not_spool
returns-in_err-placed-in-Some-clause-not_spool g c =
    let p = err_from_is_err_and c.from_residual-in_err-placed-in-Some.result
    c.from_residual-in_err-placed-in-Some.ensures.1 in
    λ q e f told.
    c.in_areas.ensures.not_spool q (carried _ _ _ _ _ c.in_err-placed-in-Some.was p.1 p.2 e) f
    (c.areas_of.ensures.content ∙ c.check_magic.ensures.content ∙ told)

pub returns-in_ok-placed-in-Some-clause-placed : goal.returns-in_ok-placed-in-Some-clause-placed
returns-in_ok-placed-in-Some-clause-placed g c =
    placed_same g.D.Disk.model c.args.disk.now c.areas_of.new.disk _ _ _ _
    (c.areas_of.ensures.content ∙ c.check_magic.ensures.content) c.in_ok-placed-in-Some.ensures.placed

pub returns-in_ok-placed-in-Some-clause-crash : goal.returns-in_ok-placed-in-Some-clause-crash
returns-in_ok-placed-in-Some-clause-crash g c =
    Stays-then g.D.Disk.model g.met.D.Disk.laws _ _ _
    (Stays-then g.D.Disk.model g.met.D.Disk.laws _ _ _ c.check_magic.ensures.crash c.areas_of.ensures.crash)
    c.in_areas.ensures.crash
