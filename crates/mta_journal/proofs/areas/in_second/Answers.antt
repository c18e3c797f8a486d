use Rattle.std.proofs.Common.{◌≡◌, ◌+◌, sym, ap, subst, ◌∙◌, arith}
use Rattle.std.proofs.lemmas.Result.{err_from_is_err_and}
use Rattle.mta_disk.specs.Records.{frame_of}
use Rattle.mta_journal.specs.Faults.{IsNoJournalAt}
use Rattle.mta_journal.proofs.Reading.{carried}
use Rattle.mta_journal.proofs.AreasFound.{is_not_one, is_too_low, placed_second}
use Rattle.mta_journal.proofs.areas.in_second.Goals as goal

pub returns-in_err-body-clause-not_spool : goal.returns-in_err-body-clause-not_spool
returns-in_err-body-clause-not_spool g c =
    let p = err_from_is_err_and c.from_residual.result c.from_residual.ensures.1 in
    λ q e f told.
    let size = c.requires.size f told in
    let none = c.read_one.ensures.not_one q (carried _ _ _ _ _ c.in_err-body.was p.1 p.2 e) f told in
    subst (IsNoJournalAt f) (sym none.0)
    (is_not_one c.args.high f (omega (arith, size, c.requires.long)) (c.requires.marked f told)
    (omega (arith, c.if-high-lt24.false)) (omega (arith, size, c.if-high-size.false)) none.1)

pub returns-then-high-len-clause-not_spool : goal.returns-then-high-len-clause-not_spool
returns-then-high-len-clause-not_spool g c = λ p e f told.
    let size = c.requires.size f told in
    let at : p ≡ 15 = cc in
    subst (IsNoJournalAt f) (sym at)
    (is_too_low c.args.high c.in_ok-body.body f (omega (arith, size, c.requires.long)) (c.requires.marked f told)
    (omega (arith, c.if-high-lt24.false))
    (c.in_ok-body.ensures.one f told) (omega (arith, c.if-high-len.true, c.len.ensures)))

pub returns-clause-placed : goal.returns-clause-placed
returns-clause-placed g c =
    placed_second g.D.Disk.model c.args.disk.now c.args.high (c.args.high + c.len-2.result + 6) c.args.size
    c.in_ok-body.body c.in_ok-frame.frame c.in_ok-bodies.bodies.items
    c.in_ok-bodies.ensures (c.in_ok-frame.ensures ∙ ap frame_of c.as_slice.ensures) c.requires.marked
    c.in_ok-body.ensures.one
    (omega (arith, c.if-high-len.false, c.len.ensures)) (omega (arith, c.len-2.ensures))
    (omega (arith, c.in_ok-body.ensures.fits, c.len-2.ensures)) c.requires.size c.in_ok-body.ensures.fits.0
