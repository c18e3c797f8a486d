use Rattle.std.proofs.Common.{◌+◌, ◌*◌, ◌<◌, ◌^◌, arith, subst, sym}
use Rattle.mta_drill_text.specs.declared.counts.Counts.{Counts}
use Rattle.mta_drill.specs.Rounds.{IsWhole, round_size}
use Rattle.mta_drill.proofs.Summing.{one_round_more}
use Rattle.mta_drill.proofs.drilling.earlier.Goals as goal

pub loop-place-preserved : goal.loop-place-preserved
loop-place-preserved c =
    let k = c.loop-place.place in
    let small : (k + 1) * round_size < 2 ^ 32 = omega (arith, c.requires.fits, c.loop-place-test.true) in
    subst (λ (z : Counts). IsWhole z 0 ((k + 1) * round_size)) (sym c.with-counts.ensures)
    (one_round_more c.loop-place.counts c.in_ok-more.field-0.counts k small c.loop-place.invariant
    c.in_ok-more.ensures.whole)
