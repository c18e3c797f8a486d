use Rattle.std.proofs.Common.{◌≡◌, ◌<◌, ◌^◌, ℕ, List, length, sym, ap, subst, ◌∙◌, arith}
use Rattle.std.specs.List.{AllByRecursion}
use Rattle.mta_spool.proofs.LaneLengths.{short_start}
use Rattle.mta_spool.proofs.starting.start_step.Goals as goal

pub returns-clause-fields : goal.returns-clause-fields
returns-clause-fields c =
    let same : c.in_ok-recipients.recipients ≡ c.as_slice-numbers.result.now =
    c.in_ok-recipients.ensures ∙ sym c.as_slice-numbers.ensures in (
      (((c.ranges.lane.fits, c.ranges.generation.fits), c.ranges.activity.fits), c.numbers_fit.ensures.item),
      (
        (
          omega (arith, ap length same),
          subst (λ (ns : List ℕ). AllByRecursion (λ n. n < 2 ^ 32) ns) (sym same) c.numbers_fit.ensures.recipients,
        ),
        c.requires,
      ),
    )

pub returns-clause-short : goal.returns-clause-short
returns-clause-short c =
    short_start c.args.lane c.args.generation c.args.activity c.args.batch.now.item c.in_ok-recipients.recipients
    c.args.moment
    (omega (arith, ap length (c.in_ok-recipients.ensures ∙ sym c.as_slice-numbers.ensures)))
