use Rattle.std.proofs.Common.{All, length, sym, ap, ◌∙◌, subst}
use Rattle.mta_shared.specs.Passes.{lock_of}
use Rattle.mta_bench.specs.Parts.{IsPart}
use Rattle.mta_bench.proofs.Gathering.{all_along, written}
use Rattle.mta_bench.proofs.shared.run.Goals as goal

pub gather-requires : goal.gather-requires
gather-requires g c =
    let w = written c.take_all.new.passes c.deal.new.passes.items c.deal.new.passes.len c.deal.new.passes.ok.0
    (c.take_all.auto.passes ∙ ap length c.as_mut_slice.ensures.value) in (
      c.deal.ensures.main.0,
      subst (λ l. All (IsPart (lock_of c.in-Ok.shared)) l) (sym w)
          (all_along (IsPart (lock_of c.in-Ok.shared)) c.as_mut_slice.result.now c.take_all.new.passes
          (sym c.take_all.auto.passes) c.take_all.ensures),
    )
