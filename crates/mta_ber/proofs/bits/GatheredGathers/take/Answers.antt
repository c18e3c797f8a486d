use Rattle.std.proofs.Common.{get_or, take, drop, length, ◌-◌, ◌∙◌, sym}
use Rattle.mta_ber.proofs.BitLaws.{few_unused}
use Rattle.mta_ber.proofs.bits.GatheredGathers.take.Goals as goal

pub with_piece-requires : goal.with_piece-requires
with_piece-requires c =
    let h = few_unused c.args.last (get_or c.args.part.now.content.now 0 0)
    (take (length c.args.part.now.content.now - 1) (drop 1 c.args.part.now.content.now))
    (sym c.is_good_unused.ensures ∙ c.if-is_good_unused.true) in
    record { few = h.0; within = h.1 }
