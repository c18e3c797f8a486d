use Rattle.mta_shared.proofs.Seats.{sits_opened}
use Rattle.mta_shared.proofs.Ends.{opens_as}
use Rattle.mta_shared.proofs.lock.Shared.open.Goals as goal

pub new-requires : goal.new-requires
new-requires g c = opens_as g.V.Historied.first g.V.Historied.entries g.V.Historied.meets c.args.value
    c.of-known.result.value g.V.Historied.base _ _ c.of-known.ensures c.new-slots.ensures.items
    c.in_default.ensures.items c.requires

pub stand_up-requires : goal.stand_up-requires
stand_up-requires g c = sits_opened _ _ _ _ c.in-Ok.ensures.ok.4
