use Rattle.std.proofs.Common.{ap, ◌∙◌, arith}
use Rattle.mta_shared.proofs.Seats.{sits_joined}
use Rattle.mta_shared.proofs.Steps.{joins}
use Rattle.mta_shared.proofs.Turns.{compares_as}
use Rattle.mta_shared.proofs.lock.Shared.join.Goals as goal

pub join_seat-requires : goal.join_seat-requires
join_seat-requires g c =
    let s = c.sit_down-seat.ensures.seat in
    let t = c.sit_down-spent.ensures.seat in (
      ap (λ h. h.lock) s.0 ∙ c.requires.ready.0,
      ap (λ h. h.lock) t.0 ∙ c.requires.other.0,
      t.1.empty,
      omega (arith, c.args.self.now.sized.0),
      joins g.V.Historied.first g.V.Historied.entries g.V.Historied.meets _ _ _ _ s.1.free t.1.free,
    )

pub load-requires : goal.load-requires
load-requires g c =
    let s = c.sit_down-seat.ensures.seat in
    let t = c.sit_down-spent.ensures.seat in
    let j = c.join_seat.ensures in (
      j.0 ∙ (ap (λ h. h.lock) s.0 ∙ c.requires.ready.0),
      omega (arith, c.args.self.now.sized.0),
      compares_as g.V.Historied.first g.V.Historied.entries g.V.Historied.meets _ _ _ _ _
          (ap (λ m. m.0) j.2) s.1.free t.1.free,
    )

pub stand_up-requires : goal.stand_up-requires
stand_up-requires g c =
    let l = c.load.ensures in
    sits_joined c.sit_down-seat.result.me c.sit_down-spent.result.me c.join_seat.new.seat.me _ c.join_seat.ensures.2
    l.2.0 l.2.1 c.sit_down-seat.ensures.seat.1 c.sit_down-spent.ensures.seat.1
