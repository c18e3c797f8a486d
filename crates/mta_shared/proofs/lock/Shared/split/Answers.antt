use Rattle.std.proofs.Common.{ap, ◌∙◌, arith}
use Rattle.mta_shared.proofs.Steps.{splits}
use Rattle.mta_shared.proofs.lock.Shared.split.Goals as goal

pub split_seat-other-requires : goal.split_seat-other-requires
split_seat-other-requires g c =
    let s = c.sit_down-seat.ensures.seat in
    let p = ap (λ h. h.parts) s.0 in (
      ap (λ h. h.lock) s.0 ∙ c.requires.ready.0,
      omega (arith, c.args.self.now.sized.0),
      splits g.V.Historied.first g.V.Historied.entries g.V.Historied.meets _ _ s.1.free
          (omega (arith, p, c.requires.parts)),
    )
