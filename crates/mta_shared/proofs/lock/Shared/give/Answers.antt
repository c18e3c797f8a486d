use Rattle.std.proofs.Common.{◌∷◌, [], Some, ap, ◌∙◌, arith}
use Rattle.atomic_table.specs.Table.{rest}
use Rattle.mta_shared.specs.Rule.{after_turn}
use Rattle.mta_shared.proofs.Seats.{sits_after}
use Rattle.mta_shared.proofs.Turns.{serves_as}
use Rattle.mta_shared.proofs.lock.Shared.give.Goals as goal

pub fetch_add-served-requires : goal.fetch_add-served-requires
fetch_add-served-requires g c =
    let here = c.requires.turn in
    let x = c.exchange-left.ensures in
    let me = x.3 ∙ ap (λ l. (c.args.turn.seat.me.0, (0, Some c.args.turn.value) ∷ rest l)) here.1.out in (
      x.0 ∙ here.0,
      omega (arith, c.args.self.now.sized.0),
      serves_as g.V.Historied.first g.V.Historied.entries g.V.Historied.meets _ _ _ c.args.turn.seat.me.0
          c.args.turn.value me here.1.turn here.1.no_met here.1.alive c.requires.history c.requires.fact.0
          c.requires.fact.1,
    )

pub stand_up-requires : goal.stand_up-requires
stand_up-requires g c =
    let here = c.requires.turn in
    let x = c.exchange-left.ensures in
    let me = x.3 ∙ ap (λ l. (c.args.turn.seat.me.0, (0, Some c.args.turn.value) ∷ rest l)) here.1.out in
    let f = c.fetch_add-served.ensures in
    let n = f.2 c.args.turn.value (ap (λ m. m.1) me)
    ∙ ap (λ m. (after_turn (g.V.Historied.entries c.args.turn.value) m.0, [])) me in
    sits_after _ c.args.turn.seat.me _ n here.1.alive here.1.no_met c.requires.history here.1.sound
