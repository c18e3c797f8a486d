use Rattle.std.proofs.Common.{◌≡◌, sym, ap, ◌∙◌, subst, arith}
use mathlib.Core.List.{IsPrefix}
use Rattle.mta_shared.specs.Rule.{with_ticket}
use Rattle.mta_shared.proofs.Steps.{draws}
use Rattle.mta_shared.proofs.Turns.{looks_as, number_is, holds_slot, takes_out, is_some, held_is}
use Rattle.mta_shared.proofs.lock.Shared.take.Goals as goal

pub fetch_add-ticket-requires : goal.fetch_add-ticket-requires
fetch_add-ticket-requires g c =
    let s = c.sit_down-seat.ensures.seat in (
      ap (λ h. h.lock) s.0 ∙ c.requires.0,
      omega (arith, c.args.self.now.sized.0),
      draws g.V.Historied.first g.V.Historied.entries g.V.Historied.meets _ _ _ _ s.1.free,
    )

pub load-serving-requires : goal.load-serving-requires
load-serving-requires g c =
    let s = c.sit_down-seat.ensures.seat in
    let i = c.turns.invariant in
    let d = c.fetch_add-ticket.ensures in
    let v = c.sit_down-seat.result.me.0 in
    let me = i.2 ∙ (d.2.1 ∙ ap (λ xs. (with_ticket d.2.0 v, xs)) s.1.empty) in (
      i.0 ∙ (d.0 ∙ (ap (λ h. h.lock) s.0 ∙ c.requires.0)),
      omega (arith, c.args.self.now.sized.0),
      looks_as g.V.Historied.first g.V.Historied.entries g.V.Historied.meets _ _ _ v d.2.0 me s.1.free,
    )

pub exchange-requires : goal.exchange-requires
exchange-requires g c =
    let s = c.sit_down-seat.ensures.seat in
    let i = c.turns.invariant in
    let d = c.fetch_add-ticket.ensures in
    let l = c.load-serving.ensures in
    let v = c.sit_down-seat.result.me.0 in
    let me = i.2 ∙ (d.2.1 ∙ ap (λ xs. (with_ticket d.2.0 v, xs)) s.1.empty) in
    let took = l.2.0 (number_is g.V.Historied.first g.V.Historied.entries g.V.Historied.meets _ v d.2.0 _ _ me d.2.2
    c.if-serving-ticket.true) in (
      l.0 ∙ (i.0 ∙ (d.0 ∙ (ap (λ h. h.lock) s.0 ∙ c.requires.0))),
      holds_slot g.V.Historied.first g.V.Historied.entries g.V.Historied.meets _ _ took,
    )

pub unwrap-value-requires : goal.unwrap-value-requires
unwrap-value-requires g c =
    let s = c.sit_down-seat.ensures.seat in
    let i = c.turns.invariant in
    let d = c.fetch_add-ticket.ensures in
    let l = c.load-serving.ensures in
    let v = c.sit_down-seat.result.me.0 in
    let me = i.2 ∙ (d.2.1 ∙ ap (λ xs. (with_ticket d.2.0 v, xs)) s.1.empty) in
    let took = l.2.0 (number_is g.V.Historied.first g.V.Historied.entries g.V.Historied.meets _ v d.2.0 _ _ me d.2.2
    c.if-serving-ticket.true) in
    let x = c.exchange.ensures in
    is_some g.V.Historied.first g.V.Historied.entries g.V.Historied.meets _ _ _
    (takes_out g.V.Historied.first g.V.Historied.entries g.V.Historied.meets v d.2.0 _ _ c.exchange.new.seat.me
    c.exchange.result s.1.free s.1.sound me took x.2 x.3)

pub turns-preserved : goal.turns-preserved
turns-preserved g c =
    let s = c.sit_down-seat.ensures.seat in
    let i = c.turns.invariant in
    let d = c.fetch_add-ticket.ensures in
    let l = c.load-serving.ensures in
    let v = c.sit_down-seat.result.me.0 in
    let me = i.2 ∙ (d.2.1 ∙ ap (λ xs. (with_ticket d.2.0 v, xs)) s.1.empty) in (
      l.0 ∙ i.0,
      l.1 ∙ i.1,
      l.2.1 (λ e. c.if-serving-ticket.false
          (e ∙ sym (number_is g.V.Historied.first g.V.Historied.entries g.V.Historied.meets _ v d.2.0 _ _ me d.2.2
          (λ _. c.fetch_add-ticket.result)))) ∙ i.2,
    )

pub returns-then-serving-ticket : goal.returns-then-serving-ticket
returns-then-serving-ticket g c =
    let s = c.sit_down-seat.ensures.seat in
    let i = c.turns.invariant in
    let d = c.fetch_add-ticket.ensures in
    let l = c.load-serving.ensures in
    let v = c.sit_down-seat.result.me.0 in
    let me = i.2 ∙ (d.2.1 ∙ ap (λ xs. (with_ticket d.2.0 v, xs)) s.1.empty) in
    let took = l.2.0 (number_is g.V.Historied.first g.V.Historied.entries g.V.Historied.meets _ v d.2.0 _ _ me d.2.2
    c.if-serving-ticket.true) in
    let x = c.exchange.ensures in
    let t = takes_out g.V.Historied.first g.V.Historied.entries g.V.Historied.meets v d.2.0 _ _ c.exchange.new.seat.me
    c.exchange.result s.1.free s.1.sound me took x.2 x.3 in
    let value : t.value ≡ c.unwrap-value.result = cc (t.got_is, c.unwrap-value.ensures) in
    record {
      out = c.sit_down-seat.ensures.out;
      turn = (
        held_is (x.0 ∙ (l.0 ∙ (i.0 ∙ (d.0 ∙ ap (λ h. h.lock) s.0)))) (sym c.requires.1)
            (t.history ∙ ap g.V.Historied.entries value) (t.own ∙ ap (λ h. h.own) s.0) (t.parts ∙ ap (λ h. h.parts) s.0)
            (t.from ∙ ap (λ h. h.from) s.0) (t.base ∙ ap (λ h. h.base) s.0),
        t.in_turn,
      );
      history = subst (λ h. IsPrefix h.seen (g.V.Historied.entries c.unwrap-value.result)) s.0
          (subst (λ y. IsPrefix v.seen (g.V.Historied.entries y)) value t.seen);
      fact = (
        subst (λ h. g.V.Historied.meets c.unwrap-value.result h.base) s.0
            (subst (λ y. g.V.Historied.meets y v.base) value t.fact),
        ap g.V.Historied.first (sym value)
            ∙ (t.number ∙ ap (λ h. h.from) s.0),
      );
    }
