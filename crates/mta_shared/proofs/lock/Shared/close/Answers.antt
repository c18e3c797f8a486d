use Rattle.std.proofs.Common.{◌≡◌, length, IsSome, refl, sym, ap, ◌∙◌, subst}
use Rattle.mta_shared.specs.Counts.{times, row}
use Rattle.mta_shared.proofs.Ends.{closes}
use Rattle.mta_shared.proofs.lock.Shared.close.Goals as goal

pub unwrap-value-requires : goal.unwrap-value-requires
unwrap-value-requires g c =
    let s = c.sit_down-seat.ensures.seat in
    let t = closes g.V.Historied.first g.V.Historied.entries g.V.Historied.meets c.sit_down-seat.result.id
    c.sit_down-seat.result.me.0 _ _ c.take.result s.1.free
    (ap (λ h. h.parts) s.0 ∙ c.requires.all) c.close_with-closed.ensures.values.2 c.take.ensures.value in
    subst IsSome (sym t.got_is) refl

pub returns : goal.returns
returns g c =
    let s = c.sit_down-seat.ensures.seat in
    let t = closes g.V.Historied.first g.V.Historied.entries g.V.Historied.meets c.sit_down-seat.result.id
    c.sit_down-seat.result.me.0 _ _ c.take.result s.1.free
    (ap (λ h. h.parts) s.0 ∙ c.requires.all) c.close_with-closed.ensures.values.2 c.take.ensures.value in
    let value : t.value ≡ c.unwrap-value.result = cc (t.got_is, c.unwrap-value.ensures) in
    record {
      history = ap g.V.Historied.entries (sym value) ∙ (t.history ∙ ap (λ h. h.seen) s.0);
      own = λ p. sym (ap (λ h. times p h.own) s.0)
          ∙ (t.own p ∙ ap (λ x. times p (row 0 (length (g.V.Historied.entries x)))) value);
      fact = (
        subst (λ b. g.V.Historied.meets c.unwrap-value.result b) (ap (λ h. h.base) s.0)
            (subst (λ y. g.V.Historied.meets y c.sit_down-seat.result.me.0.base) value t.fact),
        ap g.V.Historied.first (sym value) ∙ (t.number ∙ ap (λ h. h.from) s.0),
      );
    }
