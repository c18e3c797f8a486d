use Rattle.std.proofs.Common.{◌≡◌, ◌<◌, ◌+◌, ℕ, take, get_or, false, inl, inr, sym, subst, ◌∙◌, arith}
use Rattle.std.specs.Prelude.{◌⊎◌}
use Rattle.mta_machine.specs.Items.{names}
use Rattle.mta_replay.specs.Starting.{AreUpTo}
use Rattle.mta_replay.proofs.Distinct.{all_different, different_further, not_different, up_to_further}
use Rattle.mta_replay.proofs.different.are_different.Goals as goal
use Rattle.mta_replay.proofs.different.are_different.Goals.{else-number-most-via-then-number-most+else-stands_among}
use Rattle.mta_replay.proofs.different.are_different.Goals.{else-number-most-via-else-number-most}

pub returns-then-stands_among : goal.returns-then-stands_among
returns-then-stands_among c =
    not_different c.args.numbers.now c.loop-place.place 0 c.loop-place-test.true
    (sym c.stands_among.ensures ∙ c.if-stands_among.true)

pub loop-place-preserved : goal.loop-place-preserved
loop-place-preserved c =
    let above : (c.loop-place.most < get_or c.args.numbers.now c.loop-place.place 0)
    ⊎ (names (take c.loop-place.place c.args.numbers.now)
    (get_or c.args.numbers.now c.loop-place.place 0) ≡ false) =
    elim c.else-number-most.branch [
      | else-number-most-via-then-number-most+else-stands_among w ↦
          inr (sym w.stands_among.ensures ∙ w.if-stands_among.false)
      | else-number-most-via-else-number-most w ↦ inl w.if-number-most.false
    ] in
    record {
      within = omega (arith, c.loop-place-test.true);
      under = subst (λ (n : ℕ). AreUpTo n (take (c.loop-place.place + 1) c.args.numbers.now))
          (sym c.max-most.ensures)
          (up_to_further c.args.numbers.now c.loop-place.place 0 c.loop-place.most c.loop-place-test.true
          c.loop-place.invariant.under);
      different = different_further c.args.numbers.now c.loop-place.place 0 c.loop-place.most
          c.loop-place-test.true c.loop-place.invariant.under c.loop-place.invariant.different above;
    }

pub returns : goal.returns
returns c =
    all_different c.args.numbers.now c.loop-place.place c.loop-place-test.false c.loop-place.invariant.different
