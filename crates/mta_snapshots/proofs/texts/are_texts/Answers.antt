use Rattle.std.proofs.Common.{◌≡◌, true, List, ℕ, subst}
use Rattle.std.specs.Prelude.{◌↔◌}
use Rattle.mta_machine.specs.Rules.{is_tables_text}
use Rattle.mta_snapshots.proofs.Each.{all_still, all_never, all_done}
use Rattle.mta_snapshots.proofs.texts.are_texts.Goals as goal

pub loop-text-preserved : goal.loop-text-preserved
loop-text-preserved g c =
    all_still (λ (text : List ℕ). is_tables_text text ≡ true) c.args.texts.now c.loop-text.text-index
    c.text-item.result c.in_ok-is_text.field-0 c.loop-text-test.true c.text-item.is
    (subst (λ (t : List ℕ). (c.in_ok-is_text.field-0 ≡ true) ↔ (is_tables_text t ≡ true)) c.as_slice.ensures
    c.in_ok-is_text.ensures)
    c.if-not-branch.false c.loop-text.invariant

pub returns-then-not-branch : goal.returns-then-not-branch
returns-then-not-branch g c =
    all_never (λ (text : List ℕ). is_tables_text text ≡ true) c.args.texts.now c.loop-text.text-index
    c.text-item.result c.in_ok-is_text.field-0 c.loop-text-test.true c.text-item.is
    (subst (λ (t : List ℕ). (c.in_ok-is_text.field-0 ≡ true) ↔ (is_tables_text t ≡ true)) c.as_slice.ensures
    c.in_ok-is_text.ensures)
    c.if-not-branch.true c.loop-text.invariant

pub returns : goal.returns
returns g c =
    all_done (λ (text : List ℕ). is_tables_text text ≡ true) c.args.texts.now c.loop-text.text-index
    c.loop-text-test.false c.loop-text.invariant
