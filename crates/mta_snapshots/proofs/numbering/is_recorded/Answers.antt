use Rattle.std.proofs.Common.{◌≡◌, true, List, ℕ, [], subst}
use Rattle.std.specs.Prelude.{◌↔◌}
use Rattle.mta_machine.specs.Items.{ItemValue}
use Rattle.mta_histories.specs.Lanes.{Lane}
use Rattle.mta_state.specs.Kept.{state_of}
use Rattle.mta_snapshots.proofs.Ascending.{recorded_some, recorded_not, recorded_none}
use Rattle.mta_snapshots.proofs.numbering.is_recorded.Goals as goal

pub returns-then-not-is_nothing : goal.returns-then-not-is_nothing
returns-then-not-is_nothing c =
    recorded_some (state_of c.args.kept.now) c.is_nothing.result
    (subst (λ (xs : List (List ℕ)). (c.is_nothing.result ≡ true) ↔ (xs ≡ [])) c.as_slice.ensures.value
    c.is_nothing.ensures)
    c.if-not-is_nothing.true

pub returns-then-not-is_nothing-2 : goal.returns-then-not-is_nothing-2
returns-then-not-is_nothing-2 c =
    recorded_not (state_of c.args.kept.now) c.is_nothing.result
    (subst (λ (xs : List (List ℕ)). (c.is_nothing.result ≡ true) ↔ (xs ≡ [])) c.as_slice.ensures.value
    c.is_nothing.ensures)
    c.is_nothing-2.result
    (subst (λ (xs : List ItemValue). (c.is_nothing-2.result ≡ true) ↔ (xs ≡ [])) c.as_slice-2.ensures.value
    c.is_nothing-2.ensures)
    c.if-not-is_nothing.false c.if-not-is_nothing-2.true

pub returns : goal.returns
returns c =
    recorded_none (state_of c.args.kept.now) c.is_nothing.result
    (subst (λ (xs : List (List ℕ)). (c.is_nothing.result ≡ true) ↔ (xs ≡ [])) c.as_slice.ensures.value
    c.is_nothing.ensures)
    c.is_nothing-2.result
    (subst (λ (xs : List ItemValue). (c.is_nothing-2.result ≡ true) ↔ (xs ≡ [])) c.as_slice-2.ensures.value
    c.is_nothing-2.ensures)
    c.if-not-is_nothing.false c.is_nothing-3.result c.if-not-is_nothing-2.false
    (subst (λ (xs : List Lane). (c.is_nothing-3.result ≡ true) ↔ (xs ≡ [])) c.as_slice-3.ensures.value
    c.is_nothing-3.ensures)
