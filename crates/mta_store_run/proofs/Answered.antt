-- What is decided, as an answer.
use Rattle.std.proofs.Common.{◌≡◌, ℕ, true, false, List, Option, Some, None, Result, Err, refl, sym, subst}
use Rattle.std.proofs.Common.{inl, inr}
use Rattle.std.specs.Prelude.{is_some}
use Rattle.mta_commands.specs.Causes.{mailbox_named}
use Rattle.mta_histories.specs.Lanes.{State}
use Rattle.mta_marks.specs.declared.mark.Standing.{Standing}
use Rattle.mta_store_run.specs.Asked.{mailbox_asked}
use Rattle.mta_store_run.specs.Decided.{IsAnswered, IsNoMailbox}
use Rattle.mta_store_run.specs.Store.{Answer, answer_if, answer_in, answer_of, no_mailbox}
use Rattle.mta_store_run.specs.declared.asked.Asked.{Asked}
use Rattle.mta_store_run.specs.declared.deciding.Decision.{Decision}
use Rattle.mta_store_run.specs.declared.stop.Stop.{Stop}

not_named : (o : Option ℕ) (answer : Answer) → is_some o ≡ false → answer_if o answer ≡ no_mailbox
not_named None answer e = refl
not_named (Some place) answer e = absurd cc

named : (o : Option ℕ) (answer : Answer) → is_some o ≡ true → answer_if o answer ≡ answer
named None answer e = absurd cc
named (Some place) answer e = refl

-- no mailbox is named so
pub answered_unnamed : (asked : Asked) (s : State) (look : List ℕ → ℕ → Standing) (stop : Stop)
    → is_some (mailbox_named s (mailbox_asked asked)) ≡ false → IsNoMailbox (mailbox_asked asked) stop
    → IsAnswered asked (answer_of asked s look) (Err stop)
answered_unnamed asked s look stop e (inl is) =
    subst (λ (x : Stop). IsAnswered asked (answer_of asked s look) (Err x)) (sym is)
    (not_named (mailbox_named s (mailbox_asked asked)) (answer_in asked s look) e, refl)
answered_unnamed asked s look stop e (inr is) =
    subst (λ (x : Stop). IsAnswered asked (answer_of asked s look) (Err x)) (sym is) tt

-- one is
pub answered_named : (asked : Asked) (s : State) (look : List ℕ → ℕ → Standing) (result : Result Decision Stop)
    → is_some (mailbox_named s (mailbox_asked asked)) ≡ true → IsAnswered asked (answer_in asked s look) result
    → IsAnswered asked (answer_of asked s look) result
answered_named asked s look result e =
    subst (λ (x : Answer). IsAnswered asked x result)
    (sym (named (mailbox_named s (mailbox_asked asked)) (answer_in asked s look) e))
