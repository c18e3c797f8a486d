use Rattle.std.proofs.Common.{rules}
use Rattle.std.proofs.lemmas.List.Sorted.{answers_always}
use Rattle.mta_audit_run.specs.declared.account.Account.{Account}
use Rattle.mta_audit_run.proofs.Searching.{searched}
use Rattle.mta_audit_run.proofs.accounts.place_of.Goals as goal

-- the closure gives the number of an account
pub returns : goal.returns
returns c =
    let facts = c.binary_search_by_key.ensures in
    let by_key = facts.position (λ (a : Account). a.number) (answers_always _ _ _ (λ f a r g called. search rules)) in
    rw c.ok.ensures.value (searched c.args.lane c.args.accounts.now c.requires _ facts.bound by_key)
