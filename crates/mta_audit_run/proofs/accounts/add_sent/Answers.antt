use Rattle.std.proofs.Common.{List, Some, None, subst}
use Rattle.mta_audit_run.specs.declared.account.Account.{Account}
use Rattle.mta_audit_run.specs.Account.{with_sent}
use Rattle.mta_audit_run.specs.Places.{IsPlaceOf}
use Rattle.mta_audit_run.proofs.Changing.{changed_there, changed_nowhere}
use Rattle.mta_audit_run.proofs.accounts.add_sent.Goals as goal

pub returns-in_ok-add_sent-in-Some : goal.returns-in_ok-add_sent-in-Some
returns-in_ok-add_sent-in-Some c =
    changed_there (with_sent c.args.activity) c.args.lane c.args.accounts.now.items c.in-Some.place
    c.index_mut.result.now c.add_sent.new.self c.requires
    (subst (λ (xs : List Account). IsPlaceOf c.args.lane xs (Some c.in-Some.place)) c.as_slice.ensures.value
    c.in-Some.ensures)
    c.index_mut.ensures.value c.in_ok-add_sent-in-Some.ensures

pub returns-in-None : goal.returns-in-None
returns-in-None c =
    changed_nowhere (with_sent c.args.activity) c.args.lane c.args.accounts.now.items
    (subst (λ (xs : List Account). IsPlaceOf c.args.lane xs None) c.as_slice.ensures.value c.in-None.ensures)
