use Rattle.std.specs.Option.{option_copied}
use Rattle.mta_audit_run.specs.Partners.{is_partner}
use Rattle.mta_audit_run.proofs.Covered.{covered_so}
use Rattle.mta_audit_run.proofs.partners.is_covered.Goals as goal

pub returns : goal.returns
returns c =
    covered_so (is_partner (option_copied c.args.own) c.args.account.now.reference) c.args.begun c.args.account.now
    c.args.others.now c.has_begun_end-begun_end.result c.has_end-some_end.result c.is_covered_by.result
    c.has_begun_end-begun_end.ensures c.has_end-some_end.ensures c.is_covered_by.ensures
