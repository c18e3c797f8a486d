use Rattle.std.proofs.Common.{◌≡◌, sym, ◌∙◌}
use Rattle.mta_procedures.specs.Walks.{behind_list, passed_to}
use Rattle.mta_machine.specs.Rules.{accepted_in, is_own}
use Rattle.mta_table_rules.proofs.Read.{if_ok_so}
use Rattle.mta_table_rules.proofs.Walking.{list_passes, no_list_passes, own_passes}
use Rattle.mta_table_rules.proofs.passing.passed_to.Goals as goal

pub returns-then-is_own : goal.returns-then-is_own
returns-then-is_own c =
    own_passes c.args.tables.now (is_own c.args.origin) c.args.report.now (accepted_in c.args.items.now)
    (sym c.is_own.ensures ∙ c.if-is_own.true)

pub returns-in-Some : goal.returns-in-Some
returns-in-Some c =
    let t = c.args.tables.now in
    let accepted = accepted_in c.args.items.now in
    let same = list_passes t (is_own c.args.origin) c.args.report.now c.fields.result.now accepted c.in-Some.list.now
    (sym c.is_own.ensures ∙ c.if-is_own.false) c.fields.ensures.exact c.in-Some.ensures in
    if_ok_so c.behind_list.result (λ n. n ≡ behind_list t c.args.report.now accepted c.in-Some.list.now)
    (λ n. n ≡ passed_to t (is_own c.args.origin) c.args.report.now accepted) (λ n e. e ∙ same) c.behind_list.ensures

pub returns-in-None : goal.returns-in-None
returns-in-None c =
    no_list_passes c.args.tables.now (is_own c.args.origin) c.args.report.now c.fields.result.now
    (accepted_in c.args.items.now) (sym c.is_own.ensures ∙ c.if-is_own.false) c.fields.ensures.exact
    c.in-None.ensures
