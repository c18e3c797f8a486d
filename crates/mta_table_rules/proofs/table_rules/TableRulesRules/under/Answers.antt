use Rattle.std.proofs.Common.{Err, refl, subst}
use Rattle.mta_tables.specs.declared.fault.TablesFault.{TablesFault}
use Rattle.mta_tables.specs.Reading.{Reads}
use Rattle.mta_tables.specs.Tables.{TablesValue, tables_of}
use Rattle.mta_table_rules.proofs.Texts.{is_text, no_text, text_kept}
use Rattle.mta_table_rules.proofs.table_rules.TableRulesRules.under.Goals as goal

pub returns-in-Ok : goal.returns-in-Ok
returns-in-Ok c = (
  refl,
  text_kept c.args.octets.now c.in-Ok.tables c.in-Ok.ensures.exact,
  is_text c.args.octets.now c.in-Ok.tables c.in-Ok.ensures.exact,
)

pub returns-in-Err-BadLine : goal.returns-in-Err-BadLine
returns-in-Err-BadLine c =
    no_text c.args.octets.now c.in-Err-BadLine.field-0-0 c.in-Err-BadLine.field-0-1
    (subst (λ (f : TablesFault). Reads {A = TablesValue} (Err f) (tables_of c.args.octets.now))
    c.in-Err-BadLine.field-0-is c.in-Err-BadLine.ensures.exact)
