-- The rules as clauses see them: a format, and tables with their text.
use Rattle.std.specs.Prelude.{ℕ, List}
use Rattle.mta_tables.specs.Tables.{TablesValue}

-- the rules in a format and under tables
pub record RulesValue : Type 0 where
  pub format : ℕ
  pub tables : TablesValue

abbrev pub format_of : RulesValue → ℕ
format_of r = r.format

abbrev pub text_of : RulesValue → List ℕ
text_of r = r.tables.text
