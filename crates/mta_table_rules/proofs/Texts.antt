-- Which texts are texts of tables, and that tables keep theirs.
use Rattle.std.proofs.Common.{◌≡◌, ℕ, Bool, true, false, List, [], length, Result, Ok, Err, sym, ap}
use Rattle.std.specs.Prelude.{if◌then◌else◌, is_some, nat_lt}
use Rattle.mta_tables.specs.declared.fault.LineKind.{LineKind}
use Rattle.mta_tables.specs.declared.fault.LineKind.TheVariants as Kinds
use Rattle.mta_tables.specs.declared.reading.Lines.{Lines}
use Rattle.mta_tables.specs.Lines.{◌>>=◌}
use Rattle.mta_tables.specs.Reading.{Bad, bad, nothing, read_lines}
use Rattle.mta_tables.specs.Tables.{TablesValue, tables, tables_of}
use Rattle.mta_machine.specs.Apdu.{value_read}
use Rattle.mta_machine.specs.Rules.{is_tables_text, tables_value}

kept_so : (text : List ℕ) (t : TablesValue) (b : Bool) (r : Result Lines Bad)
    → (if b then bad 1 Kinds.TooLong else (r >>= λ lines. Ok (tables text lines))) ≡ Ok t → t.text ≡ text
kept_so text t true r e = absurd cc
kept_so text t false (Err x) e = absurd cc
kept_so text t false (Ok lines) e =
    let same : tables text lines ≡ t = cc in
    ap (λ (x : TablesValue). x.text) (sym same)

pub text_kept : (text : List ℕ) (t : TablesValue) → tables_of text ≡ Ok t → t.text ≡ text
unfolding tables_of
text_kept text t e = kept_so text t (nat_lt 1048576 (length text)) (read_lines 1 nothing [] text) e

pub is_text : (text : List ℕ) (t : TablesValue) → tables_of text ≡ Ok t → is_tables_text text ≡ true
unfolding is_tables_text tables_value
is_text text t e = ap (λ (r : Result TablesValue Bad). is_some (value_read r)) e

pub no_text : (text : List ℕ) (line : ℕ) (kind : LineKind) → tables_of text ≡ bad line kind
    → is_tables_text text ≡ false
unfolding is_tables_text tables_value
no_text text line kind e = ap (λ (r : Result TablesValue Bad). is_some (value_read r)) e
