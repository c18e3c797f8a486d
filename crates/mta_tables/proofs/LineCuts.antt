-- Cutting a text, and reading it line by line.
use Rattle.std.proofs.Common.{◌≡◌, ℕ, ◌+◌, eqb, List, [], ◌∷◌, ◌++◌, Option, Some, None, Result, Ok, Err, refl, sym, ap}
use Rattle.std.proofs.Common.{◌∙◌, inl, inr, append_assoc, append-nil}
use Rattle.std.proofs.lemmas.Bool.{cases_Bool}
use Rattle.mta_tables.specs.declared.draft.Draft.{Draft}
use Rattle.mta_tables.specs.Words.{cut_at}
use Rattle.mta_tables.specs.Reading.{take_line, bad, behind, unended, read_lines, Reads}
use Rattle.mta_tables.specs.Drafts.{Takes}
use Rattle.mta_tables.specs.declared.fault.TablesFault.{TablesFault}
use Rattle.mta_tables.specs.declared.fault.TablesFault.TheVariants as Faults
use Rattle.mta_tables.specs.declared.reading.Lines.{Lines}
use Rattle.mta_tables.specs.declared.fault.LineKind.{LineKind}

abbrev some : List ℕ → Option (List ℕ)
some a = Some a

some_is : (a b : List ℕ) → some a ≡ some b → a ≡ b
some_is a b e = cc

-- up to the first line feed a line is read, and it is taken there
pub line_cut : (text line : List ℕ) (number : ℕ) (d : Draft) (rest : List ℕ) → (cut_at 10 text).1 ≡ Some rest
    → read_lines number d line text ≡ behind number (λ e. read_lines (number + 1) e [] rest)
    (take_line d (line ++ (cut_at 10 text).0))
line_cut [] line number d rest e = absurd cc
line_cut (c ∷ cs) line number d rest e =
    elim (cases_Bool (eqb c 10)) [
      | inl feed ↦ (
          let same : cs ≡ rest = some_is cs rest (rw feed at e) in
          rw (feed, append-nil, same) refl)
      | inr other ↦ (
          let later : (cut_at 10 cs).1 ≡ Some rest = rw other at e in
          let r = line_cut cs (line ++ c ∷ []) number d rest later in
          rw other (r ∙ ap (λ l. behind number (λ x. read_lines (number + 1) x [] rest) (take_line d l))
          (append_assoc line (c ∷ []) (cut_at 10 cs).0)))
    ]

-- without a line feed all of the text is read as the last line
pub line_ends : (text line : List ℕ) (number : ℕ) (d : Draft) → (cut_at 10 text).1 ≡ None
    → read_lines number d line text ≡ unended number d (line ++ (cut_at 10 text).0)
line_ends [] line number d e = ap (unended number d) (sym (append-nil line))
line_ends (c ∷ cs) line number d e =
    elim (cases_Bool (eqb c 10)) [
      | inl feed ↦ (let none : some cs ≡ None = rw feed at e in absurd cc)
      | inr other ↦ (
          let later : (cut_at 10 cs).1 ≡ None = rw other at e in
          let r = line_ends cs (line ++ c ∷ []) number d later in
          rw other (r ∙ ap (unended number d) (append_assoc line (c ∷ []) (cut_at 10 cs).0)))
    ]

pub line_taken : (text line rest : List ℕ) (number : ℕ) (d e : Draft) → line ≡ (cut_at 10 text).0
    → (cut_at 10 text).1 ≡ Some rest → take_line d line ≡ Ok e
    → read_lines number d [] text ≡ read_lines (number + 1) e [] rest
line_taken text line rest number d e front behind-is taken = line_cut text [] number d rest behind-is
    ∙ ap (behind number (λ x. read_lines (number + 1) x [] rest)) (ap (take_line d) (sym front) ∙ taken)

pub line_refused : (text line rest : List ℕ) (number : ℕ) (d : Draft) (kind : LineKind) → line ≡ (cut_at 10 text).0
    → (cut_at 10 text).1 ≡ Some rest → take_line d line ≡ Err kind → read_lines number d [] text ≡ bad number kind
line_refused text line rest number d kind front behind-is taken = line_cut text [] number d rest behind-is
    ∙ ap (behind number (λ x. read_lines (number + 1) x [] rest)) (ap (take_line d) (sym front) ∙ taken)

abbrev refused : TablesFault → Result Lines TablesFault
refused fault = Err fault

abbrev stopped : TablesFault → Result (Unit {0}) TablesFault
stopped fault = Err fault

pub line_fault : (text line rest : List ℕ) (number : ℕ) (d new : Draft) (fault : TablesFault)
    → line ≡ (cut_at 10 text).0 → (cut_at 10 text).1 ≡ Some rest → Takes number (stopped fault) new (take_line d line)
    → Reads (refused fault) (read_lines number d [] text)
line_fault text line rest number d new (Faults.BadLine at kind) front behind-is h =
    line_refused text line rest number d kind front behind-is h.1 ∙ ap (λ n. bad n kind) (sym h.0)
line_fault text line rest number d new Faults.Memory front behind-is h = tt
