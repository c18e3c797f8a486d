-- What is read of a text is what the grammar says of it: its tables, or its first bad line.
use Rattle.std.proofs.Common.{◌≡◌, ℕ, zero, suc, ◌+◌, ◌<◌, ◌≤◌, true, false, ltb, List, [], ◌∷◌, ◌++◌, length, Option}
use Rattle.std.proofs.Common.{Some, None, Result, Ok, Err, refl, sym, ap, subst, ◌∙◌, inl, inr, ◌⊎◌, arith}
use Rattle.std.proofs.Common.{append_assoc, append-nil, length-append}
use Rattle.std.specs.Prelude.{All, IfOk}
use Rattle.std.proofs.lemmas.Bool.{cases_Bool, ltb-true, ltb-false, lt-ltb, le-ltb}
use Rattle.std.proofs.lemmas.List.Elements.{All-nil, All-cons, All-head, All-tail}
use Rattle.mta_fields.specs.declared.domain.DomainFields.{DomainFields}
use Rattle.mta_tables.specs.declared.draft.Draft.{Draft}
use Rattle.mta_tables.specs.declared.entry.Holds.{Holds}
use Rattle.mta_tables.specs.declared.entry.Mailbox.{Mailbox}
use Rattle.mta_tables.specs.declared.entry.MailList.{MailList}
use Rattle.mta_tables.specs.declared.entry.Peer.{Peer}
use Rattle.mta_tables.specs.declared.entry.Route.{Route}
use Rattle.mta_tables.specs.declared.fault.LineKind.{LineKind}
use Rattle.mta_tables.specs.declared.fault.LineKind.TheVariants as Kinds
use Rattle.mta_tables.specs.declared.fault.TablesFault.{TablesFault}
use Rattle.mta_tables.specs.declared.fault.TablesFault.TheVariants as Faults
use Rattle.mta_tables.specs.declared.line.Line.{Line}
use Rattle.mta_tables.specs.declared.reading.Lines.{Lines}
use Rattle.mta_tables.specs.Answers.{IsReadAs, IsRefusedAs}
use Rattle.mta_tables.specs.Grammar.{Words, HasWords, Mean, IsOneLine, Row, IsRow, row_octets, text_of, said_by}
use Rattle.mta_tables.specs.Grammar.{domains_of, names_of, first_of, MayFollow, CanStand, AreSaid, IsTablesText, Says}
use Rattle.mta_tables.specs.Grammar.{IsWrong, NextIsWrong, Lacks, EndsWrong, IsBadLine, IsFirstBadLine}
use Rattle.mta_tables.specs.Lines.{◌>>=◌, line_of}
use Rattle.mta_tables.specs.Reading.{Bad, bad, nothing, add, take_line, lines_of, ended_with, ended, unended, behind}
use Rattle.mta_tables.specs.Reading.{read_lines, Reads}
use Rattle.mta_tables.specs.Tables.{TablesValue, tables, tables_of}
use Rattle.mta_tables.specs.Words.{cut_at}
use Rattle.mta_tables.proofs.Cuttings.{cut_made, cut_none, cut_clean, rejoined, cut_back}
use Rattle.mta_tables.proofs.LineCuts.{line_cut, line_ends}
use Rattle.mta_tables.proofs.Standing.{draft_of, nothing_stands, stand_more, stand_last, stand_front, Added, added_so}
use Rattle.mta_tables.proofs.Standing.{follows_is, unknown_is, twice_is, many_is}
use Rattle.mta_tables.proofs.Meanings.{LineJudged, line_judged, said_is_read, wordless_read, numberless_read}
use Rattle.mta_tables.proofs.Meanings.{nameless_read}

-- ---- one line

-- what is read with a line more
pub record Takes (said : List Line) (line : List ℕ) (e : Draft) : Type 0 where
  pub says : Line
  pub says_it : Says line says
  pub draft_is : e ≡ draft_of (said ++ says ∷ [])
  pub follows : MayFollow said says

abbrev pub Taken : List Line → List ℕ → Result Draft LineKind → Type 0
Taken said line (Ok e) = Takes said line e
Taken said line (Err kind) = IsWrong said line kind

taken_added : (said : List Line) (line : List ℕ) (s : Line) (r : Result Draft LineKind) → Says line s → Added said s r
    → Taken said line r
taken_added said line s (Ok e) h a = record { says = s; says_it = h; draft_is = a.0; follows = a.1 }
taken_added said line s (Err Kinds.Unknown) h a = (s, (h, a))
taken_added said line s (Err Kinds.Twice) h a = (s, (h, a))
taken_added said line s (Err Kinds.TooMany) h a = (s, (h, a))
taken_added said line s (Err kind) h a = absurd a

taken_of : (said : List Line) (line : List ℕ) (r : Result Line LineKind) → LineJudged line r
    → Taken said line (r >>= add (draft_of said))
taken_of said line (Ok s) j = taken_added said line s (add (draft_of said) s) j (added_so said s)
taken_of said line (Err Kinds.Word) j = j
taken_of said line (Err Kinds.Number) j = j
taken_of said line (Err Kinds.Name) j = j
taken_of said line (Err kind) j = absurd j

taken : (said : List Line) (line : List ℕ) → Taken said line (take_line (draft_of said) line)
unfolding take_line
taken said line = taken_of said line (line_of line) (line_judged line)

-- ---- and back

wrong_line : (said : List Line) (line : List ℕ) (kind : LineKind) → IsWrong said line kind
    → take_line (draft_of said) line ≡ Err kind
unfolding take_line
wrong_line said line Kinds.Word w = (let e = wordless_read line w in rw e refl)
wrong_line said line Kinds.Number w = (let e = numberless_read line w.0 w.1.0 w.1.1 in rw e refl)
wrong_line said line Kinds.Name w = (let e = nameless_read line w.0 w.1.0 w.1.1.0 w.1.1.1 in rw e refl)
wrong_line said line Kinds.Unknown w = (let e = said_is_read line w.0 w.1.0 in rw e (unknown_is said w.0 w.1.1))
wrong_line said line Kinds.Twice w = (let e = said_is_read line w.0 w.1.0 in rw e (twice_is said w.0 w.1.1.0 w.1.1.1))
wrong_line said line Kinds.TooMany w =
    (let e = said_is_read line w.0 w.1.0 in rw e (many_is said w.0 w.1.1.0 w.1.1.1.0 w.1.1.1.1))
wrong_line said line kind w = absurd w

-- ---- the end

pub record Whole (said : List Line) (text : List ℕ) (lines : Lines) : Type 0 where
  pub rows : List Row
  pub are_rows : All IsRow rows
  pub text_is : text ≡ text_of rows
  pub stand : CanStand (said ++ said_by rows)
  pub are_said : AreSaid (said ++ said_by rows) (tables [] lines)

pub record Stops (said : List Line) (number : ℕ) (text : List ℕ) (b : Bad) : Type 0 where
  pub rows : List Row
  pub are_rows : All IsRow rows
  pub stand : CanStand (said ++ said_by rows)
  pub rest : List ℕ
  pub text_is : text ≡ text_of rows ++ rest
  pub number_is : b.line ≡ number + length rows
  pub fault : NextIsWrong (said ++ said_by rows) rest b.kind ⊎ EndsWrong (said ++ said_by rows) rest b.kind

abbrev pub Judged : List Line → ℕ → List ℕ → Result Lines Bad → Type 0
Judged said number text (Ok lines) = Whole said text lines
Judged said number text (Err b) = Stops said number text b

stops_here : (said : List Line) (number : ℕ) (rest : List ℕ) (kind : LineKind) → CanStand said
    → NextIsWrong said rest kind ⊎ EndsWrong said rest kind
    → Stops said number rest (record { line = number; kind = kind })
stops_here said number rest kind st f = record {
  rows = [];
  are_rows = All-nil IsRow;
  stand = subst CanStand (sym (append-nil said)) st;
  rest = rest;
  text_is = refl;
  number_is = omega arith;
  fault = subst (λ s. NextIsWrong s rest kind ⊎ EndsWrong s rest kind) (sym (append-nil said)) f;
}

-- the tables of lines that have a domain and a name
pub lines_said : (said : List Line) (x : DomainFields) (w : List ℕ) → first_of (domains_of said) ≡ Some x
    → first_of (names_of said) ≡ Some w → AreSaid said (tables [] (lines_of (draft_of said) x w))
lines_said said x w e f = record {
  domain = e;
  own = f;
  peers = refl;
  mailboxes = refl;
  lists = refl;
  routes = refl;
  holds = refl;
}

none_first : {X : Type 0} (xs : List X) → first_of xs ≡ None → xs ≡ []
none_first [] e = refl
none_first (x ∷ xs) e = absurd cc

ends_of : (said : List Line) (number : ℕ) (x : Option DomainFields) (w : Option (List ℕ))
    → first_of (domains_of said) ≡ x → first_of (names_of said) ≡ w → CanStand said
    → Judged said number [] (ended_with number (draft_of said) x w)
ends_of said number (Some x) (Some w) e f st = record {
  rows = [];
  are_rows = All-nil IsRow;
  text_is = refl;
  stand = subst CanStand (sym (append-nil said)) st;
  are_said = subst (λ s. AreSaid s (tables [] (lines_of (draft_of said) x w))) (sym (append-nil said))
      (lines_said said x w e f);
}
ends_of said number (Some x) None e f st =
    stops_here said number [] Kinds.Missing st (inr (refl, inr (none_first (names_of said) f)))
ends_of said number None w e f st =
    stops_here said number [] Kinds.Missing st (inr (refl, inl (none_first (domains_of said) e)))

unended_of : (said : List Line) (number : ℕ) (line : List ℕ) → IsOneLine line → CanStand said
    → Judged said number line (unended number (draft_of said) line)
unended_of said number [] one st =
    ends_of said number (first_of (domains_of said)) (first_of (names_of said)) refl refl st
unended_of said number (c ∷ cs) one st = stops_here said number (c ∷ cs) Kinds.Word st (inr (refl, one))

-- ---- one row more

joined : (said : List Line) (s : Line) (rows : List Line) → (said ++ s ∷ []) ++ rows ≡ said ++ s ∷ rows
joined said s rows = append_assoc said (s ∷ []) rows

row_before : (line rest : List ℕ) → line ++ 10 ∷ rest ≡ (line ++ 10 ∷ []) ++ rest
row_before line rest = sym (append_assoc line (10 ∷ []) rest)

row_of : (line : List ℕ) (s : Line) → Says line s → Row
row_of line s h = record { octets = line; words = h.0; says = s }

judged_more : (said : List Line) (number : ℕ) (text line rest : List ℕ) (s : Line) (h : Says line s)
    (r : Result Lines Bad) → IsOneLine line → text ≡ line ++ 10 ∷ rest
    → Judged (said ++ s ∷ []) (number + 1) rest r → Judged said number text r
judged_more said number text line rest s h (Ok lines) one text-is w =
    let row : Row = record { octets = line; words = h.0; says = s } in
    let same = joined said s (said_by w.rows) in
    record {
      rows = row ∷ w.rows;
      are_rows = All-cons IsRow row w.rows (record { one_line = one; has_words = h.1.0; meaning = h.1.1 }) w.are_rows;
      text_is = text-is ∙ row_before line rest ∙ ap (λ x. (line ++ 10 ∷ []) ++ x) w.text_is;
      stand = subst CanStand same w.stand;
      are_said = subst (λ l. AreSaid l (tables [] lines)) same w.are_said;
    }
judged_more said number text line rest s h (Err b) one text-is w =
    let row : Row = record { octets = line; words = h.0; says = s } in
    let same = joined said s (said_by w.rows) in
    let n = w.number_is in
    record {
      rows = row ∷ w.rows;
      are_rows = All-cons IsRow row w.rows (record { one_line = one; has_words = h.1.0; meaning = h.1.1 }) w.are_rows;
      stand = subst CanStand same w.stand;
      rest = w.rest;
      text_is = text-is ∙ row_before line rest ∙ ap (λ x. (line ++ 10 ∷ []) ++ x) w.text_is
          ∙ sym (append_assoc (line ++ 10 ∷ []) (text_of w.rows) w.rest);
      number_is = omega arith;
      fault = subst (λ l. NextIsWrong l w.rest b.kind ⊎ EndsWrong l w.rest b.kind) same w.fault;
    }

judged_behind : (said : List Line) (number : ℕ) (text line rest : List ℕ) (r : Result Draft LineKind) → CanStand said
    → Taken said line r → IsOneLine line → text ≡ line ++ 10 ∷ rest
    → ((s : Line) → CanStand (said ++ s ∷ [])
    → Judged (said ++ s ∷ []) (number + 1) rest (read_lines (number + 1) (draft_of (said ++ s ∷ [])) [] rest))
    → Judged said number text (behind number (λ e. read_lines (number + 1) e [] rest) r)
judged_behind said number text line rest (Ok e) st t one text-is again =
    let s = t.says in
    let next = again s (stand_more said s st t.follows) in
    let same : read_lines (number + 1) (draft_of (said ++ s ∷ [])) [] rest ≡ read_lines (number + 1) e [] rest =
    ap (λ d. read_lines (number + 1) d [] rest) (sym t.draft_is) in
    judged_more said number text line rest s t.says_it (read_lines (number + 1) e [] rest) one text-is
    (subst (Judged (said ++ s ∷ []) (number + 1) rest) same next)
judged_behind said number text line rest (Err kind) st t one text-is again =
    stops_here said number text kind st
    (inl (record { line = line; more = rest; one_line = one; rest_is = text-is; wrong = t }))

shorter : (text line rest : List ℕ) (fuel : ℕ) → text ≡ line ++ 10 ∷ rest → length text < suc fuel → length rest < fuel
shorter text line rest fuel e h =
    (let l : length text ≡ length line + suc (length rest) = ap length e ∙ length-append line (10 ∷ rest) in
    omega arith)

judge_cut : (fuel number : ℕ) (said : List Line) (text : List ℕ) (t : Option (List ℕ)) → (cut_at 10 text).1 ≡ t
    → length text < suc fuel → CanStand said
    → ((m : ℕ) (more : List Line) (rest : List ℕ) → length rest < fuel → CanStand more
    → Judged more m rest (read_lines m (draft_of more) [] rest))
    → Judged said number text (read_lines number (draft_of said) [] text)
judge_cut fuel number said text None w l st again =
    let d = draft_of said in
    let line = (cut_at 10 text).0 in
    let whole : text ≡ line = cut_back 10 text ∙ ap (rejoined 10 line) w in
    let read : read_lines number d [] text ≡ unended number d text = line_ends text [] number d w
    ∙ ap (unended number d) (sym whole) in
    subst (Judged said number text) (sym read)
    (unended_of said number text (subst IsOneLine (sym whole) (cut_clean 10 text)) st)
judge_cut fuel number said text (Some rest) w l st again =
    let line = (cut_at 10 text).0 in
    let text-is : text ≡ line ++ 10 ∷ rest = cut_back 10 text ∙ ap (rejoined 10 line) w in
    subst (Judged said number text) (sym (line_cut text [] number (draft_of said) rest w))
    (judged_behind said number text line rest (take_line (draft_of said) line) st (taken said line)
    (cut_clean 10 text) text-is
    (λ s stand. again (number + 1) (said ++ s ∷ []) rest (shorter text line rest fuel text-is l) stand))

pub judge : (fuel number : ℕ) (said : List Line) (text : List ℕ) → length text < fuel → CanStand said
    → Judged said number text (read_lines number (draft_of said) [] text)
judge zero number said text l st = absurd (omega arith)
judge (suc fuel) number said text l st = judge_cut fuel number said text (cut_at 10 text).1 refl l st
    (λ m more rest. judge fuel m more rest)

-- ---- whole texts

abbrev ValueSaid : List Line → TablesValue → Type 0
ValueSaid said t = AreSaid said t

pub with_text : (said : List Line) (lines : Lines) (text : List ℕ) → AreSaid said (tables [] lines)
    → AreSaid said (tables text lines)
with_text said lines text h = record {
  domain = h.domain;
  own = h.own;
  peers = h.peers;
  mailboxes = h.mailboxes;
  lists =
      h.lists;
  routes = h.routes;
  holds = h.holds;
}

lines_is : (text : List ℕ) (lines : Lines) → Whole [] text lines → length text ≤ 1048576
    → IsTablesText text (tables text lines)
lines_is text lines w l = record {
  rows = w.rows;
  are_rows = w.are_rows;
  text_is = w.text_is;
  fits = l;
  stand = w.stand;
  kept = refl;
  said = with_text (said_by w.rows) lines text w.are_said;
}

abbrev good : TablesValue → Result TablesValue Bad
good t = Ok t

abbrev wrong : Bad → Result TablesValue Bad
wrong b = Err b

good_is : (s t : TablesValue) → good s ≡ good t → s ≡ t
good_is s t e = cc

wrong_is : (a b : Bad) → wrong a ≡ wrong b → a ≡ b
wrong_is a b e = cc

not_good : (b : Bad) (t : TablesValue) → wrong b ≡ good t → ⊥
not_good b t e = cc

first_bad : (text : List ℕ) (number : ℕ) (kind : LineKind) → (kind ≡ Kinds.TooLong → ⊥) → IsBadLine text number kind
    → IsFirstBadLine text number kind
first_bad text number Kinds.TooLong other b = absurd (other refl)
first_bad text number kind other b = b

missing_other : (kind : LineKind) → kind ≡ Kinds.Missing → kind ≡ Kinds.TooLong → ⊥
missing_other kind e f = cc

word_other : (kind : LineKind) → kind ≡ Kinds.Word → kind ≡ Kinds.TooLong → ⊥
word_other kind e f = cc

ends_other : (said : List Line) (rest : List ℕ) (kind : LineKind) → EndsWrong said rest kind → kind ≡ Kinds.TooLong → ⊥
ends_other said [] kind h e = missing_other kind h.0 e
ends_other said (c ∷ cs) kind h e = word_other kind h.0 e

fault_other : (said : List Line) (rest : List ℕ) (kind : LineKind) → NextIsWrong said rest kind
    ⊎ EndsWrong said rest kind → kind ≡ Kinds.TooLong → ⊥
fault_other said rest kind (inl n) e = (let w = n.wrong in subst (IsWrong said n.line) e w)
fault_other said rest kind (inr h) e = ends_other said rest kind h e

stops_is : (text : List ℕ) (b : Bad) → Stops [] 1 text b → length text ≤ 1048576 → IsFirstBadLine text b.line b.kind
stops_is text b w l = first_bad text b.line b.kind (fault_other (said_by w.rows) w.rest b.kind w.fault) (record {
  fits = l;
  before = w.rows;
  are_rows = w.are_rows;
  stand = w.stand;
  rest = w.rest;
  text_is = w.text_is;
  number_is = (let n = w.number_is in omega arith);
  fault = w.fault;
})

-- what is read is what the grammar says

abbrev Told : List ℕ → Result TablesValue Bad → Type 0
Told text (Ok t) = IsTablesText text t
Told text (Err b) = IsFirstBadLine text b.line b.kind

told_of : (text : List ℕ) (r : Result Lines Bad) → length text ≤ 1048576 → Judged [] 1 text r
    → Told text (r >>= (λ lines. Ok (tables text lines)))
told_of text (Ok lines) l w = lines_is text lines w l
told_of text (Err b) l w = stops_is text b w l

told : (text : List ℕ) → Told text (tables_of text)
unfolding tables_of
told text =
    elim (cases_Bool (ltb 1048576 (length text))) [
      | inl long ↦ rw long (ltb-true 1048576 (length text) long, refl)
      | inr short ↦ rw short (told_of text (read_lines 1 nothing [] text) (ltb-false 1048576 (length text) short)
          (judge (suc (length text)) 1 [] text (omega arith) nothing_stands))
    ]

told_as : (text : List ℕ) (r s : Result TablesValue Bad) → r ≡ s → Told text r → Told text s
told_as text r s e h = subst (Told text) e h

pub tables_found : (text : List ℕ) (t : TablesValue) → tables_of text ≡ Ok t → IsTablesText text t
tables_found text t e = told_as text (tables_of text) (Ok t) e (told text)

pub bad_found : (text : List ℕ) (number : ℕ) (kind : LineKind) → tables_of text ≡ bad number kind
    → IsFirstBadLine text number kind
bad_found text number kind e = told_as text (tables_of text) (bad number kind) e (told text)

-- ---- and back

abbrev Cut : Type 0
Cut = List ℕ × Option (List ℕ)

next_is_wrong : (said : List Line) (number : ℕ) (rest : List ℕ) (kind : LineKind) → NextIsWrong said rest kind
    → read_lines number (draft_of said) [] rest ≡ bad number kind
next_is_wrong said number rest kind n =
    let d = draft_of said in
    let c : cut_at 10 rest ≡ (n.line, Some n.more) = ap (cut_at 10) n.rest_is ∙ cut_made 10 n.line n.more n.one_line in
    let front : (cut_at 10 rest).0 ≡ n.line = ap (λ (p : Cut). p.0) c in
    let behind-is : (cut_at 10 rest).1 ≡ Some n.more = ap (λ (p : Cut). p.1) c in
    line_cut rest [] number d n.more behind-is
    ∙ ap (λ l. behind number (λ e. read_lines (number + 1) e [] n.more) (take_line d l)) front
    ∙ ap (behind number (λ e. read_lines (number + 1) e [] n.more)) (wrong_line said n.line kind n.wrong)

lacking : (said : List Line) (number : ℕ) → Lacks said → ended number (draft_of said) ≡ bad number Kinds.Missing
lacking said number (inl l) = (let e : first_of (domains_of said) ≡ None = ap first_of l in rw e refl)
lacking said number (inr l) = (let e : first_of (names_of said) ≡ None = ap first_of l in
    rw e (no_name (draft_of said) (first_of (domains_of said))))
  where
    no_name : (d : Draft) (x : Option DomainFields) → ended_with number d x None ≡ bad number Kinds.Missing
    no_name d (Some x) = refl
    no_name d None = refl

ends_wrong : (said : List Line) (number : ℕ) (rest : List ℕ) (kind : LineKind) → EndsWrong said rest kind
    → read_lines number (draft_of said) [] rest ≡ bad number kind
ends_wrong said number [] kind w = lacking said number w.1 ∙ ap (bad {A = Lines} number) (sym w.0)
ends_wrong said number (c ∷ cs) kind w =
    let d = draft_of said in
    let e = cut_none 10 (c ∷ cs) w.1 in
    let front : (cut_at 10 (c ∷ cs)).0 ≡ c ∷ cs = ap (λ (p : Cut). p.0) e in
    let none : (cut_at 10 (c ∷ cs)).1 ≡ None = ap (λ (p : Cut). p.1) e in
    line_ends (c ∷ cs) [] number d none ∙ ap (unended number d) front ∙ ap (bad {A = Lines} number) (sym w.0)

fault_read : (said : List Line) (number : ℕ) (rest : List ℕ) (kind : LineKind) → NextIsWrong said rest kind
    ⊎ EndsWrong said rest kind → read_lines number (draft_of said) [] rest ≡ bad number kind
fault_read said number rest kind (inl n) = next_is_wrong said number rest kind n
fault_read said number rest kind (inr w) = ends_wrong said number rest kind w

row_goes : (said : List Line) (number : ℕ) (row : Row) (text : List ℕ) → IsRow row → MayFollow said row.says
    → read_lines number (draft_of said) [] (row_octets row ++ text) ≡ read_lines (number + 1)
    (draft_of (said ++ row.says ∷ [])) [] text
unfolding take_line
row_goes said number row text r f =
    let d = draft_of said in
    let regrouped : row_octets row ++ text ≡ row.octets ++ 10 ∷ text = sym (row_before row.octets text) in
    let c : cut_at 10 (row_octets row ++ text) ≡ (row.octets, Some text) = ap (cut_at 10) regrouped
    ∙ cut_made 10 row.octets text r.one_line in
    let front : (cut_at 10 (row_octets row ++ text)).0 ≡ row.octets = ap (λ (p : Cut). p.0) c in
    let behind-is : (cut_at 10 (row_octets row ++ text)).1 ≡ Some text = ap (λ (p : Cut). p.1) c in
    let e : line_of row.octets ≡ Ok row.says = said_is_read row.octets row.says (row.words, (r.has_words, r.meaning)) in
    let next : Draft → Result Lines Bad = λ x. read_lines (number + 1) x [] text in
    line_cut (row_octets row ++ text) [] number d text behind-is
    ∙ ap (λ l. behind number next (line_of l >>= add d)) front
    ∙ ap (λ x. behind number next (x >>= add d)) e
    ∙ ap (behind number next) (follows_is said row.says f)

the_same : (n : ℕ) → n ≡ n + 0
the_same n = omega arith

pub rows_go : (rows : List Row) (said : List Line) (number : ℕ) (rest : List ℕ) → All IsRow rows
    → CanStand (said ++ said_by rows)
    → read_lines number (draft_of said) [] (text_of rows ++ rest) ≡ read_lines (number + length rows)
    (draft_of (said ++ said_by rows)) [] rest
rows_go [] said number rest a st = ap (λ n. read_lines n (draft_of said) [] rest) (the_same number)
    ∙ ap (λ s. read_lines (number + 0) (draft_of s) [] rest) (sym (append-nil said))
rows_go (row ∷ rows) said number rest a st =
    let same = joined said row.says (said_by rows) in
    let st' : CanStand ((said ++ row.says ∷ []) ++ said_by rows) = subst CanStand (sym same) st in
    let follows = stand_last said row.says (stand_front (said ++ row.says ∷ []) (said_by rows) st') in
    let one = row_goes said number row (text_of rows ++ rest) (All-head IsRow row rows a) follows in
    let others = rows_go rows (said ++ row.says ∷ []) (number + 1) rest (All-tail IsRow row rows a) st' in
    let counted : (number + 1) + length rows ≡ number + suc (length rows) = omega arith in
    ap (read_lines number (draft_of said) []) (append_assoc (row_octets row) (text_of rows) rest) ∙ one ∙ others
    ∙ ap (λ n. read_lines n (draft_of ((said ++ row.says ∷ []) ++ said_by rows)) [] rest) counted
    ∙ ap (λ s. read_lines (number + suc (length rows)) (draft_of s) [] rest) same

bad_line_read : (text : List ℕ) (number : ℕ) (kind : LineKind) → IsBadLine text number kind
    → tables_of text ≡ bad number kind
unfolding tables_of
bad_line_read text number kind b =
    let short : ltb 1048576 (length text) ≡ false = le-ltb 1048576 (length text) b.fits in
    let g = rows_go b.before [] 1 b.rest b.are_rows b.stand in
    let counted : 1 + length b.before ≡ number = (let n = b.number_is in omega arith) in
    let d = draft_of (said_by b.before) in
    let read : read_lines 1 nothing [] text ≡ bad number kind =
    ap (read_lines 1 nothing []) b.text_is ∙ g ∙ ap (λ n. read_lines n d [] b.rest) counted
    ∙ fault_read (said_by b.before) number b.rest kind b.fault in
    rw (short, read) refl

too_long_read : (text : List ℕ) (number : ℕ) → 1048576 < length text → number ≡ 1
    → tables_of text ≡ bad number Kinds.TooLong
unfolding tables_of
too_long_read text number l e =
    (let long : ltb 1048576 (length text) ≡ true = lt-ltb 1048576 (length text) l in rw (long, e) refl)

pub bad_read : (text : List ℕ) (number : ℕ) (kind : LineKind) → IsFirstBadLine text number kind
    → tables_of text ≡ bad number kind
bad_read text number Kinds.TooLong h = too_long_read text number h.0 h.1
bad_read text number kind h = bad_line_read text number kind h

closed : (number : ℕ) (said : List Line) (x : DomainFields) (w : List ℕ) → first_of (domains_of said) ≡ Some x
    → first_of (names_of said) ≡ Some w → ended number (draft_of said) ≡ Ok (lines_of (draft_of said) x w)
closed number said x w e f = rw (e, f) refl

-- tables of their parts
tables_from : List ℕ → DomainFields → List ℕ → List Peer → List Mailbox → List MailList → List Route → Holds
    → TablesValue
tables_from text x w ps ms ls rs h =
    record { text = text; domain = x; own = w; peers = ps; mailboxes = ms; lists = ls; routes = rs; holds = h }

all_parts : (t : TablesValue) → t ≡ tables_from t.text t.domain t.own t.peers t.mailboxes t.lists t.routes t.holds
unfolding tables_from
all_parts t = refl

value_is : (said : List Line) (text : List ℕ) (t : TablesValue) → AreSaid said t → t.text ≡ text
    → tables text (lines_of (draft_of said) t.domain t.own) ≡ t
value_is said text t h e =
    let a = h.peers in
    let b = h.mailboxes in
    let c = h.lists in
    let d = h.routes in
    let f = h.holds in
    let there = all_parts t in
    let here = all_parts (tables text (lines_of (draft_of said) t.domain t.own)) in
    cc

pub tables_read : (text : List ℕ) (t : TablesValue) → IsTablesText text t → tables_of text ≡ Ok t
unfolding tables_of
tables_read text t h =
    let said = said_by h.rows in
    let short : ltb 1048576 (length text) ≡ false = le-ltb 1048576 (length text) h.fits in
    let g = rows_go h.rows [] 1 [] h.are_rows h.stand in
    let all : text ≡ text_of h.rows ++ [] = h.text_is ∙ sym (append-nil (text_of h.rows)) in
    let lines : Lines = lines_of (draft_of said) t.domain t.own in
    let read : read_lines 1 nothing [] text ≡ Ok lines = ap (read_lines 1 nothing []) all ∙ g
    ∙ closed (1 + length h.rows) said t.domain t.own h.said.domain h.said.own in
    rw (short, read) (ap good (value_is said text t h.said h.kept))

-- ---- what a reader answers

pub read_only : (text : List ℕ) (r : Result TablesValue TablesFault) → Reads r (tables_of text) → (t : TablesValue)
    → IsTablesText text t → IsReadAs r t
read_only text (Ok s) h t f = good_is s t (sym h ∙ tables_read text t f)
read_only text (Err (Faults.BadLine line kind)) h t f =
    not_good (record { line = line; kind = kind }) t (sym h ∙ tables_read text t f)
read_only text (Err Faults.Memory) h t f = tt

pub read_found : (text : List ℕ) (r : Result TablesValue TablesFault) → Reads r (tables_of text)
    → IfOk r (IsTablesText text)
read_found text (Ok t) h = tables_found text t h
read_found text (Err e) h = tt

abbrev fault_at : ℕ → LineKind → Result TablesValue TablesFault
fault_at line kind = Err (Faults.BadLine line kind)

no_fault : (t : TablesValue) (r : Result TablesValue TablesFault) (line : ℕ) (kind : LineKind) → r ≡ Ok t
    → r ≡ fault_at line kind → ⊥
no_fault t r line kind e f = cc

memory_fault : (r : Result TablesValue TablesFault) (line : ℕ) (kind : LineKind) → r ≡ Err Faults.Memory
    → r ≡ fault_at line kind → ⊥
memory_fault r line kind e f = cc

same_fault : (m n : ℕ) (k l : LineKind) → fault_at m k ≡ fault_at n l → (m ≡ n) × (k ≡ l)
same_fault m n k l e = ((cc), (cc))

pub read_fault : (text : List ℕ) (r : Result TablesValue TablesFault) → Reads r (tables_of text)
    → (line : ℕ) (kind : LineKind) → r ≡ Err (Faults.BadLine line kind) → IsFirstBadLine text line kind
read_fault text (Ok t) h line kind e = absurd (no_fault t (Ok t) line kind refl e)
read_fault text (Err (Faults.BadLine n why)) h line kind e =
    let same = same_fault n line why kind e in
    bad_found text line kind (h ∙ ap (λ m. bad m why) same.0 ∙ ap (bad line) same.1)
read_fault text (Err Faults.Memory) h line kind e = absurd (memory_fault (Err Faults.Memory) line kind refl e)

same_bad : (m n : ℕ) (k l : LineKind) → wrong (record { line = m; kind = k }) ≡ wrong (record { line = n; kind = l })
    → (m ≡ n) × (k ≡ l)
same_bad m n k l e = (let b = wrong_is (record { line = m; kind = k }) (record { line = n; kind = l }) e in
    (ap (λ x. x.line) b, ap (λ x. x.kind) b))

pub read_refused : (text : List ℕ) (r : Result TablesValue TablesFault) → Reads r (tables_of text)
    → (line : ℕ) (kind : LineKind) → IsFirstBadLine text line kind → IsRefusedAs r line kind
read_refused text (Ok t) h line kind f =
    not_good (record { line = line; kind = kind }) t (sym (bad_read text line kind f) ∙ h)
read_refused text (Err (Faults.BadLine n why)) h line kind f =
    same_bad n line why kind (sym h ∙ bad_read text line kind f)
read_refused text (Err Faults.Memory) h line kind f = tt

-- ---- no text goes on with a wrong line

pub wrong_ends : (before : List Row) (line more : List ℕ) (kind : LineKind) (t : TablesValue) → All IsRow before
    → CanStand (said_by before) → IsOneLine line → IsWrong (said_by before) line kind
    → IsTablesText (text_of before ++ (line ++ 10 ∷ more)) t → ⊥
wrong_ends before line more kind t rows st one w h =
    let text = text_of before ++ (line ++ 10 ∷ more) in
    let b : IsBadLine text (suc (length before)) kind = record {
      fits = h.fits;
      before = before;
      are_rows = rows;
      stand = st;
      rest = line ++ 10 ∷ more;
      text_is = refl;
      number_is = refl;
      fault = inl (record { line = line; more = more; one_line = one; rest_is = refl; wrong = w });
    } in
    not_good (record { line = suc (length before); kind = kind }) t
    (sym (bad_line_read text (suc (length before)) kind b) ∙ tables_read text t h)
