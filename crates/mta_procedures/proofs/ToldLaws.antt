-- The names of the lists of tables keep nothing unread, since they are read from text.
use Rattle.std.proofs.Common.{◌≡◌, ℕ, zero, suc, ◌+◌, Bool, true, false, List, [], ◌∷◌, ◌++◌, Option, Some, None, Ok}
use Rattle.std.proofs.Common.{sym, subst}
use Rattle.std.specs.Prelude.{All, map, slice_get, IfSome}
use Rattle.std.specs.List.{flat_map}
use Rattle.std.specs.Str.{bytes_eq}
use Rattle.std.proofs.lemmas.List.Elements.{All-head, All-tail}
use Rattle.mta_names.specs.declared.attributes.Attributes.{Attributes}
use Rattle.mta_names.specs.Laws.{IsRawAt, AreKeptAt, KeepsName}
use Rattle.mta_names.specs.Values.{Each, IsName}
use Rattle.mta_name_text.specs.Made.{IsTextForm, IsTold}
use Rattle.mta_name_text.proofs.FormsTold.{forms_told}
use Rattle.mta_tables.specs.declared.entry.MailList.{MailList}
use Rattle.mta_tables.specs.declared.line.Line.{Line}
use Rattle.mta_tables.specs.declared.line.Line.TheVariants as Said
use Rattle.mta_tables.specs.Grammar.{Words, SilentLine, DomainLine, NameLine, PeerLine, MailboxLine, ListLine, FromLine}
use Rattle.mta_tables.specs.Grammar.{MemberLine, HereLine, RouteLineTo, HoldLine, Mean, Row, IsRow, said_by, lists_of}
use Rattle.mta_tables.specs.Grammar.{members_for, member_in, one_if}
use Rattle.mta_tables.specs.Tables.{TablesValue, tables_of}
use Rattle.mta_tables.proofs.Grammars.{tables_found}
use Rattle.mta_procedures.specs.Readings.{IsWritableList, ListsOfTablesAreWritable}

-- ---- lines

abbrev IsToldLine : Line → Type 0
IsToldLine (Said.List l) = IsTold l.name
IsToldLine (Said.Member m) = IsTold m.name
IsToldLine _ = Unit {0}

told_form : (text : List ℕ) (n : Attributes) → IsTextForm text n → IsTold n
told_form text n h = ((forms_told text n).0 h).0

told_line : (s : Line) (w : Words) → Mean w s → IsToldLine s
told_line (Said.List l) (ListLine word policy text) h = told_form text l.name h.1.1
told_line (Said.List l) any1 h = absurd h
told_line (Said.Member m) (MemberLine word text) h = told_form text m.name h.1
told_line (Said.Member m) any1 h = absurd h
told_line (Said.Hold h) w k = tt
told_line any0 w h = tt

told_lines : (rows : List Row) → All IsRow rows → Each IsToldLine (said_by rows)
told_lines [] h = tt
told_lines (r ∷ rows) h = (
  told_line r.says r.words (All-head IsRow r rows h).meaning,
  told_lines rows (All-tail IsRow r rows h),
)

-- ---- lists

record IsToldList (l : MailList) : Type 0 where
  name : IsTold l.name
  members : Each IsTold l.members

member_if : (b : Bool) (n : Attributes) (ms : List Attributes) → IsTold n → Each IsTold ms
    → Each IsTold (one_if b n ++ ms)
member_if true n ms h k = (h, k)
member_if false n ms h k = k

told_members : (word : List ℕ) (said : List Line) → Each IsToldLine said → Each IsTold (members_for word said)
told_members word [] h = tt
told_members word (Said.Member m ∷ said) h = member_if (bytes_eq word m.word) m.name (members_for word said) h.0
    (told_members word said h.1)
told_members word (Said.Nothing ∷ said) h = told_members word said h.1
told_members word (Said.Domain d ∷ said) h = told_members word said h.1
told_members word (Said.Name n ∷ said) h = told_members word said h.1
told_members word (Said.Peer p ∷ said) h = told_members word said h.1
told_members word (Said.Mailbox m ∷ said) h = told_members word said h.1
told_members word (Said.List l ∷ said) h = told_members word said h.1
told_members word (Said.From f ∷ said) h = told_members word said h.1
told_members word (Said.Route r ∷ said) h = told_members word said h.1
told_members word (Said.Hold x ∷ said) h = told_members word said h.1

told_lists : (said : List Line) → Each IsToldLine said → Each IsToldList (lists_of said)
told_lists [] h = tt
told_lists (Said.List l ∷ said) h = (record { name = h.0; members = told_members l.word said h.1 }, told_lists said h.1)
told_lists (Said.Nothing ∷ said) h = told_lists said h.1
told_lists (Said.Domain d ∷ said) h = told_lists said h.1
told_lists (Said.Name n ∷ said) h = told_lists said h.1
told_lists (Said.Peer p ∷ said) h = told_lists said h.1
told_lists (Said.Mailbox m ∷ said) h = told_lists said h.1
told_lists (Said.From f ∷ said) h = told_lists said h.1
told_lists (Said.Member m ∷ said) h = told_lists said h.1
told_lists (Said.Route r ∷ said) h = told_lists said h.1
told_lists (Said.Hold x ∷ said) h = told_lists said h.1

-- ---- names

kept_anywhere : (depth : ℕ) (n : Attributes) → IsTold n → KeepsName depth n
kept_anywhere depth n h = record {
  extras = subst (AreKeptAt (depth + 3)) (sym h.extras) tt;
  directory = subst (λ o. IfSome o (IsRawAt (depth + 1) 2 0)) (sym h.directory) tt;
}

all_kept : (depth : ℕ) (ns : List Attributes) → Each IsTold ns → Each (KeepsName depth) ns
all_kept depth [] h = tt
all_kept depth (n ∷ ns) h = (kept_anywhere depth n h.0, all_kept depth ns h.1)

all_names : (ns : List Attributes) → Each IsTold ns → Each IsName ns
all_names [] h = tt
all_names (n ∷ ns) h = (h.0.name, all_names ns h.1)

writable : (l : MailList) → IsToldList l → IsWritableList l
writable l h = record {
  name = h.name.name;
  name_kept = λ depth. kept_anywhere depth l.name h.name;
  members = all_names l.members h.members;
  members_kept = λ depth. all_kept depth l.members h.members;
}

list_at : (ls : List MailList) (i : ℕ) (l : MailList) → Each IsToldList ls → slice_get ls i ≡ Some l → IsToldList l
list_at [] i l h e = absurd cc
list_at (k ∷ ks) zero l h e = let same : k ≡ l = cc in subst IsToldList same h.0
list_at (k ∷ ks) (suc i) l h e = list_at ks i l h.1 e

pub lists_writable : ListsOfTablesAreWritable
lists_writable text t place l read at =
    let found = tables_found text t read in
    let told = subst (Each IsToldList) (sym found.said.lists)
    (told_lists (said_by found.rows) (told_lines found.rows found.are_rows)) in
    writable l (list_at t.lists place l told at)
