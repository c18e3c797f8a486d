-- Tables of a text have lines.
use Rattle.std.proofs.Common.{◌≡◌, ℕ, ◌&&◌, Bool, List, [], ◌∷◌, Option, Some, None, refl, sym, subst}
use Rattle.std.specs.Prelude.{IsTrue, IfSome, All, slice_get, option_map, option_and_then}
use Rattle.std.proofs.lemmas.Bool.{and_parts}
use Rattle.std.proofs.lemmas.List.Elements.{All-nil, All-cons, All-head, All-tail, All-append, All-get_or}
use Rattle.std.proofs.lemmas.Option.{slice_get_within, get_or_from_slice_get}
use Rattle.mta_tables.specs.declared.entry.Peer.{Peer as Entry}
use Rattle.mta_tables.specs.declared.line.Line.{Line}
use Rattle.mta_tables.specs.declared.line.Line.TheVariants as Said
use Rattle.mta_tables.specs.Grammar.{Words, NameLine, PeerLine, HasWords, ArePeerWords, IsPeerOf, Mean, Row, IsRow}
use Rattle.mta_tables.specs.Grammar.{said_by, name_in, peer_in, names_of, peers_of, first_of, IsTablesText}
use Rattle.mta_tables.specs.Lines.{PeerText}
use Rattle.mta_tables.specs.Tables.{TablesValue, peer_of}
use Rattle.mta_tables.specs.Words.{is_word, is_password, is_mode, is_filled}
use Rattle.mta_worker.specs.PeerLines.{line_of, line_in, IsLine, IsEntry, HaveLines}

-- ---- one line

entry : (w : PeerText) (p : Entry) → ArePeerWords w → IsPeerOf w p → IsEntry p
entry w p h m =
    let size = is_word w.name && is_password w.send && is_password w.expected && is_mode w.mode in
    let a = and_parts (size && is_filled w.size) (is_filled w.window) h.words in
    let b = and_parts size (is_filled w.size) a.0 in
    let c = and_parts (is_word w.name && is_password w.send && is_password w.expected) (is_mode w.mode) b.0 in
    let d = and_parts (is_word w.name && is_password w.send) (is_password w.expected) c.0 in
    let e = and_parts (is_word w.name) (is_password w.send) d.0 in
    record {
      name = subst (λ x. IsTrue (is_word x)) (sym m.name) e.0;
      send = subst (λ x. IsTrue (is_password x)) (sym m.send) e.1;
      expected = subst (λ x. IsTrue (is_password x)) (sym m.expected) d.1;
      values = (m.checkpoint.most, m.window.least, m.window.most);
    }

abbrev IsNameWord : List ℕ → Type 0
IsNameWord w = IsTrue (is_word w)

peer_said : (octets : List ℕ) (words : Words) (s : Line) → HasWords octets words → Mean words s →
    All IsEntry (peer_in s)
peer_said octets (PeerLine w) (Said.Peer p) h m = All-cons IsEntry p [] (entry w p h.0 m) (All-nil IsEntry)
peer_said octets words (Said.Peer p) h m = absurd m
peer_said octets words s h m = All-nil IsEntry

name_said : (octets : List ℕ) (words : Words) (s : Line) → HasWords octets words → Mean words s →
    All IsNameWord (name_in s)
name_said octets (NameLine w) (Said.Name n) h m =
    All-cons IsNameWord n [] (subst IsNameWord (sym m) h.0) (All-nil IsNameWord)
name_said octets words (Said.Name n) h m = absurd m
name_said octets words s h m = All-nil IsNameWord

-- ---- all lines

peers_said : (rows : List Row) → All IsRow rows → All IsEntry (peers_of (said_by rows))
peers_said [] h = All-nil IsEntry
peers_said (r ∷ rows) h =
    let row = All-head IsRow r rows h in
    All-append IsEntry (peer_in r.says) (peers_of (said_by rows))
    (peer_said r.octets r.words r.says row.has_words row.meaning) (peers_said rows (All-tail IsRow r rows h))

names_said : (rows : List Row) → All IsRow rows → All IsNameWord (names_of (said_by rows))
names_said [] h = All-nil IsNameWord
names_said (r ∷ rows) h =
    let row = All-head IsRow r rows h in
    All-append IsNameWord (name_in r.says) (names_of (said_by rows))
    (name_said r.octets r.words r.says row.has_words row.meaning) (names_said rows (All-tail IsRow r rows h))

first_word : (ws : List (List ℕ)) (w : List ℕ) → All IsNameWord ws → first_of ws ≡ Some w → IsNameWord w
first_word [] w h e = absurd cc
first_word (v ∷ ws) w h e = (let same : v ≡ w = cc in subst IsNameWord same (All-head IsNameWord v ws h))

pub have_lines : (text : List ℕ) (t : TablesValue) → IsTablesText text t → HaveLines t
have_lines text t h = record {
  own = first_word (names_of (said_by h.rows)) t.own (names_said h.rows h.are_rows) h.said.own;
  peers = subst (All IsEntry) (sym h.said.peers) (peers_said h.rows h.are_rows);
}

-- ---- the line of a name

of_entry : (ps : List Entry) (i : ℕ) (o : Option Entry) → slice_get ps i ≡ o → All IsEntry ps →
    IfSome (option_map line_of o) IsLine
of_entry ps i None e h = tt
of_entry ps i (Some p) e h =
    subst IsEntry (get_or_from_slice_get ps i p p e) (All-get_or IsEntry ps i p (slice_get_within ps i p e) h)

of_place : (ps : List Entry) (o : Option ℕ) → All IsEntry ps →
    IfSome (option_map line_of (option_and_then (slice_get ps) o)) IsLine
of_place ps None h = tt
of_place ps (Some i) h = of_entry ps i (slice_get ps i) refl h

pub line_is_one : (t : TablesValue) (name : List ℕ) → HaveLines t → IfSome (line_in t name) IsLine
line_is_one t name h = of_place t.peers (peer_of t name) h.peers
