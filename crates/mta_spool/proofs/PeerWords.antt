-- The peers that tables name have words that a record holds.
use Rattle.std.proofs.Common.{◌≡◌, ℕ, Bool, true, false, List, [], ◌∷◌, ◌++◌, get_or, Option, None, Some}
use Rattle.std.proofs.Common.{Result, Ok, Err, refl, sym, subst}
use Rattle.std.specs.Prelude.{◌&&◌, is_some, option_and_then}
use Rattle.std.specs.List.{All, position}
use Rattle.std.proofs.lemmas.List.Elements.{All-nil, All-cons, All-head, All-tail, All-get_or}
use Rattle.std.proofs.lemmas.List.Quantifiers.{position-Some}
use Rattle.std.proofs.lemmas.Slice.Eq.{bytes_eq-Decides}
use Rattle.mta_records.specs.Words.{is_word}
use Rattle.mta_tables.specs.declared.entry.Peer.{Peer}
use Rattle.mta_tables.specs.declared.line.Line.{Line}
use Rattle.mta_tables.specs.declared.line.Line.TheVariants as Said
use Rattle.mta_tables.specs.Grammar.{Words, PeerLine}
use Rattle.mta_tables.specs.Grammar.{HasWords, Mean, Row, IsRow, peer_in}
use Rattle.mta_tables.specs.Grammar.{peers_of, said_by}
use Rattle.mta_tables.specs.Words.{is_password, is_mode, is_filled}
use Rattle.mta_tables.specs.Reading.{Bad, has_peer_word}
use Rattle.mta_tables.specs.Tables.{TablesValue, tables_of, peer_of}
use Rattle.mta_tables.proofs.Grammars.{tables_found}
use Rattle.mta_machine.specs.Apdu.{value_read}
use Rattle.mta_machine.specs.Rules.{names_peer, tables_value}
use Rattle.mta_histories.specs.History.{NamesPeer}

-- the peer's name is a word of a record
abbrev HasWord : Peer → Type 0
HasWord p = is_word p.name ≡ true

first-of : (a b c d e f : Bool) → (a && b && c && d && e && f) ≡ true → a ≡ true
first-of true b c d e f all = refl
first-of false b c d e f all = absurd cc

line-word : (words : Words) (p : Peer) (line : List ℕ) → HasWords line words → Mean words (Said.Peer p)
    → is_word p.name ≡ true
line-word (PeerLine w) p line has mean =
    subst (λ (n : List ℕ). is_word n ≡ true) (sym mean.name)
    (first-of (is_word w.name) (is_password w.send) (is_password w.expected) (is_mode w.mode) (is_filled w.size)
    (is_filled w.window) has.0.words)
line-word any0 p line has mean = absurd mean

with-line : (says : Line) (words : Words) (line : List ℕ) (rest : List Peer) → HasWords line words → Mean words says
    → All HasWord rest → All HasWord (peer_in says ++ rest)
with-line (Said.Peer p) words line rest has mean each = All-cons HasWord p rest (line-word words p line has mean) each
with-line any0 words line rest has mean each = each

each-said : (rows : List Row) → All IsRow rows → All HasWord (peers_of (said_by rows))
each-said [] each = All-nil HasWord
each-said (row ∷ rows) each =
    let here = All-head IsRow row rows each in
    with-line row.says row.words row.octets (peers_of (said_by rows)) here.has_words here.meaning
    (each-said rows (All-tail IsRow row rows each))

found-word : (ps : List Peer) (word : List ℕ) (o : Option ℕ) → position (has_peer_word word) ps ≡ o
    → is_some o ≡ true → All HasWord ps → is_word word ≡ true
found-word ps word None found some each = absurd cc
found-word [] word (Some i) found some each = absurd cc
found-word (p ∷ ps) word (Some i) found some each =
    let at = position-Some (has_peer_word word) (p ∷ ps) i p found in
    let same : (get_or (p ∷ ps) i p).name ≡ word = (bytes_eq-Decides (get_or (p ∷ ps) i p).name word).0 at.1 in
    subst (λ (n : List ℕ). is_word n ≡ true) same (All-get_or HasWord (p ∷ ps) i p at.0 each)

by-read : (r : Result TablesValue Bad) (text word : List ℕ) → tables_of text ≡ r
    → is_some (option_and_then (λ (t : TablesValue). peer_of t word) (value_read r)) ≡ true → is_word word ≡ true
by-read (Ok t) text word read some =
    let found = tables_found text t read in
    found-word t.peers word (peer_of t word) refl some
    (subst (All HasWord) (sym found.said.peers) (each-said found.rows found.are_rows))
by-read (Err bad) text word read some = absurd cc

text-word : (text word : List ℕ) → names_peer text word ≡ true → is_word word ≡ true
unfolding names_peer tables_value
text-word text word named = by-read (tables_of text) text word refl named

-- a word that tables name as a peer is one of a record
pub peer_word : (text : Option (List ℕ)) (word : List ℕ) → NamesPeer text word → is_word word ≡ true
peer_word None word named = absurd named
peer_word (Some text) word named = text-word text word named
