-- The words of the peers and of the mailboxes that tables name are such as records have.
use Rattle.std.proofs.Common.{◌≡◌, ℕ, zero, suc, Bool, true, false, List, [], ◌∷◌, ◌++◌, Option, None, Some}
use Rattle.std.proofs.Common.{Result, Ok, Err, refl, sym, subst}
use Rattle.std.specs.Prelude.{◌&&◌, option_and_then, option_map, slice_get}
use Rattle.std.specs.List.{All}
use Rattle.std.proofs.lemmas.List.Elements.{All-nil, All-cons, All-head, All-tail}
use Rattle.std.proofs.lemmas.Option.{same_Some}
use Rattle.mta_records.specs.Words.{is_word}
use Rattle.mta_tables.specs.declared.entry.Peer.{Peer}
use Rattle.mta_tables.specs.declared.entry.Mailbox.{Mailbox}
use Rattle.mta_tables.specs.declared.line.Line.{Line}
use Rattle.mta_tables.specs.declared.line.Line.TheVariants as Said
use Rattle.mta_tables.specs.Grammar.{Words, PeerLine, MailboxLine}
use Rattle.mta_tables.specs.Grammar.{HasWords, Mean, Row, IsRow, peer_in, mailbox_in}
use Rattle.mta_tables.specs.Grammar.{peers_of, mailboxes_of, said_by}
use Rattle.mta_tables.specs.Words.{is_password, is_mode, is_filled}
use Rattle.mta_tables.specs.Reading.{Bad}
use Rattle.mta_tables.specs.Tables.{TablesValue, tables_of}
use Rattle.mta_tables.proofs.Grammars.{tables_found}
use Rattle.mta_machine.specs.Apdu.{value_read}
use Rattle.mta_machine.specs.Rules.{mailbox_at, mailbox_word, peer_at, peer_word, tables_value, word_of_mailbox}
use Rattle.mta_machine.specs.Rules.{word_of_peer}

-- ---- a list of which each has a property

at-place : {A : Type 0} (P : A → Type 0) (xs : List A) (k : ℕ) (x : A) → slice_get xs k ≡ Some x → All P xs → P x
at-place P [] k x e each = absurd cc
at-place P (y ∷ ys) zero x e each = subst P (same_Some y x e) (All-head P y ys each)
at-place P (y ∷ ys) (suc k) x e each = at-place P ys k x e (All-tail P y ys each)

-- ---- peers

-- the peer's name is a word of a record
abbrev HasPeerWord : Peer → Type 0
HasPeerWord p = is_word p.name ≡ true

first-of : (a b c d e f : Bool) → (a && b && c && d && e && f) ≡ true → a ≡ true
first-of true b c d e f all = refl
first-of false b c d e f all = absurd cc

peer-line : (words : Words) (p : Peer) (line : List ℕ) → HasWords line words → Mean words (Said.Peer p)
    → is_word p.name ≡ true
peer-line (PeerLine w) p line has mean =
    subst (λ (n : List ℕ). is_word n ≡ true) (sym mean.name)
    (first-of (is_word w.name) (is_password w.send) (is_password w.expected) (is_mode w.mode) (is_filled w.size)
    (is_filled w.window) has.0.words)
peer-line any0 p line has mean = absurd mean

with-peer : (says : Line) (words : Words) (line : List ℕ) (rest : List Peer) → HasWords line words → Mean words says
    → All HasPeerWord rest → All HasPeerWord (peer_in says ++ rest)
with-peer (Said.Peer p) words line rest has mean each =
    All-cons HasPeerWord p rest (peer-line words p line has mean) each
with-peer any0 words line rest has mean each = each

each-peer : (rows : List Row) → All IsRow rows → All HasPeerWord (peers_of (said_by rows))
each-peer [] each = All-nil HasPeerWord
each-peer (row ∷ rows) each =
    let here = All-head IsRow row rows each in
    with-peer row.says row.words row.octets (peers_of (said_by rows)) here.has_words here.meaning
    (each-peer rows (All-tail IsRow row rows each))

peer-of : (o : Option Peer) (word : List ℕ) → ((p : Peer) → o ≡ Some p → is_word p.name ≡ true)
    → option_map word_of_peer o ≡ Some word → is_word word ≡ true
peer-of None word h e = absurd cc
peer-of (Some p) word h e = subst (λ (w : List ℕ). is_word w ≡ true) (same_Some p.name word e) (h p refl)

peer-read : (r : Result TablesValue Bad) (text : List ℕ) (place : ℕ) (word : List ℕ) → tables_of text ≡ r
    → option_and_then (λ (t : TablesValue). peer_at t place) (value_read r) ≡ Some word → is_word word ≡ true
peer-read (Ok t) text place word read e =
    let found = tables_found text t read in
    let each : All HasPeerWord t.peers =
    subst (All HasPeerWord) (sym found.said.peers) (each-peer found.rows found.are_rows) in
    peer-of (slice_get t.peers place) word (λ p is. at-place HasPeerWord t.peers place p is each) e
peer-read (Err bad) text place word read e = absurd cc

-- a peer at a place in tables has a word of a record
pub peer-word-is : (text : List ℕ) (place : ℕ) (word : List ℕ) → peer_word text place ≡ Some word
    → is_word word ≡ true
unfolding peer_word tables_value
peer-word-is text place word e = peer-read (tables_of text) text place word refl e

-- ---- mailboxes

-- the mailbox's word is one of a record
abbrev HasMailboxWord : Mailbox → Type 0
HasMailboxWord m = is_word m.word ≡ true

mailbox-line : (words : Words) (m : Mailbox) (line : List ℕ) → HasWords line words → Mean words (Said.Mailbox m)
    → is_word m.word ≡ true
mailbox-line (MailboxLine word text) m line has mean =
    subst (λ (w : List ℕ). is_word w ≡ true) (sym mean.0) has.0
mailbox-line any0 m line has mean = absurd mean

with-mailbox : (says : Line) (words : Words) (line : List ℕ) (rest : List Mailbox) → HasWords line words
    → Mean words says → All HasMailboxWord rest → All HasMailboxWord (mailbox_in says ++ rest)
with-mailbox (Said.Mailbox m) words line rest has mean each =
    All-cons HasMailboxWord m rest (mailbox-line words m line has mean) each
with-mailbox any0 words line rest has mean each = each

each-mailbox : (rows : List Row) → All IsRow rows → All HasMailboxWord (mailboxes_of (said_by rows))
each-mailbox [] each = All-nil HasMailboxWord
each-mailbox (row ∷ rows) each =
    let here = All-head IsRow row rows each in
    with-mailbox row.says row.words row.octets (mailboxes_of (said_by rows)) here.has_words here.meaning
    (each-mailbox rows (All-tail IsRow row rows each))

mailbox-of : (o : Option Mailbox) (word : List ℕ) → ((m : Mailbox) → o ≡ Some m → is_word m.word ≡ true)
    → option_map word_of_mailbox o ≡ Some word → is_word word ≡ true
mailbox-of None word h e = absurd cc
mailbox-of (Some m) word h e = subst (λ (w : List ℕ). is_word w ≡ true) (same_Some m.word word e) (h m refl)

mailbox-read : (r : Result TablesValue Bad) (text : List ℕ) (place : ℕ) (word : List ℕ) → tables_of text ≡ r
    → option_and_then (λ (t : TablesValue). mailbox_at t place) (value_read r) ≡ Some word → is_word word ≡ true
mailbox-read (Ok t) text place word read e =
    let found = tables_found text t read in
    let each : All HasMailboxWord t.mailboxes =
    subst (All HasMailboxWord) (sym found.said.mailboxes) (each-mailbox found.rows found.are_rows) in
    mailbox-of (slice_get t.mailboxes place) word (λ m is. at-place HasMailboxWord t.mailboxes place m is each) e
mailbox-read (Err bad) text place word read e = absurd cc

-- a mailbox at a place in tables has a word of a record
pub mailbox-word-is : (text : List ℕ) (place : ℕ) (word : List ℕ) → mailbox_word text place ≡ Some word
    → is_word word ≡ true
unfolding mailbox_word tables_value
mailbox-word-is text place word e = mailbox-read (tables_of text) text place word refl e
