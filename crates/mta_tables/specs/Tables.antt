-- The tables of a text.
use Rattle.std.specs.Prelude.{◌≡◌, ℕ, List, [], length, Option, Result, Ok, nat_lt, if◌then◌else◌}
use Rattle.std.specs.List.{position}
use Rattle.mta_fields.specs.declared.domain.DomainFields.{DomainFields}
use Rattle.mta_tables.specs.declared.entry.Holds.{Holds}
use Rattle.mta_tables.specs.declared.entry.Mailbox.{Mailbox}
use Rattle.mta_tables.specs.declared.entry.MailList.{MailList}
use Rattle.mta_tables.specs.declared.entry.Peer.{Peer}
use Rattle.mta_tables.specs.declared.entry.Route.{Route}
use Rattle.mta_tables.specs.declared.fault.LineKind.TheVariants as Kinds
use Rattle.mta_tables.specs.declared.reading.Lines.{Lines}
use Rattle.mta_tables.specs.Lines.{◌>>=◌}
use Rattle.mta_tables.specs.Reading.{Bad, bad, nothing, read_lines, has_peer_word, has_mailbox_word}

-- the text, and what its lines say, the lines of each kind in their order
pub record TablesValue : Type 0 where
  pub text : List ℕ
  pub domain : DomainFields
  pub own : List ℕ
  pub peers : List Peer
  pub mailboxes : List Mailbox
  pub lists : List MailList
  pub routes : List Route
  pub holds : Holds

abbrev pub tables : List ℕ → Lines → TablesValue
tables text lines = record {
  text = text;
  domain = lines.domain;
  own = lines.own;
  peers = lines.peers;
  mailboxes = lines.mailboxes;
  lists = lines.lists;
  routes = lines.routes;
  holds = lines.holds;
}

-- the tables of a text, or its first bad line
unfoldable pub tables_of : List ℕ → Result TablesValue Bad
tables_of text =
    if nat_lt 1048576 (length text) then bad 1 Kinds.TooLong
    else (read_lines 1 nothing [] text >>= λ lines. Ok (tables text lines))

-- the place of the peer of this word
abbrev pub peer_of : TablesValue → List ℕ → Option ℕ
peer_of t word = position (has_peer_word word) t.peers

-- the place of the mailbox of this word
abbrev pub mailbox_of : TablesValue → List ℕ → Option ℕ
mailbox_of t word = position (has_mailbox_word word) t.mailboxes
