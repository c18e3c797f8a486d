-- Reading the lines of a text.
use Rattle.std.specs.Prelude.{◌≡◌, ℕ, ◌+◌, Bool, true, false, List, [], ◌∷◌, ◌++◌, length, map}
use Rattle.std.specs.Prelude.{Option, Some, None, is_some, Result, Ok, Err, not, nat_le, ◌==◌, ◌&&◌, ◌||◌}
use Rattle.std.specs.Prelude.{if◌then◌else◌}
use Rattle.std.specs.List.{list_any, position}
use Rattle.std.specs.Str.{bytes_eq}
use Rattle.mta_fields.specs.declared.domain.DomainFields.{DomainFields}
use Rattle.mta_names.specs.declared.attributes.Attributes.{Attributes}
use Rattle.mta_names.specs.Normal.{is_same_name, is_same_texts}
use Rattle.mta_tables.specs.declared.draft.Draft.{Draft}
use Rattle.mta_tables.specs.declared.entry.Holds.{Holds}
use Rattle.mta_tables.specs.declared.entry.Mailbox.{Mailbox}
use Rattle.mta_tables.specs.declared.entry.MailList.{MailList}
use Rattle.mta_tables.specs.declared.entry.Peer.{Peer}
use Rattle.mta_tables.specs.declared.entry.Route.{Route}
use Rattle.mta_tables.specs.declared.entry.Target.{Target}
use Rattle.mta_tables.specs.declared.entry.Target.TheVariants as Targets
use Rattle.mta_tables.specs.declared.fault.LineKind.{LineKind}
use Rattle.mta_tables.specs.declared.fault.LineKind.TheVariants as Kinds
use Rattle.mta_tables.specs.declared.fault.TablesFault.{TablesFault}
use Rattle.mta_tables.specs.declared.fault.TablesFault.TheVariants as Faults
use Rattle.mta_tables.specs.declared.line.Grade.{Grade}
use Rattle.mta_tables.specs.declared.line.Grade.TheVariants as Grades
use Rattle.mta_tables.specs.declared.line.Line.{Line}
use Rattle.mta_tables.specs.declared.line.Line.TheVariants as Says
use Rattle.mta_tables.specs.declared.line.ListHead.{ListHead}
use Rattle.mta_tables.specs.declared.reading.Lines.{Lines}
use Rattle.mta_tables.specs.Lines.{◌>>=◌, line_of}

-- ---- what has been said

abbrev pub nothing : Draft
nothing = record {
  domain = None;
  own = None;
  peers = [];
  mailboxes = [];
  lists = [];
  routes = [];
  urgent = None;
  normal = None;
  non_urgent = None;
}

abbrev pub has_peer_word : List ℕ → Peer → Bool
has_peer_word word p = bytes_eq p.name word

abbrev pub has_mailbox_word : List ℕ → Mailbox → Bool
has_mailbox_word word m = bytes_eq m.word word

abbrev pub has_list_word : List ℕ → MailList → Bool
has_list_word word l = bytes_eq l.word word

abbrev pub is_of_mailbox : Attributes → Mailbox → Bool
is_of_mailbox n m = is_same_name m.name n

abbrev pub is_of_list : Attributes → MailList → Bool
is_of_list n l = is_same_name l.name n

-- a mailbox or a list has the same name
abbrev pub is_named : Draft → Attributes → Bool
is_named d n = list_any (is_of_mailbox n) d.mailboxes || list_any (is_of_list n) d.lists

-- a route has an equal pattern
abbrev pub has_pattern : List (List ℕ) → Route → Bool
has_pattern p r = is_same_texts r.pattern p

abbrev pub held : Grade → Draft → Option ℕ
held Grades.Urgent d = d.urgent
held Grades.Normal d = d.normal
held Grades.NonUrgent d = d.non_urgent

-- ---- one line more

abbrev pub knows_no_peer : Draft → Option (List ℕ) → Bool
knows_no_peer d None = false
knows_no_peer d (Some word) = not (list_any (has_peer_word word) d.peers)

-- the line names a peer or a list that no line before it has made known
abbrev pub is_unknown : Draft → Line → Bool
is_unknown d (Says.From f) = not (list_any (has_list_word f.word) d.lists)
is_unknown d (Says.Member m) = not (list_any (has_list_word m.word) d.lists)
is_unknown d (Says.Route r) = knows_no_peer d r.peer
is_unknown d _ = false

-- a line before it says it
abbrev pub is_said : Draft → Line → Bool
is_said d (Says.Domain x) = is_some d.domain
is_said d (Says.Name w) = is_some d.own
is_said d (Says.Peer p) = list_any (has_peer_word p.name) d.peers
is_said d (Says.Mailbox m) = list_any (has_mailbox_word m.word) d.mailboxes || is_named d m.name
is_said d (Says.List l) = list_any (has_list_word l.word) d.lists || is_named d l.name
is_said d (Says.Route r) = list_any (has_pattern r.pattern) d.routes
is_said d (Says.Hold h) = is_some (held h.grade d)
is_said d _ = false

abbrev pub is_full_from : List ℕ → MailList → Bool
is_full_from word l = has_list_word word l && nat_le 100 (length l.from)

abbrev pub is_full_list : List ℕ → MailList → Bool
is_full_list word l = has_list_word word l && nat_le 1000 (length l.members)

-- as many lines of its kind stand before it as there may be
abbrev pub is_many : Draft → Line → Bool
is_many d (Says.Peer p) = nat_le 64 (length d.peers)
is_many d (Says.Mailbox m) = nat_le 4096 (length d.mailboxes)
is_many d (Says.List l) = nat_le 256 (length d.lists)
is_many d (Says.From f) = list_any (is_full_from f.word) d.lists
is_many d (Says.Member m) = list_any (is_full_list m.word) d.lists
is_many d (Says.Route r) = nat_le 4096 (length d.routes)
is_many d _ = false

-- a list that nobody has been named of
abbrev pub opened : ListHead → MailList
opened l = record { word = l.word; back = l.back; name = l.name; from = []; members = [] }

abbrev pub permitted : List ℕ → List (List ℕ) → MailList → MailList
permitted word p l = if has_list_word word l then record l { from = l.from ++ p ∷ [] } else l

abbrev pub joined : List ℕ → Attributes → MailList → MailList
joined word n l = if has_list_word word l then record l { members = l.members ++ n ∷ [] } else l

-- the peer of a word keeps the place among the peers that its line has
abbrev pub to_place : Option ℕ → Target
to_place None = Targets.Here
to_place (Some place) = Targets.Peer place

abbrev pub target_of : List Peer → Option (List ℕ) → Target
target_of peers None = Targets.Here
target_of peers (Some word) = to_place (position (has_peer_word word) peers)

abbrev pub route_to : List (List ℕ) → Target → Route
route_to p t = record { pattern = p; target = t }

abbrev pub holding : Grade → ℕ → Draft → Draft
holding Grades.Urgent n d = record d { urgent = Some n }
holding Grades.Normal n d = record d { normal = Some n }
holding Grades.NonUrgent n d = record d { non_urgent = Some n }

-- what has been said with the line
abbrev pub added : Draft → Line → Draft
added d Says.Nothing = d
added d (Says.Domain x) = record d { domain = Some x }
added d (Says.Name w) = record d { own = Some w }
added d (Says.Peer p) = record d { peers = d.peers ++ p ∷ [] }
added d (Says.Mailbox m) = record d { mailboxes = d.mailboxes ++ m ∷ [] }
added d (Says.List l) = record d { lists = d.lists ++ opened l ∷ [] }
added d (Says.From f) = record d { lists = map (permitted f.word f.pattern) d.lists }
added d (Says.Member m) = record d { lists = map (joined m.word m.name) d.lists }
added d (Says.Route r) = record d { routes = d.routes ++ route_to r.pattern (target_of d.peers r.peer) ∷ [] }
added d (Says.Hold h) = holding h.grade h.seconds d

-- why the line cannot stand here
abbrev pub refusal : Draft → Line → Option LineKind
refusal d s =
    if is_unknown d s then Some Kinds.Unknown
    else if is_said d s then Some Kinds.Twice
    else if is_many d s then Some Kinds.TooMany
    else None

abbrev pub add_unless : Option LineKind → Draft → Line → Result Draft LineKind
add_unless None d s = Ok (added d s)
add_unless (Some kind) d s = Err kind

-- what has been said with the line, where it can stand here
abbrev pub add : Draft → Line → Result Draft LineKind
add d s = add_unless (refusal d s) d s

unfoldable pub take_line : Draft → List ℕ → Result Draft LineKind
take_line d line = line_of line >>= add d

-- ---- all lines

-- a line's number, from 1, and what is wrong with it
pub record Bad : Type 0 where
  pub line : ℕ
  pub kind : LineKind

abbrev pub bad : {A : Type 0} → ℕ → LineKind → Result A Bad
bad line kind = Err (record { line = line; kind = kind })

abbrev pub or_usual : ℕ → Option ℕ → ℕ
or_usual usual None = usual
or_usual usual (Some n) = n

-- four hours, a day and four days where no line says otherwise
abbrev pub holds_of : Option ℕ → Option ℕ → Option ℕ → Holds
holds_of urgent normal non-urgent = record {
  urgent = or_usual 14400 urgent;
  normal = or_usual 86400 normal;
  non_urgent = or_usual 345600 non-urgent;
}

abbrev pub lines_of : Draft → DomainFields → List ℕ → Lines
lines_of d x w = record {
  domain = x;
  own = w;
  peers = d.peers;
  mailboxes = d.mailboxes;
  lists = d.lists;
  routes = d.routes;
  holds = holds_of d.urgent d.normal d.non_urgent;
}

-- what all lines have said, where this is the number of the line behind the last
abbrev pub ended_with : ℕ → Draft → Option DomainFields → Option (List ℕ) → Result Lines Bad
ended_with number d (Some x) (Some w) = Ok (lines_of d x w)
ended_with number d (Some x) None = bad number Kinds.Missing
ended_with number d None own = bad number Kinds.Missing

abbrev pub ended : ℕ → Draft → Result Lines Bad
ended number d = ended_with number d d.domain d.own

-- a text that does not end with a line feed
abbrev pub unended : ℕ → Draft → List ℕ → Result Lines Bad
unended number d [] = ended number d
unended number d (c ∷ cs) = bad number Kinds.Word

-- what is read behind a line, where it was taken
abbrev pub behind : ℕ → (Draft → Result Lines Bad) → Result Draft LineKind → Result Lines Bad
behind number next (Ok d) = next d
behind number next (Err kind) = bad number kind

-- what the lines say, behind what has been said, the number of the next line, and the octets of it that have been read
abbrev pub read_lines : ℕ → Draft → List ℕ → List ℕ → Result Lines Bad
read_lines number d line [] = unended number d line
read_lines number d line (c ∷ cs) =
    if c == 10 then behind number (λ e. read_lines (number + 1) e [] cs) (take_line d line)
    else read_lines number d (line ++ c ∷ []) cs

-- what is answered is what is read, unless memory ran out
abbrev pub Reads : {A : Type 0} → Result A TablesFault → Result A Bad → Type 0
Reads (Ok x) read = read ≡ Ok x
Reads (Err (Faults.BadLine line kind)) read = read ≡ bad line kind
Reads (Err Faults.Memory) read = Unit {0}
