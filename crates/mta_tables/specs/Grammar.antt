-- The grammar of a text of tables: which text has which tables, and which line is the first at which no such text
-- goes on.
use Rattle.std.specs.Prelude.{◌≡◌, ◌≢◌, ◌⊎◌, ℕ, suc, ◌<◌, ◌≤◌, Bool, List, [], ◌∷◌}
use Rattle.std.specs.Prelude.{◌++◌, length, map, Option, Some, None, All, IsTrue, codes, if◌then◌else◌}
use Rattle.std.specs.List.{flat_map, Any}
use Rattle.std.specs.Str.{bytes_eq}
use Rattle.mta_fields.specs.declared.domain.DomainFields.{DomainFields}
use Rattle.mta_names.specs.declared.attributes.Attributes.{Attributes}
use Rattle.mta_names.specs.Normal.{IsSameName}
use Rattle.mta_name_text.specs.Made.{IsTextForm, IsPatternForm}
use Rattle.mta_tables.specs.declared.entry.Holds.{Holds}
use Rattle.mta_tables.specs.declared.entry.Mailbox.{Mailbox}
use Rattle.mta_tables.specs.declared.entry.MailList.{MailList}
use Rattle.mta_tables.specs.declared.entry.Peer.{Peer}
use Rattle.mta_tables.specs.declared.entry.Route.{Route}
use Rattle.mta_tables.specs.declared.fault.LineKind.{LineKind}
use Rattle.mta_tables.specs.declared.fault.LineKind.TheVariants as Kinds
use Rattle.mta_tables.specs.declared.line.Grade.{Grade}
use Rattle.mta_tables.specs.declared.line.Grade.TheVariants as Grades
use Rattle.mta_tables.specs.declared.line.Line.{Line}
use Rattle.mta_tables.specs.declared.line.Line.TheVariants as Said
use Rattle.mta_tables.specs.declared.line.ListHead.{ListHead}
use Rattle.mta_tables.specs.declared.line.RouteLine.{RouteLine}
use Rattle.mta_tables.specs.Domain.{name_of_domain}
use Rattle.mta_tables.specs.Lines.{PeerText, are_peer_words}
use Rattle.mta_tables.specs.Reading.{or_usual, holds_of, target_of, route_to}
use Rattle.mta_tables.specs.Sameness.{IsSamePattern}
use Rattle.mta_tables.specs.Tables.{TablesValue}
use Rattle.mta_tables.specs.Words.{is_word, is_twa, is_policy, is_back, is_filled, is_silent, is_decimal, number_of}
use Rattle.mta_tables.specs.Words.{grade_text}

-- ---- lines

-- the words of a line, where the text of a name or of a pattern counts as one word
pub data Words : Type 0 where
  SilentLine : Words
  DomainLine : (text : List ℕ) → Words
  NameLine : (word : List ℕ) → Words
  PeerLine : (words : PeerText) → Words
  MailboxLine : (word text : List ℕ) → Words
  ListLine : (word policy text : List ℕ) → Words
  FromLine : (word text : List ℕ) → Words
  MemberLine : (word text : List ℕ) → Words
  HereLine : (text : List ℕ) → Words
  RouteLineTo : (text word : List ℕ) → Words
  HoldLine : (grade : Grade) (seconds : List ℕ) → Words

abbrev pub HasNo : ℕ → List ℕ → Type 0
HasNo c text = All (λ d. d ≢ c) text

-- a word, the text behind it, and the space between them
abbrev pub spaced : List ℕ → List ℕ → List ℕ
spaced word text = word ++ 32 ∷ text

abbrev pub peer_text : PeerText → List ℕ
peer_text p = spaced p.name (spaced p.send (spaced p.expected (spaced p.mode (spaced p.size p.window))))

-- its last word is `peer`
pub data EndsInPeer (text : List ℕ) : Type 0 where
  alone : text ≡ codes "peer" → EndsInPeer text
  behind : (front : List ℕ) → text ≡ spaced front (codes "peer") → EndsInPeer text

-- the words of a line about a peer are such words
pub record ArePeerWords (p : PeerText) : Type 0 where
  pub words : IsTrue (are_peer_words p)
  pub size : HasNo 32 p.size
  pub window : HasNo 32 p.window

-- the line has these words: it is silent, or they stand in it, one space between two
abbrev pub HasWords : List ℕ → Words → Type 0
HasWords line SilentLine = IsTrue (is_silent line)
HasWords line (DomainLine text) = line ≡ codes "domain " ++ text
HasWords line (NameLine word) = IsTrue (is_word word) × (line ≡ codes "name " ++ word)
HasWords line (PeerLine words) = ArePeerWords words × (line ≡ codes "peer " ++ peer_text words)
HasWords line (MailboxLine word text) = IsTrue (is_word word) × (line ≡ codes "mailbox " ++ spaced word text)
HasWords line (ListLine word policy text) =
    IsTrue (is_word word) × (IsTrue (is_policy policy) × (line ≡ codes "list " ++ spaced word (spaced policy text)))
HasWords line (FromLine word text) = IsTrue (is_word word) × (line ≡ codes "from " ++ spaced word text)
HasWords line (MemberLine word text) = IsTrue (is_word word) × (line ≡ codes "member " ++ spaced word text)
HasWords line (HereLine text) = (EndsInPeer text → ⊥) × (line ≡ codes "route " ++ spaced text (codes "here"))
HasWords line (RouteLineTo text word) =
    IsTrue (is_word word) × (line ≡ codes "route " ++ spaced (spaced text (codes "peer")) word)
HasWords line (HoldLine grade seconds) =
    IsTrue (is_filled seconds) × (HasNo 32 seconds × (line ≡ codes "hold " ++ spaced (grade_text grade) seconds))

-- decimal digits without leading zeros that say this number, which is one from `low` to `high`
pub record IsNumber (low high : ℕ) (text : List ℕ) (n : ℕ) : Type 0 where
  pub decimal : IsTrue (is_decimal text)
  pub number_is : n ≡ number_of text
  pub least : low ≤ n
  pub most : n ≤ high

abbrev pub IsNoNumber : ℕ → ℕ → List ℕ → Type 0
IsNoNumber low high text = (n : ℕ) → IsNumber low high text n → ⊥

-- one of the words has to be a number in a range and is none
abbrev pub LacksNumber : Words → Type 0
LacksNumber (PeerLine words) = IsNoNumber 0 64 words.size ⊎ IsNoNumber 1 8 words.window
LacksNumber (HoldLine grade seconds) = IsNoNumber 0 31536000 seconds
LacksNumber _ = ⊥

pub record IsPeerOf (words : PeerText) (p : Peer) : Type 0 where
  pub name : p.name ≡ words.name
  pub send : p.send_password ≡ words.send
  pub expected : p.expected_password ≡ words.expected
  pub twa : p.twa ≡ is_twa words.mode
  pub checkpoint : IsNumber 0 64 words.size p.checkpoint
  pub window : IsNumber 1 8 words.window p.window

-- what the words say, where the text of each name or pattern is one
abbrev pub Mean : Words → Line → Type 0
Mean SilentLine Said.Nothing = Unit {0}
Mean (DomainLine text) (Said.Domain d) = IsTextForm text (name_of_domain d)
Mean (NameLine word) (Said.Name w) = w ≡ word
Mean (PeerLine words) (Said.Peer p) = IsPeerOf words p
Mean (MailboxLine word text) (Said.Mailbox m) = (m.word ≡ word) × IsTextForm text m.name
Mean (ListLine word policy text) (Said.List l) =
    (l.word ≡ word) × ((l.back ≡ is_back policy) × IsTextForm text l.name)
Mean (FromLine word text) (Said.From f) = (f.word ≡ word) × IsPatternForm text f.pattern
Mean (MemberLine word text) (Said.Member m) = (m.word ≡ word) × IsTextForm text m.name
Mean (HereLine text) (Said.Route r) = (r.peer ≡ None) × IsPatternForm text r.pattern
Mean (RouteLineTo text word) (Said.Route r) = (r.peer ≡ Some word) × IsPatternForm text r.pattern
Mean (HoldLine grade seconds) (Said.Hold h) = (h.grade ≡ grade) × IsNumber 0 31536000 seconds h.seconds
Mean words says = ⊥

abbrev pub IsOneLine : List ℕ → Type 0
IsOneLine octets = HasNo 10 octets

-- a line without its line feed, its words, and what it says
pub record Row : Type 0 where
  pub octets : List ℕ
  pub words : Words
  pub says : Line

pub record IsRow (r : Row) : Type 0 where
  pub one_line : IsOneLine r.octets
  pub has_words : HasWords r.octets r.words
  pub meaning : Mean r.words r.says

-- ---- what lines say, by their kinds

abbrev pub domain_in : Line → List DomainFields
domain_in (Said.Domain d) = d ∷ []
domain_in _ = []

abbrev pub name_in : Line → List (List ℕ)
name_in (Said.Name w) = w ∷ []
name_in _ = []

abbrev pub peer_in : Line → List Peer
peer_in (Said.Peer p) = p ∷ []
peer_in _ = []

abbrev pub mailbox_in : Line → List Mailbox
mailbox_in (Said.Mailbox m) = m ∷ []
mailbox_in _ = []

abbrev pub head_in : Line → List ListHead
head_in (Said.List l) = l ∷ []
head_in _ = []

abbrev pub route_in : Line → List RouteLine
route_in (Said.Route r) = r ∷ []
route_in _ = []

abbrev pub one_if : {X : Type 0} → Bool → X → List X
one_if b x = if b then x ∷ [] else []

-- the pattern of a line that lets post to the list of this word
abbrev pub pattern_in : List ℕ → Line → List (List (List ℕ))
pattern_in word (Said.From f) = one_if (bytes_eq word f.word) f.pattern
pattern_in word _ = []

-- the name of a line that makes a member of the list of this word
abbrev pub member_in : List ℕ → Line → List Attributes
member_in word (Said.Member m) = one_if (bytes_eq word m.word) m.name
member_in word _ = []

abbrev pub is_grade : Grade → Grade → Bool
is_grade g h = bytes_eq (grade_text g) (grade_text h)

abbrev pub hold_in : Grade → Line → List ℕ
hold_in g (Said.Hold h) = one_if (is_grade g h.grade) h.seconds
hold_in g _ = []

abbrev pub domains_of : List Line → List DomainFields
domains_of said = flat_map domain_in said

abbrev pub names_of : List Line → List (List ℕ)
names_of said = flat_map name_in said

abbrev pub peers_of : List Line → List Peer
peers_of said = flat_map peer_in said

abbrev pub mailboxes_of : List Line → List Mailbox
mailboxes_of said = flat_map mailbox_in said

abbrev pub patterns_for : List ℕ → List Line → List (List (List ℕ))
patterns_for word said = flat_map (pattern_in word) said

abbrev pub members_for : List ℕ → List Line → List Attributes
members_for word said = flat_map (member_in word) said

abbrev pub holds_in : Grade → List Line → List ℕ
holds_in g said = flat_map (hold_in g) said

-- a list has the patterns and the members that later lines with its word say
abbrev pub list_of : List Line → ListHead → MailList
list_of later l = record {
  word = l.word;
  back = l.back;
  name = l.name;
  from = patterns_for l.word later;
  members = members_for l.word later;
}

abbrev pub lists_of : List Line → List MailList
lists_of [] = []
lists_of (s ∷ later) = map (list_of later) (head_in s) ++ lists_of later

-- a route goes to the place of its peer among the peers of earlier lines
abbrev pub route_behind : List Line → RouteLine → Route
route_behind earlier r = route_to r.pattern (target_of (peers_of earlier) r.peer)

abbrev pub routes_behind : List Line → List Line → List Route
routes_behind earlier [] = []
routes_behind earlier (s ∷ later) =
    map (route_behind earlier) (route_in s) ++ routes_behind (earlier ++ s ∷ []) later

abbrev pub routes_of : List Line → List Route
routes_of said = routes_behind [] said

abbrev pub first_of : {X : Type 0} → List X → Option X
first_of [] = None
first_of (x ∷ xs) = Some x

-- the hold times that lines say, and the usual ones
abbrev pub holds_said : List Line → Holds
holds_said said =
    holds_of (first_of (holds_in Grades.Urgent said)) (first_of (holds_in Grades.Normal said))
    (first_of (holds_in Grades.NonUrgent said))

-- ---- which line may stand behind which

abbrev pub HasPeerWord : List ℕ → List Line → Type 0
HasPeerWord word said = Any (λ (p : Peer). p.name ≡ word) (peers_of said)

abbrev pub HasMailboxWord : List ℕ → List Line → Type 0
HasMailboxWord word said = Any (λ (m : Mailbox). m.word ≡ word) (mailboxes_of said)

abbrev pub HasListWord : List ℕ → List Line → Type 0
HasListWord word said = Any (λ (l : MailList). l.word ≡ word) (lists_of said)

-- a mailbox or a list has the same name
abbrev pub IsNamed : Attributes → List Line → Type 0
IsNamed n said =
    Any (λ (m : Mailbox). IsSameName m.name n) (mailboxes_of said)
    ⊎ Any (λ (l : MailList). IsSameName l.name n) (lists_of said)

abbrev pub HasPattern : List (List ℕ) → List Line → Type 0
HasPattern p said = Any (λ (r : Route). IsSamePattern r.pattern p) (routes_of said)

abbrev pub IsUnknownPeer : List Line → Option (List ℕ) → Type 0
IsUnknownPeer said None = ⊥
IsUnknownPeer said (Some word) = HasPeerWord word said → ⊥

-- it names a peer or a list that no earlier line has made known
abbrev pub IsUnknown : List Line → Line → Type 0
IsUnknown said (Said.From f) = HasListWord f.word said → ⊥
IsUnknown said (Said.Member m) = HasListWord m.word said → ⊥
IsUnknown said (Said.Route r) = IsUnknownPeer said r.peer
IsUnknown said _ = ⊥

-- an earlier line says it, or something of the same word, the same name or an equal pattern
abbrev pub IsSaid : List Line → Line → Type 0
IsSaid said (Said.Domain d) = 0 < length (domains_of said)
IsSaid said (Said.Name w) = 0 < length (names_of said)
IsSaid said (Said.Peer p) = HasPeerWord p.name said
IsSaid said (Said.Mailbox m) = HasMailboxWord m.word said ⊎ IsNamed m.name said
IsSaid said (Said.List l) = HasListWord l.word said ⊎ IsNamed l.name said
IsSaid said (Said.Route r) = HasPattern r.pattern said
IsSaid said (Said.Hold h) = 0 < length (holds_in h.grade said)
IsSaid said _ = ⊥

-- the list of this word has 100 patterns, or 1,000 members
abbrev pub HasFrom : List ℕ → MailList → Type 0
HasFrom word l = (l.word ≡ word) × (100 ≤ length l.from)

abbrev pub HasMembers : List ℕ → MailList → Type 0
HasMembers word l = (l.word ≡ word) × (1000 ≤ length l.members)

-- as many lines of its kind are earlier as there may be
abbrev pub IsMany : List Line → Line → Type 0
IsMany said (Said.Peer p) = 64 ≤ length (peers_of said)
IsMany said (Said.Mailbox m) = 4096 ≤ length (mailboxes_of said)
IsMany said (Said.List l) = 256 ≤ length (lists_of said)
IsMany said (Said.From f) = Any (HasFrom f.word) (lists_of said)
IsMany said (Said.Member m) = Any (HasMembers m.word) (lists_of said)
IsMany said (Said.Route r) = 4096 ≤ length (routes_of said)
IsMany said _ = ⊥

pub record MayFollow (said : List Line) (s : Line) : Type 0 where
  pub known : IsUnknown said s → ⊥
  pub first : IsSaid said s → ⊥
  pub room : IsMany said s → ⊥

-- the lines can stand in one text: each may follow those before it
abbrev pub CanStand : List Line → Type 0
CanStand said = (before : List Line) (s : Line) (after : List Line) → said ≡ before ++ s ∷ after
    → MayFollow before s

-- ---- texts

abbrev pub row_octets : Row → List ℕ
row_octets r = r.octets ++ 10 ∷ []

-- each line with a line feed behind it
abbrev pub text_of : List Row → List ℕ
text_of rows = flat_map row_octets rows

abbrev pub said_by : List Row → List Line
said_by rows = map (λ r. r.says) rows

-- the tables that lines say
pub record AreSaid (said : List Line) (t : TablesValue) : Type 0 where
  pub domain : first_of (domains_of said) ≡ Some t.domain
  pub own : first_of (names_of said) ≡ Some t.own
  pub peers : t.peers ≡ peers_of said
  pub mailboxes : t.mailboxes ≡ mailboxes_of said
  pub lists : t.lists ≡ lists_of said
  pub routes : t.routes ≡ routes_of said
  pub holds : t.holds ≡ holds_said said

-- the text has these tables
pub record IsTablesText (text : List ℕ) (t : TablesValue) : Type 0 where
  pub rows : List Row
  pub are_rows : All IsRow rows
  pub text_is : text ≡ text_of rows
  pub fits : length text ≤ 1048576
  pub stand : CanStand (said_by rows)
  pub kept : t.text ≡ text
  pub said : AreSaid (said_by rows) t

-- ---- the first bad line

-- the line says this
abbrev pub Says : List ℕ → Line → Type 0
Says line says = (words : Words) × (HasWords line words × Mean words says)

-- what is wrong with a line behind lines that say this, in the order of the kinds
abbrev pub IsWrong : List Line → List ℕ → LineKind → Type 0
IsWrong said line Kinds.Word = (words : Words) → HasWords line words → ⊥
IsWrong said line Kinds.Number = (words : Words) × (HasWords line words × LacksNumber words)
IsWrong said line Kinds.Name =
    (words : Words) × (HasWords line words
    × ((LacksNumber words → ⊥) × ((says : Line) → Mean words says → ⊥)))
IsWrong said line Kinds.Unknown = (says : Line) × (Says line says × IsUnknown said says)
IsWrong said line Kinds.Twice = (says : Line) × (Says line says × ((IsUnknown said says → ⊥) × IsSaid said says))
IsWrong said line Kinds.TooMany =
    (says : Line) × (Says line says
    × ((IsUnknown said says → ⊥) × ((IsSaid said says → ⊥) × IsMany said says)))
IsWrong said line kind = ⊥

pub record NextIsWrong (said : List Line) (rest : List ℕ) (kind : LineKind) : Type 0 where
  pub line : List ℕ
  pub more : List ℕ
  pub one_line : IsOneLine line
  pub rest_is : rest ≡ line ++ 10 ∷ more
  pub wrong : IsWrong said line kind

-- no line has the domain, or none has the name
abbrev pub Lacks : List Line → Type 0
Lacks said = (domains_of said ≡ []) ⊎ (names_of said ≡ [])

-- the text ends too early, or without a line feed
abbrev pub EndsWrong : List Line → List ℕ → LineKind → Type 0
EndsWrong said [] kind = (kind ≡ Kinds.Missing) × Lacks said
EndsWrong said (c ∷ cs) kind = (kind ≡ Kinds.Word) × IsOneLine (c ∷ cs)

-- behind lines that can stand in one text the next line is wrong, or the end
pub record IsBadLine (text : List ℕ) (number : ℕ) (kind : LineKind) : Type 0 where
  pub fits : length text ≤ 1048576
  pub before : List Row
  pub are_rows : All IsRow before
  pub stand : CanStand (said_by before)
  pub rest : List ℕ
  pub text_is : text ≡ text_of before ++ rest
  pub number_is : number ≡ suc (length before)
  pub fault : NextIsWrong (said_by before) rest kind ⊎ EndsWrong (said_by before) rest kind

-- the first bad line, from 1, and what is wrong with it; a text that is too long counts as a fault of line 1
abbrev pub IsFirstBadLine : List ℕ → ℕ → LineKind → Type 0
IsFirstBadLine text number Kinds.TooLong = (1048576 < length text) × (number ≡ 1)
IsFirstBadLine text number kind = IsBadLine text number kind
