-- What a line says.
use Rattle.std.specs.Prelude.{◌≡◌, ℕ, Bool, List, Option, Some, None, Result, Ok, Err, ◌==◌, ◌&&◌}
use Rattle.std.specs.Prelude.{if◌then◌else◌, codes}
use Rattle.std.specs.Str.{bytes_eq}
use Rattle.mta_fields.specs.declared.domain.DomainFields.{DomainFields}
use Rattle.mta_names.specs.declared.attributes.Attributes.{Attributes}
use Rattle.mta_name_text.specs.Made.{name_of_text, pattern_of_text}
use Rattle.mta_tables.specs.declared.command.Command.{Command}
use Rattle.mta_tables.specs.declared.command.Command.TheVariants as Commands
use Rattle.mta_tables.specs.declared.entry.Mailbox.{Mailbox}
use Rattle.mta_tables.specs.declared.entry.Peer.{Peer}
use Rattle.mta_tables.specs.declared.fault.LineFault.{LineFault}
use Rattle.mta_tables.specs.declared.fault.LineFault.TheVariants as LineFaults
use Rattle.mta_tables.specs.declared.fault.LineKind.{LineKind}
use Rattle.mta_tables.specs.declared.fault.LineKind.TheVariants as Kinds
use Rattle.mta_tables.specs.declared.line.Grade.{Grade}
use Rattle.mta_tables.specs.declared.line.Line.{Line}
use Rattle.mta_tables.specs.declared.line.Line.TheVariants as Says
use Rattle.mta_tables.specs.Domain.{domain_of}
use Rattle.mta_tables.specs.Words.{cut_at, cut_last, is_word, is_password, is_mode, is_twa, is_policy, is_back}
use Rattle.mta_tables.specs.Words.{grade_of, is_filled, is_number, number_of, command_of, is_silent}

infixl 10 ◌>>=◌
abbrev pub ◌>>=◌ : {A B E : Type 0} → Result A E → (A → Result B E) → Result B E
(Ok x) >>= f = f x
(Err e) >>= f = Err e

-- what is answered is what is read, unless memory ran out
abbrev pub Gives : {A : Type 0} → Result A LineFault → Result A LineKind → Type 0
Gives (Ok x) read = read ≡ Ok x
Gives (Err (LineFaults.Bad kind)) read = read ≡ Err kind
Gives (Err LineFaults.Memory) read = Unit {0}

-- ---- words

-- the next word, and what stands behind the space behind it
abbrev pub next_word : Option (List ℕ) → Result (List ℕ × Option (List ℕ)) LineKind
next_word None = Err Kinds.Word
next_word (Some text) = Ok (cut_at 32 text)

-- what stands behind the last space
abbrev pub there : Option (List ℕ) → Result (List ℕ) LineKind
there None = Err Kinds.Word
there (Some text) = Ok text

abbrev pub ending : List ℕ → Option (List ℕ) → Result (List ℕ) LineKind
ending word None = Ok word
ending word (Some more) = Err Kinds.Word

-- the last word
abbrev pub last_word : Option (List ℕ) → Result (List ℕ) LineKind
last_word None = Err Kinds.Word
last_word (Some text) = ending (cut_at 32 text).0 (cut_at 32 text).1

-- ---- what is read from words

abbrev pub word_of : List ℕ → Result (List ℕ) LineKind
word_of w = if is_word w then Ok w else Err Kinds.Word

abbrev pub policy_of : List ℕ → Result Bool LineKind
policy_of w = if is_policy w then Ok (is_back w) else Err Kinds.Word

abbrev pub number_in : ℕ → ℕ → List ℕ → Result ℕ LineKind
number_in low high w = if is_number low high w then Ok (number_of w) else Err Kinds.Number

abbrev pub named : {X : Type 0} → Result X ℕ → Result X LineKind
named (Ok n) = Ok n
named (Err at) = Err Kinds.Name

unfoldable pub name_of : List ℕ → Result Attributes LineKind
name_of text = named (name_of_text text)

unfoldable pub pattern_of : List ℕ → Result (List (List ℕ)) LineKind
pattern_of text = named (pattern_of_text text)

-- ---- lines by their commands

abbrev pub domain_said : Option DomainFields → Result Line LineKind
domain_said (Some d) = Ok (Says.Domain d)
domain_said None = Err Kinds.Name

abbrev pub domain_words : List ℕ → Result Line LineKind
domain_words text = name_of text >>= λ n. domain_said (domain_of n)

abbrev pub name_words : List ℕ → Result Line LineKind
name_words word = word_of word >>= λ w. Ok (Says.Name w)

-- the words of a line about a peer
pub record PeerText : Type 0 where
  pub name : List ℕ
  pub send : List ℕ
  pub expected : List ℕ
  pub mode : List ℕ
  pub size : List ℕ
  pub window : List ℕ

abbrev pub are_peer_words : PeerText → Bool
are_peer_words p =
    is_word p.name && is_password p.send && is_password p.expected && is_mode p.mode && is_filled p.size
    && is_filled p.window

abbrev pub peer : PeerText → ℕ → ℕ → Peer
peer p size window = record {
  name = p.name;
  send_password = p.send;
  expected_password = p.expected;
  twa = is_twa p.mode;
  checkpoint = size;
  window = window;
}

unfoldable pub peer_words : PeerText → Result Line LineKind
peer_words p =
    if are_peer_words p
    then (number_in 0 64 p.size >>= λ size. number_in 1 8 p.window >>= λ window. Ok (Says.Peer (peer p size window)))
    else Err Kinds.Word

abbrev pub mailbox_words : List ℕ → List ℕ → Result Line LineKind
mailbox_words word text = word_of word >>= λ w. name_of text
    >>= λ n. Ok (Says.Mailbox (record { word = w; name = n }))

abbrev pub list_words : List ℕ → List ℕ → List ℕ → Result Line LineKind
list_words word policy text =
    word_of word >>= λ w. policy_of policy >>= λ back. name_of text >>= λ n.
    Ok (Says.List (record { word = w; back = back; name = n }))

abbrev pub from_words : List ℕ → List ℕ → Result Line LineKind
from_words word text = word_of word >>= λ w. pattern_of text
    >>= λ p. Ok (Says.From (record { word = w; pattern = p }))

abbrev pub member_words : List ℕ → List ℕ → Result Line LineKind
member_words word text = word_of word >>= λ w. name_of text >>= λ n. Ok (Says.Member (record { word = w; name = n }))

abbrev pub here_words : List ℕ → Result Line LineKind
here_words text = pattern_of text >>= λ p. Ok (Says.Route (record { pattern = p; peer = None }))

abbrev pub route_words : List ℕ → List ℕ → Result Line LineKind
route_words text word =
    word_of word >>= λ w. pattern_of text >>= λ p. Ok (Says.Route (record { pattern = p; peer = Some w }))

abbrev pub hold_for : Grade → List ℕ → Result Line LineKind
hold_for g seconds = number_in 0 31536000 seconds >>= λ n. Ok (Says.Hold (record { grade = g; seconds = n }))

abbrev pub hold_of : Option Grade → List ℕ → Result Line LineKind
hold_of None seconds = Err Kinds.Word
hold_of (Some g) seconds = if is_filled seconds then hold_for g seconds else Err Kinds.Word

unfoldable pub hold_words : List ℕ → List ℕ → Result Line LineKind
hold_words grade seconds = hold_of (grade_of grade) seconds

-- ---- lines cut into words

abbrev pub peer_cut : Option (List ℕ) → Result PeerText LineKind
peer_cut t =
    next_word t >>= λ a. next_word a.1 >>= λ b. next_word b.1 >>= λ c. next_word c.1 >>= λ d.
    next_word d.1 >>= λ e. last_word e.1
    >>= λ f. Ok (record { name = a.0; send = b.0; expected = c.0; mode = d.0; size = e.0; window = f })

-- the pattern before a hop to a peer
abbrev pub before_peer : Option (List ℕ) → List ℕ → Result Line LineKind
before_peer None word = Err Kinds.Word
before_peer (Some text) word = route_words text word

-- the hop has two words where the last but one is `peer`
abbrev pub route_hop : List ℕ → List ℕ → Option (List ℕ) × List ℕ → Result Line LineKind
route_hop front last cut =
    if bytes_eq cut.1 (codes "peer") then before_peer cut.0 last
    else if bytes_eq last (codes "here") then here_words front
    else Err Kinds.Word

abbrev pub route_cut : Option (List ℕ) → List ℕ → Result Line LineKind
route_cut None last = Err Kinds.Word
route_cut (Some front) last = route_hop front last (cut_last 32 front)

unfoldable pub route_line : List ℕ → Result Line LineKind
route_line text = route_cut (cut_last 32 text).0 (cut_last 32 text).1

unfoldable pub peer_line : Option (List ℕ) → Result Line LineKind
peer_line t = peer_cut t >>= peer_words

unfoldable pub mailbox_line : Option (List ℕ) → Result Line LineKind
mailbox_line t = next_word t >>= λ a. there a.1 >>= λ text. mailbox_words a.0 text

unfoldable pub list_line : Option (List ℕ) → Result Line LineKind
list_line t = next_word t >>= λ a. next_word a.1 >>= λ b. there b.1 >>= λ text. list_words a.0 b.0 text

unfoldable pub from_line : Option (List ℕ) → Result Line LineKind
from_line t = next_word t >>= λ a. there a.1 >>= λ text. from_words a.0 text

unfoldable pub member_line : Option (List ℕ) → Result Line LineKind
member_line t = next_word t >>= λ a. there a.1 >>= λ text. member_words a.0 text

unfoldable pub hold_line : Option (List ℕ) → Result Line LineKind
hold_line t = next_word t >>= λ a. last_word a.1 >>= λ seconds. hold_words a.0 seconds

-- what is said behind the first word
abbrev pub said_of : Command → Option (List ℕ) → Result Line LineKind
said_of Commands.Domain t = there t >>= domain_words
said_of Commands.Name t = there t >>= name_words
said_of Commands.Peer t = peer_line t
said_of Commands.Mailbox t = mailbox_line t
said_of Commands.List t = list_line t
said_of Commands.From t = from_line t
said_of Commands.Member t = member_line t
said_of Commands.Route t = there t >>= route_line
said_of Commands.Hold t = hold_line t

abbrev pub said_if : Option Command → Option (List ℕ) → Result Line LineKind
said_if None t = Err Kinds.Word
said_if (Some k) t = said_of k t

-- what the line says, or what is wrong with it
unfoldable pub line_of : List ℕ → Result Line LineKind
line_of line = if is_silent line then Ok Says.Nothing else said_if (command_of (cut_at 32 line).0) (cut_at 32 line).1
