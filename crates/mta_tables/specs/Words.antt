-- Words, numbers, and how a line is cut.
use Rattle.std.specs.Prelude.{ℕ, ◌+◌, ◌-◌, ◌*◌, Bool, true, false, List, [], ◌∷◌, length, Option}
use Rattle.std.specs.Prelude.{Some, None, nat_le, ◌==◌, ◌&&◌, ◌||◌, not, if◌then◌else◌, codes}
use Rattle.std.specs.List.{list_all}
use Rattle.std.specs.Str.{bytes_eq}
use Rattle.mta_ber.specs.Strings.{between}
use Rattle.mta_names.specs.Values.{is_digit}
use Rattle.mta_tables.specs.declared.command.Command.{Command}
use Rattle.mta_tables.specs.declared.command.Command.TheVariants as Commands
use Rattle.mta_tables.specs.declared.line.Grade.{Grade}
use Rattle.mta_tables.specs.declared.line.Grade.TheVariants as Grades

-- ---- cutting

-- the text before the first separator, and what stands behind it
abbrev pub cut_at : ℕ → List ℕ → List ℕ × Option (List ℕ)
cut_at separator [] = ([], None)
cut_at separator (c ∷ cs) =
    if c == separator then ([], Some cs)
    else (c ∷ (cut_at separator cs).0, (cut_at separator cs).1)

abbrev pub cut_before : ℕ → ℕ → List ℕ → Option (List ℕ) → List ℕ → Option (List ℕ) × List ℕ
cut_before separator c cs (Some front) last = (Some (c ∷ front), last)
cut_before separator c cs None last = if c == separator then (Some [], cs) else (None, c ∷ cs)

-- the text before the last separator, where there is one, and what stands behind it
abbrev pub cut_last : ℕ → List ℕ → Option (List ℕ) × List ℕ
cut_last separator [] = (None, [])
cut_last separator (c ∷ cs) = cut_before separator c cs (cut_last separator cs).0 (cut_last separator cs).1

-- ---- words

-- letters, digits and -
abbrev pub is_word_octet : ℕ → Bool
is_word_octet c = between 65 90 c || between 97 122 c || between 48 57 c || (c == 45)

-- 1 to 32 of them
abbrev pub is_word : List ℕ → Bool
is_word w = list_all is_word_octet w && nat_le 1 (length w) && nat_le (length w) 32

-- visible characters
abbrev pub is_password_octet : ℕ → Bool
is_password_octet c = between 33 126 c

-- 1 to 62 of them
abbrev pub is_password : List ℕ → Bool
is_password w = list_all is_password_octet w && nat_le 1 (length w) && nat_le (length w) 62

-- the modes of a peer
abbrev pub is_twa : List ℕ → Bool
is_twa w = bytes_eq w (codes "twa")

abbrev pub is_mode : List ℕ → Bool
is_mode w = bytes_eq w (codes "monologue") || is_twa w

-- the policies of a list
abbrev pub is_back : List ℕ → Bool
is_back w = bytes_eq w (codes "back")

abbrev pub is_policy : List ℕ → Bool
is_policy w = bytes_eq w (codes "keep") || is_back w

abbrev pub grade_text : Grade → List ℕ
grade_text Grades.Urgent = codes "urgent"
grade_text Grades.Normal = codes "normal"
grade_text Grades.NonUrgent = codes "non-urgent"

abbrev pub grade_of : List ℕ → Option Grade
grade_of w =
    if bytes_eq w (codes "urgent") then Some Grades.Urgent
    else if bytes_eq w (codes "normal") then Some Grades.Normal
    else if bytes_eq w (codes "non-urgent") then Some Grades.NonUrgent
    else None

-- it has an octet
abbrev pub is_filled : List ℕ → Bool
is_filled [] = false
is_filled (c ∷ cs) = true

-- ---- numbers

abbrev pub number_from : ℕ → List ℕ → ℕ
number_from n [] = n
number_from n (c ∷ cs) = number_from (n * 10 + (c - 48)) cs

-- what the digits say
abbrev pub number_of : List ℕ → ℕ
number_of w = number_from 0 w

-- digits, of which the first of several is not 0
abbrev pub is_decimal : List ℕ → Bool
is_decimal [] = false
is_decimal (c ∷ []) = is_digit c
is_decimal (c ∷ d ∷ cs) = not (c == 48) && list_all is_digit (c ∷ d ∷ cs)

-- a number from `low` to `high`
abbrev pub is_number : ℕ → ℕ → List ℕ → Bool
is_number low high w = is_decimal w && nat_le low (number_of w) && nat_le (number_of w) high

-- ---- the first word of a line

abbrev pub command_text : Command → List ℕ
command_text Commands.Domain = codes "domain"
command_text Commands.Name = codes "name"
command_text Commands.Peer = codes "peer"
command_text Commands.Mailbox = codes "mailbox"
command_text Commands.List = codes "list"
command_text Commands.From = codes "from"
command_text Commands.Member = codes "member"
command_text Commands.Route = codes "route"
command_text Commands.Hold = codes "hold"

abbrev pub command_of : List ℕ → Option Command
command_of w =
    if bytes_eq w (codes "domain") then Some Commands.Domain
    else if bytes_eq w (codes "name") then Some Commands.Name
    else if bytes_eq w (codes "peer") then Some Commands.Peer
    else if bytes_eq w (codes "mailbox") then Some Commands.Mailbox
    else if bytes_eq w (codes "list") then Some Commands.List
    else if bytes_eq w (codes "from") then Some Commands.From
    else if bytes_eq w (codes "member") then Some Commands.Member
    else if bytes_eq w (codes "route") then Some Commands.Route
    else if bytes_eq w (codes "hold") then Some Commands.Hold
    else None

-- it says nothing: it is empty or begins with #
abbrev pub is_silent : List ℕ → Bool
is_silent [] = true
is_silent (c ∷ cs) = c == 35
