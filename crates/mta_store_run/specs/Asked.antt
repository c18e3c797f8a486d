-- What the words ask.
use Rattle.std.specs.Prelude.{ℕ, ◌+◌, ◌-◌, ◌*◌, Bool, true, not, ◌==◌, ◌&&◌, List, [], ◌∷◌, Option, Some, None, nat_le}
use Rattle.std.specs.Prelude.{◌≤◌, ◌<◌, ◌^◌, IsTrue, if◌then◌else◌, codes}
use Rattle.std.specs.Str.{bytes_eq}
use Rattle.mta_tables.specs.Words.{is_number, is_word, number_of}
use Rattle.mta_store_run.specs.declared.asked.Asked.{Asked}
use Rattle.mta_store_run.specs.declared.asked.Asked.TheVariants as Ask
use Rattle.mta_store_run.specs.declared.asked.Verb.{Verb}
use Rattle.mta_store_run.specs.declared.asked.Verb.TheVariants as Verbs

abbrev pub is_undashed : List ℕ → Bool
is_undashed [] = true
is_undashed (c ∷ cs) = not (c == 45)

-- a word of 1 to 32 letters, digits or -, which does not begin with -
abbrev pub is_mailbox : List ℕ → Bool
is_mailbox word = is_word word && is_undashed word

abbrev pub mailbox_said : List ℕ → Option (List ℕ)
mailbox_said word = if is_mailbox word then Some word else None

-- a number from 1 to 4,294,967,295 without leading zeros
abbrev pub number_said : List ℕ → Option ℕ
number_said text = if is_number 1 4294967295 text then Some (number_of text) else None

-- the number with further digits, as long as it is one
abbrev pub number_from : ℕ → List ℕ → Option ℕ
number_from n [] = Some n
number_from n (c ∷ cs) =
    if nat_le (n * 10 + (c - 48)) 4294967295 then number_from (n * 10 + (c - 48)) cs else None

abbrev pub verb_of : List ℕ → Option Verb
verb_of word =
    if bytes_eq word (codes "fetch") then Some Verbs.Fetch
    else if bytes_eq word (codes "delete") then Some Verbs.Delete
    else None

abbrev pub list_said : Option (List ℕ) → Option Asked
list_said (Some mailbox) = Some (Ask.List mailbox)
list_said None = None

abbrev pub said_by : Verb → List ℕ → ℕ → Asked
said_by Verbs.Fetch mailbox number = Ask.Fetch mailbox number
said_by Verbs.Delete mailbox number = Ask.Delete mailbox number

abbrev pub said_with : Verb → Option (List ℕ) → Option ℕ → Option Asked
said_with verb (Some mailbox) (Some number) = Some (said_by verb mailbox number)
said_with verb (Some mailbox) None = None
said_with verb None number = None

abbrev pub asked_by_two : (verb mailbox : List ℕ) → Option Asked
asked_by_two verb mailbox = if bytes_eq verb (codes "list") then list_said (mailbox_said mailbox) else None

abbrev pub asked_by_three : Option Verb → (mailbox number : List ℕ) → Option Asked
asked_by_three (Some verb) mailbox number = said_with verb (mailbox_said mailbox) (number_said number)
asked_by_three None mailbox number = None

-- `list` and a mailbox, or `fetch` or `delete`, a mailbox and a number, ask this; other words ask nothing
abbrev pub asked_of : List (List ℕ) → Option Asked
asked_of (verb ∷ mailbox ∷ []) = asked_by_two verb mailbox
asked_of (verb ∷ mailbox ∷ number ∷ []) = asked_by_three (verb_of verb) mailbox number
asked_of _ = None

-- the mailbox that is asked
abbrev pub mailbox_asked : Asked → List ℕ
mailbox_asked (Ask.List mailbox) = mailbox
mailbox_asked (Ask.Fetch mailbox number) = mailbox
mailbox_asked (Ask.Delete mailbox number) = mailbox

-- the number of the entry, where one is asked
abbrev pub number_asked : Asked → Option ℕ
number_asked (Ask.List mailbox) = None
number_asked (Ask.Fetch mailbox number) = Some number
number_asked (Ask.Delete mailbox number) = Some number

-- the mailbox is a word, and the number one from 1 to 4,294,967,295
abbrev pub IsAsked : Asked → Type 0
IsAsked (Ask.List mailbox) = IsTrue (is_word mailbox)
IsAsked (Ask.Fetch mailbox number) = IsTrue (is_word mailbox) × ((1 ≤ number) × (number < 2 ^ 32))
IsAsked (Ask.Delete mailbox number) = IsTrue (is_word mailbox) × ((1 ≤ number) × (number < 2 ^ 32))
