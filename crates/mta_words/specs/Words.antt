-- The words of the command line: which say which command.
use Rattle.std.specs.Prelude.{◌≡◌, ℕ, Bool, true, not, ◌==◌, List, [], ◌∷◌, Option, Some, None}
use Rattle.std.specs.Prelude.{All, IsTrue}
use Rattle.std.specs.Prelude.{if◌then◌else◌, codes}
use Rattle.std.specs.List.{list_all}
use Rattle.std.specs.Str.{bytes_eq}
use Rattle.mta_tables.specs.Grammar.{IsNumber}
use Rattle.mta_tables.specs.Words.{is_word}
use Rattle.mta_words.specs.declared.station.StationWord.{StationWord}
use Rattle.mta_words.specs.declared.verb.Verb.{Verb}
use Rattle.mta_words.specs.declared.verb.Verb.TheVariants as Verbs
use Rattle.mta_words.specs.declared.words.Words.{Words}
use Rattle.mta_words.specs.declared.words.Words.TheVariants as Say
use Rattle.mta_words.specs.Split.{Undashed, first_and_others, is_nothing, only_word}
use Rattle.mta_words.specs.Stations.{AreStations, MayStand, number_said, stations_from}

-- ---- the grammar

pub record SpellServe (words : List (List ℕ)) (sessions : ℕ) (stations : List StationWord) : Type 0 where
  pub text : List ℕ
  pub first : List ℕ
  pub others : List (List ℕ)
  pub spelled : words ≡ codes "serve" ∷ text ∷ first ∷ others
  pub number : IsNumber 1 1000000 text sessions
  pub stations_are : AreStations (first ∷ others) stations
  pub stand : MayStand [] stations

pub record SpellDrill (words : List (List ℕ)) (messages : ℕ) : Type 0 where
  pub text : List ℕ
  pub spelled : words ≡ codes "drill" ∷ text ∷ []
  pub number : IsNumber 1 100000 text messages

abbrev pub Spell : List (List ℕ) → Words → Type 0
Spell words Say.Submit = words ≡ codes "submit" ∷ []
Spell words (Say.Serve sessions stations) = SpellServe words sessions stations
Spell words Say.Queue = words ≡ codes "spool" ∷ []
Spell words (Say.Mailbox name) = (words ≡ codes "read" ∷ name ∷ []) × IsTrue (is_word name)
Spell words Say.Decode = words ≡ codes "decode" ∷ []
Spell words (Say.Drill messages) = SpellDrill words messages

-- the words say this, and none of them begins with -
pub record Says (words : List (List ℕ)) (command : Words) : Type 0 where
  pub undashed : All Undashed words
  pub spelled : Spell words command

-- ---- the same, as they are read

abbrev pub is_undashed : List ℕ → Bool
is_undashed [] = true
is_undashed (c ∷ cs) = not (c == 45)

abbrev pub verb_of : List ℕ → Option Verb
verb_of word =
    if bytes_eq word (codes "submit") then Some Verbs.Submit
    else if bytes_eq word (codes "serve") then Some Verbs.Serve
    else if bytes_eq word (codes "spool") then Some Verbs.Spool
    else if bytes_eq word (codes "read") then Some Verbs.Read
    else if bytes_eq word (codes "decode") then Some Verbs.Decode
    else if bytes_eq word (codes "drill") then Some Verbs.Drill
    else None

abbrev pub alone : Words → List (List ℕ) → Option Words
alone command words = if is_nothing words then Some command else None

abbrev pub serve_said : Option ℕ → Option (List StationWord) → Option Words
serve_said (Some sessions) (Some stations) = Some (Say.Serve sessions stations)
serve_said (Some sessions) None = None
serve_said None stations = None

abbrev pub serve_of : Option (List ℕ × List (List ℕ)) → Option Words
serve_of None = None
serve_of (Some parts) = serve_said (number_said 1 1000000 parts.0) (stations_from (Some []) parts.1)

abbrev pub mailbox_of : Option (List ℕ) → Option Words
mailbox_of None = None
mailbox_of (Some name) = if is_word name then Some (Say.Mailbox name) else None

abbrev pub drill_said : Option ℕ → Option Words
drill_said None = None
drill_said (Some messages) = Some (Say.Drill messages)

abbrev pub drill_of : Option (List ℕ) → Option Words
drill_of None = None
drill_of (Some text) = drill_said (number_said 1 100000 text)

abbrev pub behind_verb : Option Verb → List (List ℕ) → Option Words
behind_verb None words = None
behind_verb (Some Verbs.Submit) words = alone Say.Submit words
behind_verb (Some Verbs.Serve) words = serve_of (first_and_others words)
behind_verb (Some Verbs.Spool) words = alone Say.Queue words
behind_verb (Some Verbs.Read) words = mailbox_of (only_word words)
behind_verb (Some Verbs.Decode) words = alone Say.Decode words
behind_verb (Some Verbs.Drill) words = drill_of (only_word words)

abbrev pub command_in : List (List ℕ) → Option Words
command_in [] = None
command_in (word ∷ words) = behind_verb (verb_of word) words

-- what the words say, where they say something
unfoldable pub command_of : List (List ℕ) → Option Words
command_of words = if list_all is_undashed words then command_in words else None
