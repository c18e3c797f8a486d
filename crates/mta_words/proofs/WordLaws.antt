-- What clap makes of the words behind a command that takes one.
use Rattle.std.proofs.Common.{◌≡◌, ◌≢◌, ◌∙◌, true, codes, List, [], ◌∷◌, Option, Some}
use Rattle.std.proofs.Common.{None, refl, ap, ap₂}
use Rattle.std.specs.Prelude.{All, fold}
use Rattle.clap.specs.Words.{App, Text, built, fault_of, first_of, first_value, found_of, is_simple_and_free}
use Rattle.clap.specs.Words.{matches_of, new_app, new_rule, with_rule}
use Rattle.clap.specs.Walk.{Walk, finished, idle, nothing_held, walk, walk_from, walked}
use Rattle.clap.specs.Faults.{defaults_fault, walk_fault}
use Rattle.clap.specs.Kinds.{Kinds}
use Rattle.clap.specs.declared.error.kind.ErrorKind.TheVariants.{MissingRequiredArgument, UnknownArgument}
use Rattle.std.proofs.lemmas.List.Elements.{All-head, All-tail}
use Rattle.clap.specs.declared.parser.matches.ArgMatches.{ArgMatches}
use Rattle.clap.proofs.WalkLemmas.{first_value-rows}
use Rattle.clap.proofs.OnLiterals.{clap_on_literals}
use Rattle.mta_words.specs.Split.{Undashed, IsMatched, behind, only_word}
use Rattle.mta_words.proofs.PlainWords.{at, idle_walk, idle_fault, no_more_fault, ending, fault_ends, no_kinds}

abbrev pub word_app : App
word_app = with_rule (new_app (codes "mta")) (record (new_rule (codes "word")) { required = true })

pub word_simple : is_simple_and_free word_app ≡ true
unfolding clap_on_literals
word_simple = refl

abbrev single : App
single = built word_app

abbrev single_end : Text → Walk
single_end word = at (record { rows = []; pending = Some (codes "word", word ∷ []); skip = 0 }) idle 2

wanted_ending : ending single [] (walk_from nothing_held) ≡ MissingRequiredArgument ∷ []
unfolding defaults_fault
wanted_ending = refl

single_ending : (word : Text) → ending single [] (single_end word) ≡ []
unfolding defaults_fault
single_ending word = refl

single_walk : (word : Text) (words : List Text) → Undashed word
    → walk single.top.rules [] nothing_held (word ∷ words)
    ≡ fold (walked single.top.rules []) (single_end word) words
single_walk word words plain = idle_walk single.top.rules nothing_held 1 word words plain

single_fault : (word : Text) (words : List Text) → Undashed word
    → walk_fault single.top [] (walk_from nothing_held) (word ∷ words)
    ≡ walk_fault single.top [] (single_end word) words
single_fault word words plain = idle_fault single.top nothing_held 1 word words plain

word_empty : fault_of word_app [] ≢ []
word_empty =
    no_kinds (fault_of word_app []) MissingRequiredArgument
    (fault_ends word_app []
    ∙ ap (λ (kinds : Kinds). ending single kinds (walk_from nothing_held))
    (no_more_fault single.top (walk_from nothing_held))
    ∙ wanted_ending)

word_wanted : (word : Text) → fault_of word_app (word ∷ []) ≢ []
word_wanted word =
    no_kinds (fault_of word_app (word ∷ [])) MissingRequiredArgument
    (fault_ends word_app (word ∷ [])
    ∙ ap (λ (kinds : Kinds). ending single kinds (walk_from nothing_held))
    (no_more_fault single.top (walk_from nothing_held))
    ∙ wanted_ending)

word_taken : (word next : Text) → Undashed next → fault_of word_app (word ∷ next ∷ []) ≡ []
word_taken word next plain =
    fault_ends word_app (word ∷ next ∷ [])
    ∙ ap₂ (ending single) (single_fault next [] plain ∙ no_more_fault single.top (single_end next))
    (single_walk next [] plain)
    ∙ single_ending next

word_found : (word next : Text) → Undashed next
    → first_of (codes "word") (matches_of word_app (word ∷ next ∷ [])) ≡ Some next
word_found word next plain =
    ap (λ (w : Walk). first_of (codes "word") (finished single.top.rules w.held)) (single_walk next [] plain)

word_refused : (word next third : Text) (words : List Text) → Undashed next → Undashed third
    → fault_of word_app (word ∷ next ∷ third ∷ words) ≢ []
word_refused word next third words plain also =
    no_kinds (fault_of word_app (word ∷ next ∷ third ∷ words)) UnknownArgument
    (fault_ends word_app (word ∷ next ∷ third ∷ words)
    ∙ ap (λ (kinds : Kinds). ending single kinds (walk single.top.rules [] nothing_held (next ∷ third ∷ words)))
    (single_fault next (third ∷ words) plain
    ∙ idle_fault single.top (single_end next).held 2 third words also))

-- the matches have the word
abbrev pub GivesWord : List Text → Option ArgMatches → Type 0
GivesWord words None = only_word (behind words) ≡ None
GivesWord words (Some m) = first_value (found_of m) (codes "word") ≡ only_word (behind words)

pub word_known : (words : List Text) (o : Option ArgMatches) → All Undashed (behind words)
    → IsMatched word_app words o → GivesWord words o
word_known [] None plain h = refl
word_known [] (Some m) plain h = absurd (word_empty h.0)
word_known (word ∷ []) None plain h = refl
word_known (word ∷ []) (Some m) plain h = absurd (word_wanted word h.0)
word_known (word ∷ next ∷ []) None plain h = absurd (h (word_taken word next (All-head Undashed next [] plain)))
word_known (word ∷ next ∷ []) (Some m) plain h =
    first_value-rows (found_of m) (codes "word")
    ∙ ap (first_of (codes "word")) h.1
    ∙ word_found word next (All-head Undashed next [] plain)
word_known (word ∷ next ∷ third ∷ words) None plain h = refl
word_known (word ∷ next ∷ third ∷ words) (Some m) plain h =
    absurd (word_refused word next third words (All-head Undashed next (third ∷ words) plain)
    (All-head Undashed third words (All-tail Undashed next (third ∷ words) plain)) h.0)
