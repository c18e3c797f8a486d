-- What clap makes of the words behind a command that takes none.
use Rattle.std.proofs.Common.{◌≡◌, ◌≢◌, ◌∙◌, true, codes, List, [], ◌∷◌, Option, Some}
use Rattle.std.proofs.Common.{None, refl, ap}
use Rattle.std.specs.Prelude.{All}
use Rattle.clap.specs.Words.{App, Text, built, fault_of, is_simple_and_free, new_app}
use Rattle.clap.specs.Walk.{nothing_held, walk, walk_from}
use Rattle.clap.specs.Faults.{defaults_fault}
use Rattle.clap.specs.Kinds.{Kinds}
use Rattle.clap.specs.declared.error.kind.ErrorKind.TheVariants.{UnknownArgument}
use Rattle.std.specs.Option.{is_some}
use Rattle.std.proofs.lemmas.List.Elements.{All-head}
use Rattle.clap.specs.declared.parser.matches.ArgMatches.{ArgMatches}
use Rattle.clap.proofs.OnLiterals.{clap_on_literals}
use Rattle.mta_words.specs.Split.{Undashed, IsMatched, behind, is_nothing}
use Rattle.mta_words.proofs.PlainWords.{idle_fault, no_more_fault, ending, fault_ends, no_kinds}

abbrev pub bare_app : App
bare_app = new_app (codes "mta")

pub bare_simple : is_simple_and_free bare_app ≡ true
unfolding clap_on_literals
bare_simple = refl

abbrev bare : App
bare = built bare_app

bare_ending : ending bare [] (walk_from nothing_held) ≡ []
unfolding defaults_fault
bare_ending = refl

bare_empty : fault_of bare_app [] ≡ []
bare_empty =
    fault_ends bare_app []
    ∙ ap (λ (kinds : Kinds). ending bare kinds (walk_from nothing_held))
    (no_more_fault bare.top (walk_from nothing_held))
    ∙ bare_ending

bare_taken : (word : Text) → fault_of bare_app (word ∷ []) ≡ []
bare_taken word =
    fault_ends bare_app (word ∷ [])
    ∙ ap (λ (kinds : Kinds). ending bare kinds (walk_from nothing_held))
    (no_more_fault bare.top (walk_from nothing_held))
    ∙ bare_ending

bare_refused : (word next : Text) (words : List Text) → Undashed next
    → fault_of bare_app (word ∷ next ∷ words) ≢ []
bare_refused word next words plain =
    no_kinds (fault_of bare_app (word ∷ next ∷ words)) UnknownArgument
    (fault_ends bare_app (word ∷ next ∷ words)
    ∙ ap (λ (kinds : Kinds). ending bare kinds (walk bare.top.rules [] nothing_held (next ∷ words)))
    (idle_fault bare.top nothing_held 1 next words plain))

pub bare_known : (words : List Text) (o : Option ArgMatches) → All Undashed (behind words)
    → IsMatched bare_app words o → is_some o ≡ is_nothing (behind words)
bare_known [] None plain h = absurd (h bare_empty)
bare_known [] (Some m) plain h = refl
bare_known (word ∷ []) None plain h = absurd (h (bare_taken word))
bare_known (word ∷ []) (Some m) plain h = refl
bare_known (word ∷ next ∷ words) None plain h = refl
bare_known (word ∷ next ∷ words) (Some m) plain h =
    absurd (bare_refused word next words (All-head Undashed next words plain) h.0)
