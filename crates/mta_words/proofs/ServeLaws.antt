-- What clap makes of the words behind a command that takes one, and then one or more.
use Rattle.std.proofs.Common.{◌≡◌, ◌≢◌, ◌∙◌, true, codes, List, [], ◌∷◌, Option, Some}
use Rattle.std.proofs.Common.{None, refl, sym, ap, ap₂, append_assoc, ◌++◌}
use Rattle.std.specs.Prelude.{All, fold}
use Rattle.clap.specs.Words.{App, Rule, Text, built, fault_of, first_of, all_of, found_of, Row, is_simple_and_free}
use Rattle.clap.specs.Words.{matches_of, new_app, new_rule, with_rule}
use Rattle.clap.specs.Walk.{Walk, finished, idle, nothing_held, positional, walk, walk_from, walked}
use Rattle.clap.specs.Faults.{defaults_fault, walk_fault}
use Rattle.clap.specs.Kinds.{Kinds}
use Rattle.clap.specs.declared.error.kind.ErrorKind.TheVariants.{MissingRequiredArgument}
use Rattle.clap.specs.declared.builder.action.ArgAction.TheVariants.{Append}
use Rattle.clap.specs.declared.builder.value_parser.Reading.TheVariants.{AsWritten}
use Rattle.clap.specs.declared.parser.matches.ValueSource.TheVariants.{CommandLine}
use Rattle.std.proofs.lemmas.List.Elements.{All-head, All-tail}
use Rattle.clap.specs.declared.parser.matches.ArgMatches.{ArgMatches}
use Rattle.clap.proofs.WalkLemmas.{first_value-rows, raw_values-rows}
use Rattle.clap.proofs.OnLiterals.{clap_on_literals}
use Rattle.mta_words.specs.Split.{Undashed, IsMatched, IsServed, behind, both}
use Rattle.mta_words.proofs.PlainWords.{at, idle_walk, idle_fault, positional_walk, positional_fault, no_more_fault}
use Rattle.mta_words.proofs.PlainWords.{ending, fault_ends, no_kinds}

abbrev pub sessions_rule : Rule
sessions_rule = record (new_rule (codes "sessions")) { required = true }

abbrev pub stations_rule : Rule
stations_rule = record (new_rule (codes "stations")) { required = true; action = Some Append }

abbrev pub serve_app : App
serve_app = with_rule (with_rule (new_app (codes "mta")) sessions_rule) stations_rule

pub serve_simple : is_simple_and_free serve_app ≡ true
unfolding clap_on_literals
serve_simple = refl

abbrev several : App
several = built serve_app

abbrev sessions_end : Text → Walk
sessions_end word = at (record { rows = []; pending = Some (codes "sessions", word ∷ []); skip = 0 }) idle 2

abbrev sessions_row : Text → Row
sessions_row word = record {
  id = codes "sessions";
  values = word ∷ [];
  count = None;
  source = Some CommandLine;
  reading = AsWritten;
}

abbrev stations_row : List Text → Row
stations_row words = record {
  id = codes "stations";
  values = words;
  count = None;
  source = Some CommandLine;
  reading = AsWritten;
}

-- the rows of these words
abbrev serve_rows : Text → List Text → List Row
serve_rows word [] = sessions_row word ∷ []
serve_rows word (next ∷ words) = sessions_row word ∷ stations_row (next ∷ words) ∷ []

-- the walk behind some stations, of which the last is pending
abbrev stations_end : Text → List Text → Text → Walk
stations_end word earlier last =
    at (record {
      rows = serve_rows word earlier;
      pending = Some (codes "stations", last ∷ []);
      skip = 0;
    }) positional 2

no_sessions_ending : ending several [] (walk_from nothing_held) ≡ MissingRequiredArgument ∷ []
unfolding defaults_fault
no_sessions_ending = refl

no_stations_ending : (word : Text) → ending several [] (sessions_end word) ≡ MissingRequiredArgument ∷ []
unfolding defaults_fault
no_stations_ending word = refl

several_ending : (word : Text) (earlier : List Text) (last : Text)
    → ending several [] (stations_end word earlier last) ≡ []
unfolding defaults_fault
several_ending word [] last = refl
several_ending word (x ∷ xs) last = refl

several_rows : (word : Text) (earlier : List Text) (last : Text)
    → finished several.top.rules (stations_end word earlier last).held ≡ serve_rows word (earlier ++ last ∷ [])
several_rows word [] last = refl
several_rows word (x ∷ xs) last = refl

sessions_walk : (word : Text) (words : List Text) → Undashed word
    → walk several.top.rules [] nothing_held (word ∷ words)
    ≡ fold (walked several.top.rules []) (sessions_end word) words
sessions_walk word words plain = idle_walk several.top.rules nothing_held 1 word words plain

sessions_fault : (word : Text) (words : List Text) → Undashed word
    → walk_fault several.top [] (walk_from nothing_held) (word ∷ words)
    ≡ walk_fault several.top [] (sessions_end word) words
sessions_fault word words plain = idle_fault several.top nothing_held 1 word words plain

first_walk : (word next : Text) (words : List Text) → Undashed next
    → fold (walked several.top.rules []) (sessions_end word) (next ∷ words)
    ≡ fold (walked several.top.rules []) (stations_end word [] next) words
first_walk word next words plain = idle_walk several.top.rules (sessions_end word).held 2 next words plain

first_fault : (word next : Text) (words : List Text) → Undashed next
    → walk_fault several.top [] (sessions_end word) (next ∷ words)
    ≡ walk_fault several.top [] (stations_end word [] next) words
first_fault word next words plain = idle_fault several.top (sessions_end word).held 2 next words plain

next_walk : (word : Text) (earlier : List Text) (last next : Text) (words : List Text) → Undashed next
    → fold (walked several.top.rules []) (stations_end word earlier last) (next ∷ words)
    ≡ fold (walked several.top.rules []) (stations_end word (earlier ++ last ∷ []) next) words
next_walk word [] last next words plain =
    positional_walk several.top.rules (stations_end word [] last).held 2 next words plain
next_walk word (x ∷ xs) last next words plain =
    positional_walk several.top.rules (stations_end word (x ∷ xs) last).held 2 next words plain

next_fault : (word : Text) (earlier : List Text) (last next : Text) (words : List Text) → Undashed next
    → walk_fault several.top [] (stations_end word earlier last) (next ∷ words)
    ≡ walk_fault several.top [] (stations_end word (earlier ++ last ∷ []) next) words
next_fault word [] last next words plain =
    positional_fault several.top (stations_end word [] last).held 2 next words plain
next_fault word (x ∷ xs) last next words plain =
    positional_fault several.top (stations_end word (x ∷ xs) last).held 2 next words plain

-- the stations before the last, and the last
abbrev before : List Text → Text → List Text → List Text
before earlier last [] = earlier
before earlier last (next ∷ words) = before (earlier ++ last ∷ []) next words

abbrev final : Text → List Text → Text
final last [] = last
final last (next ∷ words) = final next words

parted : (earlier : List Text) (last : Text) (words : List Text)
    → before earlier last words ++ final last words ∷ [] ≡ earlier ++ last ∷ words
parted earlier last [] = refl
parted earlier last (next ∷ words) =
    parted (earlier ++ last ∷ []) next words ∙ append_assoc earlier (last ∷ []) (next ∷ words)

rest_walk : (word : Text) (earlier : List Text) (last : Text) (words : List Text) → All Undashed words
    → fold (walked several.top.rules []) (stations_end word earlier last) words
    ≡ stations_end word (before earlier last words) (final last words)
rest_walk word earlier last [] plain = refl
rest_walk word earlier last (next ∷ words) plain =
    next_walk word earlier last next words (All-head Undashed next words plain)
    ∙ rest_walk word (earlier ++ last ∷ []) next words (All-tail Undashed next words plain)

rest_fault : (word : Text) (earlier : List Text) (last : Text) (words : List Text) → All Undashed words
    → walk_fault several.top [] (stations_end word earlier last) words ≡ []
rest_fault word earlier last [] plain = no_more_fault several.top (stations_end word earlier last)
rest_fault word earlier last (next ∷ words) plain =
    next_fault word earlier last next words (All-head Undashed next words plain)
    ∙ rest_fault word (earlier ++ last ∷ []) next words (All-tail Undashed next words plain)

serve_walk : (word next : Text) (words : List Text) → Undashed word → All Undashed (next ∷ words)
    → walk several.top.rules [] nothing_held (word ∷ next ∷ words)
    ≡ stations_end word (before [] next words) (final next words)
serve_walk word next words plain rest =
    sessions_walk word (next ∷ words) plain
    ∙ first_walk word next words (All-head Undashed next words rest)
    ∙ rest_walk word [] next words (All-tail Undashed next words rest)

serve_fault : (word next : Text) (words : List Text) → Undashed word → All Undashed (next ∷ words)
    → walk_fault several.top [] (walk_from nothing_held) (word ∷ next ∷ words) ≡ []
serve_fault word next words plain rest =
    sessions_fault word (next ∷ words) plain
    ∙ first_fault word next words (All-head Undashed next words rest)
    ∙ rest_fault word [] next words (All-tail Undashed next words rest)

sessions_empty : fault_of serve_app [] ≢ []
sessions_empty =
    no_kinds (fault_of serve_app []) MissingRequiredArgument
    (fault_ends serve_app []
    ∙ ap (λ (kinds : Kinds). ending several kinds (walk_from nothing_held))
    (no_more_fault several.top (walk_from nothing_held))
    ∙ no_sessions_ending)

sessions_wanted : (word : Text) → fault_of serve_app (word ∷ []) ≢ []
sessions_wanted word =
    no_kinds (fault_of serve_app (word ∷ [])) MissingRequiredArgument
    (fault_ends serve_app (word ∷ [])
    ∙ ap (λ (kinds : Kinds). ending several kinds (walk_from nothing_held))
    (no_more_fault several.top (walk_from nothing_held))
    ∙ no_sessions_ending)

stations_wanted : (word next : Text) → Undashed next → fault_of serve_app (word ∷ next ∷ []) ≢ []
stations_wanted word next plain =
    no_kinds (fault_of serve_app (word ∷ next ∷ [])) MissingRequiredArgument
    (fault_ends serve_app (word ∷ next ∷ [])
    ∙ ap₂ (ending several) (sessions_fault next [] plain ∙ no_more_fault several.top (sessions_end next))
    (sessions_walk next [] plain)
    ∙ no_stations_ending next)

serve_taken : (word next third : Text) (words : List Text) → Undashed next → All Undashed (third ∷ words)
    → fault_of serve_app (word ∷ next ∷ third ∷ words) ≡ []
serve_taken word next third words plain rest =
    fault_ends serve_app (word ∷ next ∷ third ∷ words)
    ∙ ap₂ (ending several) (serve_fault next third words plain rest) (serve_walk next third words plain rest)
    ∙ several_ending next (before [] third words) (final third words)

serve_found : (word next third : Text) (words : List Text) → Undashed next → All Undashed (third ∷ words)
    → matches_of serve_app (word ∷ next ∷ third ∷ words) ≡ serve_rows next (third ∷ words)
serve_found word next third words plain rest =
    ap (λ (w : Walk). finished several.top.rules w.held) (serve_walk next third words plain rest)
    ∙ several_rows next (before [] third words) (final third words)
    ∙ ap (serve_rows next) (parted [] third words)

sessions_found : (word next third : Text) (words : List Text) → Undashed next → All Undashed (third ∷ words)
    → first_of (codes "sessions") (matches_of serve_app (word ∷ next ∷ third ∷ words)) ≡ Some next
sessions_found word next third words plain rest =
    ap (first_of (codes "sessions")) (serve_found word next third words plain rest)

stations_found : (word next third : Text) (words : List Text) → Undashed next → All Undashed (third ∷ words)
    → all_of (codes "stations") (matches_of serve_app (word ∷ next ∷ third ∷ words)) ≡ Some (third ∷ words)
stations_found word next third words plain rest =
    ap (all_of (codes "stations")) (serve_found word next third words plain rest)

pub serve_known : (words : List Text) (o : Option ArgMatches) → All Undashed (behind words)
    → IsMatched serve_app words o → IsServed (behind words) o
serve_known [] None plain h = refl
serve_known [] (Some m) plain h = absurd (sessions_empty h.0)
serve_known (word ∷ []) None plain h = refl
serve_known (word ∷ []) (Some m) plain h = absurd (sessions_wanted word h.0)
serve_known (word ∷ next ∷ []) None plain h = refl
serve_known (word ∷ next ∷ []) (Some m) plain h =
    absurd (stations_wanted word next (All-head Undashed next [] plain) h.0)
serve_known (word ∷ next ∷ third ∷ words) None plain h =
    absurd (h (serve_taken word next third words (All-head Undashed next (third ∷ words) plain)
    (All-tail Undashed next (third ∷ words) plain)))
serve_known (word ∷ next ∷ third ∷ words) (Some m) plain h =
    let first = All-head Undashed next (third ∷ words) plain in
    let rest = All-tail Undashed next (third ∷ words) plain in
    sym (ap₂ both
    (first_value-rows (found_of m) (codes "sessions")
    ∙ ap (first_of (codes "sessions")) h.1
    ∙ sessions_found word next third words first rest)
    (raw_values-rows (found_of m) (codes "stations")
    ∙ ap (all_of (codes "stations")) h.1
    ∙ stations_found word next third words first rest))
