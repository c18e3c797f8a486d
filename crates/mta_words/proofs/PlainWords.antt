-- What clap makes of a word that does not begin with -: it is no flag, so it goes to a positional.
use Rattle.std.proofs.Common.{◌≡◌, ◌≢◌, ◌∙◌, ℕ, Bool, false, cond, List, [], ◌∷◌}
use Rattle.std.proofs.Common.{Option, Some, None, refl, ap, ap₂}
use Rattle.std.specs.Prelude.{◌&&◌, option_and_then}
use Rattle.std.specs.Option.{is_some, option_map_or}
use Rattle.std.specs.Str.{bytes_eq}
use Rattle.std.proofs.lemmas.Bool.{ne_eqb}
use Rattle.clap.specs.Lexer.{strip_byte, long_of, long_of_rest, short_of, short_of_rest}
use Rattle.std.specs.Prelude.{fold}
use Rattle.clap.specs.Words.{App, Rule, Shape, Text, built, fault_of}
use Rattle.clap.specs.Simple.{argument_words, entered, names_of}
use Rattle.clap.specs.Walk.{Held, Step, Waiting, Walk, after_step, arg_by_index, finished, idle, long_or_other}
use Rattle.clap.specs.Walk.{nothing_held, plain_word, positional, settled, short_or_plain, subcommand_or_other}
use Rattle.clap.specs.Walk.{to_positional, trailing, value, walk, walk_from, walked}
use Rattle.clap.specs.Faults.{bundle_fault, check_fault, defaults_fault, entered_fault, flag_word_fault, other_fault}
use Rattle.clap.specs.Faults.{settle_fault, step_fault, turn_fault, walk_fault}
use Rattle.clap.specs.Kinds.{Kinds, or_else}
use Rattle.clap.specs.declared.error.kind.ErrorKind.{ErrorKind}
use Rattle.mta_words.specs.Split.{Undashed}

strip_other : (c : ℕ) (cs : Text) → c ≢ 45 → strip_byte 45 (c ∷ cs) ≡ None
strip_other c cs plain =
    let none : Option Text = None in
    ap (λ (b : Bool). cond b (Some cs) none) (ne_eqb c 45 plain)

no_dashes : (word : Text) → Undashed word → bytes_eq word (45 ∷ 45 ∷ []) ≡ false
no_dashes [] plain = refl
no_dashes (c ∷ cs) plain = ap (λ (b : Bool). b && bytes_eq cs (45 ∷ [])) (ne_eqb c 45 plain)

not_long : (word : Text) → Undashed word → long_of word ≡ None
not_long [] plain = refl
not_long (c ∷ cs) plain =
    ap (λ (o : Option Text). option_and_then long_of_rest (option_and_then (strip_byte 45) o)) (strip_other c cs plain)

not_short : (word : Text) → Undashed word → short_of word ≡ None
not_short [] plain = refl
not_short (c ∷ cs) plain = ap (λ (o : Option Text). option_and_then short_of_rest o) (strip_other c cs plain)

met : (rules : List Rule) (waiting : Waiting) (position : ℕ) (word : Text) (h : Held) → Undashed word
    → subcommand_or_other rules None waiting position word h ≡ plain_word rules waiting word h
met rules waiting position word h plain =
    ap (λ (b : Bool). cond b (h, trailing position) (long_or_other rules waiting word (long_of word) h))
    (no_dashes word plain)
    ∙ ap (λ (o : Option (Text × Option Text)). long_or_other rules waiting word o h) (not_long word plain)
    ∙ ap (λ (o : Option Text). short_or_plain rules waiting word o h) (not_short word plain)

unflagged : (s : Shape) (word : Text) (h : Held) → Undashed word → other_fault s None word h ≡ []
unflagged s word h plain =
    let none : Kinds = [] in
    ap (λ (b : Bool). cond b none (flag_word_fault s.rules s.args_override_self (long_of word) word h))
    (no_dashes word plain)
    ∙ ap (λ (o : Option (Text × Option Text)). flag_word_fault s.rules s.args_override_self o word h)
    (not_long word plain)
    ∙ ap (λ (o : Option Text). option_map_or (λ flags. bundle_fault s.rules s.args_override_self flags h) o none)
    (not_short word plain)

-- where a walk stands, of a command without subcommands
abbrev pub at : Held → Waiting → ℕ → Walk
at h waiting position =
    record { held = h; waiting = waiting; position = position; is_trailing = false; stopped = None }

-- the walk behind a word that no option waits for
abbrev pub past : List Rule → Held → Waiting → ℕ → Text → Walk
past rules h waiting position word =
    to_positional rules (arg_by_index rules position) word (at h waiting position) h

walked_idle : (rules : List Rule) (h : Held) (position : ℕ) (word : Text) → Undashed word
    → walked rules [] (at h idle position) word ≡ past rules h idle position word
unfolding walked
walked_idle rules h position word plain =
    ap (λ (m : Held × Step). after_step rules word (at h idle position) m.0 m.1)
    (met rules idle position word h plain)

walked_positional : (rules : List Rule) (h : Held) (position : ℕ) (word : Text) → Undashed word
    → walked rules [] (at h positional position) word ≡ past rules h positional position word
unfolding walked
walked_positional rules h position word plain =
    ap (λ (m : Held × Step). after_step rules word (at h positional position) m.0 m.1)
    (met rules positional position word h plain)

turn_idle : (s : Shape) (h : Held) (position : ℕ) (word : Text) → Undashed word
    → turn_fault s [] (at h idle position) word ≡ step_fault s position h value
turn_idle s h position word plain =
    ap₂ (λ (kinds : Kinds) (m : Held × Step). or_else kinds (step_fault s position m.0 m.1))
    (unflagged s word h plain) (met s.rules idle position word h plain)

turn_positional : (s : Shape) (h : Held) (position : ℕ) (word : Text) → Undashed word
    → turn_fault s [] (at h positional position) word ≡ step_fault s position h value
turn_positional s h position word plain =
    ap₂ (λ (kinds : Kinds) (m : Held × Step). or_else kinds (step_fault s position m.0 m.1))
    (unflagged s word h plain) (met s.rules positional position word h plain)

-- one word of a walk, and its faults
pub idle_walk : (rules : List Rule) (h : Held) (position : ℕ) (word : Text) (words : List Text) → Undashed word
    → fold (walked rules []) (at h idle position) (word ∷ words)
    ≡ fold (walked rules []) (past rules h idle position word) words
idle_walk rules h position word words plain =
    ap (λ (w : Walk). fold (walked rules []) w words) (walked_idle rules h position word plain)

pub positional_walk : (rules : List Rule) (h : Held) (position : ℕ) (word : Text) (words : List Text)
    → Undashed word
    → fold (walked rules []) (at h positional position) (word ∷ words)
    ≡ fold (walked rules []) (past rules h positional position word) words
positional_walk rules h position word words plain =
    ap (λ (w : Walk). fold (walked rules []) w words) (walked_positional rules h position word plain)

pub idle_fault : (s : Shape) (h : Held) (position : ℕ) (word : Text) (words : List Text) → Undashed word
    → walk_fault s [] (at h idle position) (word ∷ words)
    ≡ or_else (step_fault s position h value) (walk_fault s [] (past s.rules h idle position word) words)
unfolding walk_fault
idle_fault s h position word words plain =
    ap₂ (λ (kinds : Kinds) (w : Walk). or_else kinds (walk_fault s [] w words))
    (turn_idle s h position word plain) (walked_idle s.rules h position word plain)

pub positional_fault : (s : Shape) (h : Held) (position : ℕ) (word : Text) (words : List Text) → Undashed word
    → walk_fault s [] (at h positional position) (word ∷ words)
    ≡ or_else (step_fault s position h value) (walk_fault s [] (past s.rules h positional position word) words)
unfolding walk_fault
positional_fault s h position word words plain =
    ap₂ (λ (kinds : Kinds) (w : Walk). or_else kinds (walk_fault s [] w words))
    (turn_positional s h position word plain) (walked_positional s.rules h position word plain)

pub no_more_fault : (s : Shape) (w : Walk) → walk_fault s [] w [] ≡ []
unfolding walk_fault
no_more_fault s w = refl

-- the faults of a walk, and then those of what is checked at its end
abbrev pub ending : App → Kinds → Walk → Kinds
ending a kinds w = or_else kinds (or_else (entered_fault a w.stopped)
    (or_else (settle_fault a.top.rules a.top.args_override_self w.held)
    (or_else (defaults_fault (settled a.top.rules w.held).rows a.top.rules)
    (check_fault a.top (finished a.top.rules w.held) (is_some (entered a w.stopped))))))

pub fault_ends : (a : App) (words : List Text) → fault_of a words
    ≡ ending (built a) (walk_fault (built a).top (names_of (built a)) (walk_from nothing_held)
    (argument_words a words))
    (walk (built a).top.rules (names_of (built a)) nothing_held (argument_words a words))
fault_ends a words = refl

pub no_kinds : (kinds : Kinds) (k : ErrorKind) → kinds ≡ k ∷ [] → kinds ≢ []
no_kinds kinds k e none = absurd (cc)
