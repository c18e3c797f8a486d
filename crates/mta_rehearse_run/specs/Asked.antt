-- What the words ask: an agent's name and the text form of an O/R name.
use Rattle.std.specs.Prelude.{◌≡◌, ℕ, Bool, true, not, ◌==◌, ◌&&◌, List, [], ◌∷◌, Option, Some, None, Result, Ok, Err}
use Rattle.std.specs.Prelude.{if◌then◌else◌}
use Rattle.mta_names.specs.declared.attributes.Attributes.{Attributes}
use Rattle.mta_name_text.specs.Made.{name_of_text}
use Rattle.mta_tables.specs.Words.{is_word}
use Rattle.mta_rehearse_run.specs.declared.asked.Asked.{Asked}
use Rattle.mta_rehearse_run.specs.declared.stop.Stop.{Stop}
use Rattle.mta_rehearse_run.specs.declared.stop.Stop.TheVariants as Stops

abbrev pub is_undashed : List ℕ → Bool
is_undashed [] = true
is_undashed (c ∷ cs) = not (c == 45)

-- a word that does not begin with -
abbrev pub is_agent : List ℕ → Bool
is_agent word = is_word word && is_undashed word

abbrev pub asked_with : List ℕ → Result Attributes ℕ → Option Asked
asked_with agent (Ok name) = Some (record { agent = agent; name = name })
asked_with agent (Err at) = None

abbrev pub asked_in : (agent name : List ℕ) → Option Asked
asked_in agent name = if is_agent agent then asked_with agent (name_of_text name) else None

-- two words, the first an agent's name and the second the text form of a name, ask this; others ask nothing
abbrev pub asked_of : List (List ℕ) → Option Asked
asked_of (agent ∷ name ∷ []) = asked_in agent name
asked_of _ = None

-- this is read of the words, or that they ask nothing, unless memory runs out
abbrev pub IsReadAs : Option Asked → Result Asked Stop → Type 0
IsReadAs asked (Ok a) = asked ≡ Some a
IsReadAs asked (Err Stops.Usage) = asked ≡ None
IsReadAs asked (Err Stops.Memory) = Unit {0}
IsReadAs asked (Err other) = ⊥
