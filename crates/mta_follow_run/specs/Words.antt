-- What the words of the command line ask for.
use Rattle.std.specs.Prelude.{◌≡◌, ◌≢◌, ℕ, ◌≤◌, ◌<◌, List, [], ◌∷◌, Contains, codes, length, slice_index, Option, None}
use Rattle.std.specs.Prelude.{Some}
use Rattle.std.specs.Fmt.{decimal}
use Rattle.mta_follow_run.specs.declared.words.Command.{Command}
use Rattle.mta_follow_run.specs.declared.words.Command.TheVariants as Commands

-- a host: it is not empty, does not begin with a dash, and has no colon
pub record IsHost (text : List ℕ) : Type 0 where
  pub filled : 0 < length text
  pub undashed : slice_index text 0 ≢ 45
  pub whole : Contains text 58 → ⊥

-- a port of TCP, in decimal without a sign or a leading zero
pub record IsPort (text : List ℕ) (port : ℕ) : Type 0 where
  pub least : 1 ≤ port
  pub most : port ≤ 65535
  pub digits : text ≡ decimal port

-- `push HOST PORT` or `pull PORT`
pub data Asked : Type 0 where
  Push : (host : List ℕ) (port : ℕ) → Asked
  Pull : (port : ℕ) → Asked

pub data Says (words : List (List ℕ)) : Asked → Type 0 where
  says_push : (host text : List ℕ) (port : ℕ) → words ≡ codes "push" ∷ host ∷ text ∷ [] → IsHost host
      → IsPort text port
      → Says words (Push host port)
  says_pull : (text : List ℕ) (port : ℕ) → words ≡ codes "pull" ∷ text ∷ [] → IsPort text port
      → Says words (Pull port)

-- they are other words
abbrev pub AskNothing : List (List ℕ) → Type 0
AskNothing words = (asked : Asked) → Says words asked → ⊥

abbrev pub asked_by : Command → Asked
asked_by (Commands.Push host port) = Push host.now port
asked_by (Commands.Pull port) = Pull port

-- what was found of the words
abbrev pub IsFound : List (List ℕ) → Option Command → Type 0
IsFound words None = AskNothing words
IsFound words (Some command) = Says words (asked_by command)

-- what was found of the host and the port behind `push`, and of the port behind `pull`
abbrev pub IsFoundPush : List ℕ → List ℕ → Option Command → Type 0
IsFoundPush host text None = IsHost host → (port : ℕ) → IsPort text port → ⊥
IsFoundPush host text (Some (Commands.Push found port)) = (found.now ≡ host) × IsHost host × IsPort text port
IsFoundPush host text (Some (Commands.Pull port)) = ⊥

abbrev pub IsFoundPull : List ℕ → Option Command → Type 0
IsFoundPull text None = (port : ℕ) → IsPort text port → ⊥
IsFoundPull text (Some (Commands.Push found port)) = ⊥
IsFoundPull text (Some (Commands.Pull port)) = IsPort text port

-- what was found of a text that is to name a port
abbrev pub IsFoundPort : List ℕ → Option ℕ → Type 0
IsFoundPort text None = (port : ℕ) → IsPort text port → ⊥
IsFoundPort text (Some port) = IsPort text port
