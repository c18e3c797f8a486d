-- What the commands read, open and add.
use Rattle.std.specs.Prelude.{ℕ, Bool, true, if◌then◌else◌, List, [], Option, Some, None}
use Rattle.mta_links.specs.declared.role.Role.{Role}
use Rattle.mta_stations.specs.Roles.{are_roles_of, roles_of}
use Rattle.mta_words.specs.declared.words.Words.{Words}
use Rattle.mta_words.specs.declared.words.Words.TheVariants as Say
use Rattle.mta_words.specs.Words.{Says}

-- ---- the stations

-- these roles are those of the words: `serve` names one station for each
abbrev pub are_stations_for : Words → List Role → Bool
are_stations_for Say.Submit roles = true
are_stations_for (Say.Serve sessions stations) roles = are_roles_of stations roles
are_stations_for Say.Queue roles = true
are_stations_for (Say.Mailbox name) roles = true
are_stations_for Say.Decode roles = true
are_stations_for (Say.Drill messages) roles = true

-- the words, where the stations with these roles are theirs
abbrev pub words_with : List Role → Option Words → Option Words
words_with roles None = None
words_with roles (Some words) = if are_stations_for words roles then Some words else None

-- the words are in the grammar: these texts say them
pub record IsSaid (words : Words) : Type 0 where
  pub texts : List (List ℕ)
  pub says : Says texts words

-- the roles of the stations that the words name
abbrev pub roles_named : Option Words → List Role
roles_named None = []
roles_named (Some Say.Submit) = []
roles_named (Some (Say.Serve sessions stations)) = roles_of stations
roles_named (Some Say.Queue) = []
roles_named (Some (Say.Mailbox name)) = []
roles_named (Some Say.Decode) = []
roles_named (Some (Say.Drill messages)) = []

-- ---- the commands

-- the command is `serve`
abbrev pub Serves : Option Words → Type 0
Serves None = ⊥
Serves (Some Say.Submit) = ⊥
Serves (Some (Say.Serve sessions stations)) = Unit {0}
Serves (Some Say.Queue) = ⊥
Serves (Some (Say.Mailbox name)) = ⊥
Serves (Some Say.Decode) = ⊥
Serves (Some (Say.Drill messages)) = ⊥

-- the command is `drill`
abbrev pub Drills : Option Words → Type 0
Drills None = ⊥
Drills (Some Say.Submit) = ⊥
Drills (Some (Say.Serve sessions stations)) = ⊥
Drills (Some Say.Queue) = ⊥
Drills (Some (Say.Mailbox name)) = ⊥
Drills (Some Say.Decode) = ⊥
Drills (Some (Say.Drill messages)) = Unit {0}

-- the command adds steps
abbrev pub AddsSteps : Option Words → Type 0
AddsSteps None = ⊥
AddsSteps (Some Say.Submit) = Unit {0}
AddsSteps (Some (Say.Serve sessions stations)) = Unit {0}
AddsSteps (Some Say.Queue) = ⊥
AddsSteps (Some (Say.Mailbox name)) = ⊥
AddsSteps (Some Say.Decode) = ⊥
AddsSteps (Some (Say.Drill messages)) = ⊥

-- the command reads the tables
abbrev pub ReadsTables : Option Words → Type 0
ReadsTables None = ⊥
ReadsTables (Some Say.Submit) = Unit {0}
ReadsTables (Some Say.Queue) = ⊥
ReadsTables (Some (Say.Mailbox name)) = ⊥
ReadsTables (Some Say.Decode) = ⊥
ReadsTables (Some (Say.Serve sessions stations)) = Unit {0}
ReadsTables (Some (Say.Drill messages)) = ⊥

-- the command reads an APDU from the input
abbrev pub ReadsApdu : Option Words → Type 0
ReadsApdu None = ⊥
ReadsApdu (Some Say.Submit) = Unit {0}
ReadsApdu (Some Say.Queue) = ⊥
ReadsApdu (Some (Say.Mailbox name)) = ⊥
ReadsApdu (Some Say.Decode) = Unit {0}
ReadsApdu (Some (Say.Serve sessions stations)) = ⊥
ReadsApdu (Some (Say.Drill messages)) = ⊥

-- the command opens the disk
abbrev pub OpensDisk : Option Words → Type 0
OpensDisk None = ⊥
OpensDisk (Some Say.Submit) = Unit {0}
OpensDisk (Some Say.Queue) = Unit {0}
OpensDisk (Some (Say.Mailbox name)) = Unit {0}
OpensDisk (Some Say.Decode) = ⊥
OpensDisk (Some (Say.Serve sessions stations)) = Unit {0}
OpensDisk (Some (Say.Drill messages)) = ⊥
