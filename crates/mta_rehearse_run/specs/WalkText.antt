-- The text of a walk, and its status.
use Rattle.std.specs.Prelude.{ℕ, ◌-◌, List, [], ◌∷◌, ◌++◌, length, slice_index, codes}
use Rattle.mta_tables.specs.Tables.{TablesValue}
use Rattle.mta_rehearse_run.specs.declared.walked.Walk.{Walk}
use Rattle.mta_rehearse_run.specs.declared.walked.WalkEnd.{WalkEnd}
use Rattle.mta_rehearse_run.specs.declared.walked.WalkEnd.TheVariants as Ends
use Rattle.mta_rehearse_run.specs.Agents.{own_at, mailbox_at, list_at}

-- the line of an agent of this name
abbrev pub line : (own what word : List ℕ) → List ℕ
line own what word = codes "at " ++ (own ++ (what ++ (word ++ codes "\n")))

abbrev pub peer_line : (own word : List ℕ) → List ℕ
peer_line own word = line own (codes " peer ") word

-- a line for each agent that sends the name on to the one behind it
abbrev pub steps_text : List TablesValue → List ℕ → List ℕ
steps_text agents [] = []
steps_text agents (a ∷ []) = []
steps_text agents (a ∷ b ∷ more) = peer_line (own_at agents a) (own_at agents b) ++ steps_text agents (b ∷ more)

-- the lines of the last agent and of the end
abbrev pub end_text : List TablesValue → ℕ → WalkEnd → List ℕ
end_text agents a (Ends.Mailbox place) = line (own_at agents a) (codes " mailbox ") (mailbox_at agents a place)
end_text agents a (Ends.List place) = line (own_at agents a) (codes " list ") (list_at agents a place)
end_text agents a Ends.NoRoute = line (own_at agents a) (codes " no route") []
end_text agents a (Ends.Unknown word) =
    peer_line (own_at agents a) word ++ (codes "unknown agent " ++ (word ++ codes "\n"))
end_text agents a (Ends.Loop b) =
    peer_line (own_at agents a) (own_at agents b) ++ (codes "loop " ++ (own_at agents b ++ codes "\n"))

unfoldable pub walk_text : List TablesValue → Walk → List ℕ
walk_text agents w =
    steps_text agents w.agents ++ end_text agents (slice_index w.agents (length w.agents - 1)) w.end

-- 20 for a loop, 21 for an unknown agent, and else 0
abbrev pub status_of : WalkEnd → ℕ
status_of (Ends.Mailbox place) = 0
status_of (Ends.List place) = 0
status_of Ends.NoRoute = 0
status_of (Ends.Loop a) = 20
status_of (Ends.Unknown word) = 21
