-- A name has one walk from each agent, and that has no more agents than there are.
use Rattle.std.proofs.Common.{◌≡◌, ℕ, ◌<◌, List, length, Option, Some, None, ap, ◌∙◌}
use Rattle.mta_names.specs.declared.attributes.Attributes.{Attributes}
use Rattle.mta_tables.specs.declared.entry.Peer.{Peer}
use Rattle.mta_tables.specs.declared.hop.Hop.{Hop}
use Rattle.mta_tables.specs.declared.hop.Hop.TheVariants as Hops
use Rattle.mta_tables.specs.Tables.{TablesValue}
use Rattle.mta_tables.proofs.Places.{position_within}
use Rattle.mta_rehearse_run.specs.declared.turn.Turn.TheVariants.{On, Over}
use Rattle.mta_rehearse_run.specs.declared.walked.Walk.{Walk}
use Rattle.mta_rehearse_run.specs.declared.walked.WalkEnd.{WalkEnd}
use Rattle.mta_rehearse_run.specs.declared.walked.WalkEnd.TheVariants as Ends
use Rattle.mta_rehearse_run.specs.Agents.{has_name, agent_named}
use Rattle.mta_rehearse_run.specs.Turns.{hop_at, peer_at, to_known, turn_by, turn_of}
use Rattle.mta_rehearse_run.specs.Laws.{HasOneWalk}
use Rattle.mta_rehearse_run.proofs.Names.{on_some}
use Rattle.mta_rehearse_run.proofs.Paths.{StaysBelow, few_on_path, one_walk, has_walk}

over_on : (end : WalkEnd) (a : ℕ) → Over end ≡ On a → ⊥
over_on end a e = absurd cc

known_below : (xs : List TablesValue) (o : Option Peer) (b : ℕ) → to_known xs o ≡ On b → b < length xs
known_below xs None b e = absurd (over_on Ends.NoRoute b e)
known_below xs (Some p) b e = position_within (has_name p.name) xs b (on_some (agent_named xs p.name) p.name b e)

hop_below : (xs : List TablesValue) (a : ℕ) (hop : Hop) (b : ℕ) → turn_by xs a hop ≡ On b → b < length xs
hop_below xs a (Hops.Local place) b e = absurd (over_on (Ends.Mailbox place) b e)
hop_below xs a (Hops.List place) b e = absurd (over_on (Ends.List place) b e)
hop_below xs a Hops.None b e = absurd (over_on Ends.NoRoute b e)
hop_below xs a (Hops.Peer place) b e = known_below xs (peer_at xs a place) b e

pub stays : (xs : List TablesValue) (n : Attributes) → StaysBelow (turn_of xs n) (length xs)
stays xs n a b e = hop_below xs a (hop_at xs n a) b e

abbrev walk_with : List ℕ → WalkEnd → Walk
walk_with agents end = record { agents = agents; end = end }

same_walk : (w : Walk) (agents : List ℕ) (end : WalkEnd) → (w.agents ≡ agents) × (w.end ≡ end)
    → w ≡ walk_with agents end
same_walk w agents end e = ap (λ (xs : List ℕ). walk_with xs w.end) e.0 ∙ ap (walk_with agents) e.1

pub has_one_walk : (xs : List TablesValue) (start : ℕ) (n : Attributes) → start < length xs → HasOneWalk xs start n
has_one_walk xs start n l =
    let turn = turn_of xs n in
    let h = has_walk turn start (length xs) (stays xs n) l in
    record {
      walk = walk_with h.0 h.1;
      walked = h.2;
      one = λ w k. same_walk w h.0 h.1 (one_walk turn start w.agents h.0 w.end h.1 k h.2);
      few = few_on_path turn start (length xs) h.0 (stays xs n) l h.2.path;
    }
