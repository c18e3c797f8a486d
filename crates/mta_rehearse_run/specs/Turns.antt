-- What becomes of a name at one agent.
use Rattle.std.specs.Prelude.{ℕ, List, Option, Some, None, slice_get}
use Rattle.mta_names.specs.declared.attributes.Attributes.{Attributes}
use Rattle.mta_tables.specs.declared.entry.Peer.{Peer}
use Rattle.mta_tables.specs.declared.hop.Hop.{Hop}
use Rattle.mta_tables.specs.declared.hop.Hop.TheVariants as Hops
use Rattle.mta_tables.specs.Hops.{best_hop}
use Rattle.mta_tables.specs.Tables.{TablesValue}
use Rattle.mta_rehearse_run.specs.declared.turn.Turn.{Turn}
use Rattle.mta_rehearse_run.specs.declared.turn.Turn.TheVariants.{On, Over}
use Rattle.mta_rehearse_run.specs.declared.walked.WalkEnd.TheVariants as Ends
use Rattle.mta_rehearse_run.specs.Agents.{agent_named}

-- the hop in the tables of the agent
abbrev pub hop_in : Option TablesValue → Attributes → Hop
hop_in None n = Hops.None
hop_in (Some t) n = best_hop t n

abbrev pub hop_at : List TablesValue → Attributes → ℕ → Hop
hop_at agents n a = hop_in (slice_get agents a) n

-- the peer at a place in the tables of the agent
abbrev pub peer_in : Option TablesValue → ℕ → Option Peer
peer_in None place = None
peer_in (Some t) place = slice_get t.peers place

abbrev pub peer_at : List TablesValue → ℕ → ℕ → Option Peer
peer_at agents a place = peer_in (slice_get agents a) place

-- on to the agent of this name; over where no agent has it
abbrev pub on_or_unknown : Option ℕ → List ℕ → Turn
on_or_unknown (Some a) word = On a
on_or_unknown None word = Over (Ends.Unknown word)

abbrev pub to_word : List TablesValue → List ℕ → Turn
to_word agents word = on_or_unknown (agent_named agents word) word

-- on to the agent that the peer's name names (the hop of whole tables has a peer)
abbrev pub to_known : List TablesValue → Option Peer → Turn
to_known agents None = Over Ends.NoRoute
to_known agents (Some p) = to_word agents p.name

abbrev pub to_peer : List TablesValue → ℕ → ℕ → Turn
to_peer agents a place = to_known agents (peer_at agents a place)

abbrev pub turn_by : List TablesValue → ℕ → Hop → Turn
turn_by agents a (Hops.Local place) = Over (Ends.Mailbox place)
turn_by agents a (Hops.List place) = Over (Ends.List place)
turn_by agents a Hops.None = Over Ends.NoRoute
turn_by agents a (Hops.Peer place) = to_peer agents a place

-- what becomes of the name at the agent: it goes where its best hop goes, on to the agent of the peer's name
abbrev pub turn_of : List TablesValue → Attributes → ℕ → Turn
turn_of agents n a = turn_by agents a (hop_at agents n a)
