-- Steps of other workers, and a session's own.
use Rattle.std.specs.Prelude.{◌≡◌, ◌+◌, ℕ, true, List, [], Option, Some, None, slice_get}
use Rattle.mta_lane_send.specs.Half.{is_idle, last_of, confirmed_of, confirmed_at}
use Rattle.mta_lane_send.specs.declared.state.SendState.TheVariants.{Idle, Sending, Ending}
use Rattle.mta_lane_recv.specs.declared.state.Last.TheVariants as last
use Rattle.mta_records.specs.declared.step.Step.{Step}
use Rattle.mta_histories.specs.Classes.{LaneStep, agree, bind, start, confirm, to_end, settle, abandon, secure}
use Rattle.mta_histories.specs.Classes.{complete, drop_pieces, close, Class, begins, sets_format, records}
use Rattle.mta_histories.specs.Classes.{accepts, settles, opens, on_lane, class_of}
use Rattle.mta_histories.specs.Lanes as spool
use Rattle.mta_histories.specs.History.{transfer_of, with_piece}
use Rattle.mta_lane_match_laws.specs.Matches.{Known}

-- the step tells a generation, and is not of this lane and generation
abbrev pub IsElsewhere : (lane generation : ℕ) → (number : ℕ) (told : Option ℕ) → Type 0
IsElsewhere l h n None = ⊥
IsElsewhere l h n (Some g) = n ≡ l → g ≡ h → ⊥

-- Any worker may bind or close a session's lane, or give its activity up. No one else makes another step in the
-- session's generation.
abbrev pub IsOthersOn : (lane generation : ℕ) → ℕ → Option ℕ → LaneStep → Type 0
IsOthersOn l h n g bind = Unit {0}
IsOthersOn l h n g close = Unit {0}
IsOthersOn l h n g (abandon k) = Unit {0}
IsOthersOn l h n g (agree c w) = IsElsewhere l h n g
IsOthersOn l h n g (start k i rs) = IsElsewhere l h n g
IsOthersOn l h n g (confirm k c) = IsElsewhere l h n g
IsOthersOn l h n g (to_end k) = IsElsewhere l h n g
IsOthersOn l h n g (settle outcome k) = IsElsewhere l h n g
IsOthersOn l h n g (secure k m piece) = IsElsewhere l h n g
IsOthersOn l h n g (complete k m piece) = IsElsewhere l h n g
IsOthersOn l h n g (drop_pieces k) = IsElsewhere l h n g

-- A step that others may make while a session has this lane in this generation. A snapshot is none: a history begins
-- with it.
abbrev pub IsOthers : (lane generation : ℕ) → Class → Type 0
IsOthers l h (begins state) = ⊥
IsOthers l h sets_format = Unit {0}
IsOthers l h (records text) = Unit {0}
IsOthers l h (accepts octets) = Unit {0}
IsOthers l h (settles how i r) = Unit {0}
IsOthers l h (opens role peer reference twa checkpoint window) = Unit {0}
IsOthers l h (on_lane n g step) = IsOthersOn l h n g step

abbrev pub AreOthers : (lane generation : ℕ) → List Step → Type 0
AreOthers l h steps = (n : ℕ) (step : Step) → slice_get steps n ≡ Some step → IsOthers l h (class_of step)

-- What a session asks for is of the activity that it has under way, or starts one where none is; LaneAgree has the
-- session's values.
abbrev pub IsAsked : Known → LaneStep → Type 0
IsAsked t (agree c w) = (c ≡ t.checkpoint) × (w ≡ t.window)
IsAsked t (start k i rs) = is_idle t.sending ≡ true
IsAsked t (confirm k n) = k ≡ last_of t.sending
IsAsked t (to_end k) = k ≡ last_of t.sending
IsAsked t (settle outcome k) = k ≡ last_of t.sending
IsAsked t (secure k n piece) = Unit {0}
IsAsked t (complete k n piece) = Unit {0}
IsAsked t (drop_pieces k) = Unit {0}
IsAsked t bind = ⊥
IsAsked t (abandon k) = ⊥
IsAsked t close = ⊥

-- of what it starts it is told the octets
abbrev pub IsTold : spool.State → LaneStep → (moment : ℕ) → List ℕ → Type 0
IsTold s (start k i rs) moment octets = octets ≡ (transfer_of s.machine i rs moment).octets
IsTold s step moment octets = Unit {0}

-- what the session knows once the step is made
abbrev pub learned : Known → (octets : List ℕ) → LaneStep → Known
learned t octets (agree c w) = record t { agreed = true }
learned t octets (start k i rs) = record t { sending = Sending (last_of t.sending + 1) 0; octets = octets }
learned t octets (confirm k n) = record t { sending = confirmed_at t.sending n }
learned t octets (to_end k) = record t { sending = Ending (last_of t.sending) (confirmed_of t.sending) }
learned t octets (settle outcome k) = record t { sending = Idle (last_of t.sending); octets = [] }
learned t octets (secure k n piece) = record t {
  high = k;
  last = last.Partial k n;
  pieces = with_piece t.pieces n piece;
}
learned t octets (complete k n piece) = record t { high = k; last = last.Done k; pieces = [] }
learned t octets (drop_pieces k) = record t { last = last.None; pieces = [] }
learned t octets bind = t
learned t octets (abandon k) = t
learned t octets close = t
