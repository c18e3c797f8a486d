-- Abandons of other passes in a session's list. Any pass may give up what a session sends, and the session learns of it
-- late or not at all. The history has it, and so its place in the list is found.
use Rattle.std.specs.Prelude.{ℕ, zero, suc, ◌+◌, ◌-◌, ◌&&◌, ◌==◌, if◌then◌else◌, Bool, false, Option, Some, None}
use Rattle.std.specs.Prelude.{slice_get, List, [], ◌∷◌, ◌++◌}
use Rattle.mta_lane_send.specs.Half.{is_sending, last_of}
use Rattle.mta_transfer_rules.specs.Sending as s
use Rattle.mta_transfer_rules.specs.Sending.{SendEnd, SendEvent}
use Rattle.mta_transfer_rules.specs.Lanes as h
use Rattle.mta_transfer_rules.specs.Lanes.{SeenStep, Seen, On}
use Rattle.mta_transfer_laws.specs.Sessions.{SessionEvent, Made, Looked, At_sending}
use Rattle.mta_transfer_laws.specs.Sessions.{sending_event, send_all, seen_after}

-- ---- in the history

abbrev pub is_abandon : (activity : ℕ) → SeenStep → Bool
is_abandon k (h.Abandon j) = j == k
is_abandon k step = false

-- the entry gives this activity of the lane up
abbrev pub gives_up : (lane activity : ℕ) → Option Seen → Bool
gives_up lane k (Some (On j step)) = (j == lane) && is_abandon k step
gives_up lane k x = false

-- the first position, of so many from this one on, whose entry does
abbrev pub given_up_in : List Seen → (lane activity from count : ℕ) → Option ℕ
given_up_in history lane k from zero = None
given_up_in history lane k from (suc n) =
    if gives_up lane k (slice_get history from) then Some from else given_up_in history lane k (from + 1) n

-- ---- in the list

-- the length of the history that a step of the sending half, or a look at it, has before it
abbrev pub step_upto : (position : ℕ) → List SendEvent → Option ℕ
step_upto p [] = None
step_upto p (e ∷ es) = Some p

abbrev pub has_before : (lane : ℕ) → SessionEvent → Option ℕ
has_before lane (Made p j step) = step_upto p (sending_event lane (Made p j step))
has_before lane (Looked n At_sending) = Some n
has_before lane e = None

-- where what the half sends is given up from one length of the history up to another
abbrev pub abandoned_upto : List Seen → (lane from : ℕ) → SendEnd → Option ℕ → Option ℕ
abandoned_upto history lane from e None = None
abandoned_upto history lane from e (Some upto) =
    if is_sending e.state (last_of e.state) then given_up_in history lane (last_of e.state) from (upto - from) else None

abbrev pub abandon_at : (lane : ℕ) → SendEnd → Option ℕ → List SessionEvent
abandon_at lane e None = []
abandon_at lane e (Some p) = Made p lane (h.Abandon (last_of e.state)) ∷ []

abbrev pub given_up : SendEnd → Option ℕ → SendEnd
given_up e None = e
given_up e (Some p) = s.made e s.Abandon

-- The same list with an Abandon right before the first event that has it, from a length of the history and a sending
-- end on.
abbrev pub with_abandons : List Seen → (lane from : ℕ) → SendEnd → List SessionEvent → List SessionEvent
with_abandons history lane from e [] = []
with_abandons history lane from e (y ∷ ys) =
    let found : Option ℕ = abandoned_upto history lane from e (has_before lane y) in
    abandon_at lane e found ++ y ∷
    with_abandons history lane (seen_after lane from y) (send_all (given_up e found) (sending_event lane y)) ys
