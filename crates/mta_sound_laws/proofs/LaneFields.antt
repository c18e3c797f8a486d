-- The open lanes are such as a record has, whatever is done on them.
use Rattle.std.proofs.Common.{◌≡◌, ℕ, ◌+◌, ◌<◌, ◌^◌, Bool, true, List, Option, None, Some}
use Rattle.std.proofs.Common.{subst, arith}
use Rattle.std.specs.Prelude.{IfSome}
use Rattle.std.specs.List.{AllByRecursion}
use Rattle.mta_lane_send.specs.Half.{confirmed_at, confirmed_of, last_of}
use Rattle.mta_lane_send.specs.declared.state.SendState.{SendState}
use Rattle.mta_lane_send.specs.declared.state.SendState.TheVariants.{Idle, Sending, Ending, Dropping}
use Rattle.mta_records.specs.Reference.{Identifier, IsIdentifier}
use Rattle.mta_records.specs.Words.{is_word}
use Rattle.mta_records.specs.declared.lane.LaneRole.{LaneRole}
use Rattle.mta_histories.specs.Classes.{was_sent, was_refused, was_denied, was_dropped, LaneStep, agree, bind, start}
use Rattle.mta_histories.specs.Classes.{confirm, to_end, settle, abandon, secure, complete, drop_pieces, close}
use Rattle.mta_histories.specs.History.{IsOfGeneration, LaneNeeds, lane_after, new_lane, on_lane_after}
use Rattle.mta_histories.specs.Lanes.{Lane, State, Transfer, EachLane, lane_at, put_lane}
use Rattle.mta_histories.proofs.LaneLists.{each-at, each-put, each-without}

-- a number of a record
abbrev pub IsNumber : ℕ → Type 0
IsNumber n = n < 2 ^ 32

-- the recipients of what is transferred are numbers of a record
abbrev pub HasRecipients : Option Transfer → Type 0
HasRecipients None = Unit {0}
HasRecipients (Some t) = AllByRecursion IsNumber t.recipients

-- what a record asks of a lane and neither its soundness nor what is kept of it says
pub record IsWritable (lane : Lane) : Type 0 where
  pub peer : is_word lane.peer ≡ true
  pub reference : IsIdentifier lane.reference
  pub generation : lane.generation < 2 ^ 64
  pub last : last_of lane.sending < 2 ^ 32
  pub confirmed : confirmed_of lane.sending < 2 ^ 32
  pub recipients : HasRecipients lane.transfer
  pub high : lane.high < 2 ^ 32

-- the numbers that a step on a lane tells are those of a record
abbrev pub HasNumbers : LaneStep → Type 0
HasNumbers (agree checkpoint window) = Unit {0}
HasNumbers bind = Unit {0}
HasNumbers (start k i rs) = (k < 2 ^ 32) × AllByRecursion IsNumber rs
HasNumbers (confirm k n) = n < 2 ^ 32
HasNumbers (to_end k) = k < 2 ^ 32
HasNumbers (settle outcome k) = Unit {0}
HasNumbers (abandon k) = k < 2 ^ 32
HasNumbers (secure k n piece) = k < 2 ^ 32
HasNumbers (complete k n piece) = k < 2 ^ 32
HasNumbers (drop_pieces k) = Unit {0}
HasNumbers close = Unit {0}

-- a generation of a record
abbrev pub IsGeneration : ℕ → Type 0
IsGeneration n = n < 2 ^ 64

-- ---- a new lane

pub new-writable : (number : ℕ) (role : LaneRole) (peer : List ℕ) (reference : Identifier) (twa : Bool)
    (checkpoint window : ℕ) → is_word peer ≡ true → IsIdentifier reference
    → IsWritable (new_lane number role peer reference twa checkpoint window)
new-writable number role peer reference twa checkpoint window word is = record {
  peer = word;
  reference = is;
  generation = omega arith;
  last = omega arith;
  confirmed = omega arith;
  recipients = tt;
  high = omega arith;
}

-- ---- a step on a lane

confirmed-last : (st : SendState) (n : ℕ) → last_of st < 2 ^ 32 → last_of (confirmed_at st n) < 2 ^ 32
confirmed-last (Idle last) n h = h
confirmed-last (Sending k c) n h = h
confirmed-last (Ending k c) n h = h
confirmed-last (Dropping k) n h = h

confirmed-number : (st : SendState) (n : ℕ) → n < 2 ^ 32 → confirmed_of (confirmed_at st n) < 2 ^ 32
confirmed-number (Idle last) n h = omega arith
confirmed-number (Sending k c) n h = h
confirmed-number (Ending k c) n h = h
confirmed-number (Dropping k) n h = omega arith

next-generation : (g : Option ℕ) (n : ℕ) → g ≡ Some n → IfSome g IsGeneration → n < 2 ^ 64
next-generation None n e h = absurd cc
next-generation (Some m) n e h = let same : m ≡ n = cc in subst IsGeneration same h

-- the sending half is idle again
settled-writable : (lane : Lane) → IsWritable lane
    → IsWritable (record lane { sending = Idle (last_of lane.sending); transfer = None })
settled-writable lane is = record {
  peer = is.peer;
  reference = is.reference;
  generation = is.generation;
  last = is.last;
  confirmed = omega arith;
  recipients = tt;
  high = is.high;
}

pub lane-writable : (s : State) (lane : Lane) (step : LaneStep) (g : Option ℕ) (moment : ℕ)
    → IsOfGeneration lane g step → LaneNeeds s lane step moment → IfSome g IsGeneration → HasNumbers step
    → IsWritable lane → IsWritable (lane_after s lane step moment)
lane-writable s lane (agree checkpoint window) g moment of needs fits has is = record {
  peer = is.peer;
  reference = is.reference;
  generation = is.generation;
  last = is.last;
  confirmed = is.confirmed;
  recipients = is.recipients;
  high = is.high;
}
lane-writable s lane bind g moment of needs fits has is = record {
  peer = is.peer;
  reference = is.reference;
  generation = next-generation g (lane.generation + 1) of fits;
  last = is.last;
  confirmed = is.confirmed;
  recipients = is.recipients;
  high = is.high;
}
lane-writable s lane (start k i rs) g moment of needs fits has is = record {
  peer = is.peer;
  reference = is.reference;
  generation = is.generation;
  last = omega (arith, needs.next, has.0);
  confirmed = omega arith;
  recipients = has.1;
  high = is.high;
}
lane-writable s lane (confirm k n) g moment of needs fits has is = record {
  peer = is.peer;
  reference = is.reference;
  generation = is.generation;
  last = confirmed-last lane.sending n is.last;
  confirmed = confirmed-number lane.sending n has;
  recipients = is.recipients;
  high = is.high;
}
lane-writable s lane (to_end k) g moment of needs fits has is = record {
  peer = is.peer;
  reference = is.reference;
  generation = is.generation;
  last = has;
  confirmed = is.confirmed;
  recipients = is.recipients;
  high = is.high;
}
lane-writable s lane (settle was_sent k) g moment of needs fits has is = settled-writable lane is
lane-writable s lane (settle (was_refused kind) k) g moment of needs fits has is = settled-writable lane is
lane-writable s lane (settle was_denied k) g moment of needs fits has is = settled-writable lane is
lane-writable s lane (settle was_dropped k) g moment of needs fits has is = settled-writable lane is
lane-writable s lane (abandon k) g moment of needs fits has is = record {
  peer = is.peer;
  reference = is.reference;
  generation = is.generation;
  last = has;
  confirmed = omega arith;
  recipients = is.recipients;
  high = is.high;
}
lane-writable s lane (secure k n piece) g moment of needs fits has is = record {
  peer = is.peer;
  reference = is.reference;
  generation = is.generation;
  last = is.last;
  confirmed = is.confirmed;
  recipients = is.recipients;
  high = has;
}
lane-writable s lane (complete k n piece) g moment of needs fits has is = record {
  peer = is.peer;
  reference = is.reference;
  generation = is.generation;
  last = is.last;
  confirmed = is.confirmed;
  recipients = is.recipients;
  high = has;
}
lane-writable s lane (drop_pieces k) g moment of needs fits has is = record {
  peer = is.peer;
  reference = is.reference;
  generation = is.generation;
  last = is.last;
  confirmed = is.confirmed;
  recipients = is.recipients;
  high = is.high;
}
lane-writable s lane close g moment of needs fits has is = is

-- ---- all of them

put : (s : State) (n : ℕ) (lane : Lane) (step : LaneStep) (g : Option ℕ) (moment : ℕ)
    → lane_at n s.lanes.open_lanes ≡ Some lane → IsOfGeneration lane g step → LaneNeeds s lane step moment
    → IfSome g IsGeneration → HasNumbers step → EachLane IsWritable s.lanes.open_lanes
    → EachLane IsWritable (put_lane (lane_after s lane step moment) s.lanes.open_lanes)
put s n lane step g moment found of needs fits has each =
    each-put IsWritable (lane_after s lane step moment) s.lanes.open_lanes
    (lane-writable s lane step g moment of needs fits has
    (each-at IsWritable s.lanes.open_lanes n lane found each)) each

-- so the open lanes are after a step on one of them
pub lanes-writable : (s : State) (n : ℕ) (lane : Lane) (step : LaneStep) (g : Option ℕ) (moment : ℕ)
    → lane_at n s.lanes.open_lanes ≡ Some lane → IsOfGeneration lane g step → LaneNeeds s lane step moment
    → IfSome g IsGeneration → HasNumbers step → EachLane IsWritable s.lanes.open_lanes
    → EachLane IsWritable (on_lane_after s (Some lane) step moment)
lanes-writable s n lane close g moment found of needs fits has each =
    each-without IsWritable lane.number s.lanes.open_lanes each
lanes-writable s n lane (agree checkpoint window) g moment found of needs fits has each =
    put s n lane (agree checkpoint window) g moment found of needs fits has each
lanes-writable s n lane bind g moment found of needs fits has each =
    put s n lane bind g moment found of needs fits has each
lanes-writable s n lane (start k i rs) g moment found of needs fits has each =
    put s n lane (start k i rs) g moment found of needs fits has each
lanes-writable s n lane (confirm k c) g moment found of needs fits has each =
    put s n lane (confirm k c) g moment found of needs fits has each
lanes-writable s n lane (to_end k) g moment found of needs fits has each =
    put s n lane (to_end k) g moment found of needs fits has each
lanes-writable s n lane (settle outcome k) g moment found of needs fits has each =
    put s n lane (settle outcome k) g moment found of needs fits has each
lanes-writable s n lane (abandon k) g moment found of needs fits has each =
    put s n lane (abandon k) g moment found of needs fits has each
lanes-writable s n lane (secure k p piece) g moment found of needs fits has each =
    put s n lane (secure k p piece) g moment found of needs fits has each
lanes-writable s n lane (complete k p piece) g moment found of needs fits has each =
    put s n lane (complete k p piece) g moment found of needs fits has each
lanes-writable s n lane (drop_pieces k) g moment found of needs fits has each =
    put s n lane (drop_pieces k) g moment found of needs fits has each
