-- A session as it begins, and its calls.
use Rattle.std.specs.Prelude.{◌≡◌, ◌<◌, ℕ, true, false, None, Result, Ok, Err, List, []}
use Rattle.mta_ber.specs.declared.memory.Memory.{Memory as NoMemory}
use Rattle.mta_lane_send.specs.declared.state.SendState.TheVariants as state
use Rattle.mta_lane_recv.specs.declared.state.Last.TheVariants as last
use Rattle.mta_transfer_rules.specs.Sending as s
use Rattle.mta_transfer_rules.specs.Receiving as r
use Rattle.mta_session.specs.declared.event.Side.{Side}
use Rattle.mta_session.specs.declared.event.Side.TheVariants as side
use Rattle.mta_session.specs.declared.event.InitiatorPlan.{InitiatorPlan}
use Rattle.mta_session.specs.declared.event.Event.{Event}
use Rattle.mta_session.specs.declared.event.Action.{Action}
use Rattle.mta_session.specs.declared.phase.Phase.TheVariants as phase
use Rattle.mta_session.specs.State.{State, with_values}
use Rattle.mta_session.specs.Follows.{Follows}
use Rattle.mta_session.specs.Rank.{calls_left, is_over}

-- nothing is known of a lane
abbrev pub new_machine : Side → (units : ℕ) → State
new_machine side units = record {
  phase = phase.Begin;
  left = units;
  side = side;
  opened = None;
  line = None;
  lane = 0;
  generation = 0;
  checkpoint = 0;
  window = 1;
  twa = false;
  agreed = false;
  ours = false;
  please = false;
  send = record {
    state = state.Idle 0;
    octets = [];
    size = 0;
    window = 1;
    accepted = true;
    stage = s.Quiet;
    heard = None;
  };
  recv = record { high = 0; last = last.None; stage = r.Free; from = 0; acked = 0 };
}

abbrev pub new_responder : (own : List ℕ) (units : ℕ) → State
new_responder own units = new_machine (side.Responder own) units

-- an initiator puts nothing of a transfer before it got Accept
abbrev pub new_initiator : InitiatorPlan → (units : ℕ) → State
new_initiator p units =
    let t = new_machine (side.Initiator p) units in
    let waiting = record t.send { accepted = false } in
    with_values (record t {
      lane = p.lane;
      generation = p.generation;
      twa = p.twa;
      send =
          waiting;
    }) p.checkpoint p.window

-- One call of `step`: it follows the rules, and until the session is over fewer calls are left. After want of memory
-- it is as before.
abbrev pub StepsTo : State → Event → Result Action NoMemory → State → Type 0
StepsTo t e (Ok a) new = Follows t e a new × (is_over t.phase ≡ false → calls_left new < calls_left t)
StepsTo t e (Err m) new = new ≡ t
