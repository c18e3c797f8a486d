-- An Abandon before a step that settles its activity changes nothing of what the step leaves.
use Rattle.std.proofs.Common.{◌≡◌, ℕ, Bool, true, false, Option, List, refl}
use Rattle.mta_lane_send.specs.declared.state.SendState.{SendState}
use Rattle.mta_lane_send.specs.declared.state.SendState.TheVariants as state
use Rattle.mta_lane_send.specs.Half.{is_sending, last_of}
use Rattle.mta_transfer_rules.specs.Units.{LaneUnit}
use Rattle.mta_transfer_rules.specs.Units as u
use Rattle.mta_transfer_rules.specs.Sending as s
use Rattle.mta_transfer_rules.specs.Sending.{SendEnd, SendStage, SendStep}
use Rattle.mta_transfer_laws.specs.Sessions.{IsSettling, AbandonMayStandBefore}

abbrev end_of : SendState → List ℕ → (size window : ℕ) → Bool → SendStage → Option LaneUnit → SendEnd
end_of st o size window a stage heard = record {
  state = st;
  octets = o;
  size = size;
  window = window;
  accepted = a;
  stage = stage;
  heard = heard;
}

module _ (k c : ℕ) (o : List ℕ) (size window : ℕ) (a : Bool) (stage : SendStage) (heard : Option LaneUnit) where
  abbrev before : SendEnd
  before = end_of (state.Sending k c) o size window a stage heard

  called : (step : SendStep) (y : LaneUnit) → IsSettling step → s.IsCalledBy before step y
      → s.IsCalledBy (s.made before s.Abandon) step y
  called s.Dropped (u.DiscardAck j) i g = g
  called s.Refused u.Exception i g = refl
  called s.Denied u.Unrecognized i g = refl
  called s.Denied u.CannotRecover i g = refl
  called s.Dropped _ i g = absurd g
  called s.Refused _ i g = absurd g
  called s.Denied _ i g = absurd g
  called _ y i g = absurd i

  settles : (step : SendStep) → IsSettling step → s.MayMake before step → s.MayMake (s.made before s.Abandon) step
      × (s.made (s.made before s.Abandon) step ≡ s.made before step)
  settles s.Dropped i m = ((m.0, m.1, called s.Dropped m.0 tt m.2), refl)
  settles s.Refused i m = ((m.0, m.1, called s.Refused m.0 tt m.2), refl)
  settles s.Denied i m = ((m.0, m.1, called s.Denied m.0 tt m.2), refl)
  settles _ i m = absurd i

by_state : (st : SendState) (o : List ℕ) (size window : ℕ) (a : Bool) (stage : SendStage) (heard : Option LaneUnit)
    (step : SendStep) → IsSettling step → is_sending st (last_of st) ≡ true
    → s.MayMake (end_of st o size window a stage heard) step
    → s.MayMake (s.made (end_of st o size window a stage heard) s.Abandon) step
    × (s.made (s.made (end_of st o size window a stage heard) s.Abandon) step
    ≡ s.made (end_of st o size window a stage heard) step)
by_state (state.Sending k c) o size window a stage heard step i sn m = settles k c o size window a stage heard step i m
by_state (state.Idle l) o size window a stage heard step i sn m = absurd (let c : false ≡ true = sn in cc)
by_state any0 o size window a stage heard step i sn m = absurd (let d : false ≡ true = sn in cc)

pub before-settling : AbandonMayStandBefore
before-settling e step i sn m =
    let g : s.MayMake (s.made e s.Abandon) step
    × (s.made (s.made e s.Abandon) step ≡ s.made e step) =
    by_state e.state e.octets e.size e.window e.accepted e.stage e.heard step i sn m in
    (sn, g.0, g.1)
