-- The reply to a Start meets the session's condition where a look told of the session's own half.
use Rattle.std.proofs.Common.{◌≡◌, ℕ, ◌+◌, ◌≤◌, true, List, Option, Some, refl, rules, sym, ap, subst, ◌∙◌}
use Rattle.std.specs.Prelude.{length}
use Rattle.mta_lane_send.specs.declared.state.SendState.{SendState}
use Rattle.mta_lane_send.specs.declared.state.SendState.TheVariants.{Idle}
use Rattle.mta_lane_send.specs.Half.{last_of, is_idle}
use Rattle.mta_records.specs.Outgoing.{Carried}
use Rattle.mta_histories.specs.Lanes.{Lane, lane_at, put_lane, EachLane}
use Rattle.mta_histories.specs.Lanes as spool
use Rattle.mta_histories.specs.Classes.{start, Class, on_lane, class_of}
use Rattle.mta_histories.specs.History.{IsOnLane, StepNeeds, lane_after, lanes_after, on_lane_after, when}
use Rattle.mta_histories.specs.History.{transfer_of, longest_activity}
use Rattle.mta_histories.specs.Kept.{IsFilled, IsKept}
use Rattle.mta_histories.specs.Laws.{StepsKeep}
use Rattle.mta_histories.proofs.LaneLists.{number-at, each-at}
use Rattle.mta_histories.proofs.Shown.{put-found}
use Rattle.mta_session.specs.State.{State}
use Rattle.mta_session.specs.Fits.{RepliesTo}
use Rattle.mta_session.specs.declared.phase.Phase.{Phase}
use Rattle.mta_session.specs.declared.phase.Phase.TheVariants as phase
use Rattle.mta_session.specs.declared.ask.Reply.{Reply}
use Rattle.mta_session.specs.declared.ask.Reply.TheVariants as reply
use Rattle.mta_lane_match_laws.specs.Matches.{IsHalf}
use Rattle.mta_lane_match_laws.specs.Calls.{Makes, sending_of}
use Rattle.mta_lane_match_laws.specs.Replies.{IsReplyTo, StartsFit, StartsAnswer, RepliesAnswer, LooksStill}
use Rattle.mta_lane_match_laws.proofs.Replies.{idle_at}

-- the lane is filled behind the step, and what it transfers is what was started
started_fits : (s : spool.State) (n k i : ℕ) (rs : List ℕ) (moment : ℕ) (lane : Lane)
    → lane_at n s.lanes.open_lanes ≡ Some lane
    → EachLane IsFilled (on_lane_after s (Some lane) (start k i rs) moment)
    → (1 ≤ length (transfer_of s.machine i rs moment).octets)
    × (length (transfer_of s.machine i rs moment).octets ≤ longest_activity)
started_fits s n k i rs moment lane at each =
    let new : Lane = lane_after s lane (start k i rs) moment in
    let here : lane_at lane.number s.lanes.open_lanes ≡ Some lane =
    subst (λ (v : ℕ). lane_at v s.lanes.open_lanes ≡ Some lane) (number-at s.lanes.open_lanes n lane at) at in
    let filled : IsFilled new =
    each-at IsFilled (put_lane new s.lanes.open_lanes) lane.number new (put-found new lane s.lanes.open_lanes here)
    each in
    (filled.some_octets refl, filled.not_too_many refl)

module _ (s : spool.State) (n : ℕ) (g : Option ℕ) (k i : ℕ) (rs : List ℕ) (moment : ℕ) where
  filled_after : (c : Class) → c ≡ on_lane n g (start k i rs) → StepNeeds s c moment
      → EachLane IsFilled (lanes_after s c moment).open_lanes
      → (1 ≤ length (transfer_of s.machine i rs moment).octets)
      × (length (transfer_of s.machine i rs moment).octets ≤ longest_activity)
  filled_after c is needs each =
      let row : IsOnLane s n g (start k i rs) moment = subst (λ (x : Class). StepNeeds s x moment) is needs in
      let on : EachLane IsFilled (on_lane_after s (lane_at n s.lanes.open_lanes) (start k i rs) moment) =
      subst (λ (x : Class). EachLane IsFilled (lanes_after s x moment).open_lanes) is each in
      started_fits s n k i rs moment row.lane row.lane_is
      (subst (λ (x : Option Lane). EachLane IsFilled (on_lane_after s x (start k i rs) moment)) row.lane_is on)

  next_after : (c : Class) (state : SendState) → c ≡ on_lane n g (start k i rs) → StepNeeds s c moment
      → sending_of (lane_at n s.lanes.open_lanes) ≡ Some state → k ≡ last_of state + 1
  next_after c state is needs still =
      let row : IsOnLane s n g (start k i rs) moment = subst (λ (x : Class). StepNeeds s x moment) is needs in
      let told : Some row.lane.sending ≡ Some state = sym (ap sending_of row.lane_is) ∙ still in
      let same : row.lane.sending ≡ state = cc in
      row.needs.next ∙ ap (λ (x : SendState). last_of x + 1) same

made_answers : StepsKeep → (t : State) (s after : spool.State) (o : Carried) (i : ℕ) (rs : List ℕ)
    → IsKept s → sending_of (lane_at t.lane s.lanes.open_lanes) ≡ Some t.send.state
    → Makes t s (start o.activity i rs) o.octets after
    → (o.activity ≡ last_of t.send.state + 1) × (1 ≤ length o.octets) × (length o.octets ≤ 2097152)
made_answers keep t s after o i rs kept still made =
    let fits = filled_after s t.lane (Some t.generation) o.activity i rs (when s made.step) (class_of made.step)
    made.step_is made.possible.allowed (keep s made.step kept made.possible).filled in
    let some = subst (λ (x : List ℕ). (1 ≤ length x) × (length x ≤ longest_activity)) (sym made.told) fits in (
      next_after s t.lane (Some t.generation) o.activity i rs (when s made.step) (class_of made.step) t.send.state
          made.step_is made.possible.allowed still,
      some.0,
      some.1,
    )

pub starts_answer : StepsKeep → StartsAnswer
starts_answer keep t s after handed o kept still made = made_answers keep t s after o made.0 made.1 kept still made.2

idle_is : (known kept : SendState) → is_idle known ≡ true → IsHalf known kept → kept ≡ known
idle_is (Idle l) kept e h = h
idle_is any0 kept e h = absurd cc

pub looks_still : LooksStill
looks_still t pieces s lane fits at k =
    let quiet : is_idle t.send.state ≡ true = idle_at phase.AsksStart t fits in
    ap sending_of at ∙ ap Some (idle_is t.send.state lane.sending quiet k.sending)

-- ---- the other replies

start_answers : (t : State) (x : Reply) → IsReplyTo phase.AsksStart x → StartsFit t.send x
    → RepliesTo phase.AsksStart t x
start_answers t (reply.Start x) kind fits = fits
start_answers t x kind fits = absurd kind

by_kind : (f : Phase) (t : State) (x : Reply) → IsReplyTo f x → StartsFit t.send x → RepliesTo f t x
by_kind phase.AsksStart t x kind fits = start_answers t x kind fits
by_kind f t x kind fits = search rules

pub replies_answer : RepliesAnswer
replies_answer t x kind fits = by_kind t.phase t x kind fits
