-- A possible step keeps soundness.
use Rattle.std.proofs.Common.{◌≡◌, ℕ, ◌+◌, ◌≤◌, ◌<◌, Bool, true, false, cond, List, [], ◌∷◌, ◌++◌, length}
use Rattle.std.proofs.Common.{Option, Some, None, refl, sym, ap, subst, ◌∙◌, arith, inl, inr}
use Rattle.std.specs.Prelude.{◌&&◌, count_by, bytes_eq}
use Rattle.std.specs.List.{AllByRecursion}
use Rattle.std.proofs.lemmas.Bool.{cases_Bool, and_parts, true≢false}
use Rattle.std.proofs.lemmas.Slice.Eq.{bytes_eq-Decides}
use Rattle.mta_lane_recv.specs.declared.state.Last.TheVariants as last
use Rattle.mta_records.specs.Reference.{Identifier}
use Rattle.mta_records.specs.declared.lane.LaneRole.{LaneRole}
use Rattle.mta_records.specs.declared.lane.LaneRole.TheVariants.{Initiator, Responder}
use Rattle.mta_records.specs.declared.step.Step.{Step}
use Rattle.mta_machine.specs.Machine.{MachineStep, IsRun, machine_run}
use Rattle.mta_histories.specs.Lanes.{Lane, Lanes, State, lane_at, put_lane, without_lane, EachLane}
use Rattle.mta_histories.specs.Limits.{most_lanes, is_role, is_with}
use Rattle.mta_histories.specs.Classes.{LaneStep, agree, bind, start, confirm, to_end, settle, abandon, secure}
use Rattle.mta_histories.specs.Classes.{complete}
use Rattle.mta_histories.specs.Classes.{drop_pieces, close, Class, begins, sets_format, records, accepts, settles}
use Rattle.mta_histories.specs.Classes.{opens}
use Rattle.mta_histories.specs.Classes.{on_lane, class_of}
use Rattle.mta_histories.specs.History.{LaneNeeds, StepNeeds, CanOpen, new_lane, lane_steps, on_lane_steps, class_steps}
use Rattle.mta_histories.specs.History.{lane_after, on_lane_after, state_left, when, after_step, IsPossible}
use Rattle.mta_histories.specs.Kept.{IsWhole, IsKept}
use Rattle.mta_histories.specs.Sound.{IsSoundItem, IsSoundLine, IsSoundLane, IsSound, AreApart, state_begun}
use Rattle.mta_histories.specs.Items.{MakeWritten, SoundStays}
use Rattle.mta_histories.proofs.LaneLists.{each-at, each-put, each-without, each-more, each-weaker, number-at, bit_of}
use Rattle.mta_histories.proofs.Rows.{step_run}
use Rattle.mta_histories.proofs.SoundItems.{all-weaker}
use Rattle.mta_histories.proofs.SoundMachine.{IsLineOf, IsSoundMachine, machine-sound, class-read, class-now}
use Rattle.mta_histories.proofs.SoundLanes.{left_by, lane-stays, lane-sound-after, IsNamedAs, with-more, with-put}
use Rattle.mta_histories.proofs.SoundLanes.{with-without, apart-more, apart-put, apart-without}

-- what is said of the lanes as a list
record AreSoundLanes (lanes : List Lane) : Type 0 where
  few : (role : LaneRole) (peer : List ℕ) → count_by (is_with role peer) lanes ≤ most_lanes
  apart : AreApart lanes

all-of : (s : State) (steps : List MachineStep) (ls : Lanes) (moment : ℕ)
    → IsSoundMachine (machine_run s.machine steps) moment
    → EachLane (IsSoundLane (left_by s steps ls moment)) ls.open_lanes → AreSoundLanes ls.open_lanes
    → IsSound (left_by s steps ls moment)
all-of s steps ls moment m each lanes = record {
  format = m.format;
  texts = m.texts;
  recorded = m.recorded;
  items = m.items;
  lines = all-weaker (IsLineOf (length (machine_run s.machine steps).items) moment)
      (IsSoundLine (left_by s steps ls moment)) (machine_run s.machine steps).mailboxes
      (λ l h. record { some_item = h.some_item; item = h.item; timely = h.timely }) m.lines;
  lanes = each;
  few = lanes.few;
  apart = lanes.apart;
}

-- ---- beside the lanes

beside-sound : (s : State) (steps : List MachineStep) (moment : ℕ) → IsSound s → s.moment ≤ moment
    → IsRun s.machine steps → IsSoundMachine (machine_run s.machine steps) moment
    → IsSound (left_by s steps s.lanes moment)
beside-sound s steps moment sound later run m =
    all-of s steps s.lanes moment m
    (each-weaker (IsSoundLane s) (IsSoundLane (left_by s steps s.lanes moment)) s.lanes.open_lanes
    (λ l. lane-stays s steps s.lanes moment l later run) sound.lanes)
    (record { few = sound.few; apart = sound.apart })

-- ---- a lane more

role-is : (a b : LaneRole) → is_role a b ≡ true → b ≡ a
role-is Initiator Initiator e = refl
role-is Initiator Responder e = absurd cc
role-is Responder Initiator e = absurd cc
role-is Responder Responder e = refl

-- of a responder's lane the values are agreed, and of an initiator's nothing stands
new-sound : (s : State) (ls : Lanes) (moment n : ℕ) (role : LaneRole) (peer : List ℕ) (reference : Identifier)
    (twa : Bool) (checkpoint window : ℕ)
    → IsSoundLane (left_by s [] ls moment) (new_lane n role peer reference twa checkpoint window)
new-sound s ls moment n role peer reference twa checkpoint window = record {
  responder = λ e. ap (is_role Responder) e;
  before_agreed = λ e. (refl, refl);
  transfer = refl;
  pieces = tt;
}

few-more : (s : State) (role : LaneRole) (peer : List ℕ) (reference : Identifier) (twa : Bool)
    (checkpoint window : ℕ) → IsSound s → CanOpen s role peer reference checkpoint window → (r : LaneRole) (p : List ℕ)
    → count_by (is_with r p)
    (s.lanes.open_lanes ++ new_lane (s.lanes.count + 1) role peer reference twa checkpoint window ∷ []) ≤ most_lanes
few-more s role peer reference twa checkpoint window sound can r p =
    elim (cases_Bool (is_with r p new)) [
      | inl is ↦ (
          let parts = and_parts (is_role r role) (bytes_eq p peer) is in
          let same-role : role ≡ r = role-is r role parts.0 in
          let same-peer : p ≡ peer = (bytes_eq-Decides p peer).0 parts.1 in
          let room : count_by (is_with r p) s.lanes.open_lanes < most_lanes =
          subst (λ (x : LaneRole). count_by (is_with x p) s.lanes.open_lanes < most_lanes) same-role
          (subst (λ (x : List ℕ). count_by (is_with role x) s.lanes.open_lanes < most_lanes) (sym same-peer)
          can.room) in
          let bit : bit_of (is_with r p new) ≡ 1 = ap bit_of is in
          omega (arith, room, bit, with-more r p s.lanes.open_lanes new))
      | inr isnt ↦ (
          let bit : bit_of (is_with r p new) ≡ 0 = ap bit_of isnt in
          omega (arith, sound.few r p, bit, with-more r p s.lanes.open_lanes new))
    ]
  where
    new : Lane
    new = new_lane (s.lanes.count + 1) role peer reference twa checkpoint window

-- ---- a step on a lane

put-sound : (s : State) (n : ℕ) (lane : Lane) (step : LaneStep) (moment : ℕ)
    → lane_at n s.lanes.open_lanes ≡ Some lane → IsNamedAs lane (lane_after s lane step moment) → IsKept s
    → IsSound s → LaneNeeds s lane step moment → IsRun s.machine (lane_steps lane step moment) → s.moment ≤ moment
    → IsSoundMachine (machine_run s.machine (lane_steps lane step moment)) moment
    → IsSound (left_by s (lane_steps lane step moment)
    (record s.lanes { open_lanes = put_lane (lane_after s lane step moment) s.lanes.open_lanes }) moment)
put-sound s n lane step moment found named kept sound needs run later m =
    all-of s (lane_steps lane step moment) ls moment m
    (each-put (IsSoundLane (left_by s (lane_steps lane step moment) ls moment)) (lane_after s lane step moment)
    s.lanes.open_lanes
    (lane-sound-after s lane step moment ls needs (each-at IsWhole s.lanes.open_lanes n lane found kept.whole)
    sound.format later run (each-at (IsSoundLane s) s.lanes.open_lanes n lane found sound.lanes))
    (each-weaker (IsSoundLane s) (IsSoundLane (left_by s (lane_steps lane step moment) ls moment)) s.lanes.open_lanes
    (λ l. lane-stays s (lane_steps lane step moment) ls moment l later run) sound.lanes))
    (record {
      few = λ role peer. subst (λ (c : ℕ). c ≤ most_lanes)
          (sym (with-put role peer s.lanes.open_lanes lane (lane_after s lane step moment) there named))
          (sound.few role peer);
      apart = apart-put s.lanes.open_lanes lane (lane_after s lane step moment) there named sound.apart;
    })
  where
    ls : Lanes
    ls = record s.lanes { open_lanes = put_lane (lane_after s lane step moment) s.lanes.open_lanes }

    there : lane_at (lane_after s lane step moment).number s.lanes.open_lanes ≡ Some lane
    there = subst (λ (k : ℕ). lane_at k s.lanes.open_lanes ≡ Some lane)
        (number-at s.lanes.open_lanes n lane found ∙ sym named.number) found

close-sound : (s : State) (lane : Lane) (moment : ℕ) → IsSound s → s.moment ≤ moment
    → IsSoundMachine s.machine moment
    → IsSound (left_by s [] (record s.lanes { open_lanes = without_lane lane.number s.lanes.open_lanes }) moment)
close-sound s lane moment sound later m =
    all-of s [] ls moment m
    (each-without (IsSoundLane (left_by s [] ls moment)) lane.number s.lanes.open_lanes
    (each-weaker (IsSoundLane s) (IsSoundLane (left_by s [] ls moment)) s.lanes.open_lanes
    (λ l. lane-stays s [] ls moment l later tt) sound.lanes))
    (record {
      few = λ role peer. omega
          (arith, sound.few role peer, with-without role peer s.lanes.open_lanes lane.number);
      apart = apart-without s.lanes.open_lanes lane.number sound.apart;
    })
  where
    ls : Lanes
    ls = record s.lanes { open_lanes = without_lane lane.number s.lanes.open_lanes }

same-name : (lane : Lane) → IsNamedAs lane lane
same-name lane = record { number = refl; role = refl; peer = refl; reference = refl }

on-lane-sound : (s : State) (n : ℕ) (lane : Lane) (step : LaneStep) (moment : ℕ)
    → lane_at n s.lanes.open_lanes ≡ Some lane → IsKept s → IsSound s → LaneNeeds s lane step moment
    → IsRun s.machine (lane_steps lane step moment) → s.moment ≤ moment
    → IsSoundMachine (machine_run s.machine (lane_steps lane step moment)) moment
    → IsSound (left_by s (lane_steps lane step moment)
    (record s.lanes { open_lanes = on_lane_after s (Some lane) step moment }) moment)
on-lane-sound s n lane (agree checkpoint window) moment found kept sound needs run later m =
    put-sound s n lane (agree checkpoint window) moment found
    (record { number = refl; role = refl; peer = refl; reference = refl }) kept sound needs run later m
on-lane-sound s n lane bind moment found kept sound needs run later m =
    put-sound s n lane bind moment found
    (record { number = refl; role = refl; peer = refl; reference = refl }) kept sound needs run later m
on-lane-sound s n lane (start k i rs) moment found kept sound needs run later m =
    put-sound s n lane (start k i rs) moment found
    (record { number = refl; role = refl; peer = refl; reference = refl }) kept sound needs run later m
on-lane-sound s n lane (confirm k c) moment found kept sound needs run later m =
    put-sound s n lane (confirm k c) moment found
    (record { number = refl; role = refl; peer = refl; reference = refl }) kept sound needs run later m
on-lane-sound s n lane (to_end k) moment found kept sound needs run later m =
    put-sound s n lane (to_end k) moment found
    (record { number = refl; role = refl; peer = refl; reference = refl }) kept sound needs run later m
on-lane-sound s n lane (settle outcome k) moment found kept sound needs run later m =
    put-sound s n lane (settle outcome k) moment found
    (record { number = refl; role = refl; peer = refl; reference = refl }) kept sound needs run later m
on-lane-sound s n lane (abandon k) moment found kept sound needs run later m =
    put-sound s n lane (abandon k) moment found
    (record { number = refl; role = refl; peer = refl; reference = refl }) kept sound needs run later m
on-lane-sound s n lane (secure k p piece) moment found kept sound needs run later m =
    put-sound s n lane (secure k p piece) moment found
    (record { number = refl; role = refl; peer = refl; reference = refl }) kept sound needs run later m
on-lane-sound s n lane (complete k p piece) moment found kept sound needs run later m =
    put-sound s n lane (complete k p piece) moment found
    (record { number = refl; role = refl; peer = refl; reference = refl }) kept sound needs run later m
on-lane-sound s n lane (drop_pieces k) moment found kept sound needs run later m =
    put-sound s n lane (drop_pieces k) moment found
    (record { number = refl; role = refl; peer = refl; reference = refl }) kept sound needs run later m
on-lane-sound s n lane close moment found kept sound needs run later m = close-sound s lane moment sound later m

-- ---- a step

class-sound : (s : State) (c : Class) (moment : ℕ) → IsKept s → IsSound s → StepNeeds s c moment
    → IsRun s.machine (class_steps s c moment) → s.moment ≤ moment
    → IsSoundMachine (machine_run s.machine (class_steps s c moment)) moment → IsSound (state_left s c moment)
class-sound s (begins t) moment kept sound needs run later m =
    subst (λ (n : ℕ). IsSound (record (state_begun t) { moment = n })) (sym needs.now) needs.sound
class-sound s sets_format moment kept sound needs run later m =
    beside-sound s (class_steps s sets_format moment) moment sound later run m
class-sound s (records text) moment kept sound needs run later m =
    beside-sound s (class_steps s (records text) moment) moment sound later run m
class-sound s (accepts octets) moment kept sound needs run later m =
    beside-sound s (class_steps s (accepts octets) moment) moment sound later run m
class-sound s (settles how i r) moment kept sound needs run later m =
    beside-sound s (class_steps s (settles how i r) moment) moment sound later run m
class-sound s (opens role peer reference twa checkpoint window) moment kept sound needs run later m =
    all-of s [] ls moment m
    (each-more (IsSoundLane (left_by s [] ls moment)) s.lanes.open_lanes new
    (new-sound s ls moment (s.lanes.count + 1) role peer reference twa checkpoint window)
    (each-weaker (IsSoundLane s) (IsSoundLane (left_by s [] ls moment)) s.lanes.open_lanes
    (λ l. lane-stays s [] ls moment l later tt) sound.lanes))
    (record {
      few = few-more s role peer reference twa checkpoint window sound needs;
      apart = apart-more s.lanes.open_lanes new needs.new sound.apart;
    })
  where
    new : Lane
    new = new_lane (s.lanes.count + 1) role peer reference twa checkpoint window

    ls : Lanes
    ls = record { count = s.lanes.count + 1; open_lanes = s.lanes.open_lanes ++ new ∷ [] }
class-sound s (on_lane n g step) moment kept sound needs run later m =
    subst (λ (o : Option Lane). IsRun s.machine (on_lane_steps o step moment)
    → IsSoundMachine (machine_run s.machine (on_lane_steps o step moment)) moment
    → IsSound (left_by s (on_lane_steps o step moment)
    (record s.lanes { open_lanes = on_lane_after s o step moment }) moment))
    (sym needs.lane_is)
    (λ r x. on-lane-sound s n needs.lane step moment needs.lane_is kept sound needs.needs r later x) run m

pub sound_stays : SoundStays
sound_stays s step kept sound possible made =
    let run = step_run s step kept possible in
    class-sound s (class_of step) (when s step) kept sound possible.allowed run possible.timely
    (machine-sound s (class_steps s (class_of step) (when s step)) (when s step) sound possible.timely run
    (class-read s (class_of step) (when s step) possible.allowed) (class-now s (class_of step) (when s step)) made)
