-- A lane is recovered and accepted.
use Rattle.std.proofs.Common.{◌≡◌, ◌<◌, ◌≤◌, ℕ, ◌+◌, ◌-◌, ◌*◌, ◌^◌, ◌==◌, ◌&&◌, true, false, List, [], ◌∷◌}
use Rattle.std.proofs.Common.{◌++◌, length, Option, Some, None, Result, Ok, refl, sym, ◌∙◌, ap, subst, arith}
use Rattle.std.specs.Prelude.{IfOk}
use Rattle.std.specs.Option.{option_map}
use Rattle.std.specs.Str.{bytes_eq}
use Rattle.std.proofs.lemmas.Bool.{and_from, eq-eqb}
use Rattle.mta_units.specs.declared.unit.Unit.TheVariants as unit
use Rattle.mta_lane_send.specs.declared.state.SendState.{SendState}
use Rattle.mta_lane_send.specs.declared.state.SendState.TheVariants as state
use Rattle.mta_lane_recv.specs.declared.state.Last.{Last}
use Rattle.mta_lane_recv.specs.Half.{IsOfHigh}
use Rattle.mta_transfer_rules.specs.Sending as sending
use Rattle.mta_transfer_rules.specs.Sending.{is_dropping}
use Rattle.mta_transfer_rules.specs.Receiving as r
use Rattle.mta_transfer_rules.specs.Receiving.{RecvEnd}
use Rattle.mta_records.specs.Reference.{Identifier}
use Rattle.mta_records.specs.declared.fault.StepFault.{StepFault}
use Rattle.mta_records.specs.declared.lane.LaneRole.TheVariants.{Responder}
use Rattle.mta_records.specs.declared.lane.LaneValues.{LaneValues}
use Rattle.mta_records.specs.declared.step.Step.TheVariants as step
use Rattle.mta_machine.specs.Items.{Machine}
use Rattle.mta_histories.specs.History.{IsPossible, after_step}
use Rattle.mta_histories.specs.Lanes.{Lane, Transfer, lane_at}
use Rattle.mta_histories.specs.Lanes.{State as SpoolState}
use Rattle.mta_session.specs.declared.ask.Ask.TheVariants as ask
use Rattle.mta_session.specs.declared.ask.Reply.{Reply}
use Rattle.mta_session.specs.declared.ask.Reply.TheVariants as reply
use Rattle.mta_session.specs.declared.event.Action.{Action}
use Rattle.mta_session.specs.declared.event.Action.TheVariants as action
use Rattle.mta_session.specs.declared.event.Event.TheVariants as event
use Rattle.mta_session.specs.declared.phase.Phase.TheVariants as phase
use Rattle.mta_session.specs.Follows.{Does, Follows, GoesOn, counted}
use Rattle.mta_session.specs.RecvFits.{RecvFitsAt}
use Rattle.mta_session.specs.State.{State}
use Rattle.mta_session.specs.Wanted.{Aborts, Asks, is_same_additional, is_same_reference}
use Rattle.mta_session_next_laws.specs.Next.{next_of_receiver, next_of_sender}
use Rattle.mta_session_next_laws.proofs.Calls.{not_last}
use Rattle.mta_drill_laws.specs.Tables.{gold_1}
use Rattle.mta_drill_step_laws.specs.First.{HasAccepted}
use Rattle.mta_drill_step_laws.specs.Second.{HasGot}
use Rattle.mta_drill_step_laws.proofs.States.{still_steps}
use Rattle.mta_drill_stage_laws.specs.Laws.{RecoveriesCall, RecoveriesListen}
use Rattle.mta_drill_stage_laws.specs.Lines.{line_of_first}
use Rattle.mta_drill_stage_laws.specs.Opening.{responder}
use Rattle.mta_drill_stage_laws.specs.Recovering.{Accepted, Accepts, Asks_bind, Asks_lane, Asks_peer, Asks_received}
use Rattle.mta_drill_stage_laws.specs.Recovering.{Asks_sending, Asks_values, AtReopen, BearsIn, Begins, Has_opened}
use Rattle.mta_drill_stage_laws.specs.Recovering.{IsIn}
use Rattle.mta_drill_stage_laws.specs.Recovering.{Message, Nothing, OnLane, Open_came, Opens, Recovering, Reopens}
use Rattle.mta_drill_stage_laws.specs.Recovering.{Responding, StandsIn, UnderWay, accept_again, again, again_of, binder}
use Rattle.mta_drill_stage_laws.specs.Recovering.{blank, octets_in, reopener, stage_in, state_of, transfer_in, valuer}
use Rattle.mta_drill_stage_laws.specs.Recovering.{waiting}
use Rattle.mta_drill_stage_laws.specs.Settings.{FirstHolds, IsSized, IsUntouched, Marks, Once, SecondHolds, Setting}
use Rattle.mta_drill_stage_laws.specs.Settings.{Stands, StandsNone, WasBroken, caller, first_lane, half_at, listener}
use Rattle.mta_drill_stage_laws.specs.Settings.{octets_behind, second_lane}
use Rattle.mta_drill_stage_laws.specs.Stages.{First, Stage}
use Rattle.mta_drill_stage_laws.specs.Stages as stage
use Rattle.mta_drill_stage_laws.specs.World.{Bound, CallerActs, IsLane, Link, ListenerActs, ListenerRests, Party}
use Rattle.mta_drill_stage_laws.specs.World.{Replied, World, came_to, values_of}
use Rattle.mta_drill_stage_laws.proofs.Acts.{asks_so, reads_first, told_at, untaken, waits_still}
use Rattle.mta_drill_stage_laws.proofs.Asking.{second_stays}
use Rattle.mta_drill_stage_laws.proofs.CallerGoes.{caller_goes_on}
use Rattle.mta_drill_stage_laws.proofs.Ending.{busy_asks, busy_puts, busy_reads, caller_puts, caller_reads}
use Rattle.mta_drill_stage_laws.proofs.Ending.{listener_puts}
use Rattle.mta_drill_stage_laws.proofs.Hearing.{Heard, heard_as, high_is, listener_goes, none_high, second_heard}
use Rattle.mta_drill_stage_laws.proofs.Hearing.{up_same}
use Rattle.mta_drill_stage_laws.proofs.ListenerGoes.{listener_goes_on}
use Rattle.mta_drill_stage_laws.proofs.Opening.{lane_reply, peer_reply, pick_not, pick_so, same_bytes}
use Rattle.mta_drill_stage_laws.proofs.Speaking.{caller_goes, not_dropped}
use Rattle.mta_drill_stage_laws.proofs.Spools.{lanes_so, made_so, stands_got}

-- ---- references

same_additional : (a : Option (List ℕ)) → is_same_additional a a ≡ true
same_additional None = refl
same_additional (Some a) = same_bytes a

pub same_reference : (a : Identifier) → is_same_reference a a ≡ true
same_reference a =
    and_from (bytes_eq a.calling a.calling && (a.common == a.common)) (is_same_additional a.additional a.additional)
    (and_from (bytes_eq a.calling a.calling) (a.common == a.common) (same_bytes a.calling)
    (eq-eqb a.common a.common refl))
    (same_additional a.additional)

-- ---- what is under way

pub in_high : (x : Setting) (done : ℕ) (u : UnderWay) (got high : ℕ) (l : Last) (ps : List (List ℕ))
    → StandsIn x done u got high l ps → IsOfHigh high l
in_high x done Nothing got high l ps h = none_high done got high l ps h
in_high x done (Message c whole transfer) got high l ps h = high_is whole done (octets_behind x done) c got high l ps h

pub in_stays : (done : ℕ) (u : UnderWay) → is_dropping (state_of done u) ≡ false
in_stays done Nothing = refl
in_stays done (Message c whole transfer) = not_dropped whole (done + 1) c

-- no more messages came than are sent
pub in_few : (x : Setting) (done : ℕ) (u : UnderWay) (got high : ℕ) (l : Last) (ps : List (List ℕ)) → IsSized x
    → IsIn x done u → StandsIn x done u got high l ps → got ≤ 1000
in_few x done Nothing got high l ps sized is h =
    let small : x.count ≤ 1000 = sized.few in
    let within : done ≤ x.count = is in
    omega (arith, h.got_is, within, small)
in_few x done (Message c true transfer) got high l ps sized is h =
    let small : x.count ≤ 1000 = sized.few in
    let below : done < x.count = is.0 in
    omega (arith, h.got_is, below, small)
in_few x done (Message c false transfer) got high l ps sized is h =
    let small : x.count ≤ 1000 = sized.few in
    let below : done < x.count = is.0 in
    omega (arith, stands_got done (octets_behind x done) c got high l ps h, below, small)

-- ---- Bind

pub bind_reply : (n : ℕ) (t : State) (s new : SpoolState) (y : Reply) → Replied (ask.Bind n) t s y new
    → (z : Result ℕ StepFault) × (y ≡ reply.Bind z) × ((lane : Lane) → IsLane s n lane → Bound s n z new lane)
bind_reply n t s new (reply.Bind z) h = (z, refl, h)
bind_reply n t s new any0 h = elim h [ ]

-- the next generation of a lane is bound where there is a number for it
binds : (s new : SpoolState) (lane : Lane) (z : Result ℕ StepFault) → s.lanes.open_lanes ≡ lane ∷ []
    → lane.number ≡ 1 → lane.generation + 1 < 2 ^ 32 → length s.machine.items ≤ 1001 → Bound s 1 z new lane
    → lane_at 1 s.lanes.open_lanes ≡ Some lane
    → (z ≡ Ok (lane.generation + 1)) × (new ≡ after_step s (step.Bind 1 (lane.generation + 1)))
binds s new lane z lanes one young few bound is =
    let made = step.Bind 1 (lane.generation + 1) in
    let possible : IsPossible s made = record {
      allowed = record { lane = lane; lane_is = is; current = refl; needs = tt };
      as_machine = tt;
      timely = omega arith;
      numbers = omega (arith, ap (λ (m : Machine). length m.items) (still_steps s made refl), few);
    } in
    let is_made = made_so s new made z possible (omega (arith, few)) (bound.made (omega (arith, young))) in
    let number : is_made.0 ≡ lane.generation + 1 =
    subst (λ y. IfOk y (λ g. g ≡ lane.generation + 1)) is_made.1 bound.generation in
    (is_made.1 ∙ ap Ok number, is_made.2)

pub second_binds : (x : Setting) (s new : SpoolState) (got high : ℕ) (l : Last) (pieces : List (List ℕ))
    (z : Result ℕ StepFault) → IsSized (again x) → got ≤ 1000 → SecondHolds x s got high l pieces
    → ((lane : Lane) → IsLane s 1 lane → Bound s 1 z new lane)
    → (z ≡ Ok (x.generation + 1)) × SecondHolds (again x) new got high l pieces
second_binds x s new got high l pieces z sized few h bound =
    let young : x.generation + 1 < 2 ^ 32 = sized.young in
    let lane = second_lane x high l pieces in
    let made = step.Bind 1 (x.generation + 1) in
    let is : lane_at 1 s.lanes.open_lanes ≡ Some lane = ap (lane_at 1) h.lanes in
    let is_made = binds s new lane z h.lanes refl young (omega (arith, h.has.items, few)) (bound lane is) is in
    let after : SecondHolds (again x) (after_step s made) got high l pieces = record {
      lanes = lanes_so s made (lane ∷ []) h.lanes;
      has = subst (λ (m : Machine). HasGot x.before got x.given m) (sym (still_steps s made refl)) h.has;
      moment = h.moment;
    } in
    (is_made.0, subst (λ y. SecondHolds (again x) y got high l pieces) (sym is_made.1) after)

pub first_binds : (x : Setting) (s new : SpoolState) (done : ℕ) (st : SendState) (transfer : Option Transfer)
    (z : Result ℕ StepFault) → IsSized (again x) → FirstHolds x s done st transfer
    → ((lane : Lane) → IsLane s 1 lane → Bound s 1 z new lane)
    → (z ≡ Ok (x.generation + 1)) × FirstHolds (again x) new done st transfer
first_binds x s new done st transfer z sized h bound =
    let young : x.generation + 1 < 2 ^ 32 = sized.young in
    let small : x.count ≤ 1000 = sized.few in
    let lane = first_lane x st transfer in
    let made = step.Bind 1 (x.generation + 1) in
    let is : lane_at 1 s.lanes.open_lanes ≡ Some lane = ap (lane_at 1) h.lanes in
    let is_made = binds s new lane z h.lanes refl young (omega (arith, h.accepted.items, small)) (bound lane is) is in
    let after : FirstHolds (again x) (after_step s made) done st transfer = record {
      lanes = lanes_so s made (lane ∷ []) h.lanes;
      accepted = subst (λ (m : Machine). HasAccepted x.before x.count done m) (sym (still_steps s made refl))
          h.accepted;
      moment = h.moment;
    } in
    (is_made.0, subst (λ y. FirstHolds (again x) y done st transfer) (sym is_made.1) after)

-- ---- Open

reopens_goes : (x : Setting) (w v : World) (done : ℕ) (u : UnderWay)
    → Reopens x w done u 1 (action.Put (unit.Open (again_of x))) phase.PutsOpen
    → Responding x x w done u 1 action.Read (λ n. responder n phase.ReadsOpen None None) [] → CallerActs w v
    → Recovering x v
reopens_goes x w v done u h l acts =
    let y = unit.Open (again_of x) in
    let told = caller_puts w v (reopener x h.left phase.PutsOpen (waiting x done u)) y h.wants_is h.session_is
    l.whole_link acts in
    Has_opened done u (record {
      is = h.is;
      left = h.left;
      room = h.room;
      wants_is = told.follows.0;
      session_is = told.follows.1;
      holds = subst (λ z. FirstHolds (again x) z done (state_of done u) (transfer_in u)) (sym told.spool) h.holds;
    }) (Open_came (record {
      right = l.right;
      room = l.room;
      wants_is = ap (λ (p : Party). p.wants) told.other ∙ l.wants_is;
      session_is = ap (λ (p : Party). p.session) told.other ∙ l.session_is;
      came_is = ap (λ (p : Party). p.came) told.other ∙ ap (λ us. us ++ y ∷ []) l.came_is;
      got = l.got;
      high = l.high;
      latest = l.latest;
      pieces = l.pieces;
      holds = subst (λ (p : Party). SecondHolds x p.spool l.got l.high l.latest l.pieces) (sym told.other) l.holds;
      stands = l.stands;
      up_is = told.came_is ∙ l.up_is;
      whole_link = ap (λ (k : Link). k.is_broken) told.link ∙ l.whole_link;
      marks = subst (λ (k : Link). BearsIn (again x) done u k.breaks) (sym told.link) l.marks;
    }))

open_comes : (x : Setting) (w v : World) (done : ℕ) (u : UnderWay)
    → Responding x x w done u 1 action.Read (λ n. responder n phase.ReadsOpen None None) (unit.Open (again_of x) ∷ [])
    → ListenerActs w v → AtReopen x v done u
open_comes x w v done u l acts =
    let y = unit.Open (again_of x) in
    let t = responder l.right phase.ReadsOpen None None in
    let room : 16 * x.count + 16 + 1 ≤ l.right = l.room in
    let talk = reads_first w.listening v.listening w.link v.link acts.did [] y l.wants_is l.whole_link l.came_is
    acts.acts in
    let follows = told_at w.listening v.listening (event.Unit y) [] t l.session_is talk.told in
    let does : Does (counted t (event.Unit y)) (Asks (ask.Peer gold_1)
    (responder (l.right - 1) phase.AsksPeer (Some (again_of x)) None)) v.listening.wants v.listening.session
    = subst (λ z. Does (counted t (event.Unit y)) z v.listening.wants v.listening.session)
    (pick_not (l.right - 1 == 0) (Aborts 3) _ (not_last l.right (omega (arith, room)))) follows in
    Asks_peer (record {
      right = l.right - 1;
      room = omega (arith, room);
      wants_is = does.0;
      session_is = does.1;
      came_is = talk.told.came_is;
      got = l.got;
      high = l.high;
      latest = l.latest;
      pieces = l.pieces;
      holds = subst (λ z. SecondHolds x z l.got l.high l.latest l.pieces) (sym talk.spool) l.holds;
      stands = l.stands;
      up_is = up_same w v [] (acts.other ∙ ap (came_to w.calling) talk.put_is) l.up_is;
      whole_link = ap (λ (k : Link). k.is_broken) talk.link ∙ l.whole_link;
      marks = subst (λ (k : Link). BearsIn (again x) done u k.breaks) (sym talk.link) l.marks;
    })

-- ---- the second agent asks

-- it goes on so where its spool was asked and stays
asked_on : (x y : Setting) (w v : World) (done : ℕ) (u : UnderWay) (wants next : Action) (at : (right : ℕ) → State)
    (to : (right : ℕ) → State) → (l : Responding x y w done u 0 wants at []) → v.listening.wants ≡ next
    → v.listening.session ≡ to l.right → v.listening.came ≡ w.listening.came → v.listening.spool ≡ w.listening.spool
    → v.calling ≡ came_to w.calling [] → v.link ≡ w.link → Responding x y v done u 0 next to []
asked_on x y w v done u wants next at to l ew es came spool other link = record {
  right = l.right;
  room = l.room;
  wants_is = ew;
  session_is = es;
  came_is = came ∙ l.came_is;
  got = l.got;
  high = l.high;
  latest = l.latest;
  pieces = l.pieces;
  holds = subst (λ z. SecondHolds y z l.got l.high l.latest l.pieces) (sym spool) l.holds;
  stands = l.stands;
  up_is = up_same w v [] other l.up_is;
  whole_link = ap (λ (k : Link). k.is_broken) link ∙ l.whole_link;
  marks = subst (λ (k : Link). BearsIn (again x) done u k.breaks) (sym link) l.marks;
}

peer_told : (x : Setting) (w v : World) (done : ℕ) (u : UnderWay)
    → Responding x x w done u 0 (action.Ask (ask.Peer gold_1))
    (λ n. responder n phase.AsksPeer (Some (again_of x)) None) []
    → ListenerActs w v → AtReopen x v done u
peer_told x w v done u l acts =
    let q = ask.Peer gold_1 in
    let t = responder l.right phase.AsksPeer (Some (again_of x)) None in
    let asked = asks_so w.listening v.listening w.link v.link acts.did q l.wants_is acts.acts in
    let rep = peer_reply gold_1 w.listening.session w.listening.spool v.listening.spool asked.answer asked.replied in
    let told = told_at w.listening v.listening (event.Reply asked.answer) w.listening.came t l.session_is asked.told in
    let does = subst (λ y. Follows t (event.Reply y) v.listening.wants v.listening.session)
    (rep.1 ∙ ap reply.Peer (rep.2 refl l.holds.has.tables)) told in
    Asks_lane (asked_on x x w v done u (action.Ask q) (action.Ask (ask.LaneOf Responder gold_1 (Some x.reference)))
    (λ n. responder n phase.AsksPeer (Some (again_of x)) None)
    (λ n. responder n phase.AsksOldLane (Some (again_of x)) (Some line_of_first)) l does.0 does.1 asked.told.came_is
    rep.3 (acts.other ∙ ap (came_to w.calling) asked.put) (untaken w.link v.link q refl asked.taken))

lane_told : (x : Setting) (w v : World) (done : ℕ) (u : UnderWay)
    → Responding x x w done u 0 (action.Ask (ask.LaneOf Responder gold_1 (Some x.reference)))
    (λ n. responder n phase.AsksOldLane (Some (again_of x)) (Some line_of_first)) []
    → ListenerActs w v → AtReopen x v done u
lane_told x w v done u l acts =
    let q = ask.LaneOf Responder gold_1 (Some x.reference) in
    let t = responder l.right phase.AsksOldLane (Some (again_of x)) (Some line_of_first) in
    let asked = asks_so w.listening v.listening w.link v.link acts.did q l.wants_is acts.acts in
    let rep = lane_reply Responder gold_1 (Some x.reference) w.listening.session w.listening.spool v.listening.spool
    asked.answer asked.replied in
    let told = told_at w.listening v.listening (event.Reply asked.answer) w.listening.came t l.session_is asked.told in
    let does = subst (λ y. Follows t (event.Reply y) v.listening.wants v.listening.session)
    (rep.1 ∙ ap reply.LaneOf (rep.2.one (second_lane x l.high l.latest l.pieces) l.holds.lanes refl refl refl)) told in
    Asks_bind (asked_on x x w v done u (action.Ask q) (action.Ask (ask.Bind 1))
    (λ n. responder n phase.AsksOldLane (Some (again_of x)) (Some line_of_first)) (binder x) l does.0 does.1
    asked.told.came_is rep.3 (acts.other ∙ ap (came_to w.calling) asked.put)
    (untaken w.link v.link q refl asked.taken))

bind_told : (x : Setting) (w v : World) (done : ℕ) (u : UnderWay) → IsSized (again x) → IsIn (again x) done u
    → Responding x x w done u 0 (action.Ask (ask.Bind 1)) (binder x) [] → ListenerActs w v → AtReopen x v done u
bind_told x w v done u sized is l acts =
    let q = ask.Bind 1 in
    let t = binder x l.right in
    let asked = asks_so w.listening v.listening w.link v.link acts.did q l.wants_is acts.acts in
    let rep = bind_reply 1 w.listening.session w.listening.spool v.listening.spool asked.answer asked.replied in
    let made = second_binds x w.listening.spool v.listening.spool l.got l.high l.latest l.pieces rep.0 sized
    (in_few (again x) done u l.got l.high l.latest l.pieces sized is l.stands) l.holds rep.2 in
    let told = told_at w.listening v.listening (event.Reply asked.answer) w.listening.came t l.session_is asked.told in
    let does = subst (λ y. Follows t (event.Reply y) v.listening.wants v.listening.session)
    (rep.1 ∙ ap reply.Bind made.0) told in
    let link = untaken w.link v.link q refl asked.taken in
    Asks_values (record {
      right = l.right;
      room = l.room;
      wants_is = does.0;
      session_is = does.1;
      came_is = asked.told.came_is ∙ l.came_is;
      got = l.got;
      high = l.high;
      latest = l.latest;
      pieces = l.pieces;
      holds = made.1;
      stands = l.stands;
      up_is = up_same w v [] (acts.other ∙ ap (came_to w.calling) asked.put) l.up_is;
      whole_link = ap (λ (k : Link). k.is_broken) link ∙ l.whole_link;
      marks = subst (λ (k : Link). BearsIn (again x) done u k.breaks) (sym link) l.marks;
    })

-- ---- it looks at the lane

pub values_reply : (n : ℕ) (t : State) (s new : SpoolState) (y : Reply) → Replied (ask.Values n) t s y new
    → (z : Option LaneValues) × (y ≡ reply.Values z) × (z ≡ option_map values_of (lane_at n s.lanes.open_lanes))
    × (new ≡ s)
values_reply n t s new (reply.Values z) h = (z, refl, h.0, h.1)
values_reply n t s new any0 h = elim h [ ]

pub recovery_reply : (n : ℕ) (t : State) (s new : SpoolState) (y : Reply) → Replied (ask.Recovery n) t s y new
    → (z : Option SendState) × (y ≡ reply.Recovery z)
    × (z ≡ option_map (λ (l : Lane). l.sending) (lane_at n s.lanes.open_lanes)) × (new ≡ s)
recovery_reply n t s new (reply.Recovery z) h = (z, refl, h.0, h.1)
recovery_reply n t s new any0 h = elim h [ ]

pub receiving_reply : (n : ℕ) (t : State) (s new : SpoolState) (y : Reply) → Replied (ask.Receiving n) t s y new
    → (z : Option (ℕ × Last)) × (y ≡ reply.Receiving z)
    × (z ≡ option_map (λ (l : Lane). (l.high, l.last)) (lane_at n s.lanes.open_lanes)) × (new ≡ s)
receiving_reply n t s new (reply.Receiving z) h = (z, refl, h.0, h.1)
receiving_reply n t s new any0 h = elim h [ ]

values_told : (x : Setting) (w v : World) (done : ℕ) (u : UnderWay)
    → Responding x (again x) w done u 0 (action.Ask (ask.Values 1)) (valuer x) [] → ListenerActs w v
    → AtReopen x v done u
values_told x w v done u l acts =
    let q = ask.Values 1 in
    let t = valuer x l.right in
    let asked = asks_so w.listening v.listening w.link v.link acts.did q l.wants_is acts.acts in
    let rep = values_reply 1 w.listening.session w.listening.spool v.listening.spool asked.answer asked.replied in
    let told = told_at w.listening v.listening (event.Reply asked.answer) w.listening.came t l.session_is asked.told in
    let values = rep.2 ∙ ap (λ ls. option_map values_of (lane_at 1 ls)) l.holds.lanes in
    let does = subst (λ y. Follows t (event.Reply y) v.listening.wants v.listening.session)
    (rep.1 ∙ ap reply.Values values) told in
    Asks_sending (asked_on x (again x) w v done u (action.Ask q) (action.Ask (ask.Recovery 1)) (valuer x)
    (λ n. listener (again x) n phase.AsksRecovery blank) l does.0 does.1 asked.told.came_is rep.3
    (acts.other ∙ ap (came_to w.calling) asked.put) (untaken w.link v.link q refl asked.taken))

sending_told : (x : Setting) (w v : World) (done : ℕ) (u : UnderWay)
    → Responding x (again x) w done u 0 (action.Ask (ask.Recovery 1))
    (λ n. listener (again x) n phase.AsksRecovery blank) []
    → ListenerActs w v → AtReopen x v done u
sending_told x w v done u l acts =
    let q = ask.Recovery 1 in
    let t = listener (again x) l.right phase.AsksRecovery blank in
    let asked = asks_so w.listening v.listening w.link v.link acts.did q l.wants_is acts.acts in
    let rep = recovery_reply 1 w.listening.session w.listening.spool v.listening.spool asked.answer asked.replied in
    let told = told_at w.listening v.listening (event.Reply asked.answer) w.listening.came t l.session_is asked.told in
    let half = rep.2 ∙ ap (λ ls. option_map (λ (k : Lane). k.sending) (lane_at 1 ls)) l.holds.lanes in
    let does = subst (λ y. Follows t (event.Reply y) v.listening.wants v.listening.session)
    (rep.1 ∙ ap reply.Recovery half) told in
    Asks_received (asked_on x (again x) w v done u (action.Ask q) (action.Ask (ask.Receiving 1))
    (λ n. listener (again x) n phase.AsksRecovery blank)
    (λ n. listener (again x) n (phase.AsksReceiving (state.Idle 0)) blank) l does.0 does.1 asked.told.came_is rep.3
    (acts.other ∙ ap (came_to w.calling) asked.put) (untaken w.link v.link q refl asked.taken))

received_told : (x : Setting) (w v : World) (done : ℕ) (u : UnderWay)
    → Responding x (again x) w done u 0 (action.Ask (ask.Receiving 1))
    (λ n. listener (again x) n (phase.AsksReceiving (state.Idle 0)) blank) []
    → ListenerActs w v → AtReopen x v done u
received_told x w v done u l acts =
    let q = ask.Receiving 1 in
    let t = listener (again x) l.right (phase.AsksReceiving (state.Idle 0)) blank in
    let asked = asks_so w.listening v.listening w.link v.link acts.did q l.wants_is acts.acts in
    let rep = receiving_reply 1 w.listening.session w.listening.spool v.listening.spool asked.answer asked.replied in
    let told = told_at w.listening v.listening (event.Reply asked.answer) w.listening.came t l.session_is asked.told in
    let half = rep.2 ∙ ap (λ ls. option_map (λ (k : Lane). (k.high, k.last)) (lane_at 1 ls)) l.holds.lanes in
    let does = subst (λ y. Follows t (event.Reply y) v.listening.wants v.listening.session)
    (rep.1 ∙ ap reply.Receiving half) told in
    let f : RecvEnd = record { high = l.high; last = l.latest; stage = r.Free; from = 0; acked = 0 } in
    let link = untaken w.link v.link q refl asked.taken in
    let few : 16 * x.count + 16 + 0 ≤ l.right = l.room in
    let room : 16 * x.count + 16 ≤ l.right + 16 * done + 0 = omega (arith, few) in
    Accepts f refl (record {
      right = l.right;
      listens = record {
        wants_is = does.0;
        session_is = does.1;
        came_is = asked.told.came_is ∙ l.came_is;
      };
      got = l.got;
      pieces = l.pieces;
      holds = subst (λ z. SecondHolds (again x) z l.got l.high l.latest l.pieces) (sym rep.3) l.holds;
      stands = l.stands;
      room = room;
      up_is = up_same w v [] (acts.other ∙ ap (came_to w.calling) asked.put) l.up_is;
      whole_link = ap (λ (k : Link). k.is_broken) link ∙ l.whole_link;
      marks = subst (λ (k : Link). BearsIn (again x) done u k.breaks) (sym link) l.marks;
    })

-- ---- Accept

accept_told : (x : Setting) (w v : World) (done : ℕ) (u : UnderWay) (f : RecvEnd) → f.stage ≡ r.Free
    → OnLane x w done u (action.Put (accept_again x)) phase.PutsAccept f [] → ListenerActs w v → AtReopen x v done u
accept_told x w v done u f free h acts =
    let y = again x in
    let told = listener_puts y w v h.right phase.PutsAccept f (accept_again x) h.listens h.whole_link acts in
    let says = listener_goes y h.right phase.PutsAccept f v.listening.wants v.listening.session
    (subst (λ z. RecvFitsAt 1 z f) (sym free) tt) (in_high y done u h.got f.high f.last h.pieces h.stands)
    told.follows in
    let heard : Heard w v (accept_again x ∷ []) (next_of_receiver f.stage (listener y h.right phase.Puts f)) = record {
      says = says;
      spool = told.spool;
      came_is = told.came_is;
      link = told.link;
      other = told.other;
    } in
    let said = heard_as w v (accept_again x ∷ []) _ (action.Read, listener y h.right phase.Reads f)
    (ap (λ z. next_of_receiver z (listener y h.right phase.Puts f)) free) heard in
    Accepted f free
    (second_heard y w v done 0 0 (StandsIn y done u) (StandsIn y done u) (BearsIn y done u) (BearsIn y done u)
    (action.Put (accept_again x)) action.Read phase.PutsAccept phase.Reads f f [] [] (accept_again x ∷ [])
    (accept_again x ∷ []) h.right h refl refl said (omega arith) refl (λ got ps z. z) (λ b z. z))

reopen_goes : (x : Setting) (w v : World) (done : ℕ) (u : UnderWay) → IsSized (again x) → IsIn (again x) done u
    → AtReopen x w done u → ListenerActs w v → AtReopen x v done u
reopen_goes x w v done u sized is (Open_came l) acts = open_comes x w v done u l acts
reopen_goes x w v done u sized is (Asks_peer l) acts = peer_told x w v done u l acts
reopen_goes x w v done u sized is (Asks_lane l) acts = lane_told x w v done u l acts
reopen_goes x w v done u sized is (Asks_bind l) acts = bind_told x w v done u sized is l acts
reopen_goes x w v done u sized is (Asks_values l) acts = values_told x w v done u l acts
reopen_goes x w v done u sized is (Asks_sending l) acts = sending_told x w v done u l acts
reopen_goes x w v done u sized is (Asks_received l) acts = received_told x w v done u l acts
reopen_goes x w v done u sized is (Accepts f free h) acts = accept_told x w v done u f free h acts
reopen_goes x w v done u sized is (Accepted f free h) acts = absurd (waits_still w.listening v.listening w.link v.link
    acts.did h.listens.wants_is h.whole_link h.listens.came_is acts.acts)

pub reopen_rests : (x : Setting) (w : World) (done : ℕ) (u : UnderWay) → AtReopen x w done u → ListenerRests w
    → (f : RecvEnd) × (f.stage ≡ r.Free)
    × OnLane x w done u action.Read phase.Reads f (accept_again x ∷ [])
reopen_rests x w done u (Open_came l) rest = absurd (busy_reads w _ [] l.wants_is l.whole_link l.came_is rest)
reopen_rests x w done u (Asks_peer l) rest = absurd (busy_asks w _ l.wants_is rest)
reopen_rests x w done u (Asks_lane l) rest = absurd (busy_asks w _ l.wants_is rest)
reopen_rests x w done u (Asks_bind l) rest = absurd (busy_asks w _ l.wants_is rest)
reopen_rests x w done u (Asks_values l) rest = absurd (busy_asks w _ l.wants_is rest)
reopen_rests x w done u (Asks_sending l) rest = absurd (busy_asks w _ l.wants_is rest)
reopen_rests x w done u (Asks_received l) rest = absurd (busy_asks w _ l.wants_is rest)
reopen_rests x w done u (Accepts f free h) rest = absurd (busy_puts w _ h.listens.wants_is rest)
reopen_rests x w done u (Accepted f free h) rest = (f, free, h)

-- ---- the first agent

-- it goes on with what is under way
reopened : (x : Setting) (w v : World) (done : ℕ) (u : UnderWay) (left : ℕ) (f : RecvEnd) → IsIn (again x) done u
    → 16 * x.count + 17 ≤ left
    → ◌≡◌ {A = Action × State} (v.calling.wants, v.calling.session) (next_of_sender (stage_in u)
    (caller (again x) left phase.Puts (half_at (state_of done u) (octets_in x done u) (stage_in u))))
    → FirstHolds (again x) v.calling.spool done (state_of done u) (transfer_in u) → f.stage ≡ r.Free
    → OnLane x w done u action.Read phase.Reads f (accept_again x ∷ []) → v.listening ≡ came_to w.listening []
    → v.calling.came ≡ [] → v.link ≡ w.link → Stage (again x) v
reopened x w v done Nothing left f is few says holds free h other came link =
    let y = again x in
    let room : 16 * x.count + 16 ≤ left + 16 * done + 0 = omega (arith, few) in
    stage.Looks done left f (record {
      within = is;
      room = room;
      free = free;
      second = second_stays y w v done done 0 0 (StandsNone done) (StandsNone done) (IsUntouched y done)
          (IsUntouched y done) f (accept_again x ∷ []) [] h other came link (omega arith) (λ got ps z. z) h.marks;
    }) (record { says = says; first = holds })
reopened x w v done (Message c whole transfer) left f is few says holds free h other came link =
    let y = again x in
    let o = octets_behind y done in
    let room : 16 * x.count + 16 ≤ left + 16 * done + c = omega (arith, few) in
    let more : 16 * x.count + 17 ≤ left + 16 * done + c = omega (arith, few) in
    let first : First y v done c whole sending.Opened = record {
      below = is.0;
      left = left;
      transfer = transfer;
      is = is.1;
      speaks = record { says = says; first = holds };
      room = room;
    } in
    stage.Reopened done c whole f is.3 is.2 first more free
    (second_stays y w v done done 0 0 (Stands whole done o c) (Stands whole done o c) (WasBroken y done)
    (Marks y done c whole) f (accept_again x ∷ []) [] h other came link (omega arith) (λ got ps z. z) (Once h.marks))
    (subst (λ (k : Link). WasBroken y done k.breaks) (sym link) h.marks)

accept_reads : (x : Setting) (w v : World) (done : ℕ) (u : UnderWay)
    → Reopens x w done u 1 action.Read phase.ReadsAnswer → AtReopen x w done u → ListenerRests w → CallerActs w v
    → Stage (again x) v
accept_reads x w v done u h at rest acts =
    let y = again x in
    let has = reopen_rests x w done u at rest in
    let e = half_at (state_of done u) (octets_in x done u) (stage_in u) in
    let room : 16 * x.count + 17 + 1 ≤ h.left = h.room in
    let t = reopener x h.left phase.ReadsAnswer (waiting x done u) in
    let told = caller_reads w v t (accept_again x) [] h.wants_is h.session_is has.2.up_is has.2.whole_link acts in
    let goes : GoesOn (caller y (h.left - 1) phase.ReadsAnswer e) v.calling.wants v.calling.session
    = subst (λ z. Does (counted t (event.Unit (accept_again x))) z v.calling.wants v.calling.session)
    (pick_not (h.left - 1 == 0) (Aborts 3) _ (not_last h.left (omega (arith, room)))
    ∙ pick_so (is_same_reference x.reference x.reference) _ (Aborts 4) (same_reference x.reference)) told.follows in
    reopened x w v done u (h.left - 1) has.0 h.is (omega (arith, room))
    (caller_goes y (h.left - 1) phase.ReadsAnswer e v.calling.wants v.calling.session (in_stays done u) goes)
    (subst (λ z. FirstHolds y z done (state_of done u) (transfer_in u)) (sym told.spool) h.holds) has.1 has.2 told.other
    told.came_is told.link

-- ---- both

pub recoveries_listen : RecoveriesListen
recoveries_listen x w v sized (Opens done u h l) acts = absurd (waits_still w.listening v.listening w.link v.link
    acts.did l.wants_is l.whole_link l.came_is acts.acts)
recoveries_listen x w v sized (Has_opened done u h at) acts = Has_opened done u (record {
  is = h.is;
  left = h.left;
  room = h.room;
  wants_is = ap (λ (p : Party). p.wants) acts.other ∙ h.wants_is;
  session_is = ap (λ (p : Party). p.session) acts.other ∙ h.session_is;
  holds = subst (λ (p : Party). FirstHolds (again x) p.spool done (state_of done u) (transfer_in u)) (sym acts.other)
      h.holds;
}) (reopen_goes x w v done u sized h.is at acts)
recoveries_listen x w v sized (Begins h) acts = Begins (listener_goes_on (again x) w v sized h acts)

pub recoveries_call : RecoveriesCall
recoveries_call x w v sized (Opens done u h l) rest acts = reopens_goes x w v done u h l acts
recoveries_call x w v sized (Has_opened done u h at) rest acts = Begins (accept_reads x w v done u h at rest acts)
recoveries_call x w v sized (Begins h) rest acts = Begins (caller_goes_on (again x) w v sized h rest acts)
