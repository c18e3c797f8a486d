-- What the first agent asks its spool, and where that leads.
use Rattle.std.proofs.Common.{◌≡◌, ◌⊎◌, inl, inr, ◌<◌, ◌≤◌, ℕ, ◌+◌, ◌*◌, Bool, true, false, List, [], ◌∷◌}
use Rattle.std.proofs.Common.{◌++◌, Option, Some, None, Result, Ok, refl, sym, ◌∙◌, ap, subst, arith}
use Rattle.std.specs.Option.{option_map}
use Rattle.mta_units.specs.declared.unit.Unit.{Unit as AnyUnit}
use Rattle.mta_units.specs.declared.unit.Unit.TheVariants as unit
use Rattle.mta_lane_send.specs.declared.state.SendState.{SendState}
use Rattle.mta_lane_send.specs.declared.state.SendState.TheVariants as state
use Rattle.mta_lane_send.specs.Half.{confirmed_at}
use Rattle.mta_lane_recv.specs.declared.state.Last.{Last}
use Rattle.mta_transfer_rules.specs.Sending as s
use Rattle.mta_transfer_rules.specs.Sending.{SendStage}
use Rattle.mta_transfer_rules.specs.Receiving.{RecvEnd}
use Rattle.mta_records.specs.Outgoing.{Carried}
use Rattle.mta_records.specs.declared.fault.StepFault.{StepFault}
use Rattle.mta_records.specs.declared.lane.Batch.{Batch}
use Rattle.mta_records.specs.declared.step.Step.TheVariants as step
use Rattle.mta_histories.specs.Due.{IsBatch, IsNoBatch}
use Rattle.mta_histories.specs.Lanes.{Lane, lane_at}
use Rattle.mta_histories.specs.Lanes.{State as SpoolState}
use Rattle.mta_session.specs.declared.ask.Ask.{Ask}
use Rattle.mta_session.specs.declared.ask.Ask.TheVariants as ask
use Rattle.mta_session.specs.declared.ask.Reply.{Reply}
use Rattle.mta_session.specs.declared.ask.Reply.TheVariants as reply
use Rattle.mta_session.specs.declared.event.Action.{Action}
use Rattle.mta_session.specs.declared.event.Action.TheVariants as action
use Rattle.mta_session.specs.declared.event.Event.TheVariants as event
use Rattle.mta_session.specs.declared.event.SessionEnd.TheVariants as end
use Rattle.mta_session.specs.declared.phase.Phase.{Phase}
use Rattle.mta_session.specs.declared.phase.Phase.TheVariants as phase
use Rattle.mta_session.specs.declared.phase.OwnStep.TheVariants as own
use Rattle.mta_session.specs.Follows.{Does, Follows, FollowsAt, GoesOn}
use Rattle.mta_session.specs.State.{State}
use Rattle.mta_session.specs.Wanted.{Ends, wanted_of_over}
use Rattle.mta_drill_laws.specs.Tables.{east}
use Rattle.mta_drill_step_laws.proofs.First.{next_is_relayed, none_is_left}
use Rattle.mta_drill_step_laws.proofs.States.{idle_is_free}
use Rattle.mta_drill_stage_laws.specs.Breaks.{Breaks}
use Rattle.mta_drill_stage_laws.specs.Settings.{Calls, FirstHolds, HasMore, IsSized, IsUntouched, Listens, Marks}
use Rattle.mta_drill_stage_laws.specs.Settings.{SecondHolds, Setting, Speaks, StandsNone}
use Rattle.mta_drill_stage_laws.specs.Settings.{caller, first_lane, half_at, octets_behind}
use Rattle.mta_drill_stage_laws.specs.Settings.{under_way}
use Rattle.mta_drill_stage_laws.specs.Stages.{First, FirstCalls, IsCutOff, IsQuiet, Is_over, Second}
use Rattle.mta_drill_stage_laws.specs.Stages.{Stage, While_putting, While_reading}
use Rattle.mta_drill_stage_laws.specs.Stages as stage
use Rattle.mta_drill_stage_laws.specs.World.{Acts, ActsAs, Asked, CallerActs, HasAsked, IsLane, IsNextBatch, IsTalk}
use Rattle.mta_drill_stage_laws.specs.World.{Link}
use Rattle.mta_drill_stage_laws.specs.World.{Made, Party, Replied, Started, World, came_to}
use Rattle.mta_drill_stage_laws.proofs.Acts.{asks_so, puts_nothing, reads_nothing, told_at, untaken}
use Rattle.mta_drill_stage_laws.proofs.Breaking.{Taken, confirm_taken}
use Rattle.mta_drill_stage_laws.proofs.Speaking.{action_is, caller_goes, not_dropped, state_is}
use Rattle.mta_drill_stage_laws.proofs.Spools.{confirmed_then, first_confirms, first_ends, first_sends}
use Rattle.mta_drill_stage_laws.proofs.Spools.{first_starts}

-- ---- the second agent reads still

-- where the first agent put nothing
pub second_stays : (x : Setting) (w v : World) (done to read more : ℕ)
    (Has New : ℕ → ℕ → Last → List (List ℕ) → Type 0) (Bears Bear : Breaks → Type 0) (f : RecvEnd)
    (up new_up : List AnyUnit)
    → (h : Second x w done Has Bears read action.Read phase.Reads f [] up)
    → v.listening ≡ came_to w.listening [] → v.calling.came ≡ new_up → v.link ≡ w.link
    → 16 * done + read ≤ 16 * to + more
    → ((got : ℕ) (ps : List (List ℕ)) → Has got f.high f.last ps → New got f.high f.last ps)
    → Bear w.link.breaks → Second x v to New Bear more action.Read phase.Reads f [] new_up
second_stays x w v done to read more Has New Bears Bear f up new_up h other came link few stands bears = record {
  right = h.right;
  listens = subst (λ q. Listens x q action.Read phase.Reads h.right f []) (sym other) (record {
    wants_is = h.listens.wants_is;
    session_is = h.listens.session_is;
    came_is = ap (λ us. us ++ []) h.listens.came_is;
  });
  got = h.got;
  pieces = h.pieces;
  holds = subst (λ (q : Party). SecondHolds x q.spool h.got f.high f.last h.pieces) (sym other) h.holds;
  stands = stands h.got h.pieces h.stands;
  room = omega (arith, h.room, few);
  up_is = came;
  whole_link = ap (λ (l : Link). l.is_broken) link ∙ h.whole_link;
  marks = subst (λ (l : Link). Bear l.breaks) (sym link) bears;
}

-- ---- a step of the own half is made

ending_reply : (n g k : ℕ) (t : State) (s new : SpoolState) (y : Reply) → Replied (ask.Ending n g k) t s y new
    → (z : Result (Unit {0}) StepFault) × (y ≡ reply.Ending z) × Made s (step.Ending n g k) z new
ending_reply n g k t s new (reply.Ending z) h = (z, refl, h)
ending_reply n g k t s new any0 h = elim h [ ]

confirm_reply : (n g k m : ℕ) (t : State) (s new : SpoolState) (y : Reply) → Replied (ask.Confirm n g k m) t s y new
    → (z : Result (Unit {0}) StepFault) × (y ≡ reply.Confirm z) × Made s (step.Confirm n g k m) z new
confirm_reply n g k m t s new (reply.Confirm z) h = (z, refl, h)
confirm_reply n g k m t s new any0 h = elim h [ ]

sent_reply : (n g k : ℕ) (t : State) (s new : SpoolState) (y : Reply) → Replied (ask.Sent n g k) t s y new
    → (z : Result (Unit {0}) StepFault) × (y ≡ reply.Sent z) × Made s (step.Sent n g k s.moment) z new
sent_reply n g k t s new (reply.Sent z) h = (z, refl, h)
sent_reply n g k t s new any0 h = elim h [ ]

-- what came to either side where a question was asked
pub record Stays (w v : World) (did : List AnyUnit) : Type 0 where
  pub came_is : v.calling.came ≡ w.calling.came
  pub other : v.listening ≡ came_to w.listening []

stays_so : (w v : World) (q : Ask) → (acts : CallerActs w v) → HasAsked w.calling q w.link acts.did v.calling v.link
    → Stays w v []
stays_so w v q acts asked = record {
  came_is = asked.told.came_is;
  other = acts.other ∙ ap (came_to w.listening) asked.put;
}

pub record HasEnding (x : Setting) (w v : World) (done c n : ℕ) : Type 0 where
  pub first : First x v done c true (s.Last_put (done + 1) n)
  pub stays : Stays w v []
  pub link : v.link ≡ w.link

pub ends_so : (x : Setting) (w v : World) (done c n : ℕ) → IsSized x
    → First x w done c false (s.Last_put (done + 1) n) → CallerActs w v → HasEnding x w v done c n
ends_so x w v done c n sized h acts =
    let o = octets_behind x done in
    let z = s.Last_put (done + 1) n in
    let q = ask.Ending 1 x.generation (done + 1) in
    let t = caller x h.left (phase.AsksStep own.Ending) (half_at (state.Sending (done + 1) c) o z) in
    let now : Action × State = (action.Ask q, t) in
    let wants = action_is (w.calling.wants, w.calling.session) now h.speaks.says in
    let session = state_is (w.calling.wants, w.calling.session) now h.speaks.says in
    let asked = asks_so w.calling v.calling w.link v.link acts.did q wants acts.acts in
    let rep = ending_reply 1 x.generation (done + 1) w.calling.session w.calling.spool v.calling.spool asked.answer
    asked.replied in
    let made = first_ends x w.calling.spool v.calling.spool done c h.transfer rep.0 sized h.speaks.first rep.2 in
    let told = told_at w.calling v.calling (event.Reply asked.answer) w.calling.came t session asked.told in
    let goes : GoesOn (caller x h.left (phase.AsksStep own.Ending) (half_at (state.Ending (done + 1) c) o z))
    v.calling.wants v.calling.session
    = subst (λ y. Follows t (event.Reply y) v.calling.wants v.calling.session) (rep.1 ∙ ap reply.Ending made.0) told in
    record {
      first = record {
        below = h.below;
        left = h.left;
        transfer = h.transfer;
        is = h.is;
        speaks = record {
          says = caller_goes x h.left (phase.AsksStep own.Ending) (half_at (state.Ending (done + 1) c) o z)
              v.calling.wants v.calling.session refl goes;
          first = made.1;
        };
        room = h.room;
      };
      stays = stays_so w v q acts asked;
      link = untaken w.link v.link q refl asked.taken;
    }

-- ---- Confirm

pub record Confirmed (x : Setting) (w v : World) (done c : ℕ) (b whole : Bool) (z : SendStage) : Type 0 where
  pub first : First x v done (c + 1) b z
  pub stays : Stays w v []
  pub taken : Taken x done (c + 1) whole w.link v.link

pub confirmed_goes : (x : Setting) (w v : World) (done c : ℕ) (b whole : Bool) (z : SendStage) → IsSized x
    → HasMore (octets_behind x done) (c + 1)
    → FirstCalls x w done c b z (c + 1) (action.Ask (ask.Confirm 1 x.generation (done + 1) (c + 1)))
    (phase.AsksStep (own.Confirm (c + 1)))
    → Marks x done c whole w.link.breaks → CallerActs w v → Confirmed x w v done c b whole z
confirmed_goes x w v done c b whole z sized more h marks acts =
    let o = octets_behind x done in
    let q = ask.Confirm 1 x.generation (done + 1) (c + 1) in
    let at = phase.AsksStep (own.Confirm (c + 1)) in
    let t = caller x h.left at (half_at (under_way b (done + 1) c) o z) in
    let asked = asks_so w.calling v.calling w.link v.link acts.did q h.calls.wants_is acts.acts in
    let rep = confirm_reply 1 x.generation (done + 1) (c + 1) w.calling.session w.calling.spool v.calling.spool
    asked.answer asked.replied in
    let made = first_confirms x w.calling.spool v.calling.spool done c (c + 1) b h.transfer rep.0 sized h.is
    h.calls.first (omega arith) more rep.2 in
    let told = told_at w.calling v.calling (event.Reply asked.answer) w.calling.came t h.calls.session_is asked.told in
    let goes_at : GoesOn (caller x h.left at (half_at (confirmed_at (under_way b (done + 1) c) (c + 1)) o z))
    v.calling.wants v.calling.session
    = subst (λ y. Follows t (event.Reply y) v.calling.wants v.calling.session) (rep.1 ∙ ap reply.Confirm made.0) told in
    let goes : GoesOn (caller x h.left at (half_at (under_way b (done + 1) (c + 1)) o z)) v.calling.wants
    v.calling.session
    = subst (λ (st : SendState). GoesOn (caller x h.left at (half_at st o z)) v.calling.wants v.calling.session)
    (confirmed_then b (done + 1) c (c + 1)) goes_at in
    record {
      first = record {
        below = h.below;
        left = h.left;
        transfer = h.transfer;
        is = h.is;
        speaks = record {
          says = caller_goes x h.left at (half_at (under_way b (done + 1) (c + 1)) o z) v.calling.wants
              v.calling.session (not_dropped b (done + 1) (c + 1)) goes;
          first = made.1;
        };
        room = h.room;
      };
      stays = stays_so w v q acts asked;
      taken = confirm_taken x done c 1 x.generation whole w.link v.link sized h.below marks asked.taken;
    }

-- ---- Sent

pub record IsSent (x : Setting) (w v : World) (done left : ℕ) : Type 0 where
  pub speaks : Speaks x v.calling (done + 1) left (state.Idle (done + 1)) [] s.Quiet None
  pub stays : Stays w v []
  pub link : v.link ≡ w.link

pub sent_goes : (x : Setting) (w v : World) (done c n read : ℕ) → IsSized x
    → (h : FirstCalls x w done c true (s.End_put (done + 1) n) read (action.Ask (ask.Sent 1 x.generation (done + 1)))
    (phase.AsksStep own.Sent))
    → CallerActs w v → IsSent x w v done h.left
sent_goes x w v done c n read sized h acts =
    let o = octets_behind x done in
    let q = ask.Sent 1 x.generation (done + 1) in
    let at = phase.AsksStep own.Sent in
    let t = caller x h.left at (half_at (state.Ending (done + 1) c) o (s.End_put (done + 1) n)) in
    let asked = asks_so w.calling v.calling w.link v.link acts.did q h.calls.wants_is acts.acts in
    let rep = sent_reply 1 x.generation (done + 1) w.calling.session w.calling.spool v.calling.spool asked.answer
    asked.replied in
    let made = first_sends x w.calling.spool v.calling.spool done c h.transfer rep.0 sized h.is h.below h.calls.first
    rep.2 in
    let told = told_at w.calling v.calling (event.Reply asked.answer) w.calling.came t h.calls.session_is asked.told in
    let goes : GoesOn (caller x h.left at (half_at (state.Idle (done + 1)) [] s.Quiet)) v.calling.wants
    v.calling.session
    = subst (λ y. Follows t (event.Reply y) v.calling.wants v.calling.session) (rep.1 ∙ ap reply.Sent made.0) told in
    record {
      speaks = record {
        says = caller_goes x h.left at (half_at (state.Idle (done + 1)) [] s.Quiet) v.calling.wants v.calling.session
            refl goes;
        first = made.1;
      };
      stays = stays_so w v q acts asked;
      link = untaken w.link v.link q refl asked.taken;
    }

-- ---- the next message

batch_reply : (peer : List ℕ) (t : State) (s new : SpoolState) (y : Reply) → Replied (ask.BatchFor peer) t s y new
    → (b : Option Batch) × (y ≡ reply.BatchFor (Ok b)) × IsNextBatch s peer b × (new ≡ s)
batch_reply peer t s new (reply.BatchFor z) h = (h.0, ap reply.BatchFor h.1, h.2, h.3)
batch_reply peer t s new any0 h = elim h [ ]

-- a batch is the next message, or all are sent
pub looks_goes : (x : Setting) (w v : World) (done left : ℕ) (f : RecvEnd) → IsQuiet x w done left f
    → Speaks x w.calling done left (state.Idle done) [] s.Quiet None → CallerActs w v → Stage x v
looks_goes x w v done left f quiet h acts =
    let q = ask.BatchFor east in
    let e = half_at (state.Idle done) [] s.Quiet in
    let t = caller x left phase.AsksBatch e in
    let now : Action × State = (action.Ask q, t) in
    let wants = action_is (w.calling.wants, w.calling.session) now h.says in
    let session = state_is (w.calling.wants, w.calling.session) now h.says in
    let asked = asks_so w.calling v.calling w.link v.link acts.did q wants acts.acts in
    let rep = batch_reply east w.calling.session w.calling.spool v.calling.spool asked.answer asked.replied in
    let told = told_at w.calling v.calling (event.Reply asked.answer) w.calling.came t session asked.told in
    let stays = stays_so w v q acts asked in
    let link = untaken w.link v.link q refl asked.taken in
    let second = second_stays x w v done done 0 0 (StandsNone done) (StandsNone done) (IsUntouched x done)
    (IsUntouched x done) f [] [] quiet.second stays.other (stays.came_is ∙ quiet.second.up_is) link (omega arith)
    (λ got ps s. s) quiet.second.marks in
    let first : FirstHolds x v.calling.spool done (state.Idle done) None =
    subst (λ z. FirstHolds x z done (state.Idle done) None) (sym rep.3) h.first in
    by rep.0 rep.2 (subst (λ y. Follows t (event.Reply y) v.calling.wants v.calling.session) rep.1 told) second first
    rep.3
  where
    by : (b : Option Batch) → IsNextBatch w.calling.spool east b
        → Follows (caller x left phase.AsksBatch (half_at (state.Idle done) [] s.Quiet))
        (event.Reply (reply.BatchFor (Ok b))) v.calling.wants v.calling.session
        → Second x v done (StandsNone done) (IsUntouched x done) 0 action.Read phase.Reads f [] []
        → FirstHolds x v.calling.spool done (state.Idle done) None → v.calling.spool ≡ w.calling.spool → Stage x v
    by (Some batch) is follows second first same =
        let relayed = next_is_relayed x.before x.count done w.calling.spool batch.item batch.recipients
        h.first.accepted (idle_is_free w.calling.spool (first_lane x (state.Idle done) None) h.first.lanes refl)
        (subst (λ (m : ℕ). IsBatch w.calling.spool east m batch.item batch.recipients) h.first.moment is) in
        stage.Starts done left f batch (record {
          within = quiet.within;
          room = quiet.room;
          free = quiet.free;
          second = second;
        }) relayed.0
        (subst (λ (z : SpoolState). IsBatch z east z.moment batch.item batch.recipients) (sym same) is) relayed.1
        relayed.2 (record { wants_is = follows.0; session_is = follows.1; first = first })
    by None is follows second first same =
        let all : done ≡ x.count = none_is_left x.before x.count done w.calling.spool h.first.accepted
        (idle_is_free w.calling.spool (first_lane x (state.Idle done) None) h.first.lanes refl)
        (subst (λ (m : ℕ). IsNoBatch w.calling.spool east m) h.first.moment is) in
        let quiet_then : IsQuiet x v done left f = record {
          within = quiet.within;
          room = quiet.room;
          free = quiet.free;
          second = second;
        } in
        let calls : Calls x v.calling done left (state.Idle done) [] s.Quiet None (action.Put unit.Close)
        phase.PutsClose = record { wants_is = follows.0; session_is = follows.1; first = first } in
        stage.Closes left f (subst (λ (d : ℕ). IsQuiet x v d left f) all quiet_then)
        (subst (λ (d : ℕ). Calls x v.calling d left (state.Idle d) [] s.Quiet None (action.Put unit.Close)
        phase.PutsClose) all calls)

pub start_reply : (n g : ℕ) (batch : Batch) (s new : SpoolState) (y : Reply) → Asked (ask.Start n g batch) s y new
    → (z : Result Carried StepFault) × (y ≡ reply.Start z)
    × ((lane : Lane) → IsLane s n lane → Started s n g batch z new lane)
start_reply n g batch s new (reply.Start z) h = (z, refl, h)
start_reply n g batch s new any0 h = elim h [ ]

pub starts_goes : (x : Setting) (w v : World) (done left : ℕ) (f : RecvEnd) (batch : Batch) → IsSized x
    → IsQuiet x w done left f → done < x.count
    → IsBatch w.calling.spool east w.calling.spool.moment batch.item batch.recipients → batch.item ≡ done + 1
    → batch.recipients ≡ 1 ∷ []
    → Calls x w.calling done left (state.Idle done) [] s.Quiet None (action.Ask (ask.Start 1 x.generation batch))
    phase.AsksStart
    → CallerActs w v → Stage x v
starts_goes x w v done left f batch sized quiet below is ei er h acts =
    let q = ask.Start 1 x.generation batch in
    let t = caller x left phase.AsksStart (half_at (state.Idle done) [] s.Quiet) in
    let lane = first_lane x (state.Idle done) None in
    let asked = asks_so w.calling v.calling w.link v.link acts.did q h.wants_is acts.acts in
    let here : option_map (λ (l : Lane). l.sending) (lane_at 1 w.calling.spool.lanes.open_lanes)
    ≡ Some w.calling.session.send.state
    = ap (λ ls. option_map (λ (l : Lane). l.sending) (lane_at 1 ls)) h.first.lanes
    ∙ sym (ap (λ (z : State). Some z.send.state) h.session_is) in
    let rep = start_reply 1 x.generation batch w.calling.spool v.calling.spool asked.answer (asked.replied here) in
    let started = first_starts x w.calling.spool v.calling.spool done batch rep.0 sized below h.first is ei er
    (rep.2 lane (ap (lane_at 1) h.first.lanes)) in
    let told = told_at w.calling v.calling (event.Reply asked.answer) w.calling.came t h.session_is asked.told in
    let o = octets_behind x done in
    let goes_at : GoesOn (caller x left phase.AsksStart
    (half_at (state.Sending (done + 1) 0) started.outgoing.octets (s.Started (done + 1)))) v.calling.wants
    v.calling.session
    = subst (λ y. Follows t (event.Reply y) v.calling.wants v.calling.session) (rep.1 ∙ ap reply.Start started.answer)
    told in
    let goes = subst (λ (os : List ℕ). GoesOn (caller x left phase.AsksStart
    (half_at (state.Sending (done + 1) 0) os (s.Started (done + 1)))) v.calling.wants v.calling.session) started.octets
    goes_at in
    let stays = stays_so w v q acts asked in
    let link = untaken w.link v.link q refl asked.taken in
    stage.Begun done f (record {
      below = below;
      left = left;
      transfer = started.transfer;
      is = started.is;
      speaks = record {
        says = caller_goes x left phase.AsksStart (half_at (state.Sending (done + 1) 0) o (s.Started (done + 1)))
            v.calling.wants v.calling.session refl goes;
        first = started.holds;
      };
      room = quiet.room;
    }) quiet.free (second_stays x w v done done 0 0 (StandsNone done) (StandsNone done) (IsUntouched x done)
    (IsUntouched x done) f [] [] quiet.second stays.other (stays.came_is ∙ quiet.second.up_is) link (omega arith)
    (λ got ps s. s) quiet.second.marks)

-- ---- over a broken link

over_ends : (z : Phase) (t : State) (a : Action) (new : State) → (z ≡ phase.Puts) ⊎ (z ≡ phase.Reads)
    → Does t (wanted_of_over z) a new → a ≡ action.Finish end.Broken
over_ends z t a new (inl e) h =
    let at : Does t (Ends end.Broken) a new = subst (λ y. Does t (wanted_of_over y) a new) e h in at.0
over_ends z t a new (inr e) h =
    let at : Does t (Ends end.Broken) a new = subst (λ y. Does t (wanted_of_over y) a new) e h in at.0

over_follows : (z : Phase) (t : State) (a : Action) (new : State) → (z ≡ phase.Puts) ⊎ (z ≡ phase.Reads)
    → FollowsAt z t event.Over a new → Does t (wanted_of_over t.phase) a new
over_follows z t a new (inl e) h = subst (λ y. FollowsAt y t event.Over a new) e h
over_follows z t a new (inr e) h = subst (λ y. FollowsAt y t event.Over a new) e h

-- it is told so, and is over
over_so : (p q : Party) (came : List AnyUnit) (did : List AnyUnit) (l m : Link)
    → (p.session.phase ≡ phase.Puts) ⊎ (p.session.phase ≡ phase.Reads) → IsTalk p event.Over came [] l did q m
    → (q.wants ≡ action.Finish end.Broken) × (q.spool ≡ p.spool) × (did ≡ []) × (m ≡ l)
over_so p q came did l m at h = (
  over_ends p.session.phase p.session q.wants q.session at
      (over_follows p.session.phase p.session q.wants q.session at h.told.follows),
  h.spool,
  h.put_is,
  h.link,
)

pub cut_goes : (p q : Party) (l m : Link) (did : List AnyUnit) → IsCutOff p → l.is_broken ≡ true → Acts p l did q m
    → (q.wants ≡ action.Finish end.Broken) × (q.spool ≡ p.spool) × (did ≡ []) × (m ≡ l)
cut_goes p q l m did (While_putting y e at) b h =
    over_so p q p.came did l m (inl at) (puts_nothing p q l m did y e b h)
cut_goes p q l m did (While_reading e at) b h = over_so p q p.came did l m (inr at) (reads_nothing p q l m did e b h)
cut_goes p q l m did (Is_over e) b h = absurd (subst (λ a. ActsAs a l.is_broken p.came p l did q m) e h)
