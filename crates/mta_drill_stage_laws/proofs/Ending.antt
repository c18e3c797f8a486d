-- A message that was under way when the lane was recovered, and the end of a session.
use Rattle.std.proofs.Common.{◌≡◌, ◌<◌, ◌≤◌, ℕ, zero, suc, ◌+◌, ◌-◌, ◌*◌, ◌==◌, ◌&&◌, ◌||◌, Bool, true, false}
use Rattle.std.proofs.Common.{nat_le, List, [], ◌∷◌, ◌++◌, Some, None, Result, refl, sym, ◌∙◌, ap, subst}
use Rattle.std.proofs.Common.{arith, if◌then◌else◌}
use Rattle.std.proofs.lemmas.Bool.{and_from, eq-eqb, le-leb, ne_eqb}
use Rattle.mta_units.specs.declared.unit.Unit.{Unit as AnyUnit}
use Rattle.mta_units.specs.declared.unit.Unit.TheVariants as unit
use Rattle.mta_lane_send.specs.declared.state.SendState.TheVariants as state
use Rattle.mta_lane_recv.specs.declared.state.Last.{Last}
use Rattle.mta_lane_recv.specs.declared.state.Last.TheVariants as last
use Rattle.mta_lane_recv.specs.Half.{is_done, is_partial_of, stands}
use Rattle.mta_transfer_rules.specs.Units as u
use Rattle.mta_transfer_rules.specs.Sending as s
use Rattle.mta_transfer_rules.specs.Receiving as r
use Rattle.mta_transfer_rules.specs.Receiving.{RecvEnd, may_resume}
use Rattle.mta_records.specs.declared.fault.StepFault.{StepFault}
use Rattle.mta_records.specs.declared.step.Step.TheVariants as step
use Rattle.mta_histories.specs.Lanes.{Transfer}
use Rattle.mta_histories.specs.Lanes.{State as SpoolState}
use Rattle.mta_session.specs.declared.ask.Ask.{Ask}
use Rattle.mta_session.specs.declared.ask.Ask.TheVariants as ask
use Rattle.mta_session.specs.declared.ask.Reply.{Reply}
use Rattle.mta_session.specs.declared.ask.Reply.TheVariants as reply
use Rattle.mta_session.specs.declared.event.Action.{Action}
use Rattle.mta_session.specs.declared.event.Action.TheVariants as action
use Rattle.mta_session.specs.declared.event.Event.{Event}
use Rattle.mta_session.specs.declared.event.Event.TheVariants as event
use Rattle.mta_session.specs.declared.event.SessionEnd.{SessionEnd}
use Rattle.mta_session.specs.declared.event.SessionEnd.TheVariants as end
use Rattle.mta_session.specs.declared.phase.Phase.{Phase}
use Rattle.mta_session.specs.declared.phase.Phase.TheVariants as phase
use Rattle.mta_session.specs.Follows.{Does, Follows, GoesOn, counted}
use Rattle.mta_session.specs.Receiving.{taken}
use Rattle.mta_session.specs.State.{State}
use Rattle.mta_session.specs.Wanted.{Asks, wanted}
use Rattle.mta_session_next_laws.specs.Next.{next_of_sender}
use Rattle.mta_session_next_laws.proofs.Answers.{resume_acks}
use Rattle.mta_session_next_laws.proofs.Calls.{not_last}
use Rattle.mta_drill_step_laws.specs.Second.{HasGot}
use Rattle.mta_drill_stage_laws.specs.Breaks.{Breaks}
use Rattle.mta_drill_stage_laws.specs.Settings.{Calls, FirstHolds, HasMore, IsBehind, IsSized, IsUntouched, Listens}
use Rattle.mta_drill_stage_laws.specs.Settings.{Marks}
use Rattle.mta_drill_stage_laws.specs.Settings.{Of_none, Of_part, SecondHolds, Setting, Stands}
use Rattle.mta_drill_stage_laws.specs.Settings.{StandsNone, StandsWhole, WasBroken, caller, half_at}
use Rattle.mta_drill_stage_laws.specs.Settings.{Transfers, listener, octets_behind, under_way}
use Rattle.mta_drill_stage_laws.specs.Stages.{Aborts, AtClose, AtDiscard, AtResume, Close_answers, Close_came}
use Rattle.mta_drill_stage_laws.specs.Stages.{Close_rests, Closes_lane, Discard_came, First}
use Rattle.mta_drill_stage_laws.specs.Stages.{Has_aborted, HasClosed, IsQuiet, Rests, Resume_came, Resumed, Resumes}
use Rattle.mta_drill_stage_laws.specs.Stages.{LeftFor, Second, SecondClosed, SecondOf, Stage}
use Rattle.mta_drill_stage_laws.specs.Stages as stage
use Rattle.mta_drill_stage_laws.specs.World.{CallerActs, Link, ListenerActs, ListenerRests, Made, Party, Replied}
use Rattle.mta_drill_stage_laws.specs.World.{ActsAs, RestsAs, World, came_to}
use Rattle.mta_drill_stage_laws.proofs.Acts.{asks_so, puts_over, reads_first, told_at, untaken, waits_still}
use Rattle.mta_drill_stage_laws.proofs.Asking.{second_stays}
use Rattle.mta_drill_stage_laws.proofs.Hearing.{answers_put, behind_fits, behind_reads, done_is}
use Rattle.mta_drill_stage_laws.proofs.Hearing.{heard_as, hears, high_is, second_heard, staged, up_same, up_so}
use Rattle.mta_drill_stage_laws.proofs.Pieces.{few-more, lasting-one}
use Rattle.mta_drill_stage_laws.proofs.Speaking.{action_is, caller_goes, first_spoke, not_dropped, pick_not, pick_so}
use Rattle.mta_drill_stage_laws.proofs.Speaking.{put_goes, second_gets, state_is}
use Rattle.mta_drill_stage_laws.proofs.Spools.{first_closes, first_sends, second_closes}

-- ---- what a side is told

-- the caller was told this, in this state
pub record CallerTold (w v : World) (t : State) (e : Event) (rest did : List AnyUnit) : Type 0 where
  pub follows : Follows t e v.calling.wants v.calling.session
  pub spool : v.calling.spool ≡ w.calling.spool
  pub came_is : v.calling.came ≡ rest
  pub link : v.link ≡ w.link
  pub other : v.listening ≡ came_to w.listening did

pub caller_reads : (w v : World) (t : State) (y : AnyUnit) (rest : List AnyUnit) → w.calling.wants ≡ action.Read
    → w.calling.session ≡ t → w.calling.came ≡ y ∷ rest → w.link.is_broken ≡ false → CallerActs w v
    → CallerTold w v t (event.Unit y) rest []
caller_reads w v t y rest wants session came b acts =
    let talk = reads_first w.calling v.calling w.link v.link acts.did rest y wants b came acts.acts in
    record {
      follows = told_at w.calling v.calling (event.Unit y) rest t session talk.told;
      spool = talk.spool;
      came_is = talk.told.came_is;
      link = talk.link;
      other = acts.other ∙ ap (came_to w.listening) talk.put_is;
    }

pub caller_puts : (w v : World) (t : State) (y : AnyUnit) → w.calling.wants ≡ action.Put y
    → w.calling.session ≡ t → w.link.is_broken ≡ false → CallerActs w v
    → CallerTold w v t event.Go w.calling.came (y ∷ [])
caller_puts w v t y wants session b acts =
    let talk = puts_over w.calling v.calling w.link v.link acts.did y wants b acts.acts in
    record {
      follows = told_at w.calling v.calling event.Go w.calling.came t session talk.told;
      spool = talk.spool;
      came_is = talk.told.came_is;
      link = talk.link;
      other = acts.other ∙ ap (came_to w.listening) talk.put_is;
    }

-- the listener was
pub record ListenerTold (w v : World) (t : State) (e : Event) (did : List AnyUnit) : Type 0 where
  pub follows : Follows t e v.listening.wants v.listening.session
  pub spool : v.listening.spool ≡ w.listening.spool
  pub came_is : v.listening.came ≡ []
  pub link : v.link ≡ w.link
  pub other : v.calling ≡ came_to w.calling did

pub listener_reads : (x : Setting) (w v : World) (right : ℕ) (f : RecvEnd) (y : AnyUnit)
    → Listens x w.listening action.Read phase.Reads right f (y ∷ []) → w.link.is_broken ≡ false → ListenerActs w v
    → ListenerTold w v (listener x right phase.Reads f) (event.Unit y) []
listener_reads x w v right f y l b acts =
    let talk = reads_first w.listening v.listening w.link v.link acts.did [] y l.wants_is b l.came_is acts.acts in
    record {
      follows = told_at w.listening v.listening (event.Unit y) []
          (listener x right phase.Reads f) l.session_is talk.told;
      spool = talk.spool;
      came_is = talk.told.came_is;
      link = talk.link;
      other = acts.other ∙ ap (came_to w.calling) talk.put_is;
    }

pub listener_puts : (x : Setting) (w v : World) (right : ℕ) (at : Phase) (f : RecvEnd) (y : AnyUnit)
    → Listens x w.listening (action.Put y) at right f [] → w.link.is_broken ≡ false → ListenerActs w v
    → ListenerTold w v (listener x right at f) event.Go (y ∷ [])
listener_puts x w v right at f y l b acts =
    let talk = puts_over w.listening v.listening w.link v.link acts.did y l.wants_is b acts.acts in
    record {
      follows = told_at w.listening v.listening event.Go w.listening.came
          (listener x right at f) l.session_is talk.told;
      spool = talk.spool;
      came_is = talk.told.came_is ∙ l.came_is;
      link = talk.link;
      other = acts.other ∙ ap (came_to w.calling) talk.put_is;
    }

-- it does not rest while it puts or asks, or where a unit came
pub busy_puts : (w : World) (y : AnyUnit) → w.listening.wants ≡ action.Put y → ListenerRests w → ⊥
busy_puts w y e h = subst (λ a. RestsAs a w.link.is_broken w.listening.came) e h

pub busy_asks : (w : World) (q : Ask) → w.listening.wants ≡ action.Ask q → ListenerRests w → ⊥
busy_asks w q e h = subst (λ a. RestsAs a w.link.is_broken w.listening.came) e h

pub busy_reads : (w : World) (y : AnyUnit) (us : List AnyUnit) → w.listening.wants ≡ action.Read
    → w.link.is_broken ≡ false → w.listening.came ≡ y ∷ us → ListenerRests w → ⊥
busy_reads w y us e b c h =
    subst (λ z. RestsAs action.Read false z) c
    (subst (λ z. RestsAs action.Read z w.listening.came) b
    (subst (λ a. RestsAs a w.link.is_broken w.listening.came) e h))

pub none_behind : (done got high : ℕ) (l : Last) (ps : List (List ℕ)) → StandsWhole done got high l ps
    → StandsNone (done + 1) got high l ps
none_behind done got high l ps h = record {
  got_is = h.got_is;
  high_is = h.high_is;
  last_is = h.last_is ∙ sym (lasting-one done);
  pieces_is = h.pieces_is;
}

-- ---- the lane is closed

close_reply : (n g : ℕ) (t : State) (s new : SpoolState) (y : Reply) → Replied (ask.CloseLane n g) t s y new
    → (z : Result (Unit {0}) StepFault) × (y ≡ reply.CloseLane z) × Made s (step.CloseLane n g) z new
close_reply n g t s new (reply.CloseLane z) h = (z, refl, h)
close_reply n g t s new any0 h = elim h [ ]

-- Close is put
pub close_puts : (x : Setting) (w v : World) (left : ℕ) (f : RecvEnd) → IsQuiet x w x.count left f
    → Calls x w.calling x.count left (state.Idle x.count) [] s.Quiet None (action.Put unit.Close) phase.PutsClose
    → CallerActs w v → Stage x v
close_puts x w v left f quiet h acts =
    let e = half_at (state.Idle x.count) [] s.Quiet in
    let told = caller_puts w v (caller x left phase.PutsClose e) unit.Close h.wants_is h.session_is
    quiet.second.whole_link acts in
    let q = quiet.second in
    let room : LeftFor x x.count 0 left = quiet.room in
    stage.Closing left (omega (arith, room)) (record {
      wants_is = told.follows.0;
      session_is = told.follows.1;
      first = subst (λ z. FirstHolds x z x.count (state.Idle x.count) None) (sym told.spool) h.first;
    }) (Close_came f quiet.free (record {
      right = q.right;
      listens = subst (λ p. Listens x p action.Read phase.Reads q.right f (unit.Close ∷ [])) (sym told.other) (record {
        wants_is = q.listens.wants_is;
        session_is = q.listens.session_is;
        came_is = ap (λ us. us ++ unit.Close ∷ []) q.listens.came_is;
      });
      got = q.got;
      pieces = q.pieces;
      holds = subst (λ (p : Party). SecondHolds x p.spool q.got f.high f.last q.pieces) (sym told.other) q.holds;
      stands = q.stands;
      room = q.room;
      up_is = told.came_is ∙ q.up_is;
      whole_link = ap (λ (l : Link). l.is_broken) told.link ∙ q.whole_link;
      marks = subst (λ (l : Link). IsUntouched x x.count l.breaks) (sym told.link) q.marks;
    }))

close_wanted : (x : Setting) (right : ℕ) (f : RecvEnd) → 1 < right → f.stage ≡ r.Free
    → wanted (counted (listener x right phase.Reads f) (event.Unit unit.Close)) (event.Unit unit.Close)
    ≡ Asks (ask.CloseLane 1 x.generation) (listener x (right - 1) phase.AsksClose (record f { stage = r.Free }))
close_wanted x right f more e = rw (not_last right more, e) refl

close_comes : (x : Setting) (w v : World) (f : RecvEnd) → f.stage ≡ r.Free
    → Second x w x.count (StandsNone x.count) (IsUntouched x x.count) 0 action.Read phase.Reads f (unit.Close ∷ []) []
    → ListenerActs w v → AtClose x v
close_comes x w v f free h acts =
    let told = listener_reads x w v h.right f unit.Close h.listens h.whole_link acts in
    let t = listener x h.right phase.Reads f in
    let room : LeftFor x x.count 0 h.right = h.room in
    let g : RecvEnd = record f { stage = r.Free } in
    let does : Does (counted t (event.Unit unit.Close))
    (Asks (ask.CloseLane 1 x.generation) (listener x (h.right - 1) phase.AsksClose g)) v.listening.wants
    v.listening.session
    = subst (λ z. Does (counted t (event.Unit unit.Close)) z v.listening.wants v.listening.session)
    (close_wanted x h.right f (omega (arith, room)) free) told.follows in
    Closes_lane g (record {
      right = h.right - 1;
      listens = record { wants_is = does.0; session_is = does.1; came_is = told.came_is };
      got = h.got;
      pieces = h.pieces;
      holds = subst (λ z. SecondHolds x z h.got f.high f.last h.pieces) (sym told.spool) h.holds;
      stands = h.stands;
      room = omega (arith, room);
      up_is = up_same w v [] told.other h.up_is;
      whole_link = ap (λ (l : Link). l.is_broken) told.link ∙ h.whole_link;
      marks = subst (λ (l : Link). IsUntouched x x.count l.breaks) (sym told.link) h.marks;
    })

lane_closes : (x : Setting) (w v : World) (f : RecvEnd) → IsSized x
    → Second x w x.count (StandsNone x.count) (IsUntouched x x.count) 1
    (action.Ask (ask.CloseLane 1 x.generation)) phase.AsksClose f [] []
    → ListenerActs w v → AtClose x v
lane_closes x w v f sized h acts =
    let q = ask.CloseLane 1 x.generation in
    let small : x.count ≤ 1000 = sized.few in
    let asked = asks_so w.listening v.listening w.link v.link acts.did q h.listens.wants_is acts.acts in
    let rep = close_reply 1 x.generation w.listening.session w.listening.spool v.listening.spool asked.answer
    asked.replied in
    let got_is : h.got ≡ x.count = h.stands.got_is in
    let made = second_closes x w.listening.spool v.listening.spool h.got f.high f.last h.pieces StepFault rep.0 h.holds
    (omega (arith, got_is, small)) rep.2 in
    let t = listener x h.right phase.AsksClose f in
    let told = told_at w.listening v.listening (event.Reply asked.answer) w.listening.came t h.listens.session_is
    asked.told in
    let does = subst (λ y. Follows t (event.Reply y) v.listening.wants v.listening.session)
    (rep.1 ∙ ap reply.CloseLane made.0) told in
    let link = untaken w.link v.link q refl asked.taken in
    Close_answers (record {
      right = h.right;
      f = record f { stage = r.Free };
      listens = record {
        wants_is = does.0;
        session_is = does.1;
        came_is = asked.told.came_is ∙ h.listens.came_is;
      };
      holds = record {
        lanes = made.1;
        has = subst (λ (z : ℕ). HasGot x.before z x.given v.listening.spool.machine) got_is made.2;
        moment = made.3;
      };
      up_is = up_same w v [] (acts.other ∙ ap (came_to w.calling) asked.put) h.up_is;
      whole_link = ap (λ (l : Link). l.is_broken) link ∙ h.whole_link;
      marks = subst (λ (l : Link). IsUntouched x x.count l.breaks) (sym link) h.marks;
    })

close_answered : (x : Setting) (w v : World)
    → HasClosed x w (action.Put unit.CloseAck) (phase.PutsLast end.Closed) [] → ListenerActs w v → AtClose x v
close_answered x w v h acts =
    let told = listener_puts x w v h.right (phase.PutsLast end.Closed) h.f unit.CloseAck h.listens h.whole_link acts in
    Close_rests (record {
      right = h.right;
      f = record h.f { stage = r.Free };
      listens = record { wants_is = told.follows.0; session_is = told.follows.1; came_is = told.came_is };
      holds = subst (SecondClosed x) (sym told.spool) h.holds;
      up_is = up_so w v (unit.CloseAck ∷ []) [] told.other h.up_is;
      whole_link = ap (λ (l : Link). l.is_broken) told.link ∙ h.whole_link;
      marks = subst (λ (l : Link). IsUntouched x x.count l.breaks) (sym told.link) h.marks;
    })

-- a session that is over does nothing
pub over_listens : (w v : World) (e : SessionEnd) → w.listening.wants ≡ action.Finish e → ListenerActs w v → ⊥
over_listens w v e is acts =
    subst (λ a. ActsAs a w.link.is_broken w.listening.came w.listening w.link acts.did v.listening v.link) is acts.acts

pub close_goes : (x : Setting) (w v : World) → IsSized x → AtClose x w → ListenerActs w v → AtClose x v
close_goes x w v sized (Close_came f free h) acts = close_comes x w v f free h acts
close_goes x w v sized (Closes_lane f h) acts = lane_closes x w v f sized h acts
close_goes x w v sized (Close_answers h) acts = close_answered x w v h acts
close_goes x w v sized (Close_rests h) acts = absurd (over_listens w v end.Closed h.listens.wants_is acts)

pub close_rests : (x : Setting) (w : World) → AtClose x w → ListenerRests w
    → HasClosed x w (action.Finish end.Closed) (phase.Ended end.Closed) (unit.CloseAck ∷ [])
close_rests x w (Close_came f free h) rest =
    absurd (busy_reads w unit.Close [] h.listens.wants_is h.whole_link h.listens.came_is rest)
close_rests x w (Closes_lane f h) rest = absurd (busy_asks w _ h.listens.wants_is rest)
close_rests x w (Close_answers h) rest = absurd (busy_puts w _ h.listens.wants_is rest)
close_rests x w (Close_rests h) rest = h

ack_wanted : (x : Setting) (left : ℕ) → 1 < left
    → wanted (counted (caller x left phase.ReadsCloseAck (half_at (state.Idle x.count) [] s.Quiet))
    (event.Unit unit.CloseAck)) (event.Unit unit.CloseAck)
    ≡ Asks (ask.CloseLane 1 x.generation)
    (caller x (left - 1) phase.AsksClose (half_at (state.Idle x.count) [] s.Quiet))
ack_wanted x left more = rw (not_last left more) refl

-- the second agent is over still
has_closed_so : (x : Setting) (w v : World) (up new_up : List AnyUnit)
    → HasClosed x w (action.Finish end.Closed) (phase.Ended end.Closed) up → v.listening ≡ came_to w.listening []
    → v.calling.came ≡ new_up → v.link ≡ w.link
    → HasClosed x v (action.Finish end.Closed) (phase.Ended end.Closed) new_up
has_closed_so x w v up new_up h other came link = record {
  right = h.right;
  f = h.f;
  listens = subst (λ p. Listens x p (action.Finish end.Closed) (phase.Ended end.Closed) h.right h.f []) (sym other)
      (record {
        wants_is = h.listens.wants_is;
        session_is = h.listens.session_is;
        came_is = ap (λ us. us ++ []) h.listens.came_is;
      });
  holds = subst (λ (p : Party). SecondClosed x p.spool) (sym other) h.holds;
  up_is = came;
  whole_link = ap (λ (l : Link). l.is_broken) link ∙ h.whole_link;
  marks = subst (λ (l : Link). IsUntouched x x.count l.breaks) (sym link) h.marks;
}

pub close_reads : (x : Setting) (w v : World) (left : ℕ) → 1 < left
    → Calls x w.calling x.count left (state.Idle x.count) [] s.Quiet None action.Read phase.ReadsCloseAck
    → AtClose x w → ListenerRests w → CallerActs w v → Stage x v
close_reads x w v left more h at rest acts =
    let has = close_rests x w at rest in
    let e = half_at (state.Idle x.count) [] s.Quiet in
    let t = caller x left phase.ReadsCloseAck e in
    let told = caller_reads w v t unit.CloseAck [] h.wants_is h.session_is has.up_is has.whole_link acts in
    let does : Does (counted t (event.Unit unit.CloseAck))
    (Asks (ask.CloseLane 1 x.generation) (caller x (left - 1) phase.AsksClose e)) v.calling.wants v.calling.session
    = subst (λ z. Does (counted t (event.Unit unit.CloseAck)) z v.calling.wants v.calling.session)
    (ack_wanted x left more) told.follows in
    stage.Closes_first (left - 1) (record {
      wants_is = does.0;
      session_is = does.1;
      first = subst (λ z. FirstHolds x z x.count (state.Idle x.count) None) (sym told.spool) h.first;
    }) (has_closed_so x w v (unit.CloseAck ∷ []) [] has told.other told.came_is told.link)

pub close_asks : (x : Setting) (w v : World) (left : ℕ) → IsSized x
    → Calls x w.calling x.count left (state.Idle x.count) [] s.Quiet None
    (action.Ask (ask.CloseLane 1 x.generation)) phase.AsksClose
    → HasClosed x w (action.Finish end.Closed) (phase.Ended end.Closed) [] → CallerActs w v → Stage x v
close_asks x w v left sized h has acts =
    let q = ask.CloseLane 1 x.generation in
    let t = caller x left phase.AsksClose (half_at (state.Idle x.count) [] s.Quiet) in
    let asked = asks_so w.calling v.calling w.link v.link acts.did q h.wants_is acts.acts in
    let rep = close_reply 1 x.generation w.calling.session w.calling.spool v.calling.spool asked.answer
    asked.replied in
    let made = first_closes x w.calling.spool v.calling.spool x.count rep.0 sized h.first rep.2 in
    let told = told_at w.calling v.calling (event.Reply asked.answer) w.calling.came t h.session_is asked.told in
    let does = subst (λ y. Follows t (event.Reply y) v.calling.wants v.calling.session)
    (rep.1 ∙ ap reply.CloseLane made.0) told in
    let link = untaken w.link v.link q refl asked.taken in
    stage.Closed does.0 (record { lanes = made.1; accepted = made.2; moment = made.3 })
    (has_closed_so x w v [] [] has (acts.other ∙ ap (came_to w.listening) asked.put)
    (asked.told.came_is ∙ has.up_is) link)

-- ---- Resume

pub resume_due : (x : Setting) (left k c : ℕ) (b : Bool) (o : List ℕ) → 1 ≤ c
    → next_of_sender s.Opened (caller x left phase.Puts (half_at (under_way b k c) o s.Opened))
    ≡ (action.Put (unit.Resume k c), caller x left phase.Puts (half_at (under_way b k c) o (s.Resume_put k c)))
resume_due x left k c true o some = pick_not (c == 0) _ _ (ne_eqb c 0 (λ e. omega (arith, some, e)))
resume_due x left k c false o some = pick_not (c == 0) _ _ (ne_eqb c 0 (λ e. omega (arith, some, e)))

pub discard_due : (x : Setting) (left k : ℕ) (o : List ℕ)
    → next_of_sender s.Opened (caller x left phase.Puts (half_at (state.Ending k 0) o s.Opened))
    ≡ (action.Put (unit.Discard k), caller x left phase.Puts (half_at (state.Ending k 0) o (s.Discard_put k)))
discard_due x left k o = refl

pub reopens : (x : Setting) (w v : World) (done c : ℕ) (whole : Bool) (f : RecvEnd) → (c ≡ 0 → whole ≡ true)
    → HasMore (octets_behind x done) c → (first : First x w done c whole s.Opened)
    → 16 * x.count + 17 ≤ first.left + 16 * done + c → f.stage ≡ r.Free
    → SecondOf x w done c whole c 0 action.Read phase.Reads f [] [] → WasBroken x done w.link.breaks
    → CallerActs w v → Stage x v
reopens x w v done zero whole f all more first room free h broken acts = by whole (all refl) first room h
  where
    by : (b : Bool) → b ≡ true → (first : First x w done 0 b s.Opened) → 16 * x.count + 17 ≤ first.left + 16 * done + 0
        → SecondOf x w done 0 b 0 0 action.Read phase.Reads f [] [] → Stage x v
    by false e first room h = absurd cc
    by true e first room h =
        let o = octets_behind x done in
        let y = unit.Discard (done + 1) in
        let to = s.Discard_put (done + 1) in
        let st = state.Ending (done + 1) 0 in
        let spoke = put_goes x first.left st o to y w v refl
        (first.speaks.says ∙ discard_due x first.left (done + 1) o) h.whole_link acts in
        stage.Discarding done (first_spoke x w v done 0 true s.Opened to y first spoke)
        (subst (λ (l : Link). WasBroken x done l.breaks) (sym spoke.link) broken)
        (Discard_came f free (second_gets x w v done 0 first.left (Stands true done o 0)
        (Marks x done 0 true) f [] st o to
        y h spoke))
reopens x w v done (suc c) whole f all more first room free h broken acts =
    let o = octets_behind x done in
    let y = unit.Resume (done + 1) (suc c) in
    let to = s.Resume_put (done + 1) (suc c) in
    let st = under_way whole (done + 1) (suc c) in
    let spoke = put_goes x first.left st o to y w v (not_dropped whole (done + 1) (suc c))
    (first.speaks.says ∙ resume_due x first.left (done + 1) (suc c) whole o (omega arith)) h.whole_link acts in
    stage.Resuming done (suc c) whole (omega arith) more
    (first_spoke x w v done (suc c) whole s.Opened to y first spoke) room
    (Resume_came f free (second_gets x w v done 0 first.left (Stands whole done o (suc c))
    (Marks x done (suc c) whole) f
    [] st o to y h spoke))

stands_so : (whole : Bool) (done c got high : ℕ) (o : List ℕ) (l : Last) (ps : List (List ℕ)) → 1 ≤ c
    → Stands whole done o c got high l ps → stands l (done + 1) c ≡ true
stands_so true done c got high o l ps some h =
    ap (λ (z : Last). stands z (done + 1) c) h.last_is ∙ eq-eqb (done + 1) (done + 1) refl
stands_so false done c got high o l ps some (Of_none z h) = absurd (omega (arith, some, z))
stands_so false done c got high o l ps some (Of_part m le h) =
    ap (λ (z : Last). stands z (done + 1) c) h.last_is
    ∙ and_from (done + 1 == done + 1) (nat_le c m) (eq-eqb (done + 1) (done + 1) refl) (le-leb c m le)

may_so : (l : Last) (k n : ℕ) → 1 ≤ n → stands l k n ≡ true → may_resume l k n ≡ true
may_so l k n le e = by (is_done l k || is_partial_of l k)
  where
    by : (b : Bool) → (if b then (nat_le 1 n && stands l k n) else true) ≡ true
    by true = and_from (nat_le 1 n) (stands l k n) (le-leb 1 n le) e
    by false = refl

resume_takes : (k n : ℕ) (f : RecvEnd) → f.stage ≡ r.Free → may_resume f.last k n ≡ true
    → taken 1 f (unit.Resume k n) ≡ Some (staged f (r.Asked k n))
resume_takes k n f e may =
    subst (λ z. r.take_resume z f k n ≡ Some (staged f (r.Asked k n))) (sym e) (by (may_resume f.last k n) may)
  where
    by : (b : Bool) → b ≡ true → r.when b (staged f (r.Asked k n)) ≡ Some (staged f (r.Asked k n))
    by b q = rw q refl

resume_comes : (x : Setting) (w v : World) (done c : ℕ) (whole : Bool) (f : RecvEnd) → 1 ≤ c → done < x.count
    → f.stage ≡ r.Free
    → SecondOf x w done c whole c 0 action.Read phase.Reads f (unit.Resume (done + 1) c ∷ []) []
    → ListenerActs w v → AtResume x v done c whole
resume_comes x w v done c whole f some below free h acts =
    let o = octets_behind x done in
    let k = done + 1 in
    let st = stands_so whole done c h.got f.high o f.last h.pieces some h.stands in
    let may = may_so f.last k c some st in
    let g : RecvEnd = staged f (r.Asked k c) in
    let heard = hears x h.right f g (unit.Resume k c) w v h.listens h.whole_link (omega (arith, h.room, below)) refl
    (resume_takes k c f free may) may (high_is whole done o c h.got f.high f.last h.pieces h.stands) acts in
    let a : RecvEnd = r.put g (u.ResumeAck k c) in
    let said = heard_as w v [] _ (action.Put (unit.ResumeAck k c), listener x (h.right - 1) phase.Puts a)
    (pick_so (stands f.last k c) _ _ st) heard in
    Resumes a (record { stage = (refl, refl); acked = refl; from = omega arith })
    (second_heard x w v done 0 1 (Stands whole done o c) (Stands whole done o c) (Marks x done c whole)
    (Marks x done c whole) action.Read (action.Put (unit.ResumeAck k c)) phase.Reads phase.Puts f a
    (unit.Resume k c ∷ []) [] [] [] (h.right - 1) h refl refl said (omega (arith, h.room, below)) refl (λ got ps z. z)
    (λ b z. z))

resume_answered : (x : Setting) (w v : World) (done c : ℕ) (whole : Bool) (f : RecvEnd)
    → IsBehind f whole (done + 1) c (octets_behind x done)
    → SecondOf x w done c whole c 1 (action.Put (unit.ResumeAck (done + 1) c)) phase.Puts f [] []
    → ListenerActs w v → AtResume x v done c whole
resume_answered x w v done c whole f b h acts =
    let o = octets_behind x done in
    let y = unit.ResumeAck (done + 1) c in
    let heard = answers_put x h.right f y w v h.listens h.whole_link
    (behind_fits whole done c h.got o f h.pieces b h.stands)
    (high_is whole done o c h.got f.high f.last h.pieces h.stands) acts in
    let said = heard_as w v (y ∷ []) _ (action.Read, listener x h.right phase.Reads f)
    (behind_reads x h.right done c h.got whole o f h.pieces b h.stands) heard in
    Resumed f b
    (second_heard x w v done 1 1 (Stands whole done o c) (Stands whole done o c) (Marks x done c whole)
    (Marks x done c whole) (action.Put y) action.Read phase.Puts phase.Reads f f [] [] (y ∷ []) (y ∷ []) h.right h refl
    refl said (omega arith) refl (λ got ps z. z) (λ b z. z))

pub resume_goes : (x : Setting) (w v : World) (done c : ℕ) (whole : Bool) → 1 ≤ c → done < x.count
    → AtResume x w done c whole → ListenerActs w v → AtResume x v done c whole
resume_goes x w v done c whole some below (Resume_came f free h) acts =
    resume_comes x w v done c whole f some below free h acts
resume_goes x w v done c whole some below (Resumes f b h) acts = resume_answered x w v done c whole f b h acts
resume_goes x w v done c whole some below (Resumed f b h) acts =
    absurd (waits_still w.listening v.listening w.link v.link acts.did h.listens.wants_is h.whole_link
    h.listens.came_is acts.acts)

pub resumed_so : (x : Setting) (w : World) (done c : ℕ) (whole : Bool) → AtResume x w done c whole → ListenerRests w
    → (f : RecvEnd) × IsBehind f whole (done + 1) c (octets_behind x done)
    × SecondOf x w done c whole c 1 action.Read phase.Reads f [] (unit.ResumeAck (done + 1) c ∷ [])
resumed_so x w done c whole (Resume_came f free h) rest =
    absurd (busy_reads w _ [] h.listens.wants_is h.whole_link h.listens.came_is rest)
resumed_so x w done c whole (Resumes f b h) rest = absurd (busy_puts w _ h.listens.wants_is rest)
resumed_so x w done c whole (Resumed f b h) rest = (f, b, h)

pub resume_reads : (x : Setting) (w v : World) (done c : ℕ) (whole : Bool) → 1 ≤ c → HasMore (octets_behind x done) c
    → (first : First x w done c whole (s.Resume_put (done + 1) c)) → 16 * x.count + 17 ≤ first.left + 16 * done + c
    → AtResume x w done c whole → ListenerRests w → CallerActs w v → Stage x v
resume_reads x w v done c whole some more first room at rest acts =
    let has = resumed_so x w done c whole at rest in
    let o = octets_behind x done in
    let few = few-more x done c more in
    let e = half_at (under_way whole (done + 1) c) o (s.Resume_put (done + 1) c) in
    let t = caller x first.left phase.Reads e in
    let now : Action × State = (action.Read, t) in
    let says : ◌≡◌ {A = Action × State} (w.calling.wants, w.calling.session) now = first.speaks.says in
    let y = unit.ResumeAck (done + 1) c in
    let told = caller_reads w v t y [] (action_is (w.calling.wants, w.calling.session) now says)
    (state_is (w.calling.wants, w.calling.session) now says) has.2.up_is has.2.whole_link acts in
    let next = half_at (under_way whole (done + 1) c) o (s.Next (done + 1) c) in
    let goes : GoesOn (caller x (first.left - 1) phase.Reads next) v.calling.wants v.calling.session
    = subst (λ z. Does (counted t (event.Unit y)) z v.calling.wants v.calling.session)
    (resume_acks t (done + 1) c refl refl (omega (arith, room, first.below, few)) refl) told.follows in
    stage.Next done c whole c (omega arith) (omega arith) more (record {
      below = first.below;
      left = first.left - 1;
      transfer = first.transfer;
      is = first.is;
      speaks = record {
        says = caller_goes x (first.left - 1) phase.Reads next v.calling.wants v.calling.session
            (not_dropped whole (done + 1) c) goes;
        first = subst (λ z. FirstHolds x z done (under_way whole (done + 1) c) (Some first.transfer)) (sym told.spool)
            first.speaks.first;
      };
      room = omega (arith, room);
    }) (Rests 0 has.0 (omega arith) has.1
    (second_stays x w v done done 1 (2 * c + 1) (Stands whole done o c) (Stands whole done o c) (Marks x done c whole)
    (Marks x done c whole) has.0 (y ∷ []) [] has.2 told.other told.came_is told.link (omega arith) (λ got ps z. z)
    has.2.marks))

-- ---- Discard

discard_takes : (k : ℕ) (f : RecvEnd) → f.stage ≡ r.Free
    → taken 1 f (unit.Discard k) ≡ Some (staged f (r.Discards k))
discard_takes k f e = subst (λ z. r.take_discard z f k ≡ Some (staged f (r.Discards k))) (sym e) refl

done_not_partial : (l : Last) (k : ℕ) → is_done l k ≡ true → is_partial_of l k ≡ false
done_not_partial last.None k e = refl
done_not_partial (last.Partial j p) k e = absurd cc
done_not_partial (last.Done j) k e = refl

discard_comes : (x : Setting) (w v : World) (done : ℕ) (f : RecvEnd) → done < x.count → f.stage ≡ r.Free
    → SecondOf x w done 0 true 0 0 action.Read phase.Reads f (unit.Discard (done + 1) ∷ []) []
    → ListenerActs w v → AtDiscard x v done
discard_comes x w v done f below free h acts =
    let o = octets_behind x done in
    let k = done + 1 in
    let all = done_is true done o 0 h.got f.high f.last h.pieces h.stands in
    let g : RecvEnd = staged f (r.Discards k) in
    let heard = hears x h.right f g (unit.Discard k) w v h.listens h.whole_link (omega (arith, h.room, below)) refl
    (discard_takes k f free) tt (high_is true done o 0 h.got f.high f.last h.pieces h.stands) acts in
    let a : RecvEnd = r.put g u.Completed in
    let said = heard_as w v [] _
    (action.Put (unit.Abort 7), listener x (h.right - 1) (phase.PutsLast (end.Aborted 7)) a)
    (pick_not (is_partial_of f.last k) _ _ (done_not_partial f.last k all) ∙ pick_so (is_done f.last k) _ _ all) heard
    in
    Aborts a
    (second_heard x w v done 0 1 (Stands true done o 0) (Stands true done o 0) (Marks x done 0 true)
    (Marks x done 0 true)
    action.Read (action.Put (unit.Abort 7)) phase.Reads (phase.PutsLast (end.Aborted 7)) f a
    (unit.Discard k ∷ []) [] [] [] (h.right - 1) h refl refl said (omega (arith, h.room, below)) refl (λ got ps z. z)
    (λ b z. z))

discard_answered : (x : Setting) (w v : World) (done : ℕ) (f : RecvEnd)
    → SecondOf x w done 0 true 0 1 (action.Put (unit.Abort 7)) (phase.PutsLast (end.Aborted 7)) f [] []
    → ListenerActs w v → AtDiscard x v done
discard_answered x w v done f h acts =
    let told = listener_puts x w v h.right (phase.PutsLast (end.Aborted 7)) f (unit.Abort 7) h.listens h.whole_link acts
    in
    Has_aborted (record f { stage = r.Free }) (record {
      right = h.right;
      listens = record { wants_is = told.follows.0; session_is = told.follows.1; came_is = told.came_is };
      got = h.got;
      pieces = h.pieces;
      holds = subst (λ z. SecondHolds x z h.got f.high f.last h.pieces) (sym told.spool) h.holds;
      stands = h.stands;
      room = h.room;
      up_is = up_so w v (unit.Abort 7 ∷ []) [] told.other h.up_is;
      whole_link = ap (λ (l : Link). l.is_broken) told.link ∙ h.whole_link;
      marks = subst (λ (l : Link). Marks x done 0 true l.breaks) (sym told.link) h.marks;
    })

pub discard_goes : (x : Setting) (w v : World) (done : ℕ) → done < x.count → AtDiscard x w done → ListenerActs w v
    → AtDiscard x v done
discard_goes x w v done below (Discard_came f free h) acts = discard_comes x w v done f below free h acts
discard_goes x w v done below (Aborts f h) acts = discard_answered x w v done f h acts
discard_goes x w v done below (Has_aborted f h) acts =
    absurd (over_listens w v (end.Aborted 7) h.listens.wants_is acts)

-- the link stays as it was
pub discard_link : (x : Setting) (w v : World) (done : ℕ) → AtDiscard x w done → ListenerActs w v → v.link ≡ w.link
discard_link x w v done (Discard_came f free h) acts =
    (listener_reads x w v h.right f (unit.Discard (done + 1)) h.listens h.whole_link acts).link
discard_link x w v done (Aborts f h) acts =
    (listener_puts x w v h.right (phase.PutsLast (end.Aborted 7)) f (unit.Abort 7) h.listens h.whole_link acts).link
discard_link x w v done (Has_aborted f h) acts =
    absurd (over_listens w v (end.Aborted 7) h.listens.wants_is acts)

pub aborted_so : (x : Setting) (w : World) (done : ℕ) → AtDiscard x w done → ListenerRests w
    → (f : RecvEnd) × SecondOf x w done 0 true 0 1 (action.Finish (end.Aborted 7)) (phase.Ended (end.Aborted 7)) f []
    (unit.Abort 7 ∷ [])
aborted_so x w done (Discard_came f free h) rest =
    absurd (busy_reads w _ [] h.listens.wants_is h.whole_link h.listens.came_is rest)
aborted_so x w done (Aborts f h) rest = absurd (busy_puts w _ h.listens.wants_is rest)
aborted_so x w done (Has_aborted f h) rest = (f, h)

-- the second agent is over still
over_stays : (x : Setting) (w v : World) (done to read more : ℕ)
    (Has New : ℕ → ℕ → Last → List (List ℕ) → Type 0) (Bears Bear : Breaks → Type 0) (f : RecvEnd)
    (up new_up : List AnyUnit)
    → (h : Second x w done Has Bears read (action.Finish (end.Aborted 7)) (phase.Ended (end.Aborted 7)) f [] up)
    → v.listening ≡ came_to w.listening [] → v.calling.came ≡ new_up → v.link ≡ w.link
    → 16 * done + read ≤ 16 * to + more
    → ((got : ℕ) (ps : List (List ℕ)) → Has got f.high f.last ps → New got f.high f.last ps)
    → Bear w.link.breaks
    → Second x v to New Bear more (action.Finish (end.Aborted 7)) (phase.Ended (end.Aborted 7)) f [] new_up
over_stays x w v done to read more Has New Bears Bear f up new_up h other came link few stands bears = record {
  right = h.right;
  listens = subst (λ q. Listens x q (action.Finish (end.Aborted 7)) (phase.Ended (end.Aborted 7)) h.right f [])
      (sym other) (record {
        wants_is = h.listens.wants_is;
        session_is = h.listens.session_is;
        came_is = ap (λ us. us ++ []) h.listens.came_is;
      });
  got = h.got;
  pieces = h.pieces;
  holds = subst (λ (q : Party). SecondHolds x q.spool h.got f.high f.last h.pieces) (sym other) h.holds;
  stands = stands h.got h.pieces h.stands;
  room = omega (arith, h.room, few);
  up_is = came;
  whole_link = ap (λ (l : Link). l.is_broken) link ∙ h.whole_link;
  marks = subst (λ (l : Link). Bear l.breaks) (sym link) bears;
}

abort_wanted : (x : Setting) (left k : ℕ) (o : List ℕ) → 1 < left
    → wanted (counted (caller x left phase.Reads (half_at (state.Ending k 0) o (s.Discard_put k)))
    (event.Unit (unit.Abort 7))) (event.Unit (unit.Abort 7))
    ≡ Asks (ask.Sent 1 x.generation k)
    (caller x (left - 1) (phase.AsksLast (end.PeerAborted 7)) (half_at (state.Ending k 0) [] (s.Discard_put k)))
abort_wanted x left k o more = rw (not_last left more, eq-eqb k k refl) refl

pub abort_reads : (x : Setting) (w v : World) (done : ℕ) → First x w done 0 true (s.Discard_put (done + 1))
    → WasBroken x done w.link.breaks → AtDiscard x w done → ListenerRests w → CallerActs w v → Stage x v
abort_reads x w v done first broken at rest acts =
    let has = aborted_so x w done at rest in
    let o = octets_behind x done in
    let t = caller x first.left phase.Reads (half_at (state.Ending (done + 1) 0) o (s.Discard_put (done + 1))) in
    let now : Action × State = (action.Read, t) in
    let says : ◌≡◌ {A = Action × State} (w.calling.wants, w.calling.session) now = first.speaks.says in
    let told = caller_reads w v t (unit.Abort 7) [] (action_is (w.calling.wants, w.calling.session) now says)
    (state_is (w.calling.wants, w.calling.session) now says) has.1.up_is has.1.whole_link acts in
    let does : Does (counted t (event.Unit (unit.Abort 7))) (Asks (ask.Sent 1 x.generation (done + 1))
    (caller x (first.left - 1) (phase.AsksLast (end.PeerAborted 7))
    (half_at (state.Ending (done + 1) 0) [] (s.Discard_put (done + 1))))) v.calling.wants v.calling.session
    = subst (λ z. Does (counted t (event.Unit (unit.Abort 7))) z v.calling.wants v.calling.session)
    (abort_wanted x first.left (done + 1) o (omega (arith, first.room, first.below))) told.follows in
    stage.Sends_last done has.0 (first.left - 1) first.transfer first.below first.is (record {
      wants_is = does.0;
      session_is = does.1;
      first = subst (λ z. FirstHolds x z done (state.Ending (done + 1) 0) (Some first.transfer)) (sym told.spool)
          first.speaks.first;
    }) (subst (λ (l : Link). WasBroken x done l.breaks) (sym told.link) broken)
    (over_stays x w v done done 1 1 (Stands true done o 0) (Stands true done o 0) (Marks x done 0 true)
    (Marks x done 0 true) has.0 (unit.Abort 7 ∷ []) [] has.1 told.other told.came_is told.link (omega arith)
    (λ got ps z. z) has.1.marks)

sent_reply : (n g k : ℕ) (t : State) (s new : SpoolState) (y : Reply) → Replied (ask.Sent n g k) t s y new
    → (z : Result (Unit {0}) StepFault) × (y ≡ reply.Sent z) × Made s (step.Sent n g k s.moment) z new
sent_reply n g k t s new (reply.Sent z) h = (z, refl, h)
sent_reply n g k t s new any0 h = elim h [ ]

pub last_sent : (x : Setting) (w v : World) (done : ℕ) (f : RecvEnd) (left : ℕ) (transfer : Transfer) → IsSized x
    → done < x.count → Transfers x done transfer
    → Calls x w.calling done left (state.Ending (done + 1) 0) [] (s.Discard_put (done + 1)) (Some transfer)
    (action.Ask (ask.Sent 1 x.generation (done + 1))) (phase.AsksLast (end.PeerAborted 7))
    → WasBroken x done w.link.breaks
    → SecondOf x w done 0 true 0 1 (action.Finish (end.Aborted 7)) (phase.Ended (end.Aborted 7)) f [] []
    → CallerActs w v → Stage x v
last_sent x w v done f left transfer sized below is h broken second acts =
    let o = octets_behind x done in
    let q = ask.Sent 1 x.generation (done + 1) in
    let t = caller x left (phase.AsksLast (end.PeerAborted 7))
    (half_at (state.Ending (done + 1) 0) [] (s.Discard_put (done + 1))) in
    let asked = asks_so w.calling v.calling w.link v.link acts.did q h.wants_is acts.acts in
    let rep = sent_reply 1 x.generation (done + 1) w.calling.session w.calling.spool v.calling.spool asked.answer
    asked.replied in
    let made = first_sends x w.calling.spool v.calling.spool done 0 transfer rep.0 sized is below h.first rep.2 in
    let told = told_at w.calling v.calling (event.Reply asked.answer) w.calling.came t h.session_is asked.told in
    let does = subst (λ y. Follows t (event.Reply y) v.calling.wants v.calling.session)
    (rep.1 ∙ ap reply.Sent made.0) told in
    let link = untaken w.link v.link q refl asked.taken in
    stage.Given_back (done + 1) f (omega (arith, below)) (omega (arith, broken.since)) does.0 made.1
    (over_stays x w v done (done + 1) 1 16 (Stands true done o 0) (StandsNone (done + 1)) (Marks x done 0 true)
    (IsUntouched x (done + 1)) f [] [] second (acts.other ∙ ap (came_to w.listening) asked.put)
    (asked.told.came_is ∙ second.up_is) link (omega arith) (λ got ps z. none_behind done got f.high f.last ps z)
    (record {
      before = broken.before;
      last = omega (arith, broken.last);
      made = broken.made;
      few = broken.few;
      later = broken.later;
      since = omega (arith, broken.since);
    }))
