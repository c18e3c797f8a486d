-- A new lane is opened and accepted.
use Rattle.std.proofs.Common.{◌≡◌, ◌≤◌, ℕ, ◌+◌, ◌-◌, ◌*◌, ◌==◌, ◌&&◌, Bool, true, false, List, [], ◌∷◌, ◌++◌}
use Rattle.std.proofs.Common.{length, codes, Option, Some, None, Result, Ok, refl, sym, ◌∙◌, ap, subst, arith}
use Rattle.std.proofs.Common.{if◌then◌else◌}
use Rattle.std.specs.Prelude.{IfOk, count_by}
use Rattle.std.specs.Str.{bytes_eq}
use Rattle.std.proofs.lemmas.Bool.{and_from}
use Rattle.std.proofs.lemmas.Slice.Eq.{bytes_eq-Decides}
use Rattle.mta_units.specs.declared.unit.Unit.TheVariants as unit
use Rattle.mta_units.specs.declared.unit.OpenUnit.{OpenUnit}
use Rattle.mta_lane_send.specs.declared.state.SendState.TheVariants as state
use Rattle.mta_lane_recv.specs.declared.state.Last.TheVariants as last
use Rattle.mta_transfer_rules.specs.Sending as sending
use Rattle.mta_transfer_rules.specs.Receiving as r
use Rattle.mta_transfer_rules.specs.Receiving.{RecvEnd}
use Rattle.mta_records.specs.declared.fault.StepFault.{StepFault}
use Rattle.mta_ber.specs.declared.memory.Memory.{Memory as NoMemory}
use Rattle.mta_records.specs.Reference.{Identifier}
use Rattle.mta_records.specs.declared.lane.LaneRole.{LaneRole}
use Rattle.mta_records.specs.declared.lane.LaneRole.TheVariants.{Responder}
use Rattle.mta_records.specs.declared.step.Step.TheVariants as step
use Rattle.mta_machine.specs.Items.{Machine, numbered}
use Rattle.mta_histories.specs.History.{IsPossible, NamesPeer, after_step, is_with, new_lane}
use Rattle.mta_histories.specs.Lanes.{EachLane, Lane, lane_at}
use Rattle.mta_histories.specs.Lanes.{State as SpoolState}
use Rattle.mta_session.specs.declared.ask.Ask.TheVariants as ask
use Rattle.mta_session.specs.declared.ask.Reply.{Reply}
use Rattle.mta_session.specs.declared.ask.Reply.TheVariants as reply
use Rattle.mta_session.specs.declared.event.Action.TheVariants as action
use Rattle.mta_session.specs.declared.event.Event.TheVariants as event
use Rattle.mta_session.specs.declared.peer.Peer.{Peer}
use Rattle.mta_session.specs.declared.phase.Phase.TheVariants as phase
use Rattle.mta_session.specs.Follows.{Does, Follows, GoesOn, counted}
use Rattle.mta_session.specs.RecvFits.{RecvFitsAt}
use Rattle.mta_session.specs.State.{State}
use Rattle.mta_session.specs.Wanted.{Aborts, Asks, Wanted}
use Rattle.mta_session_next_laws.specs.Next.{next_of_receiver}
use Rattle.mta_session_next_laws.proofs.Calls.{not_last}
use Rattle.mta_drill_laws.specs.Tables.{east, gold_1, second_text}
use Rattle.mta_drill_laws.proofs.TablesRead.{both_are_read}
use Rattle.mta_drill_step_laws.specs.First.{HasAccepted}
use Rattle.mta_drill_step_laws.specs.Second.{HasGot}
use Rattle.mta_drill_step_laws.proofs.States.{still_steps}
use Rattle.mta_drill_stage_laws.specs.Laws.{OpeningsListen, OpeningsCall}
use Rattle.mta_drill_stage_laws.specs.Lines.{line_of_first}
use Rattle.mta_drill_stage_laws.specs.Opening.{Accepted, Accepts, Agrees, Asks_lane, Asks_peer, Asks_stands, AtOpen}
use Rattle.mta_drill_stage_laws.specs.Opening.{Begins}
use Rattle.mta_drill_stage_laws.specs.Opening.{FirstNew, Has_opened, IsNew, Open_came, Opener, Opening, Opens, Responds}
use Rattle.mta_drill_stage_laws.specs.Opening.{SecondNew, accept, new_lane_of, open_of, opener, responder}
use Rattle.mta_drill_stage_laws.specs.Settings.{IsSized, IsUntouched, SecondHolds, Setting, StandsNone, caller}
use Rattle.mta_drill_stage_laws.specs.Settings.{half_at, listener, second_lane}
use Rattle.mta_drill_stage_laws.specs.Stages.{Second}
use Rattle.mta_drill_stage_laws.specs.Stages as stage
use Rattle.mta_drill_stage_laws.specs.World.{CallerActs, Found, Link, ListenerActs, ListenerRests, Made, Party, Replied}
use Rattle.mta_drill_stage_laws.specs.World.{World, came_to}
use Rattle.mta_drill_stage_laws.proofs.Acts.{asks_so, reads_first, told_at, untaken, waits_still}
use Rattle.mta_drill_stage_laws.proofs.Asking.{second_stays}
use Rattle.mta_drill_stage_laws.proofs.CallerGoes.{caller_goes_on}
use Rattle.mta_drill_stage_laws.proofs.Ending.{busy_asks, busy_puts, busy_reads, caller_puts, caller_reads}
use Rattle.mta_drill_stage_laws.proofs.Ending.{listener_puts}
use Rattle.mta_drill_stage_laws.proofs.Hearing.{Heard, heard_as, listener_goes, none_high, second_heard, up_same}
use Rattle.mta_drill_stage_laws.proofs.ListenerGoes.{listener_goes_on}
use Rattle.mta_drill_stage_laws.proofs.Speaking.{caller_goes}
use Rattle.mta_drill_stage_laws.proofs.Spools.{lanes_so, made_so}

-- ---- words

pub same_bytes : (a : List ℕ) → bytes_eq a a ≡ true
same_bytes a = (bytes_eq-Decides a a).1 refl

pub both_same : (a b : List ℕ) → (bytes_eq a a && bytes_eq b b) ≡ true
both_same a b = and_from (bytes_eq a a) (bytes_eq b b) (same_bytes a) (same_bytes b)

pub pick_so : (b : Bool) (p q : Wanted) → b ≡ true → (if b then p else q) ≡ p
pick_so b p q e = rw e refl

pub pick_not : (b : Bool) (p q : Wanted) → b ≡ false → (if b then p else q) ≡ q
pick_not b p q e = rw e refl

-- ---- Open

opens_goes : (x : Setting) (w v : World) → Opener x w 1 (action.Put (unit.Open (open_of x))) phase.PutsOpen
    → Responds x w 1 action.Read phase.ReadsOpen None None [] → CallerActs w v → Opening x v
opens_goes x w v h l acts =
    let y = unit.Open (open_of x) in
    let told = caller_puts w v (opener x h.left phase.PutsOpen) y h.wants_is h.session_is l.whole_link acts in
    Has_opened (record {
      left = h.left;
      room = h.room;
      wants_is = told.follows.0;
      session_is = told.follows.1;
      holds = subst (FirstNew x) (sym told.spool) h.holds;
    }) (Open_came (record {
      right = l.right;
      room = l.room;
      wants_is = ap (λ (p : Party). p.wants) told.other ∙ l.wants_is;
      session_is = ap (λ (p : Party). p.session) told.other ∙ l.session_is;
      came_is = ap (λ (p : Party). p.came) told.other ∙ ap (λ us. us ++ y ∷ []) l.came_is;
      holds = subst (λ (p : Party). SecondNew x p.spool) (sym told.other) l.holds;
      up_is = told.came_is ∙ l.up_is;
      whole_link = ap (λ (k : Link). k.is_broken) told.link ∙ l.whole_link;
      marks = subst (λ (k : Link). IsUntouched x 0 k.breaks) (sym told.link) l.marks;
    }))

open_comes : (x : Setting) (w v : World)
    → Responds x w 1 action.Read phase.ReadsOpen None None (unit.Open (open_of x) ∷ []) → ListenerActs w v → AtOpen x v
open_comes x w v l acts =
    let y = unit.Open (open_of x) in
    let t = responder l.right phase.ReadsOpen None None in
    let room : 16 * x.count + 16 + 1 ≤ l.right = l.room in
    let talk = reads_first w.listening v.listening w.link v.link acts.did [] y l.wants_is l.whole_link l.came_is
    acts.acts in
    let follows = told_at w.listening v.listening (event.Unit y) [] t l.session_is talk.told in
    let does : Does (counted t (event.Unit y)) (Asks (ask.Peer gold_1)
    (responder (l.right - 1) phase.AsksPeer (Some (open_of x)) None)) v.listening.wants v.listening.session
    = subst (λ z. Does (counted t (event.Unit y)) z v.listening.wants v.listening.session)
    (pick_not (l.right - 1 == 0) (Aborts 3) _ (not_last l.right (omega (arith, room)))) follows in
    Asks_peer (record {
      right = l.right - 1;
      room = omega (arith, room);
      wants_is = does.0;
      session_is = does.1;
      came_is = talk.told.came_is;
      holds = subst (SecondNew x) (sym talk.spool) l.holds;
      up_is = up_same w v [] (acts.other ∙ ap (came_to w.calling) talk.put_is) l.up_is;
      whole_link = ap (λ (k : Link). k.is_broken) talk.link ∙ l.whole_link;
      marks = subst (λ (k : Link). IsUntouched x 0 k.breaks) (sym talk.link) l.marks;
    })

-- ---- the second agent asks

pub peer_reply : (name : List ℕ) (t : State) (s new : SpoolState) (y : Reply) → Replied (ask.Peer name) t s y new
    → (z : Result (Option Peer) NoMemory) × (y ≡ reply.Peer z)
    × (name ≡ gold_1 → s.machine.tables ≡ second_text ∷ [] → z ≡ Ok (Some line_of_first)) × (new ≡ s)
peer_reply name t s new (reply.Peer z) h = (z, refl, h.0, h.1)
peer_reply name t s new any0 h = elim h [ ]

peer_told : (x : Setting) (w v : World)
    → Responds x w 0 (action.Ask (ask.Peer gold_1)) phase.AsksPeer (Some (open_of x)) None [] → ListenerActs w v
    → AtOpen x v
peer_told x w v l acts =
    let q = ask.Peer gold_1 in
    let t = responder l.right phase.AsksPeer (Some (open_of x)) None in
    let asked = asks_so w.listening v.listening w.link v.link acts.did q l.wants_is acts.acts in
    let rep = peer_reply gold_1 w.listening.session w.listening.spool v.listening.spool asked.answer asked.replied in
    let told = told_at w.listening v.listening (event.Reply asked.answer) w.listening.came t l.session_is asked.told in
    let link = untaken w.link v.link q refl asked.taken in
    let follows = subst (λ y. Follows t (event.Reply y) v.listening.wants v.listening.session)
    (rep.1 ∙ ap reply.Peer (rep.2 refl l.holds.has.tables)) told in
    let does : Does t (Asks (ask.LaneOf Responder gold_1 (Some x.reference))
    (responder l.right phase.AsksStands (Some (open_of x)) (Some line_of_first))) v.listening.wants v.listening.session
    = subst (λ z. Does t z v.listening.wants v.listening.session)
    (pick_so (bytes_eq gold_1 gold_1 && bytes_eq (codes "from-gold") (codes "from-gold")) _ _
    (both_same gold_1 (codes "from-gold"))) follows in
    Asks_stands (record {
      right = l.right;
      room = l.room;
      wants_is = does.0;
      session_is = does.1;
      came_is = asked.told.came_is ∙ l.came_is;
      holds = subst (SecondNew x) (sym rep.3) l.holds;
      up_is = up_same w v [] (acts.other ∙ ap (came_to w.calling) asked.put) l.up_is;
      whole_link = ap (λ (k : Link). k.is_broken) link ∙ l.whole_link;
      marks = subst (λ (k : Link). IsUntouched x 0 k.breaks) (sym link) l.marks;
    })

pub lane_reply : (role : LaneRole) (peer : List ℕ) (reference : Option Identifier) (t : State) (s new : SpoolState)
    (y : Reply) → Replied (ask.LaneOf role peer reference) t s y new
    → (z : Option ℕ) × (y ≡ reply.LaneOf z) × Found s role peer reference z × (new ≡ s)
lane_reply role peer reference t s new (reply.LaneOf z) h = (z, refl, h.0, h.1)
lane_reply role peer reference t s new any0 h = elim h [ ]

stands_told : (x : Setting) (w v : World)
    → Responds x w 0 (action.Ask (ask.LaneOf Responder gold_1 (Some x.reference))) phase.AsksStands
    (Some (open_of x)) (Some line_of_first) []
    → ListenerActs w v → AtOpen x v
stands_told x w v l acts =
    let q = ask.LaneOf Responder gold_1 (Some x.reference) in
    let t = responder l.right phase.AsksStands (Some (open_of x)) (Some line_of_first) in
    let asked = asks_so w.listening v.listening w.link v.link acts.did q l.wants_is acts.acts in
    let rep = lane_reply Responder gold_1 (Some x.reference) w.listening.session w.listening.spool v.listening.spool
    asked.answer asked.replied in
    let told = told_at w.listening v.listening (event.Reply asked.answer) w.listening.came t l.session_is asked.told in
    let link = untaken w.link v.link q refl asked.taken in
    let does = subst (λ y. Follows t (event.Reply y) v.listening.wants v.listening.session)
    (rep.1 ∙ ap reply.LaneOf (rep.2.none l.holds.lanes)) told in
    Asks_lane (record {
      right = l.right;
      room = l.room;
      wants_is = does.0;
      session_is = does.1;
      came_is = asked.told.came_is ∙ l.came_is;
      holds = subst (SecondNew x) (sym rep.3) l.holds;
      up_is = up_same w v [] (acts.other ∙ ap (came_to w.calling) asked.put) l.up_is;
      whole_link = ap (λ (k : Link). k.is_broken) link ∙ l.whole_link;
      marks = subst (λ (k : Link). IsUntouched x 0 k.breaks) (sym link) l.marks;
    })

-- ---- the lane is opened at the second agent

pub open_reply : (role : LaneRole) (peer : List ℕ) (name : Identifier) (twa : Bool) (size window : ℕ) (t : State)
    (s new : SpoolState) (y : Reply) → Replied (ask.LaneOpen role peer name twa size window) t s y new
    → (z : Result ℕ StepFault) × (y ≡ reply.LaneOpen z)
    × Made s (step.LaneOpen role peer name twa size window s.moment) z new × IfOk z (λ n. n ≡ s.lanes.count + 1)
open_reply role peer name twa size window t s new (reply.LaneOpen z) h = (z, refl, h.0, h.1)
open_reply role peer name twa size window t s new any0 h = elim h [ ]

pub names_so : (x : Setting) (s : SpoolState) → SecondNew x s
    → NamesPeer (numbered s.machine.tables (length s.machine.tables)) gold_1
names_so x s h =
    subst (λ (ts : List (List ℕ)). NamesPeer (numbered ts (length ts)) gold_1) (sym h.has.tables)
    both_are_read.second_names

opened_after : (x : Setting) (s : SpoolState) → IsNew x → SecondNew x s
    → SecondHolds x (after_step s (step.LaneOpen Responder gold_1 x.reference false 1 2 s.moment)) 0 0 last.None []
opened_after x s new h =
    let made = step.LaneOpen Responder gold_1 x.reference false 1 2 s.moment in
    record {
      lanes = ap (λ (ls : List Lane). ls ++ new_lane (s.lanes.count + 1) Responder gold_1 x.reference false 1 2 ∷ [])
          h.lanes
          ∙ ap (λ (c : ℕ). new_lane (c + 1) Responder gold_1 x.reference false 1 2 ∷ []) h.count
          ∙ ap (λ (g : ℕ). record (second_lane x 0 last.None []) { generation = g } ∷ []) (sym new.first);
      has = subst (λ (m : Machine). HasGot x.before 0 x.given m) (sym (still_steps s made refl)) h.has;
      moment = h.moment;
    }

lane_told : (x : Setting) (w v : World) → IsNew x
    → Responds x w 0 (action.Ask (ask.LaneOpen Responder gold_1 x.reference false 1 2))
    (phase.AsksNewLane false) (Some (open_of x)) (Some line_of_first) []
    → ListenerActs w v → AtOpen x v
lane_told x w v new l acts =
    let q = ask.LaneOpen Responder gold_1 x.reference false 1 2 in
    let s = w.listening.spool in
    let made = step.LaneOpen Responder gold_1 x.reference false 1 2 s.moment in
    let t = responder l.right (phase.AsksNewLane false) (Some (open_of x)) (Some line_of_first) in
    let asked = asks_so w.listening v.listening w.link v.link acts.did q l.wants_is acts.acts in
    let rep = open_reply Responder gold_1 x.reference false 1 2 w.listening.session s v.listening.spool asked.answer
    asked.replied in
    let possible : IsPossible s made = record {
      allowed = record {
        named = names_so x s l.holds;
        room = omega (arith, ap (count_by (is_with Responder gold_1)) l.holds.lanes);
        new = subst (EachLane (λ (lane : Lane). lane.role ≡ Responder → lane.peer ≡ gold_1
            → lane.reference ≡ x.reference → ⊥)) (sym l.holds.lanes) tt;
        number = omega (arith, l.holds.count);
        checkpoint_fits = omega arith;
        window_fits = (omega arith, omega arith);
      };
      as_machine = tt;
      timely = omega arith;
      numbers = omega (arith, ap (λ (z : Machine). length z.items) (still_steps s made refl), l.holds.has.items);
    } in
    let is_made = made_so s v.listening.spool made rep.0 possible (omega (arith, l.holds.has.items)) rep.2 in
    let number : is_made.0 ≡ 1 = (let n : is_made.0 ≡ s.lanes.count + 1 =
    subst (λ z. IfOk z (λ n. n ≡ s.lanes.count + 1)) is_made.1 rep.3 in omega (arith, n, l.holds.count)) in
    let told = told_at w.listening v.listening (event.Reply asked.answer) w.listening.came t l.session_is asked.told in
    let link = untaken w.link v.link q refl asked.taken in
    let does = subst (λ y. Follows t (event.Reply y) v.listening.wants v.listening.session)
    (rep.1 ∙ ap reply.LaneOpen (is_made.1 ∙ ap Ok number)) told in
    let f : RecvEnd = record { high = 0; last = last.None; stage = r.Free; from = 0; acked = 0 } in
    Accepts f refl (record {
      right = l.right;
      listens = record {
        wants_is = does.0;
        session_is = does.1
            ∙ ap (λ (g : ℕ). record (listener x l.right phase.PutsAccept f) {
              generation = g;
              opened = Some (open_of x);
            }) (sym new.first)
            ∙ ap (λ (o : OpenUnit). record (listener x l.right phase.PutsAccept f) { opened = Some o })
            (sym new.opened);
        came_is = asked.told.came_is ∙ l.came_is;
      };
      got = 0;
      pieces = [];
      holds = subst (λ z. SecondHolds x z 0 0 last.None []) (sym is_made.2) (opened_after x s new l.holds);
      stands = record { got_is = refl; high_is = refl; last_is = refl; pieces_is = refl };
      room = omega (arith, l.room);
      up_is = up_same w v [] (acts.other ∙ ap (came_to w.calling) asked.put) l.up_is;
      whole_link = ap (λ (k : Link). k.is_broken) link ∙ l.whole_link;
      marks = subst (λ (k : Link). IsUntouched x 0 k.breaks) (sym link) l.marks;
    })

-- ---- Accept

accept_told : (x : Setting) (w v : World) (f : RecvEnd) → f.stage ≡ r.Free
    → Second x w 0 (StandsNone 0) (IsUntouched x 0) 0 (action.Put accept) phase.PutsAccept f [] [] → ListenerActs w v
    → AtOpen x v
accept_told x w v f free h acts =
    let told = listener_puts x w v h.right phase.PutsAccept f accept h.listens h.whole_link acts in
    let says = listener_goes x h.right phase.PutsAccept f v.listening.wants v.listening.session
    (subst (λ z. RecvFitsAt 1 z f) (sym free) tt) (none_high 0 h.got f.high f.last h.pieces h.stands) told.follows in
    let heard : Heard w v (accept ∷ []) (next_of_receiver f.stage (listener x h.right phase.Puts f)) = record {
      says = says;
      spool = told.spool;
      came_is = told.came_is;
      link = told.link;
      other = told.other;
    } in
    let said = heard_as w v (accept ∷ []) _ (action.Read, listener x h.right phase.Reads f)
    (ap (λ z. next_of_receiver z (listener x h.right phase.Puts f)) free) heard in
    Accepted f free
    (second_heard x w v 0 0 0 (StandsNone 0) (StandsNone 0) (IsUntouched x 0) (IsUntouched x 0) (action.Put accept)
    action.Read phase.PutsAccept phase.Reads f f [] [] (accept ∷ []) (accept ∷ []) h.right h refl refl said
    (omega arith) refl (λ got ps z. z) (λ b z. z))

at_open_goes : (x : Setting) (w v : World) → IsNew x → AtOpen x w → ListenerActs w v → AtOpen x v
at_open_goes x w v new (Open_came l) acts = open_comes x w v l acts
at_open_goes x w v new (Asks_peer l) acts = peer_told x w v l acts
at_open_goes x w v new (Asks_stands l) acts = stands_told x w v l acts
at_open_goes x w v new (Asks_lane l) acts = lane_told x w v new l acts
at_open_goes x w v new (Accepts f free h) acts = accept_told x w v f free h acts
at_open_goes x w v new (Accepted f free h) acts = absurd (waits_still w.listening v.listening w.link v.link acts.did
    h.listens.wants_is h.whole_link h.listens.came_is acts.acts)

pub open_rests : (x : Setting) (w : World) → AtOpen x w → ListenerRests w
    → (f : RecvEnd) × (f.stage ≡ r.Free)
    × Second x w 0 (StandsNone 0) (IsUntouched x 0) 0 action.Read phase.Reads f [] (accept ∷ [])
open_rests x w (Open_came l) rest = absurd (busy_reads w _ [] l.wants_is l.whole_link l.came_is rest)
open_rests x w (Asks_peer l) rest = absurd (busy_asks w _ l.wants_is rest)
open_rests x w (Asks_stands l) rest = absurd (busy_asks w _ l.wants_is rest)
open_rests x w (Asks_lane l) rest = absurd (busy_asks w _ l.wants_is rest)
open_rests x w (Accepts f free h) rest = absurd (busy_puts w _ h.listens.wants_is rest)
open_rests x w (Accepted f free h) rest = (f, free, h)

-- ---- the first agent

accept_pick : (b c : Bool) (p : Wanted) → b ≡ false → c ≡ true
    → (if b then Aborts 4 else (if c then p else Aborts 5)) ≡ p
accept_pick b c p e f = rw (e, f) refl

accept_reads : (x : Setting) (w v : World) → IsNew x → Opener x w 1 action.Read phase.ReadsAnswer → AtOpen x w
    → ListenerRests w → CallerActs w v → Opening x v
accept_reads x w v new h at rest acts =
    let has = open_rests x w at rest in
    let room : 16 * x.count + 16 + 1 ≤ h.left = h.room in
    let t = opener x h.left phase.ReadsAnswer in
    let told = caller_reads w v t accept [] h.wants_is h.session_is has.2.up_is has.2.whole_link acts in
    let does : Does (counted t (event.Unit accept)) (Asks (ask.LaneAgree 1 x.generation 1 2)
    (opener x (h.left - 1) phase.AsksAgree)) v.calling.wants v.calling.session
    = subst (λ z. Does (counted t (event.Unit accept)) z v.calling.wants v.calling.session)
    (pick_not (h.left - 1 == 0) (Aborts 3) _ (not_last h.left (omega (arith, room)))
    ∙ accept_pick x.recovering (bytes_eq east east && bytes_eq (codes "from-east") (codes "from-east")) _ new.new
    (both_same east (codes "from-east"))) told.follows in
    Agrees (record {
      left = h.left - 1;
      room = omega (arith, room);
      wants_is = does.0;
      session_is = does.1;
      holds = subst (FirstNew x) (sym told.spool) h.holds;
    }) has.0 has.1
    (second_stays x w v 0 0 0 0 (StandsNone 0) (StandsNone 0) (IsUntouched x 0) (IsUntouched x 0) has.0 (accept ∷ []) []
    has.2 told.other told.came_is told.link (omega arith) (λ got ps z. z) has.2.marks)

pub agree_reply : (n g size window : ℕ) (t : State) (s new : SpoolState) (y : Reply)
    → Replied (ask.LaneAgree n g size window) t s y new
    → (z : Result (Unit {0}) StepFault) × (y ≡ reply.LaneAgree z) × Made s (step.LaneAgree n g size window) z new
agree_reply n g size window t s new (reply.LaneAgree z) h = (z, refl, h)
agree_reply n g size window t s new any0 h = elim h [ ]

agrees_goes : (x : Setting) (w v : World) → Opener x w 0 (action.Ask (ask.LaneAgree 1 x.generation 1 2)) phase.AsksAgree
    → IsSized x → (f : RecvEnd) → f.stage ≡ r.Free
    → Second x w 0 (StandsNone 0) (IsUntouched x 0) 0 action.Read phase.Reads f [] [] → CallerActs w v → Opening x v
agrees_goes x w v h sized f free second acts =
    let q = ask.LaneAgree 1 x.generation 1 2 in
    let s = w.calling.spool in
    let made = step.LaneAgree 1 x.generation 1 2 in
    let small : x.count ≤ 1000 = sized.few in
    let t = opener x h.left phase.AsksAgree in
    let asked = asks_so w.calling v.calling w.link v.link acts.did q h.wants_is acts.acts in
    let rep = agree_reply 1 x.generation 1 2 w.calling.session s v.calling.spool asked.answer asked.replied in
    let possible : IsPossible s made = record {
      allowed = record {
        lane = new_lane_of x;
        lane_is = ap (lane_at 1) h.holds.lanes;
        current = refl;
        needs = (refl, refl, omega arith, omega arith, omega arith);
      };
      as_machine = tt;
      timely = omega arith;
      numbers = omega (
        arith,
        ap (λ (z : Machine). length z.items) (still_steps s made refl),
        h.holds.accepted.items,
        small,
      );
    } in
    let is_made = made_so s v.calling.spool made rep.0 possible (omega (arith, h.holds.accepted.items, small)) rep.2 in
    let told = told_at w.calling v.calling (event.Reply asked.answer) w.calling.came t h.session_is asked.told in
    let e = half_at (state.Idle 0) [] sending.Quiet in
    let goes : GoesOn (caller x h.left phase.AsksAgree e) v.calling.wants v.calling.session
    = subst (λ y. Follows t (event.Reply y) v.calling.wants v.calling.session)
    (rep.1 ∙ ap reply.LaneAgree is_made.1) told
    in
    let link = untaken w.link v.link q refl asked.taken in
    let lanes = lanes_so s made (new_lane_of x ∷ []) h.holds.lanes in
    let accepted = subst (λ (z : Machine). HasAccepted x.before x.count 0 z) (sym (still_steps s made refl))
    h.holds.accepted in
    Begins (stage.Looks 0 h.left f (record {
      within = omega arith;
      room = omega (arith, h.room);
      free = free;
      second = second_stays x w v 0 0 0 0 (StandsNone 0) (StandsNone 0) (IsUntouched x 0)
          (IsUntouched x 0) f [] [] second
          (acts.other ∙ ap (came_to w.listening) asked.put) (asked.told.came_is ∙ second.up_is) link (omega arith)
          (λ got ps z. z) second.marks;
    }) (record {
      says = caller_goes x h.left phase.AsksAgree e v.calling.wants v.calling.session refl goes;
      first = record {
        lanes = ap (λ (z : SpoolState). z.lanes.open_lanes) is_made.2 ∙ lanes;
        accepted = subst (λ (z : SpoolState). HasAccepted x.before x.count 0 z.machine) (sym is_made.2) accepted;
        moment = ap (λ (z : SpoolState). z.moment) is_made.2 ∙ h.holds.moment;
      };
    }))

-- ---- both

pub openings_listen : OpeningsListen
openings_listen x w v sized new (Opens h l) acts = absurd (waits_still w.listening v.listening w.link v.link acts.did
    l.wants_is l.whole_link l.came_is acts.acts)
openings_listen x w v sized new (Has_opened h at) acts = Has_opened (record {
  left = h.left;
  room = h.room;
  wants_is = ap (λ (p : Party). p.wants) acts.other ∙ h.wants_is;
  session_is = ap (λ (p : Party). p.session) acts.other ∙ h.session_is;
  holds = subst (λ (p : Party). FirstNew x p.spool) (sym acts.other) h.holds;
}) (at_open_goes x w v new at acts)
openings_listen x w v sized new (Agrees h f free second) acts =
    absurd (waits_still w.listening v.listening w.link v.link
    acts.did second.listens.wants_is second.whole_link second.listens.came_is acts.acts)
openings_listen x w v sized new (Begins h) acts = Begins (listener_goes_on x w v sized h acts)

pub openings_call : OpeningsCall
openings_call x w v sized new (Opens h l) rest acts = opens_goes x w v h l acts
openings_call x w v sized new (Has_opened h at) rest acts = accept_reads x w v new h at rest acts
openings_call x w v sized new (Agrees h f free second) rest acts = agrees_goes x w v h sized f free second acts
openings_call x w v sized new (Begins h) rest acts = Begins (caller_goes_on x w v sized h rest acts)
