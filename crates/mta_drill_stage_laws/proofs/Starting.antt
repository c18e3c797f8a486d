-- Both agents begin a session.
use Rattle.std.proofs.Common.{◌≡◌, ◌≤◌, ℕ, ◌+◌, ◌*◌, Bool, true, false, List, [], ◌∷◌, ◌++◌, length}
use Rattle.std.proofs.Common.{Option, Some, None, Result, Ok, refl, sym, ◌∙◌, ap, subst, arith}
use Rattle.std.specs.Prelude.{IfOk, count_by}
use Rattle.std.specs.Option.{option_map}
use Rattle.mta_ber.specs.declared.memory.Memory.{Memory as NoMemory}
use Rattle.mta_units.specs.declared.unit.Unit.{Unit as AnyUnit}
use Rattle.mta_units.specs.declared.unit.Unit.TheVariants as unit
use Rattle.mta_lane_send.specs.declared.state.SendState.TheVariants as state
use Rattle.mta_lane_send.specs.Half.{is_idle}
use Rattle.mta_lane_recv.specs.declared.state.Last.TheVariants as last
use Rattle.mta_transfer_rules.specs.Sending as sending
use Rattle.mta_transfer_rules.specs.Sending.{SendEnd}
use Rattle.mta_records.specs.Outgoing.{Carried}
use Rattle.mta_records.specs.declared.fault.StepFault.{StepFault}
use Rattle.mta_records.specs.declared.lane.LaneRole.TheVariants.{Initiator}
use Rattle.mta_records.specs.declared.step.Step.TheVariants as step
use Rattle.mta_machine.specs.Items.{Machine, numbered}
use Rattle.mta_histories.specs.History.{IsPossible, NamesPeer, after_step, is_with, new_lane}
use Rattle.mta_histories.specs.Lanes.{EachLane, Lane, Transfer, lane_at}
use Rattle.mta_histories.specs.Lanes.{State as SpoolState}
use Rattle.mta_session.specs.declared.ask.Ask.{Ask}
use Rattle.mta_session.specs.declared.ask.Ask.TheVariants as ask
use Rattle.mta_session.specs.declared.ask.Reply.{Reply}
use Rattle.mta_session.specs.declared.ask.Reply.TheVariants as reply
use Rattle.mta_session.specs.declared.event.Action.{Action}
use Rattle.mta_session.specs.declared.event.Action.TheVariants as action
use Rattle.mta_session.specs.declared.event.Event.TheVariants as event
use Rattle.mta_session.specs.declared.phase.Phase.TheVariants as phase
use Rattle.mta_session.specs.Follows.{Follows}
use Rattle.mta_session.specs.Session.{new_initiator}
use Rattle.mta_session.specs.State.{State}
use Rattle.mta_drill_laws.specs.Tables.{east}
use Rattle.mta_drill_laws.proofs.TablesRead.{both_are_read}
use Rattle.mta_drill_step_laws.specs.First.{HasAccepted}
use Rattle.mta_drill_step_laws.proofs.States.{still_steps}
use Rattle.mta_drill_stage_laws.specs.Laws.{FirstSessionsBegin, LaterSessionsBegin}
use Rattle.mta_drill_stage_laws.specs.Opening.{FirstFresh, FirstNew, IsNew, new_lane_of, open_of, opener}
use Rattle.mta_drill_stage_laws.specs.Opening as opening
use Rattle.mta_drill_stage_laws.specs.Recovering.{IsIn, Message, Nothing, UnderWay, again, again_of}
use Rattle.mta_drill_stage_laws.specs.Recovering.{reopener, state_of, transfer_in, waiting}
use Rattle.mta_drill_stage_laws.specs.Recovering as recovering
use Rattle.mta_drill_stage_laws.specs.Settings.{FirstHolds, IsSized, SecondHolds, Setting, first_lane, half_at}
use Rattle.mta_drill_stage_laws.specs.Settings.{octets_behind, under_way}
use Rattle.mta_drill_stage_laws.specs.Starting.{Calls, HasBegun, HasLooked, Look, Looks, On_new, On_old}
use Rattle.mta_drill_stage_laws.specs.Starting.{WantsNoLook, plan_at, units}
use Rattle.mta_drill_stage_laws.specs.World.{Asked, Made, IsLane, Party, Replied, Resumes, values_of}
use Rattle.mta_drill_stage_laws.proofs.Recovering.{first_binds, receiving_reply, recovery_reply, values_reply}
use Rattle.mta_drill_stage_laws.proofs.Spools.{made_so}

-- ---- words

abbrev ask_in : Action → Ask
ask_in (action.Ask q) = q
ask_in a = ask.Values 0

abbrev is_asking : Action → Bool
is_asking (action.Ask q) = true
is_asking a = false

pub ask_same : (p q : Ask) → action.Ask p ≡ action.Ask q → p ≡ q
ask_same p q e = ap ask_in e

pub no_ask : (y : AnyUnit) (q : Ask) → action.Put y ≡ action.Ask q → ⊥
no_ask y q e = (let f : false ≡ true = ap is_asking e in absurd cc)

abbrev first_in : Lane → List Lane → Lane
first_in lane [] = lane
first_in lane (k ∷ ks) = k

pub lane_same : (a b : Lane) → a ∷ [] ≡ b ∷ [] → a ≡ b
lane_same a b e = ap (first_in a) e

abbrev some_in : List Lane → Bool
some_in [] = false
some_in (k ∷ ks) = true

pub none_some : (lane : Lane) → [] ≡ lane ∷ [] → ⊥
none_some lane e = (let f : false ≡ true = ap some_in e in absurd cc)

-- ---- looks at a lane that is recovered

-- nothing is known of the sending half yet
abbrev pub unknown : SendEnd
unknown = record (half_at (state.Idle 0) [] sending.Quiet) { accepted = false }

-- which look is next, or that all are done
pub data AtLook (x : Setting) (done : ℕ) (u : UnderWay) (t : State) (a : Action) : Type 0 where
  At_values : a ≡ action.Ask (ask.Values 1)
      → t ≡ record (reopener x units phase.AsksValues unknown) { agreed = false } → AtLook x done u t a
  At_sending : a ≡ action.Ask (ask.Recovery 1) → t ≡ reopener x units phase.AsksRecovery unknown
      → AtLook x done u t a
  At_receiving : a ≡ action.Ask (ask.Receiving 1)
      → t ≡ reopener x units (phase.AsksReceiving (state_of done u)) unknown → AtLook x done u t a
  At_octets : is_idle (state_of done u) ≡ false → a ≡ action.Ask (ask.Resumed 1)
      → t ≡ reopener x units (phase.AsksResumed (state_of done u)) unknown → AtLook x done u t a
  All_looked : a ≡ action.Put (unit.Open (again_of x)) → t ≡ reopener x units phase.PutsOpen (waiting x done u)
      → AtLook x done u t a

resumed_reply : (n : ℕ) (t : State) (s new : SpoolState) (y : Reply) → Replied (ask.Resumed n) t s y new
    → (z : Result (Option Carried) NoMemory) × (y ≡ reply.Resumed z)
    × ((lane : Lane) (k : Transfer) → IsLane s n lane → is_idle lane.sending ≡ false → lane.transfer ≡ Some k
    → IfOk z (λ o. Resumes o lane k))
    × (o : Option Carried) × (z ≡ Ok o)
resumed_reply n t s new (reply.Resumed z) h = (z, refl, h.0, h.1, h.2)
resumed_reply n t s new any0 h = elim h [ ]

-- what is carried on with
pub record IsCarried (x : Setting) (done : ℕ) (y : Reply) : Type 0 where
  pub outgoing : Carried
  pub answer : y ≡ reply.Resumed (Ok (Some outgoing))
  pub octets : outgoing.octets ≡ octets_behind x done

pub carried : (x : Setting) (s : SpoolState) (done c : ℕ) (whole : Bool) (transfer : Transfer) (t : State) (y : Reply)
    → FirstHolds (again x) s done (under_way whole (done + 1) c) (Some transfer)
    → IsIn (again x) done (Message c whole transfer) → is_idle (under_way whole (done + 1) c) ≡ false
    → Asked (ask.Resumed 1) s y s → IsCarried x done y
carried x s done c whole transfer t y holds is busy asked =
    let rep = resumed_reply 1 t s s y asked in
    let lane = first_lane (again x) (under_way whole (done + 1) c) (Some transfer) in
    let resumes = rep.2 lane transfer (ap (lane_at 1) holds.lanes) busy refl in
    by rep.3 (subst (λ z. IfOk z (λ o. Resumes o lane transfer)) rep.4 resumes) (rep.1 ∙ ap reply.Resumed rep.4)
  where
    by : (o : Option Carried)
        → Resumes o (first_lane (again x) (under_way whole (done + 1) c) (Some transfer)) transfer
        → y ≡ reply.Resumed (Ok o) → IsCarried x done y
    by None h e = elim h [ ]
    by (Some o) h e = record { outgoing = o; answer = e; octets = h.1 ∙ is.1.octets }

-- the sending half is told, and its transfer where it has one
receiving_on : (x : Setting) (done : ℕ) (u : UnderWay) (b : Action) (v : State)
    → Follows (reopener x units (phase.AsksReceiving (state_of done u)) unknown)
    (event.Reply (reply.Receiving (Some (0, last.None)))) b v
    → AtLook x done u v b
receiving_on x done Nothing b v h = All_looked h.0 h.1
receiving_on x done (Message c true transfer) b v h = At_octets refl h.0 h.1
receiving_on x done (Message c false transfer) b v h = At_octets refl h.0 h.1

octets_on : (x : Setting) (done c : ℕ) (whole : Bool) (transfer : Transfer) (y : Reply) (b : Action) (v : State)
    → IsCarried x done y
    → Follows (reopener x units (phase.AsksResumed (under_way whole (done + 1) c)) unknown) (event.Reply y) b v
    → AtLook x done (Message c whole transfer) v b
octets_on x done c true transfer y b v is h =
    let st = state.Ending (done + 1) c in
    let t = reopener x units (phase.AsksResumed st) unknown in
    let does = subst (λ z. Follows t (event.Reply z) b v) is.answer h in
    All_looked does.0 (does.1 ∙ ap (λ (o : List ℕ). reopener x units phase.PutsOpen
    (record (half_at st o sending.Opened) { accepted = false })) is.octets)
octets_on x done c false transfer y b v is h =
    let st = state.Sending (done + 1) c in
    let t = reopener x units (phase.AsksResumed st) unknown in
    let does = subst (λ z. Follows t (event.Reply z) b v) is.answer h in
    All_looked does.0 (does.1 ∙ ap (λ (o : List ℕ). reopener x units phase.PutsOpen
    (record (half_at st o sending.Opened) { accepted = false })) is.octets)

-- one look leads to the next one
look_goes : (x : Setting) (s : SpoolState) (done : ℕ) (u : UnderWay) (t : State) (a : Action) (q : Ask) (y : Reply)
    (b : Action) (v : State) → FirstHolds (again x) s done (state_of done u) (transfer_in u) → IsIn (again x) done u
    → AtLook x done u t a → a ≡ action.Ask q → Asked q s y s → Follows t (event.Reply y) b v → AtLook x done u v b
look_goes x s done u t a q y b v holds is (At_values ea et) e asked follows =
    let known = record (reopener x units phase.AsksValues unknown) { agreed = false } in
    let rep = values_reply 1 t s s y (subst (λ z. Asked z s y s) (ask_same q (ask.Values 1) (sym e ∙ ea)) asked) in
    let values = rep.2 ∙ ap (λ ls. option_map values_of (lane_at 1 ls)) holds.lanes in
    let does = subst (λ z. Follows known (event.Reply z) b v) (rep.1 ∙ ap reply.Values values)
    (subst (λ z. Follows z (event.Reply y) b v) et follows) in
    At_sending does.0 does.1
look_goes x s done u t a q y b v holds is (At_sending ea et) e asked follows =
    let known = reopener x units phase.AsksRecovery unknown in
    let rep = recovery_reply 1 t s s y (subst (λ z. Asked z s y s) (ask_same q (ask.Recovery 1) (sym e ∙ ea)) asked) in
    let half = rep.2 ∙ ap (λ ls. option_map (λ (k : Lane). k.sending) (lane_at 1 ls)) holds.lanes in
    let does = subst (λ z. Follows known (event.Reply z) b v) (rep.1 ∙ ap reply.Recovery half)
    (subst (λ z. Follows z (event.Reply y) b v) et follows) in
    At_receiving does.0 does.1
look_goes x s done u t a q y b v holds is (At_receiving ea et) e asked follows =
    let known = reopener x units (phase.AsksReceiving (state_of done u)) unknown in
    let rep = receiving_reply 1 t s s y (subst (λ z. Asked z s y s) (ask_same q (ask.Receiving 1) (sym e ∙ ea))
    asked) in
    let half = rep.2 ∙ ap (λ ls. option_map (λ (k : Lane). (k.high, k.last)) (lane_at 1 ls)) holds.lanes in
    receiving_on x done u b v (subst (λ z. Follows known (event.Reply z) b v) (rep.1 ∙ ap reply.Receiving half)
    (subst (λ z. Follows z (event.Reply y) b v) et follows))
look_goes x s done Nothing t a q y b v holds is (At_octets busy ea et) e asked follows =
    (let f : true ≡ false = busy in absurd cc)
look_goes x s done (Message c whole transfer) t a q y b v holds is (At_octets busy ea et) e asked follows =
    octets_on x done c whole transfer y b v
    (carried x s done c whole transfer t y holds is busy
    (subst (λ z. Asked z s y s) (ask_same q (ask.Resumed 1) (sym e ∙ ea)) asked))
    (subst (λ z. Follows z (event.Reply y) b v) et follows)
look_goes x s done u t a q y b v holds is (All_looked ea et) e asked follows =
    absurd (no_ask (unit.Open (again_of x)) q (sym ea ∙ e))

pub looks_lead : (x : Setting) (s : SpoolState) (done : ℕ) (u : UnderWay) (t : State) (a : Action) (xs : List Look)
    (v : State) (b : Action) → FirstHolds (again x) s done (state_of done u) (transfer_in u) → IsIn (again x) done u
    → AtLook x done u t a → Looks s t a xs v b → AtLook x done u v b
looks_lead x s done u t a [] v b holds is at h =
    subst (λ z. AtLook x done u z b) (sym h.0) (subst (λ z. AtLook x done u t z) (sym h.1) at)
looks_lead x s done u t a (l ∷ ls) v b holds is at h =
    looks_lead x s done u l.session l.wants ls v b holds is
    (look_goes x s done u t a l.question l.answer l.wants l.session holds is at h.0 h.2 h.3) h.4

-- and all are done where none is wanted
pub looked_all : (x : Setting) (done : ℕ) (u : UnderWay) (t : State) (a : Action) → AtLook x done u t a → WantsNoLook a
    → (a ≡ action.Put (unit.Open (again_of x))) × (t ≡ reopener x units phase.PutsOpen (waiting x done u))
looked_all x done u t a (At_values ea et) all = absurd (all (ask.Values 1) ea refl)
looked_all x done u t a (At_sending ea et) all = absurd (all (ask.Recovery 1) ea refl)
looked_all x done u t a (At_receiving ea et) all = absurd (all (ask.Receiving 1) ea refl)
looked_all x done u t a (At_octets busy ea et) all = absurd (all (ask.Resumed 1) ea refl)
looked_all x done u t a (All_looked ea et) all = (ea, et)

begins_looking : (x : Setting) (done : ℕ) (u : UnderWay) (first : Action) (session : State)
    → Follows (new_initiator (plan_at 1 x.reference true (x.generation + 1)) units) event.Go first session
    → AtLook x done u session first
begins_looking x done u first session h = At_values h.0 h.1

-- ---- the lane is bound

-- it looks at the lane, which is bound
pub bound_at : (x : Setting) (s : SpoolState) (p : Party) (done : ℕ) (u : UnderWay) → IsSized (again x)
    → IsIn (again x) done u → FirstHolds x s done (state_of done u) (transfer_in u) → HasBegun x.reference s p
    → AtLook x done u p.session p.wants × FirstHolds (again x) p.spool done (state_of done u) (transfer_in u)
bound_at x s p done u sized is holds (On_new number none asked looked) =
    absurd (none_some _ (sym none ∙ holds.lanes))
bound_at x s p done u sized is holds (On_old lane generation one asked looked) =
    let is_lane : lane ≡ first_lane x (state_of done u) (transfer_in u) =
    lane_same lane (first_lane x (state_of done u) (transfer_in u)) (sym one ∙ holds.lanes) in
    let asks : Asked (ask.Bind 1) s (reply.Bind (Ok generation)) p.spool =
    subst (λ (k : Lane). Asked (ask.Bind k.number) s (reply.Bind (Ok generation)) p.spool) is_lane asked in
    let made = first_binds x s p.spool done (state_of done u) (transfer_in u) (Ok generation) sized holds asks in
    let number : generation ≡ x.generation + 1 =
    subst (λ z. IfOk z (λ g. g ≡ x.generation + 1)) (sym made.0) refl in
    let looks = subst (λ (g : ℕ). HasLooked p.spool (plan_at 1 x.reference true g) p.session p.wants) number
    (subst (λ (k : Lane). HasLooked p.spool (plan_at k.number k.reference true generation) p.session p.wants)
    is_lane looked) in (
      looks_lead x p.spool done u looks.session looks.first looks.looks p.session p.wants made.1 is
          (begins_looking x done u looks.first looks.session looks.follows) looks.looked,
      made.1,
    )

bound_so : (x : Setting) (s : SpoolState) (p : Party) (done : ℕ) (u : UnderWay) → IsSized (again x)
    → IsIn (again x) done u → FirstHolds x s done (state_of done u) (transfer_in u) → Calls x.reference s p
    → (p.wants ≡ action.Put (unit.Open (again_of x)))
    × (p.session ≡ reopener x units phase.PutsOpen (waiting x done u))
    × FirstHolds (again x) p.spool done (state_of done u) (transfer_in u)
bound_so x s p done u sized is holds calls =
    let at = bound_at x s p done u sized is holds calls.begun in
    let all = looked_all x done u p.session p.wants at.0 calls.all in
    (all.0, all.1, at.1)

pub later_sessions_begin : LaterSessionsBegin
later_sessions_begin x first second w done u got high l pieces sized is holds others stands marks whole calls listens =
    let has = bound_so x first w.calling done u sized is holds calls in
    let small : x.count ≤ 1000 = sized.few in
    let left : 16 * x.count + 17 + 1 ≤ 1048576 = omega (arith, small) in
    let right : 16 * x.count + 16 + 1 ≤ 1048576 = omega (arith, small) in
    recovering.Opens done u (record {
      is = is;
      left = units;
      room = left;
      wants_is = has.0;
      session_is = has.1;
      holds = has.2;
    }) (record {
      right = units;
      room = right;
      wants_is = listens.follows.0;
      session_is = listens.follows.1;
      came_is = listens.came_is;
      got = got;
      high = high;
      latest = l;
      pieces = pieces;
      holds = subst (λ z. SecondHolds x z got high l pieces) (sym listens.spool_is) others;
      stands = stands;
      up_is = calls.came_is;
      whole_link = whole;
      marks = marks;
    })

-- ---- the lane is opened

opened_after : (x : Setting) (s : SpoolState) → IsNew x → FirstFresh x s
    → FirstNew x (after_step s (step.LaneOpen Initiator east x.reference false 1 2 s.moment))
opened_after x s new h =
    let made = step.LaneOpen Initiator east x.reference false 1 2 s.moment in
    record {
      lanes = ap (λ (ls : List Lane). ls ++ new_lane (s.lanes.count + 1) Initiator east x.reference false 1 2 ∷ [])
          h.lanes
          ∙ ap (λ (c : ℕ). new_lane (c + 1) Initiator east x.reference false 1 2 ∷ []) h.count
          ∙ ap (λ (g : ℕ). record (new_lane_of x) { generation = g } ∷ []) (sym new.first);
      accepted = subst (λ (m : Machine). HasAccepted x.before x.count 0 m) (sym (still_steps s made refl)) h.accepted;
      moment = h.moment;
    }

-- a lane may be opened where none is
pub first_opens : (x : Setting) (s new : SpoolState) (z : Result ℕ StepFault) → IsSized x → IsNew x → FirstFresh x s
    → Made s (step.LaneOpen Initiator east x.reference false 1 2 s.moment) z new
    → IfOk z (λ n. n ≡ s.lanes.count + 1) → (z ≡ Ok 1) × FirstNew x new
first_opens x s new z sized is h made_is number_is =
    let made = step.LaneOpen Initiator east x.reference false 1 2 s.moment in
    let small : x.count ≤ 1000 = sized.few in
    let possible : IsPossible s made = record {
      allowed = record {
        named = subst (λ (ts : List (List ℕ)). NamesPeer (numbered ts (length ts)) east) (sym h.accepted.tables)
            both_are_read.first_names;
        room = omega (arith, ap (count_by (is_with Initiator east)) h.lanes);
        new = subst (EachLane (λ (lane : Lane). lane.role ≡ Initiator → lane.peer ≡ east
            → lane.reference ≡ x.reference → ⊥)) (sym h.lanes) tt;
        number = omega (arith, h.count);
        checkpoint_fits = omega arith;
        window_fits = (omega arith, omega arith);
      };
      as_machine = tt;
      timely = omega arith;
      numbers = omega (
        arith,
        ap (λ (m : Machine). length m.items) (still_steps s made refl),
        h.accepted.items,
        small,
      );
    } in
    let is_made = made_so s new made z possible (omega (arith, h.accepted.items, small)) made_is in
    let number : is_made.0 ≡ 1 = (let n : is_made.0 ≡ s.lanes.count + 1 =
    subst (λ y. IfOk y (λ n. n ≡ s.lanes.count + 1)) is_made.1 number_is in omega (arith, n, h.count)) in (
      is_made.1 ∙ ap Ok number,
      subst (FirstNew x) (sym is_made.2) (opened_after x s is h),
    )

-- the session puts Open at once
pub opens_looking : (x : Setting) (s : SpoolState) (t : State) (a : Action) → IsNew x
    → HasLooked s (plan_at 1 x.reference false 1) t a
    → (a ≡ action.Put (unit.Open (open_of x))) × (t ≡ opener x units phase.PutsOpen)
opens_looking x s t a new h = by h.looks h.looked
  where
    session : h.session ≡ opener x units phase.PutsOpen
    session = h.follows.1
        ∙ ap (λ (g : ℕ). opener (record x { recovering = false; generation = g }) units phase.PutsOpen)
        (sym new.first)
        ∙ ap (λ (b : Bool). opener (record x { recovering = b }) units phase.PutsOpen) (sym new.new)

    by : (xs : List Look) → Looks s h.session h.first xs t a
        → (a ≡ action.Put (unit.Open (open_of x))) × (t ≡ opener x units phase.PutsOpen)
    by [] k = (k.1 ∙ h.follows.0, k.0 ∙ session)
    by (l ∷ ls) k = absurd (no_ask (unit.Open (open_of x)) l.question (sym h.follows.0 ∙ k.0))

pub opened_so : (x : Setting) (s : SpoolState) (p : Party) → IsSized x → IsNew x → FirstFresh x s
    → HasBegun x.reference s p
    → (p.wants ≡ action.Put (unit.Open (open_of x))) × (p.session ≡ opener x units phase.PutsOpen)
    × FirstNew x p.spool
opened_so x s p sized new h (On_old lane generation one asked looked) = absurd (none_some lane (sym h.lanes ∙ one))
opened_so x s p sized new h (On_new number none asked looked) =
    let opens = first_opens x s p.spool (Ok number) sized new h asked.0 asked.1 in
    let one : number ≡ 1 = (let n : number ≡ s.lanes.count + 1 = asked.1 in omega (arith, n, h.count)) in
    let all = opens_looking x p.spool p.session p.wants new
    (subst (λ (n : ℕ). HasLooked p.spool (plan_at n x.reference false 1) p.session p.wants) one looked) in
    (all.0, all.1, opens.1)

pub first_sessions_begin : FirstSessionsBegin
first_sessions_begin x first second w sized new h others marks whole calls listens =
    let has = opened_so x first w.calling sized new h calls.begun in
    let small : x.count ≤ 1000 = sized.few in
    let room : 16 * x.count + 16 + 1 ≤ 1048576 = omega (arith, small) in
    opening.Opens (record {
      left = units;
      room = room;
      wants_is = has.0;
      session_is = has.1;
      holds = has.2;
    }) (record {
      right = units;
      room = room;
      wants_is = listens.follows.0;
      session_is = listens.follows.1;
      came_is = listens.came_is;
      holds = subst (opening.SecondNew x) (sym listens.spool_is) others;
      up_is = calls.came_is;
      whole_link = whole;
      marks = marks;
    })
