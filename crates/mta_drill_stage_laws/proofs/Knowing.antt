-- What is known between sessions, and that none of them fails to begin.
use Rattle.std.proofs.Common.{◌≡◌, ◌<◌, ◌≤◌, ℕ, ◌+◌, ◌*◌, Bool, true, false, length}
use Rattle.std.proofs.Common.{Result, Ok, Err, refl, sym, ◌∙◌, ap, subst, arith}
use Rattle.std.specs.Option.{option_map}
use Rattle.mta_units.specs.declared.unit.Unit.TheVariants as unit
use Rattle.mta_lane_send.specs.declared.state.SendState.TheVariants as state
use Rattle.mta_records.specs.declared.lane.LaneRole.TheVariants.{Initiator}
use Rattle.mta_histories.specs.Lanes.{Lane, lane_at}
use Rattle.mta_histories.specs.Lanes.{State as SpoolState}
use Rattle.mta_session.specs.declared.ask.Ask.{Ask}
use Rattle.mta_session.specs.declared.ask.Ask.TheVariants as ask
use Rattle.mta_session.specs.declared.ask.Reply.{Reply}
use Rattle.mta_session.specs.declared.ask.Reply.TheVariants as reply
use Rattle.mta_session.specs.declared.event.Action.{Action}
use Rattle.mta_session.specs.declared.event.Action.TheVariants as action
use Rattle.mta_session.specs.declared.event.Event.TheVariants as event
use Rattle.mta_session.specs.declared.phase.Phase.TheVariants as phase
use Rattle.mta_session.specs.Fits.{Answers}
use Rattle.mta_session.specs.State.{State}
use Rattle.mta_drill_laws.specs.Tables.{east}
use Rattle.mta_drill_stage_laws.specs.Opening.{open_of}
use Rattle.mta_drill_stage_laws.specs.Recovering.{IsIn, Message, Nothing, UnderWay, again, again_of, reopener}
use Rattle.mta_drill_stage_laws.specs.Recovering.{state_of, transfer_in}
use Rattle.mta_drill_stage_laws.specs.Sessions.{Before_all, Behind, LooksAreHeard, NoneIsRefused, None_open}
use Rattle.mta_drill_stage_laws.specs.Sessions.{Not_bound, Not_opened, One_open, SessionsAreKnown}
use Rattle.mta_drill_stage_laws.specs.Settings.{FirstHolds, HasMore, Setting, first_lane, octets_behind, under_way}
use Rattle.mta_drill_stage_laws.specs.Starting.{HasBegun, units}
use Rattle.mta_drill_stage_laws.specs.World.{Asked, values_of}
use Rattle.mta_drill_stage_laws.proofs.Between.{again_sized, first_sized}
use Rattle.mta_drill_stage_laws.proofs.Hearing.{true_false}
use Rattle.mta_drill_stage_laws.proofs.Pieces.{octets-few}
use Rattle.mta_drill_stage_laws.proofs.Recovering.{first_binds, receiving_reply, recovery_reply, values_reply}
use Rattle.mta_drill_stage_laws.proofs.Starting.{All_looked, AtLook, At_octets, At_receiving, At_sending, At_values}
use Rattle.mta_drill_stage_laws.proofs.Starting.{IsCarried, ask_same, bound_at, carried, first_opens, lane_same, no_ask}
use Rattle.mta_drill_stage_laws.proofs.Starting.{none_some, opened_so, unknown}

pub sessions_known : SessionsAreKnown
sessions_known before count reference n first second b (Before_all x lane none since new one other marks) = record {
  lanes = None_open one.lanes one.count;
  first_tables = one.accepted.tables;
  second_tables = other.has.tables;
  first_moment = one.moment;
  second_moment = other.moment;
}
sessions_known before count reference n first second b
    (Behind x done u got high l pieces lane few since broken is one other stands marks) = record {
      lanes = One_open (first_lane x (state_of done u) (transfer_in u)) one.lanes refl refl refl lane.reference_is refl;
      first_tables = one.accepted.tables;
      second_tables = other.has.tables;
      first_moment = one.moment;
      second_moment = other.moment;
    }

abbrev is_ok : {T E : Type 0} → Result T E → Bool
is_ok (Ok t) = true
is_ok (Err e) = false

never_ok : {T E : Type 0} (t : T) (e : E) → ◌≡◌ {A = Result T E} (Err e) (Ok t) → ⊥
never_ok t e same = (let f : false ≡ true = ap is_ok same in absurd cc)

pub none_is_refused : NoneIsRefused
none_is_refused before count reference n first second new b drill
    (Before_all x lane none since is one other marks) (Not_opened f empty asked) =
    let asks = subst (λ r. Asked (ask.LaneOpen Initiator east r false 1 2) first (reply.LaneOpen (Err f)) new)
    (sym lane.reference_is) asked in
    let opens = first_opens x first new (Err f) (first_sized before count reference x drill lane) is one asks.0 asks.1
    in
    never_ok 1 f opens.0
none_is_refused before count reference n first second new b drill
    (Before_all x lane none since is one other marks) (Not_bound k f only asked) =
    none_some k (sym one.lanes ∙ only)
none_is_refused before count reference n first second new b drill
    (Behind x done u got high l pieces lane few since broken is one other stands marks) (Not_opened f empty asked) =
    none_some _ (sym empty ∙ one.lanes)
none_is_refused before count reference n first second new b drill
    (Behind x done u got high l pieces lane few since broken is one other stands marks) (Not_bound k f only asked) =
    let same : k ≡ first_lane x (state_of done u) (transfer_in u) =
    lane_same k (first_lane x (state_of done u) (transfer_in u)) (sym only ∙ one.lanes) in
    let asks : Asked (ask.Bind 1) first (reply.Bind (Err f)) new =
    subst (λ (z : Lane). Asked (ask.Bind z.number) first (reply.Bind (Err f)) new) same asked in
    let made = first_binds x first new done (state_of done u) (transfer_in u) (Err f)
    (again_sized before count reference n done u x drill lane is few) one asks in
    never_ok (x.generation + 1) f made.0

-- ---- looks

octets_heard : (x : Setting) (done c : ℕ) (whole : Bool) (y : Reply) → HasMore (octets_behind x done) c
    → IsCarried x done y
    → Answers (reopener x units (phase.AsksResumed (under_way whole (done + 1) c)) unknown) (event.Reply y)
octets_heard x done c true y more is =
    let t = reopener x units (phase.AsksResumed (state.Ending (done + 1) c)) unknown in
    let less : 1024 * c < length is.outgoing.octets = omega (arith, ap length is.octets, more) in
    let few : length is.outgoing.octets ≤ 2097152 = omega (arith, ap length is.octets, octets-few x done) in
    subst (λ z. Answers t (event.Reply z)) (sym is.answer) (few, (less, λ e. absurd (omega (arith, e))))
octets_heard x done c false y more is =
    let t = reopener x units (phase.AsksResumed (state.Sending (done + 1) c)) unknown in
    let less : 1024 * c < length is.outgoing.octets = omega (arith, ap length is.octets, more) in
    let few : length is.outgoing.octets ≤ 2097152 = omega (arith, ap length is.octets, octets-few x done) in
    subst (λ z. Answers t (event.Reply z)) (sym is.answer) (few, (less, λ e. absurd (omega (arith, e))))

look_heard : (x : Setting) (s : SpoolState) (done : ℕ) (u : UnderWay) (t : State) (a : Action) (q : Ask) (y : Reply)
    → FirstHolds (again x) s done (state_of done u) (transfer_in u) → IsIn (again x) done u → AtLook x done u t a
    → a ≡ action.Ask q → Asked q s y s → Answers t (event.Reply y)
look_heard x s done u t a q y holds is (At_values ea et) e asked =
    let known = record (reopener x units phase.AsksValues unknown) { agreed = false } in
    let rep = values_reply 1 t s s y (subst (λ z. Asked z s y s) (ask_same q (ask.Values 1) (sym e ∙ ea)) asked) in
    let values = rep.2 ∙ ap (λ ls. option_map values_of (lane_at 1 ls)) holds.lanes in
    subst (λ z. Answers z (event.Reply y)) (sym et)
    (subst (λ z. Answers known (event.Reply z)) (sym (rep.1 ∙ ap reply.Values values))
    ((omega arith, omega arith, omega arith), tt))
look_heard x s done u t a q y holds is (At_sending ea et) e asked =
    let known = reopener x units phase.AsksRecovery unknown in
    let rep = recovery_reply 1 t s s y (subst (λ z. Asked z s y s) (ask_same q (ask.Recovery 1) (sym e ∙ ea)) asked) in
    let half = rep.2 ∙ ap (λ ls. option_map (λ (k : Lane). k.sending) (lane_at 1 ls)) holds.lanes in
    subst (λ z. Answers z (event.Reply y)) (sym et)
    (subst (λ z. Answers known (event.Reply z)) (sym (rep.1 ∙ ap reply.Recovery half))
    (λ (none : true ≡ false). absurd (true_false true refl none)))
look_heard x s done u t a q y holds is (At_receiving ea et) e asked =
    let known = reopener x units (phase.AsksReceiving (state_of done u)) unknown in
    let rep = receiving_reply 1 t s s y (subst (λ z. Asked z s y s) (ask_same q (ask.Receiving 1) (sym e ∙ ea))
    asked) in
    let half = rep.2 ∙ ap (λ ls. option_map (λ (k : Lane). (k.high, k.last)) (lane_at 1 ls)) holds.lanes in
    subst (λ z. Answers z (event.Reply y)) (sym et)
    (subst (λ z. Answers known (event.Reply z)) (sym (rep.1 ∙ ap reply.Receiving half)) tt)
look_heard x s done Nothing t a q y holds is (At_octets busy ea et) e asked =
    (let f : true ≡ false = busy in absurd cc)
look_heard x s done (Message c whole transfer) t a q y holds is (At_octets busy ea et) e asked =
    subst (λ z. Answers z (event.Reply y)) (sym et)
    (octets_heard x done c whole y is.2 (carried x s done c whole transfer t y holds is busy
    (subst (λ z. Asked z s y s) (ask_same q (ask.Resumed 1) (sym e ∙ ea)) asked)))
look_heard x s done u t a q y holds is (All_looked ea et) e asked =
    absurd (no_ask (unit.Open (again_of x)) q (sym ea ∙ e))

pub looks_heard : LooksAreHeard
looks_heard before count reference n first second b p q y drill (Before_all x lane none since new one other marks)
    begun e asked =
    let has = opened_so x first p (first_sized before count reference x drill lane) new one
    (subst (λ r. HasBegun r first p) (sym lane.reference_is) begun) in
    absurd (no_ask (unit.Open (open_of x)) q (sym has.0 ∙ e))
looks_heard before count reference n first second b p q y drill
    (Behind x done u got high l pieces lane few since broken is one other stands marks) begun e asked =
    let at = bound_at x first p done u (again_sized before count reference n done u x drill lane is few) is one
    (subst (λ r. HasBegun r first p) (sym lane.reference_is) begun) in
    look_heard x p.spool done u p.session p.wants q y at.1 is at.0 e asked
