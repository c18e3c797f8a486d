-- A reply is one to its question: what a worker is told by the spool, the session may be told.
use Rattle.std.proofs.Common.{◌≡◌, ℕ, ◌+◌, ◌*◌, ◌≤◌, ◌^◌, Bool, true, false, cond, [], length}
use Rattle.std.proofs.Common.{Option, None, Some, Ok, Err, inl, inr, refl, sym, ap, subst, ◌∙◌, option_map}
use Rattle.std.proofs.lemmas.Bool.{cases_lt}
use Rattle.mta_edge.specs.Views.{ClockView, DiskView}
use Rattle.mta_lane_recv.specs.declared.state.Last.{Last}
use Rattle.mta_lane_send.specs.Half.{FitsState, is_idle, last_of}
use Rattle.mta_lane_send.specs.declared.state.SendState.{SendState}
use Rattle.mta_records.specs.Outgoing.{Carried}
use Rattle.mta_records.specs.declared.lane.LaneRole.{LaneRole}
use Rattle.mta_records.specs.declared.lane.LaneRole.TheVariants.{Responder}
use Rattle.mta_records.specs.declared.lane.LaneValues.{LaneValues}
use Rattle.mta_records.specs.declared.step.Step.TheVariants as step
use Rattle.mta_histories.specs.Classes.{bind}
use Rattle.mta_histories.specs.History.{IsPossible, on_lane_after}
use Rattle.mta_histories.specs.Kept.{IsFilled, IsKept, IsWhole}
use Rattle.mta_histories.specs.Lanes.{Lane, lane_at, State}
use Rattle.mta_histories.proofs.LaneLists.{each-at}
use Rattle.mta_lane_match_laws.specs.Asks.{IsAskOf, IsLaneOf}
use Rattle.mta_lane_match_laws.specs.Looks.{HasRole, HasValues}
use Rattle.mta_lane_match_laws.specs.Matches.{WhereOpen}
use Rattle.mta_session.specs.Fits.{AnswersAt, CarriesOn, HalfFits, IsTold, LaneFits, ResumedFits}
use Rattle.mta_session.specs.Follows.{Does}
use Rattle.mta_session.specs.State.{in_phase, State as Session, with_values}
use Rattle.mta_session.specs.Wanted.{Aborts, answers_link, Asks, on_bind, Rejects, restored, Wanted, wanted_of_reply}
use Rattle.mta_session.specs.Wanted.{with_received}
use Rattle.mta_session.specs.declared.ask.Ask.{Ask}
use Rattle.mta_session.specs.declared.ask.Ask.TheVariants as ask
use Rattle.mta_session.specs.declared.ask.Reply.{Reply}
use Rattle.mta_session.specs.declared.ask.Reply.TheVariants as reply
use Rattle.mta_session.specs.declared.event.Action.{Action}
use Rattle.mta_session.specs.declared.event.Event.TheVariants as event
use Rattle.mta_session.specs.declared.phase.Phase.{Phase}
use Rattle.mta_session.specs.declared.phase.Phase.TheVariants as phase
use Rattle.mta_session_list_laws.proofs.Found.{never}
use Rattle.mta_spool.specs.Looking.{IsFirstNamed, values_of}
use Rattle.mta_spool.specs.OnLanes.{next_generation}
use Rattle.mta_spool.specs.Shown.{Shown}
use Rattle.mta_spool.specs.Stands.{Appends}
use Rattle.mta_spool.specs.Starting.{IsResumed}
use Rattle.mta_worker.specs.Answers.{Answered, Binds, lanes_of}
use Rattle.mta_worker.specs.Turns.{Replied}
use Rattle.mta_worker_list_laws.proofs.Calm.{bind_calm, does_calm, is_looking, IsCalm, link_calm, reply_calm}
use Rattle.mta_worker_list_laws.proofs.Known.{agreed_for, calm_knows, carried_total, carries_on, first_answered}
use Rattle.mta_worker_list_laws.proofs.Known.{has_role}
use Rattle.mta_worker_list_laws.proofs.Known.{IsAnswered, IsSeen, Knows, KnowsAt, put_then}
use Rattle.mta_worker_list_laws.proofs.Making.{past_last, WasPossible}

-- ---- a lane that was bound

pub record IsBound (n g : ℕ) (old new : State) : Type 0 where
  pub was : Lane
  pub was_is : lane_at n old.lanes.open_lanes ≡ Some was
  pub lane : Lane
  pub lane_is : lane_at n new.lanes.open_lanes ≡ Some lane
  pub generation_is : lane.generation ≡ g
  pub role_is : lane.role ≡ was.role
  pub peer_is : lane.peer ≡ was.peer

module _ {D C : Type 0} (disks : DiskView D) (clocks : ClockView C) where
  bound_at : (n g h : ℕ) (old new : Shown D C) → Appends disks (step.Bind n h) old new None
      → IsPossible old.current (step.Bind n h) → g ≡ next_generation (lane_at n (lanes_of old))
      → IsBound n g old.current new.current
  bound_at n g h old new a may is =
      let l : Lane = may.allowed.lane in
      let next : Lane = record l { generation = l.generation + 1 } in
      let lanes : lanes_of new ≡ on_lane_after old.current (Some l) bind old.current.moment =
      ap (λ (s : State). s.lanes.open_lanes) (a.changed refl)
      ∙ ap (λ (z : Option Lane). on_lane_after old.current z bind old.current.moment) may.allowed.lane_is in
      record {
        was = l;
        was_is = may.allowed.lane_is;
        lane = next;
        lane_is = put_then n l next (lanes_of old) (lanes_of new) may.allowed.lane_is refl lanes;
        generation_is = sym (is ∙ ap next_generation may.allowed.lane_is);
        role_is = refl;
        peer_is = refl;
      }

  pub lane_bound : (n g : ℕ) (old new : Shown D C) → Binds disks clocks n old (Ok g) new → WasPossible old new
      → IsBound n g old.current new.current
  lane_bound n g old new b may =
      elim (cases_lt (next_generation (lane_at n (lanes_of old))) (2 ^ 64)) [
        | inl l ↦ bound_at n g (next_generation (lane_at n (lanes_of old))) old new (b.0 l) (may _ (b.0 l).entries) b.2
        | inr past ↦ absurd (past_last g old.journal.ended _ _ (b.1 past).1)
      ]

-- ---- looks in the turn of a Bind

-- the lane is kept, as long as it is open
record IsOpen (n : ℕ) (s : State) (lane : Lane) : Type 0 where
  whole : IsWhole lane
  filled : IsFilled lane

open_lane : (n : ℕ) (s : State) (lane : Lane) → IsKept s → lane_at n s.lanes.open_lanes ≡ Some lane → IsOpen n s lane
open_lane n s lane kept at = record {
  whole = each-at IsWhole s.lanes.open_lanes n lane at kept.whole;
  filled = each-at IsFilled s.lanes.open_lanes n lane at kept.filled;
}

values_answer : (t : Session) (lane : Lane) → IsWhole lane → IsFilled lane → HasRole t.side lane.role
    → LaneFits t.side (Some (values_of lane))
values_answer t lane whole filled role =
    ((whole.checkpoint_fits, whole.window_fits.0, whole.window_fits.1), agreed_for t.side lane filled role)

resumed_answers : (t : Session) (state : SendState) (lane : Lane) (o : Carried) → IsWhole lane → IsFilled lane
    → lane.checkpoint ≡ t.checkpoint → lane.sending ≡ state → IsResumed (Some lane) (Some o)
    → ResumedFits t.checkpoint state (Ok (Some o))
resumed_answers t state lane o whole filled size same is =
    let total = carried_total lane.transfer (last_of lane.sending) o is.1 in
    let fits : FitsState lane.checkpoint lane.sending (length o.octets) =
    subst (λ (n : ℕ). FitsState lane.checkpoint lane.sending n) total whole.sending in (
      subst (λ (n : ℕ). n ≤ 2097152) total (filled.not_too_many is.0),
      subst (λ (c : ℕ). CarriesOn (1024 * c) state o.octets) size
          (subst (λ (x : SendState). CarriesOn (1024 * lane.checkpoint) x o.octets) same
          (carries_on lane.checkpoint lane.sending o.octets fits)),
    )

not_resumed : (state : SendState) (lane : Lane) → lane.sending ≡ state → is_idle state ≡ false
    → IsResumed (Some lane) None → ⊥
not_resumed state lane same busy is = never (sym busy ∙ ap is_idle (sym same) ∙ is)

-- the values, once they are told, are the lane's
told_values : (t : Session) (lane : Lane) → lane.generation ≡ t.generation
    → HasValues (in_phase (with_values (record t { twa = lane.twa; agreed = lane.agreed }) lane.checkpoint lane.window)
    phase.AsksRecovery) lane
told_values t lane same =
    record { generation = same; agreed = refl; twa = refl; checkpoint = refl; window = refl }

-- the same of the session in another phase, and with what is told of the receiving half
in_values : (t : Session) (p : Phase) (lane : Lane) → HasValues t lane → HasValues (in_phase t p) lane
in_values t p lane v = record {
  generation = v.generation;
  agreed = v.agreed;
  twa = v.twa;
  checkpoint = v.checkpoint;
  window = v.window;
}

received_values : (t : Session) (x : ℕ × Last) (p : Phase) (lane : Lane) → HasValues t lane
    → HasValues (in_phase (with_received t x) p) lane
received_values t x p lane v = record {
  generation = v.generation;
  agreed = v.agreed;
  twa = v.twa;
  checkpoint = v.checkpoint;
  window = v.window;
}

-- ---- what the session knows once it is told

module _ (t : Session) (a : Action) (u : Session) (s : State) where
  then_knows : (w : Wanted) → IsCalm w → Does t w a u → Knows u s
  then_knows w i d = calm_knows u.phase u s (does_calm t w a u i d)

  -- where it leads to this session
  as_knows : (v : Session) → u ≡ v → Knows v s → Knows u s
  as_knows v e k = subst (λ (z : Session). Knows z s) (sym e) k

  received_knows : (state : SendState) (k : IsSeen (phase.AsksReceiving state) t s) (b : Bool) → is_idle state ≡ b
      → Does t (cond b (answers_link (restored (with_received t (k.lane.high, k.lane.last)) state []) t.side)
      (Asks (ask.Resumed t.lane) (in_phase (with_received t (k.lane.high, k.lane.last)) (phase.AsksResumed state)))) a u
      → Knows u s
  received_knows state k true e d =
      let v : Session = restored (with_received t (k.lane.high, k.lane.last)) state [] in
      then_knows (answers_link v t.side) (link_calm v t.side) d
  received_knows state k false e d =
      as_knows (in_phase (with_received t (k.lane.high, k.lane.last)) (phase.AsksResumed state)) d.1 (record {
        lane = k.lane;
        lane_is = k.lane_is;
        looked = (
          received_values t (k.lane.high, k.lane.last) (phase.AsksResumed state) k.lane k.looked.0,
          k.looked.1,
          e,
          refl,
          refl,
        );
        role = k.role;
      })

module _ {D C : Type 0} (disks : DiskView D) (clocks : ClockView C) where
  -- ---- the question for an old lane

  old_lane_knows : (t : Session) (q : Ask) (x : Reply) (a : Action) (u : Session) (old new : Shown D C)
      → IsLaneOf q → IsKept old.current → Replied disks clocks q t old x new
      → Does t (wanted_of_reply phase.AsksOldLane t x) a u → Knows u new.current
  old_lane_knows t (ask.LaneOf role peer (Some name)) (reply.LaneOf (Some n)) a u old new asked kept r d =
      elim r [
        | inl e ↦ absurd e.0
        | inr b ↦ as_knows t a u new.current (record t { phase = phase.AsksBind; lane = n }) d.1
            (subst (λ (s : Shown D C). IsAnswered n s.current) (sym b.1.1)
            (first_answered peer (Some name) old.current n kept
            (subst (λ (r : LaneRole). IsFirstNamed r peer (Some name) (lanes_of old)
            (Some n)) asked b.1.0)))
      ]
  old_lane_knows t (ask.LaneOf role peer (Some name)) (reply.LaneOf None) a u old new asked kept r d =
      then_knows t a u new.current (Rejects 1) tt d
  old_lane_knows t (ask.LaneOf role peer (Some name)) x a u old new asked kept r d = absurd d
  old_lane_knows t (ask.LaneOf role peer None) x a u old new asked kept r d = absurd asked
  old_lane_knows t q x a u old new asked kept r d = absurd asked

  -- ---- its Bind

  bind_knows : (t : Session) (x : Reply) (a : Action) (u : Session) (old new : Shown D C)
      → IsAnswered t.lane old.current → Replied disks clocks (ask.Bind t.lane) t old x new → WasPossible old new
      → Does t (wanted_of_reply phase.AsksBind t x) a u → Knows u new.current
  bind_knows t (reply.Bind (Ok g)) a u old new k r may d =
      elim r [
        | inl e ↦ absurd e.0
        | inr b ↦ (
            let bound : IsBound t.lane g old.current new.current = lane_bound disks clocks t.lane g old new b.1 may in
            let was : bound.was.role ≡ Responder =
            subst (λ (o : Option Lane). WhereOpen (λ lane. lane.role ≡ Responder) o) bound.was_is k.role in
            as_knows t a u new.current (record t { phase = phase.AsksValues; generation = g }) d.1 (record {
              lane = bound.lane;
              lane_is = bound.lane_is;
              looked = bound.generation_is;
              role = has_role t.side bound.lane.role (bound.role_is ∙ was);
            }))
      ]
  bind_knows t (reply.Bind (Err f)) a u old new k r may d =
      then_knows t a u new.current (on_bind t (Err f)) (bind_calm t f) d
  bind_knows t x a u old new k r may d = absurd d

  -- ---- the looks

  -- the lane that a look tells of
  values_told : (t : Session) (n : ℕ) (lane : Lane) (old : Shown D C) (x : Option LaneValues)
      → lane_at n (lanes_of old) ≡ Some lane → x ≡ option_map values_of (lane_at n (lanes_of old))
      → x ≡ Some (values_of lane)
  values_told t n lane old x at e = e ∙ ap (λ (o : Option Lane). option_map values_of o) at

  state_told : (n : ℕ) (lane : Lane) (old : Shown D C) (x : Option SendState) → lane_at n (lanes_of old) ≡ Some lane
      → x ≡ option_map (λ (l : Lane). l.sending) (lane_at n (lanes_of old)) → x ≡ Some lane.sending
  state_told n lane old x at e = e ∙ ap (λ (o : Option Lane). option_map (λ (l : Lane). l.sending) o) at

  half_told : (n : ℕ) (lane : Lane) (old : Shown D C) (x : Option (ℕ × Last)) → lane_at n (lanes_of old) ≡ Some lane
      → x ≡ option_map (λ (l : Lane). (l.high, l.last)) (lane_at n (lanes_of old)) → x ≡ Some (lane.high, lane.last)
  half_told n lane old x at e = e ∙ ap (λ (o : Option Lane). option_map (λ (l : Lane). (l.high, l.last)) o) at

  -- a look is replied what the spool answers to it
  values_replied : (n : ℕ) (t : Session) (old new : Shown D C) (x : Reply)
      → Replied disks clocks (ask.Values n) t old x new → Answered disks clocks (ask.Values n) old x new
  values_replied n t old new x r = elim r [ inl e ↦ absurd e.0 | inr b ↦ b.1 ]

  recovery_replied : (n : ℕ) (t : Session) (old new : Shown D C) (x : Reply)
      → Replied disks clocks (ask.Recovery n) t old x new → Answered disks clocks (ask.Recovery n) old x new
  recovery_replied n t old new x r = elim r [ inl e ↦ absurd e.0 | inr b ↦ b.1 ]

  receiving_replied : (n : ℕ) (t : Session) (old new : Shown D C) (x : Reply)
      → Replied disks clocks (ask.Receiving n) t old x new → Answered disks clocks (ask.Receiving n) old x new
  receiving_replied n t old new x r = elim r [ inl e ↦ absurd e.0 | inr b ↦ b.1 ]

  resumed_replied : (n : ℕ) (t : Session) (old new : Shown D C) (x : Reply)
      → Replied disks clocks (ask.Resumed n) t old x new → Answered disks clocks (ask.Resumed n) old x new
  resumed_replied n t old new x r = elim r [ inl e ↦ absurd e.0 | inr b ↦ b.1 ]

  module _ (t : Session) (old new : Shown D C) (kept : IsKept old.current) where
    -- it may be told each
    values_look : (x : Reply) → IsSeen phase.AsksValues t old.current
        → Answered disks clocks (ask.Values t.lane) old x new → AnswersAt phase.AsksValues t (event.Reply x)
    values_look (reply.Values x) k b =
        let o = open_lane t.lane old.current k.lane kept k.lane_is in
        subst (λ (z : Option LaneValues). LaneFits t.side z)
        (sym (values_told t t.lane k.lane old x k.lane_is b.0))
        (values_answer t k.lane o.whole o.filled k.role)
    values_look x k b = elim b [ ]

    recovery_look : (x : Reply) → IsSeen phase.AsksRecovery t old.current
        → Answered disks clocks (ask.Recovery t.lane) old x new → AnswersAt phase.AsksRecovery t (event.Reply x)
    recovery_look (reply.Recovery x) k b =
        let o = open_lane t.lane old.current k.lane kept k.lane_is in
        subst (λ (z : Option SendState). HalfFits t.agreed z)
        (sym (state_told t.lane k.lane old x k.lane_is b.0))
        (λ none. o.whole.before_agreed (k.looked.agreed ∙ none))
    recovery_look x k b = elim b [ ]

    receiving_look : (state : SendState) (x : Reply) → IsSeen (phase.AsksReceiving state) t old.current
        → Answered disks clocks (ask.Receiving t.lane) old x new
        → AnswersAt (phase.AsksReceiving state) t (event.Reply x)
    receiving_look state (reply.Receiving x) k b =
        let o = open_lane t.lane old.current k.lane kept k.lane_is in
        subst (λ (z : Option (ℕ × Last)). IsTold z) (sym (half_told t.lane k.lane old x k.lane_is b.0))
        o.whole.receiving
    receiving_look state x k b = elim b [ ]

    resumed_look : (state : SendState) (x : Reply) → IsSeen (phase.AsksResumed state) t old.current
        → Answered disks clocks (ask.Resumed t.lane) old x new → AnswersAt (phase.AsksResumed state) t (event.Reply x)
    resumed_look state (reply.Resumed (Ok (Some c))) k b =
        let o = open_lane t.lane old.current k.lane kept k.lane_is in
        resumed_answers t state k.lane c o.whole o.filled k.looked.0.checkpoint k.looked.1
        (subst (λ (z : Option Lane). IsResumed z (Some c)) k.lane_is b.0)
    resumed_look state (reply.Resumed (Ok None)) k b =
        not_resumed state k.lane k.looked.1 k.looked.2 (subst (λ (z : Option Lane). IsResumed z None) k.lane_is b.0)
    resumed_look state (reply.Resumed (Err m)) k b = tt
    resumed_look state x k b = elim b [ ]

    -- and knows its lane then
    module _ (a : Action) (u : Session) where
      values_next : (x : Option LaneValues) (k : IsSeen phase.AsksValues t old.current) → x ≡ Some (values_of k.lane)
          → Does t (wanted_of_reply phase.AsksValues t (reply.Values x)) a u → Knows u old.current
      values_next x k e d =
          let v : LaneValues = values_of k.lane in
          let told : Session =
          in_phase (with_values (record t { twa = v.twa; agreed = v.agreed }) v.checkpoint v.window) phase.AsksRecovery
          in
          let does : Does t (Asks (ask.Recovery t.lane) told) a u =
          subst (λ (z : Option LaneValues). Does t (wanted_of_reply phase.AsksValues t (reply.Values z)) a u) e d in
          as_knows t a u old.current told does.1 (record {
            lane = k.lane;
            lane_is = k.lane_is;
            looked = told_values t k.lane k.looked;
            role = k.role;
          })

      recovery_next : (x : Option SendState) (k : IsSeen phase.AsksRecovery t old.current) → x ≡ Some k.lane.sending
          → Does t (wanted_of_reply phase.AsksRecovery t (reply.Recovery x)) a u → Knows u old.current
      recovery_next x k e d =
          let told : Session = in_phase t (phase.AsksReceiving k.lane.sending) in
          let does : Does t (Asks (ask.Receiving t.lane) told) a u =
          subst (λ (z : Option SendState). Does t (wanted_of_reply phase.AsksRecovery t (reply.Recovery z)) a u) e d in
          as_knows t a u old.current told does.1 (record {
            lane = k.lane;
            lane_is = k.lane_is;
            looked = (in_values t (phase.AsksReceiving k.lane.sending) k.lane k.looked, refl);
            role = k.role;
          })

      receiving_next : (state : SendState) (x : Option (ℕ × Last))
          (k : IsSeen (phase.AsksReceiving state) t old.current) → x ≡ Some (k.lane.high, k.lane.last)
          → Does t (wanted_of_reply (phase.AsksReceiving state) t (reply.Receiving x)) a u → Knows u old.current
      receiving_next state x k e d =
          received_knows t a u old.current state k (is_idle state) refl
          (subst (λ (z : Option (ℕ × Last)).
          Does t (wanted_of_reply (phase.AsksReceiving state) t (reply.Receiving z)) a u) e d)

      resumed_next : (state : SendState) (x : Reply)
          → Does t (wanted_of_reply (phase.AsksResumed state) t x) a u → Knows u old.current
      resumed_next state (reply.Resumed (Ok (Some c))) d =
          then_knows t a u old.current (answers_link (restored t state c.octets) t.side)
          (link_calm (restored t state c.octets) t.side) d
      resumed_next state (reply.Resumed (Ok None)) d = absurd d
      resumed_next state (reply.Resumed (Err m)) d = then_knows t a u old.current (Aborts 0) tt d
      resumed_next state x d = absurd d

      values_knows : (x : Reply) → IsSeen phase.AsksValues t old.current
          → Answered disks clocks (ask.Values t.lane) old x new
          → Does t (wanted_of_reply phase.AsksValues t x) a u → Knows u new.current
      values_knows (reply.Values x) k b d =
          subst (λ (s : Shown D C). Knows u s.current) (sym b.1)
          (values_next x k (values_told t t.lane k.lane old x k.lane_is b.0) d)
      values_knows x k b d = elim b [ ]

      recovery_knows : (x : Reply) → IsSeen phase.AsksRecovery t old.current
          → Answered disks clocks (ask.Recovery t.lane) old x new
          → Does t (wanted_of_reply phase.AsksRecovery t x) a u → Knows u new.current
      recovery_knows (reply.Recovery x) k b d =
          subst (λ (s : Shown D C). Knows u s.current) (sym b.1)
          (recovery_next x k (state_told t.lane k.lane old x k.lane_is b.0) d)
      recovery_knows x k b d = elim b [ ]

      receiving_knows : (state : SendState) (x : Reply) → IsSeen (phase.AsksReceiving state) t old.current
          → Answered disks clocks (ask.Receiving t.lane) old x new
          → Does t (wanted_of_reply (phase.AsksReceiving state) t x) a u → Knows u new.current
      receiving_knows state (reply.Receiving x) k b d =
          subst (λ (s : Shown D C). Knows u s.current) (sym b.1)
          (receiving_next state x k (half_told t.lane k.lane old x k.lane_is b.0) d)
      receiving_knows state x k b d = elim b [ ]

      resumed_knows : (state : SendState) (x : Reply) → Answered disks clocks (ask.Resumed t.lane) old x new
          → Does t (wanted_of_reply (phase.AsksResumed state) t x) a u → Knows u new.current
      resumed_knows state (reply.Resumed x) b d =
          subst (λ (s : Shown D C). Knows u s.current) (sym b.1) (resumed_next state (reply.Resumed x) d)
      resumed_knows state x b d = elim b [ ]

  -- ---- any question

  -- what is replied to a look at its lane may be told
  pub look_answers : (p : Phase) (t : Session) (q : Ask) (x : Reply) (old new : Shown D C) → IsAskOf p t q
      → KnowsAt p t old.current → IsKept old.current → Replied disks clocks q t old x new
      → is_looking p ≡ true → AnswersAt p t (event.Reply x)
  look_answers phase.AsksValues t q x old new asked k kept r i =
      values_look t old new kept x k
      (values_replied t.lane t old new x (subst (λ (z : Ask). Replied disks clocks z t old x new) asked r))
  look_answers phase.AsksRecovery t q x old new asked k kept r i =
      recovery_look t old new kept x k
      (recovery_replied t.lane t old new x (subst (λ (z : Ask). Replied disks clocks z t old x new) asked r))
  look_answers (phase.AsksReceiving state) t q x old new asked k kept r i =
      receiving_look t old new kept state x k
      (receiving_replied t.lane t old new x (subst (λ (z : Ask). Replied disks clocks z t old x new) asked r))
  look_answers (phase.AsksResumed state) t q x old new asked k kept r i =
      resumed_look t old new kept state x k
      (resumed_replied t.lane t old new x (subst (λ (z : Ask). Replied disks clocks z t old x new) asked r))
  look_answers p t q x old new asked k kept r i = absurd (never i)

  -- what a session knows that was told any reply
  pub told_knows : (p : Phase) (t : Session) (q : Ask) (x : Reply) (a : Action) (u : Session) (old new : Shown D C)
      → IsAskOf p t q → KnowsAt p t old.current → IsKept old.current → WasPossible old new
      → Replied disks clocks q t old x new → Does t (wanted_of_reply p t x) a u → Knows u new.current
  told_knows phase.AsksOldLane t q x a u old new asked k kept may r d =
      old_lane_knows t q x a u old new asked kept r d
  told_knows phase.AsksBind t q x a u old new asked k kept may r d =
      bind_knows t x a u old new k (subst (λ (z : Ask). Replied disks clocks z t old x new) asked r) may d
  told_knows phase.AsksValues t q x a u old new asked k kept may r d =
      values_knows t old new kept a u x k
      (values_replied t.lane t old new x (subst (λ (z : Ask). Replied disks clocks z t old x new) asked r)) d
  told_knows phase.AsksRecovery t q x a u old new asked k kept may r d =
      recovery_knows t old new kept a u x k
      (recovery_replied t.lane t old new x (subst (λ (z : Ask). Replied disks clocks z t old x new) asked r)) d
  told_knows (phase.AsksReceiving state) t q x a u old new asked k kept may r d =
      receiving_knows t old new kept a u state x k
      (receiving_replied t.lane t old new x (subst (λ (z : Ask). Replied disks clocks z t old x new) asked r)) d
  told_knows (phase.AsksResumed state) t q x a u old new asked k kept may r d =
      resumed_knows t old new kept a u state x
      (resumed_replied t.lane t old new x (subst (λ (z : Ask). Replied disks clocks z t old x new) asked r)) d
  told_knows p t q x a u old new asked k kept may r d =
      then_knows t a u new.current (wanted_of_reply p t x) (reply_calm p t x refl) d
