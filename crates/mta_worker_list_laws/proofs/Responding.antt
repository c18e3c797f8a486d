-- Where a responder's session has its lane.
use Rattle.std.proofs.Common.{◌≡◌, ◌⊎◌, ℕ, ◌+◌, ◌-◌, ◌*◌, ◌≤◌, Bool, true, false, Option, None, Some, Ok, List, [], ◌∷◌}
use Rattle.std.proofs.Common.{◌++◌, inl, inr, refl, sym, ap, subst, arith}
use Rattle.mta_rtse.specs.declared.types.Answer.{Answer}
use Rattle.mta_units.specs.declared.unit.OpenUnit.{OpenUnit}
use Rattle.mta_transfer_rules.specs.Lanes.{Seen}
use Rattle.mta_transfer_rules.specs.Lanes as h
use Rattle.mta_session.specs.declared.ask.Ask.{Ask}
use Rattle.mta_session.specs.declared.ask.Ask.TheVariants as ask
use Rattle.mta_session.specs.declared.ask.Reply.TheVariants as reply
use Rattle.mta_session.specs.declared.event.Event.{Event}
use Rattle.mta_session.specs.declared.event.Event.TheVariants as event
use Rattle.mta_session.specs.declared.event.Action.{Action}
use Rattle.mta_session.specs.declared.event.Action.TheVariants as action
use Rattle.mta_session.specs.declared.peer.Peer.{Peer}
use Rattle.mta_session.specs.declared.phase.Phase.{Phase}
use Rattle.mta_session.specs.declared.phase.Phase.TheVariants as phase
use Rattle.mta_session.specs.State.{State, in_phase}
use Rattle.mta_session.specs.Follows.{counted, Does}
use Rattle.mta_session.specs.Wanted.{accepts, answer_for, puts_accept, with_lane}
use Rattle.mta_session_laws.specs.Runs.{IsTurn}
use Rattle.mta_session_laws.specs.Whole.{AreCalls}
use Rattle.mta_session_laws.proofs.Opening.{wanted_in}
use Rattle.mta_session_laws.proofs.Whole.{is_ended}
use Rattle.mta_lane_match_laws.specs.Asks.{IsAskOf, IsForOpen}
use Rattle.mta_session_list_laws.specs.Calls.{action_of, Call, StepOn, step_told, turns_of}
use Rattle.mta_session_list_laws.specs.Lists.{HasAt, step_by}
use Rattle.mta_session_list_laws.specs.Standing.{AllComeTrue, ComesTrue, Stands, StandsAs}
use Rattle.mta_session_list_laws.proofs.Found.{never}
use Rattle.mta_session_list_laws.proofs.Waiting.{does_at, goes_with, Ready, ready_next}
use Rattle.mta_worker_list_laws.specs.Begun.{GiveNone}
use Rattle.mta_worker_list_laws.proofs.Waits.{Asked, asked_next}

-- ---- what the call leaves

pub accept_leaves : (t v new : State) (b : Action) (a : Option Answer) → Does t (puts_accept v a) b new
    → new ≡ in_phase v phase.PutsAccept
accept_leaves t v new b (Some a) d = d.1
accept_leaves t v new b None d = absurd d

-- the step by which a responder has its lane, with the values that it has then
abbrev opened_by : State → StepOn
opened_by z = record { lane = z.lane; step = h.LaneOpen true (1024 * z.checkpoint) z.window }

abbrev bound_by : State → ℕ → StepOn
bound_by z g = record { lane = z.lane; step = h.Bind g }

module _ (spells : List ℕ → Bool) (history : List Seen) where
  abbrev StandsIf : (from seen : ℕ) → Option StepOn → Type 0
  StandsIf from seen (Some x) = Stands history from seen x
  StandsIf from seen None = Unit {0}

  -- a lane was opened
  lane_stands : (t new : State) (b : Action) (o : Option OpenUnit) (p : Option Peer) (lane : ℕ) (q : Ask)
      (from seen : ℕ) → IsForOpen o p q → Does t (accepts (with_lane t o p lane)) b new
      → StandsAs spells history from seen q (reply.LaneOpen (Ok lane)) (step_told q (reply.LaneOpen (Ok lane)))
      → Stands history from seen (opened_by new)
  lane_stands t new b (Some o) (Some p) lane q from seen e d is =
      let v : State = with_lane t (Some o) (Some p) lane in
      let leaves : new ≡ in_phase v phase.PutsAccept =
      accept_leaves t v new b (answer_for v.side v.opened v.line) d in
      let stands : Stands history from seen (opened_by (in_phase v phase.PutsAccept)) =
      subst (λ (z : Ask). StandsAs spells history from seen z (reply.LaneOpen (Ok lane))
      (step_told z (reply.LaneOpen (Ok lane)))) e is in
      subst (λ (z : State). Stands history from seen (opened_by z)) (sym leaves) stands
  lane_stands t new b (Some o) None lane q from seen e d is = absurd e
  lane_stands t new b None p lane q from seen e d is = absurd e

  -- a lane was bound
  bind_stands : (t new : State) (b : Action) (g : ℕ) (q : Ask) (from seen : ℕ) → q ≡ ask.Bind t.lane
      → new ≡ record t { phase = phase.AsksValues; generation = g }
      → StandsAs spells history from seen q (reply.Bind (Ok g)) (step_told q (reply.Bind (Ok g)))
      → Stands history from seen (bound_by new g)
  bind_stands t new b g q from seen e leaves is =
      let stands : Stands history from seen (bound_by t g) =
      subst (λ (z : Ask). StandsAs spells history from seen z (reply.Bind (Ok g)) (step_told z (reply.Bind (Ok g)))) e
      is in
      subst (λ (z : State). Stands history from seen (bound_by z g)) (sym leaves) stands

  abbrev AskedAt : Phase → Action → State → Type 0
  AskedAt p (action.Ask q) t = IsAskOf p t q
  AskedAt p a t = Unit {0}

  -- the step that gave the session its lane stands where the call says so
  begins_stands : (p : Phase) (t new : State) (e : Event) (a b : Action) (from seen : ℕ) → goes_with a p ≡ true
      → AskedAt p a t
      → (is_ended p ≡ false → Does (counted t e) (wanted_in p (counted t e) e) b new)
      → ComesTrue spells history from seen p a e → StandsIf from seen (step_by p e new)
  begins_stands (phase.AsksNewLane again) t new (event.Reply (reply.LaneOpen (Ok lane))) (action.Ask q) b from seen w
      asks
      d is =
      lane_stands t new b t.opened t.line lane q from seen asks (d refl) is.1
  begins_stands (phase.AsksNewLane again) t new (event.Reply (reply.LaneOpen (Ok lane))) (action.Put u) b from seen w
      asks
      d is =
      absurd (never w)
  begins_stands (phase.AsksNewLane again) t new (event.Reply (reply.LaneOpen (Ok lane))) action.Read b from seen w
      asks d
      is =
      absurd (never w)
  begins_stands (phase.AsksNewLane again) t new (event.Reply (reply.LaneOpen (Ok lane))) (action.Finish y) b from seen w
      asks d is =
      absurd (never w)
  begins_stands phase.AsksBind t new (event.Reply (reply.Bind (Ok g))) (action.Ask q) b from seen w asks d is =
      bind_stands t new b g q from seen asks (d refl).1 is.1
  begins_stands phase.AsksBind t new (event.Reply (reply.Bind (Ok g))) (action.Put u) b from seen w asks d is =
      absurd (never w)
  begins_stands phase.AsksBind t new (event.Reply (reply.Bind (Ok g))) action.Read b from seen w asks d is =
      absurd (never w)
  begins_stands phase.AsksBind t new (event.Reply (reply.Bind (Ok g))) (action.Finish y) b from seen w asks d is =
      absurd (never w)
  begins_stands p t new e a b from seen w asks d is = tt

  -- the length of the history does not fall
  pub comes_later : (p : Phase) (a : Action) (e : Event) (from seen : ℕ) → ComesTrue spells history from seen p a e
      → from ≤ seen
  comes_later p (action.Ask q) (event.Reply y) from seen is = by_step (step_told q y) is.1
    where
      by_step : (o : Option StepOn) → StandsAs spells history from seen q y o → from ≤ seen
      by_step (Some z) s = omega (arith, s.later)
      by_step None s = s.later
  comes_later p (action.Ask q) any2 from seen is = omega (arith, is)
  comes_later p any1 e from seen is = omega (arith, is)

  -- ---- all calls

  -- one of these calls gave the session its lane
  pub record Begins (cs : List Call) (a : Action) (u : State) (from : ℕ) : Type 0 where
    pub before : List Call
    pub call : Call
    pub calls : List Call
    pub step : StepOn
    pub at : ℕ
    pub cut : cs ≡ before ++ call ∷ calls
    pub by : step_by call.turn.before.phase call.turn.event call.turn.after ≡ Some step
    pub seen : call.seen ≡ at + 1
    pub has : HasAt history at step
    pub come_true : AllComeTrue spells history (at + 1) call.turn.action calls
    pub none : GiveNone before
    -- what the call comes of, and the calls behind it
    pub is : IsTurn call.turn
    pub pending : Action
    pub pending_is : pending ≡ action_of a before
    pub least : from ≤ at
    pub ready : Ready pending call.turn.before
    pub asked : Asked pending call.turn.before
    pub run : AreCalls call.turn.after (turns_of calls) u

  later : (c : Call) (cs : List Call) (a : Action) (u : State) (from : ℕ)
      → step_by c.turn.before.phase c.turn.event c.turn.after ≡ None → from ≤ c.seen
      → Begins cs c.turn.action u c.seen → Begins (c ∷ cs) a u from
  later c cs a u from e le b = record {
    before = c ∷ b.before;
    call = b.call;
    calls = b.calls;
    step = b.step;
    at = b.at;
    cut = ap (λ (zs : List Call). c ∷ zs) b.cut;
    by = b.by;
    seen = b.seen;
    has = b.has;
    come_true = b.come_true;
    none = (e, b.none);
    is = b.is;
    pending = b.pending;
    pending_is = b.pending_is;
    least = omega (arith, le, b.least);
    ready = b.ready;
    asked = b.asked;
    run = b.run;
  }

  here : (c : Call) (cs : List Call) (u : State) (x : StepOn) (from : ℕ) (a : Action) → IsTurn c.turn
      → Ready a c.turn.before → Asked a c.turn.before → AreCalls c.turn.after (turns_of cs) u
      → step_by c.turn.before.phase c.turn.event c.turn.after ≡ Some x → Stands history from c.seen x
      → AllComeTrue spells history c.seen c.turn.action cs → Begins (c ∷ cs) a u from
  here c cs u x from a is ready asked run e s rest =
      let place : c.seen ≡ (c.seen - 1) + 1 = omega (arith, s.later) in
      record {
        before = [];
        call = c;
        calls = cs;
        step = x;
        at = c.seen - 1;
        cut = refl;
        by = e;
        seen = place;
        has = s.entry;
        come_true = subst (λ (n : ℕ). AllComeTrue spells history n c.turn.action cs) place rest;
        none = tt;
        is = is;
        pending = a;
        pending_is = refl;
        least = omega (arith, s.later);
        ready = ready;
        asked = asked;
        run = run;
      }

  by_step : (c : Call) (cs : List Call) (u : State) (from : ℕ) (a : Action) (o : Option StepOn) → IsTurn c.turn
      → Ready a c.turn.before → Asked a c.turn.before → AreCalls c.turn.after (turns_of cs) u
      → step_by c.turn.before.phase c.turn.event c.turn.after ≡ o → StandsIf from c.seen o
      → AllComeTrue spells history c.seen c.turn.action cs → from ≤ c.seen
      → Begins cs c.turn.action u c.seen ⊎ GiveNone cs → Begins (c ∷ cs) a u from ⊎ GiveNone (c ∷ cs)
  by_step c cs u from a (Some x) is ready asked run e s rest le more =
      inl (here c cs u x from a is ready asked run e s rest)
  by_step c cs u from a None is ready asked run e s rest le more =
      elim more [ inl b ↦ inl (later c cs a u from e le b) | inr none ↦ inr (e, none) ]

  pub begins_or_not : (cs : List Call) (a : Action) (t u : State) (from : ℕ) → Ready a t → Asked a t
      → AreCalls t (turns_of cs) u → AllComeTrue spells history from a cs → Begins cs a u from ⊎ GiveNone cs
  begins_or_not [] a t u from k asked run is = inr tt
  begins_or_not (c ∷ cs) a t u from k asked run is =
      let ready : Ready a c.turn.before = subst (Ready a) (sym run.0) k in
      let asks : Asked a c.turn.before = subst (Asked a) (sym run.0) asked in
      by_step c cs u from a (step_by c.turn.before.phase c.turn.event c.turn.after) run.1 ready asks run.2 refl
      (begins_stands c.turn.before.phase c.turn.before c.turn.after c.turn.event a c.turn.action from c.seen ready.waits
      (asked_at a c.turn.before asks) (λ i. does_at c.turn c.turn.event refl run.1 i) is.0)
      is.1 (comes_later c.turn.before.phase a c.turn.event from c.seen is.0)
      (begins_or_not cs c.turn.action c.turn.after u c.seen (ready_next c.turn run.1 ready.due)
      (asked_next c.turn.action c.turn.before c.turn.event c.turn.after run.1.follows) run.2 is.1)
    where
      asked_at : (a : Action) (t : State) → Asked a t → AskedAt t.phase a t
      asked_at (action.Ask q) t i = i
      asked_at (action.Put u) t i = tt
      asked_at action.Read t i = tt
      asked_at (action.Finish y) t i = tt
