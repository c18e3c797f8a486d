-- A session that has a list opened or bound no lane but where its list begins.
use Rattle.std.proofs.Common.{◌≡◌, ◌<◌, ◌≤◌, ℕ, ◌+◌, Bool, List, [], ◌∷◌, ◌++◌, Option, None, inl, inr, sym, subst}
use Rattle.std.proofs.Common.{◌∙◌, arith}
use Rattle.std.proofs.lemmas.Bool.{cases_lt}
use Rattle.mta_transfer_rules.specs.Lanes as h
use Rattle.mta_transfer_rules.specs.Lanes.{On, Seen, SeenStep}
use Rattle.mta_lane_match_laws.specs.Generations.{Begins as BeginsHere, BeginsAt}
use Rattle.mta_transfer_laws.specs.Sessions as x
use Rattle.mta_session.specs.State.{State}
use Rattle.mta_session.specs.declared.event.Action.{Action}
use Rattle.mta_session.specs.declared.event.Action.TheVariants as action
use Rattle.mta_session.specs.declared.event.Event.{Event}
use Rattle.mta_session.specs.declared.event.Event.TheVariants as event
use Rattle.mta_session.specs.declared.phase.Phase.{Phase}
use Rattle.mta_session.specs.declared.phase.Phase.TheVariants as phase
use Rattle.mta_session_laws.specs.Whole.{AreCalls}
use Rattle.mta_session_list_laws.specs.Calls.{action_of, Call, StepOn, turns_of}
use Rattle.mta_session_list_laws.specs.Lists.{step_by}
use Rattle.mta_session_list_laws.specs.Standing.{AllComeTrue}
use Rattle.mta_session_list_laws.proofs.Ordering.{IsSome}
use Rattle.mta_session_list_laws.proofs.Turns.{Holds}
use Rattle.mta_session_list_laws.proofs.TurnsReplies.{turned}
use Rattle.mta_shared.specs.Counts.{times}
use Rattle.mta_shared.proofs.Sums.{times-append}
use Rattle.mta_worker_list_laws.specs.Begun.{GiveNone, IsOver, made_over, Untold}
use Rattle.mta_worker_list_laws.specs.Leads.{made_by, made_in}
use Rattle.mta_worker_list_laws.proofs.Beginning.{call_begins}
use Rattle.mta_worker_list_laws.proofs.Keeping.{Listed, listed_next}
use Rattle.mta_worker_list_laws.proofs.Owned.{asked_of, none_hit}
use Rattle.mta_worker_list_laws.proofs.Responding.{comes_later}
use Rattle.mta_worker_list_laws.proofs.Waits.{Asked, asked_next}

-- the lane of such a step
pub begun_lane : (l g m : ℕ) (step : SeenStep) → BeginsHere l g (On m step) → l ≡ m
begun_lane l g m (h.LaneOpen agreed size window) b = sym b.0
begun_lane l g m (h.Bind j) b = sym b.0
begun_lane l g m step b = absurd b

-- a session whose list has begun is told of no such step
pub held_none : (p : Phase) (t : State) (v : x.Turn) (e : Event) (u : State) → Holds p t v → IsSome (step_by p e u) → ⊥
held_none (phase.AsksNewLane again) t v e u holds i = holds
held_none phase.AsksBind t v e u holds i = holds
held_none p t v e u holds i = i

none_is : (o : Option StepOn) → o ≡ None → IsSome o → ⊥
none_is o e i = subst IsSome e i

module _ (spells : List ℕ → Bool) (history : List Seen) (n : ℕ) where
  -- up to the call by which it has its lane
  pub none_begun : (before cs : List Call) (a : Action) (t u : State) (from k l g : ℕ) → Asked a t
      → AreCalls t (turns_of (before ++ cs)) u → AllComeTrue spells history from a (before ++ cs) → GiveNone before
      → n ≤ from → 0 < times k (made_in n a before) → BeginsAt history (n + k) l g → ⊥
  none_begun [] cs a t u from k l g asked run is none le hit b = none_hit k hit
  none_begun (c ∷ before) cs a t u from k l g asked run is none le hit b =
      let here : Asked a c.turn.before = subst (λ (z : State). Asked a z) (sym run.0) asked in
      let sum : times k (made_by n c.seen a c.turn.event ++ made_in n c.turn.action before)
      ≡ times k (made_by n c.seen a c.turn.event) + times k (made_in n c.turn.action before) =
      times-append k (made_by n c.seen a c.turn.event) (made_in n c.turn.action before) in
      let later = comes_later spells history c.turn.before.phase a c.turn.event from c.seen is.0 in
      elim (cases_lt 0 (times k (made_by n c.seen a c.turn.event))) [
        | inl now ↦ none_is (step_by c.turn.before.phase c.turn.event c.turn.after) none.0
            (call_begins spells history n c.turn.before.phase c.turn.before a c.turn.event c.turn.after from c.seen k l
            g (asked_of spells history n a c.turn.before here) is.0 le now b)
        | inr zero_of ↦ none_begun before cs c.turn.action c.turn.after u c.seen k l g
            (asked_next c.turn.action c.turn.before c.turn.event c.turn.after run.1.follows) run.2 is.1 none.1
            (omega (arith, le, later)) (omega (arith, hit, sum, zero_of)) b
      ]

  module _ (lane generation : ℕ) where
    -- behind it
    listed_none : (cs : List Call) (a : Action) (t u : State) (from k l g : ℕ) → Listed lane generation a t
        → AreCalls t (turns_of cs) u → AllComeTrue spells history from a cs → n ≤ from
        → 0 < times k (made_in n a cs) → BeginsAt history (n + k) l g → ⊥
    listed_none [] a t u from k l g listed run is le hit b = none_hit k hit
    listed_none (c ∷ cs) a t u from k l g listed run is le hit b =
        let here : Listed lane generation a c.turn.before =
        subst (λ (z : State). Listed lane generation a z) (sym run.0) listed in
        let sum : times k (made_by n c.seen a c.turn.event ++ made_in n c.turn.action cs)
        ≡ times k (made_by n c.seen a c.turn.event) + times k (made_in n c.turn.action cs) =
        times-append k (made_by n c.seen a c.turn.event) (made_in n c.turn.action cs) in
        let later = comes_later spells history c.turn.before.phase a c.turn.event from c.seen is.0 in
        elim (cases_lt 0 (times k (made_by n c.seen a c.turn.event))) [
          | inl now ↦ held_none c.turn.before.phase c.turn.before (turned a here.turn) c.turn.event c.turn.after
              here.holds
              (call_begins spells history n c.turn.before.phase c.turn.before a c.turn.event c.turn.after from c.seen k
              l g (asked_of spells history n a c.turn.before here.asked) is.0 le now b)
          | inr zero_of ↦ listed_none cs c.turn.action c.turn.after u c.seen k l g
              (listed_next lane generation c.turn a run.1 here) run.2 is.1 (omega (arith, le, later))
              (omega (arith, hit, sum, zero_of)) b
        ]

    listed_to : (cs : List Call) (a : Action) (t u : State) → Listed lane generation a t
        → AreCalls t (turns_of cs) u → Listed lane generation (action_of a cs) u
    listed_to [] a t u l run = subst (λ (z : State). Listed lane generation a z) (sym run) l
    listed_to (c ∷ cs) a t u l run =
        listed_to cs c.turn.action c.turn.after u
        (listed_next lane generation c.turn a run.1
        (subst (λ (z : State). Listed lane generation a z) (sym run.0) l)) run.2

    over_none : (mid upto : ℕ) (u : State) (b : Action) (o : IsOver spells history mid upto u b) (k l g : ℕ)
        → Listed lane generation b u → n ≤ mid → 0 < times k (made_over n o) → BeginsAt history (n + k) l g → ⊥
    over_none mid upto u b (Untold q y aborts is comes answers going) k l g listed le hit begins =
        held_none u.phase u (turned b listed.turn) (event.Reply y) u listed.holds
        (call_begins spells history n u.phase u (action.Ask q) (event.Reply y) u mid upto k l g
        (λ z e. asked_of spells history n b u listed.asked z (is ∙ e)) comes le hit begins)
    over_none mid upto u b any4 k l g listed le hit begins = none_hit k hit

    -- and behind its last call
    pub all_none : (cs : List Call) (a : Action) (t u : State) (b : Action) (from mid upto : ℕ)
        (o : IsOver spells history mid upto u b) (k l g : ℕ) → Listed lane generation a t
        → AreCalls t (turns_of cs) u → AllComeTrue spells history from a cs → action_of a cs ≡ b → n ≤ from → n ≤ mid
        → 0 < times k (made_in n a cs ++ made_over n o) → BeginsAt history (n + k) l g → ⊥
    all_none cs a t u b from mid upto o k l g listed run is wanted le less hit begins =
        let sum : times k (made_in n a cs ++ made_over n o) ≡ times k (made_in n a cs) + times k (made_over n o) =
        times-append k (made_in n a cs) (made_over n o) in
        elim (cases_lt 0 (times k (made_in n a cs))) [
          | inl now ↦ listed_none cs a t u from k l g listed run is le now begins
          | inr none ↦ over_none mid upto u b o k l g
              (subst (λ (z : Action). Listed lane generation z u) wanted (listed_to cs a t u listed run)) less
              (omega (arith, hit, sum, none)) begins
        ]
