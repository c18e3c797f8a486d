-- All that a session did is a segment of the history.
use Rattle.std.proofs.Common.{◌≡◌, ◌<◌, ◌≤◌, ℕ, ◌+◌, ◌-◌, ◌*◌, Bool, true, false, cond, Option, None, Some, Ok, List}
use Rattle.std.proofs.Common.{[]}
use Rattle.std.proofs.Common.{◌∷◌, ◌++◌, inl, inr, refl, sym, ap, subst, ◌∙◌, arith, slice_get, append_assoc}
use Rattle.std.proofs.lemmas.Bool.{cases_lt}
use Rattle.mta_transfer_rules.specs.Lanes.{On, Seen, SeenStep}
use Rattle.mta_transfer_rules.specs.Lanes as h
use Rattle.mta_rtse.specs.declared.types.Answer.{Answer}
use Rattle.mta_units.specs.declared.unit.OpenUnit.{OpenUnit}
use Rattle.mta_session.specs.Fits.{Answers}
use Rattle.mta_session.specs.Follows.{counted, Does, Follows}
use Rattle.mta_session.specs.Session.{new_initiator, new_responder}
use Rattle.mta_session.specs.State.{in_phase, State}
use Rattle.mta_session.specs.Wanted.{accepts, answer_for, puts_accept, with_lane}
use Rattle.mta_session.specs.declared.event.Action.{Action}
use Rattle.mta_session.specs.declared.event.Action.TheVariants as action
use Rattle.mta_session.specs.declared.event.Event.{Event}
use Rattle.mta_session.specs.declared.event.Event.TheVariants as event
use Rattle.mta_session.specs.declared.event.InitiatorPlan.{InitiatorPlan}
use Rattle.mta_session.specs.declared.ask.Ask.{Ask}
use Rattle.mta_session.specs.declared.ask.Reply.TheVariants as reply
use Rattle.mta_session.specs.declared.peer.Peer.{Peer}
use Rattle.mta_session.specs.declared.phase.Phase.{Phase}
use Rattle.mta_session.specs.declared.phase.Phase.TheVariants as phase
use Rattle.mta_session_laws.specs.Runs.{Turn}
use Rattle.mta_session_laws.specs.Whole.{AreCalls}
use Rattle.mta_session_laws.proofs.Opening.{wanted_in}
use Rattle.mta_session_laws.proofs.Whole.{is_ended}
use Rattle.mta_session_laws.specs.Order.{awaits}
use Rattle.mta_session_laws.proofs.OrderedCalls.{call_after}
use Rattle.mta_transfer_laws.specs.Sessions as x
use Rattle.mta_transfer_laws.specs.Sessions.{Made, SessionEvent, SessionList}
use Rattle.mta_lane_match_laws.specs.Asks.{IsAskOf, IsForOpen}
use Rattle.mta_lane_match_laws.specs.Generations.{Begins as BeginsHere}
use Rattle.mta_session_list_laws.specs.Calls.{action_of, Call, list_of, StepOn, turns_of}
use Rattle.mta_session_list_laws.specs.Lists.{HasAt, Initiates, IsListOf, Responds, step_by, step_for}
use Rattle.mta_session_list_laws.specs.Over.{seen_of}
use Rattle.mta_session_list_laws.specs.Standing.{AllComeTrue, ComesTrue}
use Rattle.mta_session_list_laws.proofs.Found.{never}
use Rattle.mta_session_list_laws.proofs.Ordering.{begins_done, is_some}
use Rattle.mta_session_list_laws.proofs.Waiting.{does_at, goes_with, ready_next}
use Rattle.mta_shared.specs.Counts.{times}
use Rattle.mta_shared.proofs.Sums.{times-append, times-self}
use Rattle.mta_worker_list_laws.specs.Begun.{Calls, Ended, GiveNone, IsOver, Listens, made_over}
use Rattle.mta_worker_list_laws.specs.Begun.{Stopped, Untold}
use Rattle.mta_worker_list_laws.specs.Leads.{Leads, made_by, made_in}
use Rattle.mta_worker_list_laws.specs.Segments.{IsOf, IsOwnStep, IsSegment, OnLane}
use Rattle.mta_worker_list_laws.specs.Segments.{Segment, SessionsAreSegments, told_over}
use Rattle.mta_worker_list_laws.proofs.Beginning.{begins_told}
use Rattle.mta_worker_list_laws.proofs.Once.{all_none, begun_lane, none_begun}
use Rattle.mta_worker_list_laws.proofs.Good.{read_asks}
use Rattle.mta_worker_list_laws.proofs.Joining.{action_more, made_more}
use Rattle.mta_worker_list_laws.proofs.Keeping.{Listed, listed_next, not_both, not_first}
use Rattle.mta_worker_list_laws.proofs.Owned.{asked_of, call_piece, Found, in_back, in_front, none_hit, one_hit}
use Rattle.mta_worker_list_laws.proofs.Owned.{Owned_by, pieces_in}
use Rattle.mta_worker_list_laws.proofs.Responding.{Begins as BeginsWith, begins_or_not, comes_later}
use Rattle.mta_worker_list_laws.proofs.Unlisted.{has_none, unlisted_next}
use Rattle.mta_worker_list_laws.proofs.Waits.{Asked, asked_next}

-- ---- the generation that begins

accept_there : (t v new : State) (b : Action) (a : Option Answer) → Does t (puts_accept v a) b new
    → new ≡ in_phase v phase.PutsAccept
accept_there t v new b (Some a) d = d.1
accept_there t v new b None d = absurd d

first_generation : (t new : State) (b : Action) (o : Option OpenUnit) (p : Option Peer) (lane : ℕ) (q : Ask)
    → IsForOpen o p q → Does t (accepts (with_lane t o p lane)) b new → new.generation ≡ 1
first_generation t new b (Some o) (Some p) lane q i d =
    let v : State = with_lane t (Some o) (Some p) lane in
    ap (λ (z : State). z.generation) (accept_there t v new b (answer_for v.side v.opened v.line) d)
first_generation t new b None p lane q i d = absurd i
first_generation t new b (Some o) None lane q i d = absurd i

-- the step that gives a responder its lane begins the generation that the session has then
abbrev BeginsAs : State → Option StepOn → Type 0
BeginsAs new None = Unit {0}
BeginsAs new (Some x) = BeginsHere new.lane new.generation (On x.lane x.step)

begins_as : (p : Phase) (t new : State) (e : Event) (a b : Action) → goes_with a p ≡ true
    → ((q : Ask) → a ≡ action.Ask q → IsAskOf p t q)
    → (is_ended p ≡ false → Does (counted t e) (wanted_in p (counted t e) e) b new)
    → BeginsAs new (step_by p e new)
begins_as (phase.AsksNewLane again) t new (event.Reply (reply.LaneOpen (Ok lane))) (action.Ask q) b w asks d =
    (refl, first_generation t new b t.opened t.line lane q (asks q refl) (d refl))
begins_as (phase.AsksNewLane again) t new (event.Reply (reply.LaneOpen (Ok lane))) (action.Put u) b w asks d =
    absurd (never w)
begins_as (phase.AsksNewLane again) t new (event.Reply (reply.LaneOpen (Ok lane))) action.Read b w asks d =
    absurd (never w)
begins_as (phase.AsksNewLane again) t new (event.Reply (reply.LaneOpen (Ok lane))) (action.Finish y) b w asks d =
    absurd (never w)
begins_as phase.AsksBind t new (event.Reply (reply.Bind (Ok g))) a b w asks d =
    (refl, sym (ap (λ (z : State). z.generation) (d refl).1))
begins_as p t new e a b w asks d = tt

-- the call that gives a responder its lane tells the entry
abbrev MadeOne : (n seen : ℕ) → Action → Event → Option StepOn → Type 0
MadeOne n seen a e None = Unit {0}
MadeOne n seen a e (Some x) = made_by n seen a e ≡ (seen - 1 - n) ∷ []

lane_made : (n seen lane : ℕ) (o : Option OpenUnit) (p : Option Peer) (q : Ask) → IsForOpen o p q
    → made_by n seen (action.Ask q) (event.Reply (reply.LaneOpen (Ok lane))) ≡ (seen - 1 - n) ∷ []
lane_made n seen lane (Some o) (Some p) q i =
    ap (λ (z : Ask). made_by n seen (action.Ask z) (event.Reply (reply.LaneOpen (Ok lane)))) i
lane_made n seen lane (Some o) None q i = absurd i
lane_made n seen lane None p q i = absurd i

made_there : (n : ℕ) (p : Phase) (t new : State) (e : Event) (a b : Action) (seen : ℕ) → goes_with a p ≡ true
    → ((q : Ask) → a ≡ action.Ask q → IsAskOf p t q) → MadeOne n seen a e (step_by p e new)
made_there n (phase.AsksNewLane again) t new (event.Reply (reply.LaneOpen (Ok lane))) (action.Ask q) b seen w asks =
    lane_made n seen lane t.opened t.line q (asks q refl)
made_there n (phase.AsksNewLane again) t new (event.Reply (reply.LaneOpen (Ok lane))) (action.Put u) b seen w asks =
    absurd (never w)
made_there n (phase.AsksNewLane again) t new (event.Reply (reply.LaneOpen (Ok lane))) action.Read b seen w asks =
    absurd (never w)
made_there n (phase.AsksNewLane again) t new (event.Reply (reply.LaneOpen (Ok lane))) (action.Finish y) b seen w asks =
    absurd (never w)
made_there n phase.AsksBind t new (event.Reply (reply.Bind (Ok g))) (action.Ask q) b seen w asks =
    ap (λ (z : Ask). made_by n seen (action.Ask z) (event.Reply (reply.Bind (Ok g)))) (asks q refl)
made_there n phase.AsksBind t new (event.Reply (reply.Bind (Ok g))) (action.Put u) b seen w asks = absurd (never w)
made_there n phase.AsksBind t new (event.Reply (reply.Bind (Ok g))) action.Read b seen w asks = absurd (never w)
made_there n phase.AsksBind t new (event.Reply (reply.Bind (Ok g))) (action.Finish y) b seen w asks = absurd (never w)
made_there n p t new e a b seen w asks = tt

-- an initiator's step begins the generation of its plan
plan_begins : (p : InitiatorPlan) → (p.recovering ≡ false → p.generation ≡ 1)
    → BeginsHere p.lane p.generation (On (step_for p).lane (step_for p).step)
plan_begins p opens = by_plan p.recovering opens
  where
    by_plan : (b : Bool) → (b ≡ false → p.generation ≡ 1)
        → BeginsHere p.lane p.generation
        (On p.lane (cond b (h.Bind p.generation) (h.LaneOpen false (1024 * p.checkpoint) p.window)))
    by_plan true opens = (refl, refl)
    by_plan false opens = (refl, opens refl)

-- such a step concerns no pieces
begins_none : (n m g j : ℕ) (step : SeenStep) → BeginsHere n g (On m step) → IsOwnStep j step → ⊥
begins_none n m g j (h.LaneOpen agreed size window) b piece = piece
begins_none n m g j (h.Bind k) b piece = piece
begins_none n m g j step b piece = b

-- ---- a responder without its lane

pub first_none : (own : List ℕ) (units : ℕ) (e : Event) (a : Action) (new : State)
    → Answers (new_responder own units) e → Follows (new_responder own units) e a new → has_none new.phase ≡ true
first_none own units event.Go a new i f = ap (λ (z : State). has_none z.phase) f.1
first_none own units any2 a new i f = absurd (never i)

module _ (spells : List ℕ → Bool) (history : List Seen) (n : ℕ) where
  not_piece : (x : Turn) (a : Action) (from seen k l g : ℕ) (step : SeenStep) → Asked a x.before
      → has_none x.before.phase ≡ true → ComesTrue spells history from seen x.before.phase a x.event → n ≤ from
      → 0 < times k (made_by n seen a x.event) → slice_get history (n + k) ≡ Some (On l step) → IsOwnStep g step → ⊥
  not_piece x a from seen k l g step asked i is le hit get piece =
      not_both x.before.phase i
      (call_piece spells history n x.before.phase x.before a x.event x from seen k l g step
      (asked_of spells history n a x.before asked) is le hit get piece).has

  -- up to a call, before which none gives it a lane
  none_before : (before cs : List Call) (c : Call) (a : Action) (t u : State) (from k l g : ℕ) (step : SeenStep)
      → Asked a t → has_none t.phase ≡ true → AreCalls t (turns_of (before ++ c ∷ cs)) u
      → AllComeTrue spells history from a (before ++ c ∷ cs) → GiveNone before → n ≤ from
      → slice_get history (n + k) ≡ Some (On l step) → IsOwnStep g step
      → 0 < times k (made_in n a (before ++ c ∷ [])) → ⊥
  none_before [] cs c a t u from k l g step asked i run is none le get piece hit =
      let here : Asked a c.turn.before = subst (λ (z : State). Asked a z) (sym run.0) asked in
      let there : has_none c.turn.before.phase ≡ true = ap (λ (z : State). has_none z.phase) run.0 ∙ i in
      let sum : times k (made_by n c.seen a c.turn.event ++ []) ≡ times k (made_by n c.seen a c.turn.event) + 0 =
      times-append k (made_by n c.seen a c.turn.event) [] in
      not_piece c.turn a from c.seen k l g step here there is.0 le (omega (arith, hit, sum)) get piece
  none_before (d ∷ ds) cs c a t u from k l g step asked i run is none le get piece hit =
      let here : Asked a d.turn.before = subst (λ (z : State). Asked a z) (sym run.0) asked in
      let there : has_none d.turn.before.phase ≡ true = ap (λ (z : State). has_none z.phase) run.0 ∙ i in
      let sum : times k (made_by n d.seen a d.turn.event ++ made_in n d.turn.action (ds ++ c ∷ []))
      ≡ times k (made_by n d.seen a d.turn.event) + times k (made_in n d.turn.action (ds ++ c ∷ [])) =
      times-append k (made_by n d.seen a d.turn.event) (made_in n d.turn.action (ds ++ c ∷ [])) in
      elim (cases_lt 0 (times k (made_by n d.seen a d.turn.event))) [
        | inl now ↦ not_piece d.turn a from d.seen k l g step here there is.0 le now get piece
        | inr rest ↦ (
            let later = comes_later spells history d.turn.before.phase a d.turn.event from d.seen is.0 in
            none_before ds cs c d.turn.action d.turn.after u d.seen k l g step
            (asked_next d.turn.action d.turn.before d.turn.event d.turn.after run.1.follows)
            (unlisted_next d.turn run.1 there none.0) run.2 is.1 none.1 (omega (arith, le, later)) get piece
            (omega (arith, hit, sum, rest)))
      ]

  -- and where none gives it one at all: behind the last call too
  pub record NoneGiven (calls : List Call) (a : Action) (t u : State) (k l g : ℕ) (step : SeenStep) : Type 0 where
    pub none : 0 < times k (made_in n a calls) → ⊥
    pub still : has_none u.phase ≡ true
    pub asked : Asked (action_of a calls) u

  pub none_all : (cs : List Call) (a : Action) (t u : State) (from k l g : ℕ) (step : SeenStep)
      → Asked a t → has_none t.phase ≡ true → AreCalls t (turns_of cs) u
      → AllComeTrue spells history from a cs → GiveNone cs → n ≤ from
      → slice_get history (n + k) ≡ Some (On l step) → IsOwnStep g step → NoneGiven cs a t u k l g step
  none_all [] a t u from k l g step asked i run is none le get piece = record {
    none = λ hit. none_hit k hit;
    still = ap (λ (z : State). has_none z.phase) run ∙ i;
    asked = subst (λ (z : State). Asked a z) (sym run) asked;
  }
  none_all (d ∷ ds) a t u from k l g step asked i run is none le get piece =
      let here : Asked a d.turn.before = subst (λ (z : State). Asked a z) (sym run.0) asked in
      let there : has_none d.turn.before.phase ≡ true = ap (λ (z : State). has_none z.phase) run.0 ∙ i in
      let sum : times k (made_by n d.seen a d.turn.event ++ made_in n d.turn.action ds)
      ≡ times k (made_by n d.seen a d.turn.event) + times k (made_in n d.turn.action ds) =
      times-append k (made_by n d.seen a d.turn.event) (made_in n d.turn.action ds) in
      let later = comes_later spells history d.turn.before.phase a d.turn.event from d.seen is.0 in
      let rest = none_all ds d.turn.action d.turn.after u d.seen k l g step
      (asked_next d.turn.action d.turn.before d.turn.event d.turn.after run.1.follows)
      (unlisted_next d.turn run.1 there none.0) run.2 is.1 none.1 (omega (arith, le, later)) get piece in
      record {
        none = λ hit. elim (cases_lt 0 (times k (made_by n d.seen a d.turn.event))) [
          | inl now ↦ not_piece d.turn a from d.seen k l g step here there is.0 le now get piece
          | inr zero_of ↦ rest.none (omega (arith, hit, sum, zero_of))
        ];
        still = rest.still;
        asked = rest.asked;
      }

  -- ---- the length of the history

  pub later_seen : (cs : List Call) (a : Action) (from : ℕ) → AllComeTrue spells history from a cs
      → from ≤ seen_of from cs
  later_seen [] a from is = omega arith
  later_seen (c ∷ cs) a from is =
      let here = comes_later spells history c.turn.before.phase a c.turn.event from c.seen is.0 in
      let rest = later_seen cs c.turn.action c.seen is.1 in
      omega (arith, here, rest)

  -- ---- a reply that is not told

  over_piece : (mid upto : ℕ) (u : State) (b : Action) (o : IsOver spells history mid upto u b) (k l g : ℕ)
      (step : SeenStep) → Asked b u → n ≤ mid → 0 < times k (made_over n o)
      → slice_get history (n + k) ≡ Some (On l step) → IsOwnStep g step → Found u.phase u l g (n + k) step (told_over o)
  over_piece mid upto u b (Untold q y aborts is comes answers going) k l g step asked le hit get piece =
      call_piece spells history n u.phase u (action.Ask q) (event.Reply y)
      (record { before = u; event = event.Reply y; action = action.Ask q; after = u }) mid upto k l g step
      (λ z e. asked_of spells history n b u asked z (is ∙ e)) comes le hit get piece
  over_piece mid upto u b any4 k l g step asked le hit get piece = none_hit k hit

  -- ---- calls of a session that has its lane, and what is behind them

  module _ (lane generation : ℕ) where
    listed_along : (cs : List Call) (a : Action) (t u : State) → Listed lane generation a t
        → AreCalls t (turns_of cs) u → Listed lane generation (action_of a cs) u
    listed_along [] a t u l run = subst (λ (z : State). Listed lane generation a z) (sym run) l
    listed_along (c ∷ cs) a t u l run =
        listed_along cs c.turn.action c.turn.after u
        (listed_next lane generation c.turn a run.1
        (subst (λ (z : State). Listed lane generation a z) (sym run.0) l)) run.2

    all_listed : (cs : List Call) (a : Action) (t u : State) (b : Action) (from mid upto : ℕ)
        (o : IsOver spells history mid upto u b) (k l g : ℕ) (step : SeenStep) → Listed lane generation a t
        → AreCalls t (turns_of cs) u → AllComeTrue spells history from a cs → action_of a cs ≡ b → n ≤ from → n ≤ mid
        → 0 < times k (made_in n a cs ++ made_over n o) → slice_get history (n + k) ≡ Some (On l step)
        → IsOwnStep g step → Owned_by spells history n lane generation k l g step (list_of a cs ++ told_over o)
    all_listed cs a t u b from mid upto o k l g step listed run is wanted le less hit get piece =
        let sum : times k (made_in n a cs ++ made_over n o) ≡ times k (made_in n a cs) + times k (made_over n o) =
        times-append k (made_in n a cs) (made_over n o) in
        elim (cases_lt 0 (times k (made_in n a cs))) [
          | inl now ↦ (
              let one = pieces_in spells history n lane generation cs a t u from k l g step listed run is le now get
              piece
              in
              record {
                lane_is = one.lane_is;
                generation_is = one.generation_is;
                listed =
                    in_front spells history n (Made (n + k) l step) (list_of a cs) (told_over o) one.listed;
              })
          | inr none ↦ (
              let last = listed_along cs a t u listed run in
              let found = over_piece mid upto u b o k l g step
              (subst (λ (z : Action). Asked z u) wanted last.asked) less (omega (arith, hit, sum, none)) get piece in
              record {
                lane_is = found.lane_is ∙ (last.is_on found.has).0;
                generation_is = found.generation_is ∙ (last.is_on found.has).1;
                listed = in_back spells history n (Made (n + k) l step) (list_of a cs) (told_over o) found.listed;
              })
        ]

  -- ---- a session that its worker began

  new_listed : (p : InitiatorPlan) (units : ℕ)
      → Listed p.lane p.generation action.Read (new_initiator p units)
  new_listed p units = record {
    ready = record { due = refl; waits = refl };
    asked = tt;
    turn = x.Before_accept;
    allowed = tt;
    holds = (refl, refl);
    on = λ e. (refl, refl);
    is_on = λ j. absurd (never j);
  }

  same_step : (l m : ℕ) (step other : SeenStep) → Some (On l step) ≡ Some (On m other)
      → On l step ≡ On m other
  same_step l m step other e = cc

  initiates : (p : InitiatorPlan) (units at from mid upto : ℕ) (u : State) (b : Action) (calls : List Call)
      (next : from ≡ at + 1) (has : HasAt history at (step_for p)) (opens : p.recovering ≡ false → p.generation ≡ 1)
      (o : IsOver spells history mid upto u b) → n + 1 ≤ from
      → Leads spells history from (new_initiator p units) action.Read calls mid u b
      → (s : Segment) × IsOf n (Calls p units at from next has opens) calls o s × IsSegment history n s
  initiates p units at from mid upto u b calls next has opens o le led =
      let rest : List ℕ = made_in n action.Read calls ++ made_over n o in
      let list : OnLane = record {
        lane = p.lane;
        generation = p.generation;
        at = at;
        events = list_of action.Read calls ++ told_over o;
      } in
      let l : SessionList = record { opening = []; at = at; events = list_of action.Read calls } in
      let less : n ≤ mid = subst (λ (m : ℕ). n ≤ m) led.seen
      (omega (arith, le, later_seen calls action.Read from led.come_true)) in (
        record { own = (at - n) ∷ rest; list = Some list },
        record {
          own = refl;
          list = (
            l,
            Initiates p units at calls has
                (subst (λ (m : ℕ). AllComeTrue spells history m action.Read calls) next led.come_true),
            refl,
            refl,
          );
        },
        record {
          begins = record {
            begins = (On (step_for p).lane (step_for p).step, has, plan_begins p opens);
            later = omega (arith, le, next);
            owned =
                let sum : times (at - n) ((at - n) ∷ [] ++ rest)
                ≡ times (at - n) ((at - n) ∷ []) + times (at - n) rest =
                times-append (at - n) ((at - n) ∷ []) rest in
                omega (arith, sum, times-self (at - n));
          };
          lists = λ k lane g step hit get piece.
              let sum : times k ((at - n) ∷ [] ++ rest) ≡ times k ((at - n) ∷ []) + times k rest =
              times-append k ((at - n) ∷ []) rest in
              elim (cases_lt 0 (times k ((at - n) ∷ []))) [
                | inl first ↦ absurd (
                    let place : k ≡ at - n = one_hit k (at - n) first in
                    let there : n + k ≡ at = omega (arith, place, le, next) in
                    let same : On (step_for p).lane (step_for p).step ≡ On lane step =
                    same_step (step_for p).lane lane (step_for p).step step
                    (sym has ∙ ap (λ (m : ℕ). slice_get history m) (sym there) ∙ get) in
                    begins_none p.lane lane p.generation g step
                    (subst (λ (y : Seen). BeginsHere p.lane p.generation y) same (plan_begins p opens)) piece)
                | inr none ↦ (
                    let found = all_listed p.lane p.generation calls action.Read (new_initiator p units) u b from mid
                    upto o k lane g step (new_listed p units) led.calls_are led.come_true led.wanted (omega (arith, le))
                    less (omega (arith, hit, sum, none)) get piece in
                    record { lane_is = found.lane_is; generation_is = found.generation_is; listed = found.listed })
              ];
          once = λ k lane g hit begins.
              let sum : times k ((at - n) ∷ [] ++ rest) ≡ times k ((at - n) ∷ []) + times k rest =
              times-append k ((at - n) ∷ []) rest in
              elim (cases_lt 0 (times k ((at - n) ∷ []))) [
                | inl first ↦ (
                    let place : k ≡ at - n = one_hit k (at - n) first in
                    let there : n + k ≡ at = omega (arith, place, le, next) in (
                      begun_lane lane g p.lane (step_for p).step
                          (begins_told lane g begins.0 (step_for p) (slice_get history (n + k)) begins.1
                          (ap (λ (m : ℕ). slice_get history m) there ∙ has) begins.2),
                      there,
                    ))
                | inr none ↦ absurd (
                    all_none spells history n p.lane p.generation calls action.Read (new_initiator p units) u b from mid
                    upto o k lane g (new_listed p units) led.calls_are led.come_true led.wanted (omega (arith, le))
                    less (omega (arith, hit, sum, none)) begins)
              ];
        },
      )

  -- ---- a responder

  -- up to the call that gives it its lane
  none_first : (own : List ℕ) (units : ℕ) (before cs : List Call) (c : Call) (step_is : StepOn) (u : State)
      (from k l g : ℕ) (step : SeenStep)
      → step_by c.turn.before.phase c.turn.event c.turn.after ≡ Some step_is
      → AreCalls (new_responder own units) (turns_of (before ++ c ∷ cs)) u
      → AllComeTrue spells history from action.Read (before ++ c ∷ cs) → GiveNone before → n ≤ from
      → slice_get history (n + k) ≡ Some (On l step) → IsOwnStep g step
      → 0 < times k (made_in n action.Read (before ++ c ∷ [])) → ⊥
  none_first own units [] cs c step_is u from k l g step by run is none le get piece hit =
      let begin : step_by phase.Begin c.turn.event c.turn.after ≡ Some step_is =
      subst (λ (z : State). step_by z.phase c.turn.event c.turn.after ≡ Some step_is) run.0 by in
      let never_so : None ≡ Some step_is = begin in cc
  none_first own units (d ∷ ds) cs c step_is u from k l g step by run is none le get piece hit =
      let later = comes_later spells history d.turn.before.phase action.Read d.turn.event from d.seen is.0 in
      let then : has_none d.turn.after.phase ≡ true =
      first_none own units d.turn.event d.turn.action d.turn.after
      (subst (λ (z : State). Answers z d.turn.event) run.0 run.1.answers)
      (subst (λ (z : State). Follows z d.turn.event d.turn.action d.turn.after) run.0 run.1.follows) in
      none_before ds cs c d.turn.action d.turn.after u d.seen k l g step
      (asked_next d.turn.action d.turn.before d.turn.event d.turn.after run.1.follows) then run.2 is.1 none.1
      (omega (arith, le, later)) get piece hit

  -- where none does
  gives_none : (own : List ℕ) (units mid upto : ℕ) (u : State) (b : Action) (calls : List Call) (from : ℕ)
      (o : IsOver spells history mid upto u b) (k l g : ℕ) (step : SeenStep)
      → Leads spells history from (new_responder own units) action.Read calls mid u b → GiveNone calls → n ≤ from
      → slice_get history (n + k) ≡ Some (On l step) → IsOwnStep g step
      → 0 < times k (made_in n action.Read calls ++ made_over n o) → ⊥
  gives_none own units mid upto u b [] from o k l g step led none le get piece hit =
      none_over o led.wanted hit
    where
      none_over : (o : IsOver spells history mid upto u b) → action.Read ≡ b → 0 < times k (made_over n o) → ⊥
      none_over (Ended e is same) w hit = none_hit k hit
      none_over (Stopped came aborts at may going same) w hit = none_hit k hit
      none_over (Untold q y aborts is comes answers going) w hit = read_asks q (w ∙ is)
  gives_none own units mid upto u b (d ∷ ds) from o k l g step led none le get piece hit =
      let run = led.calls_are in
      let is = led.come_true in
      let later = comes_later spells history d.turn.before.phase action.Read d.turn.event from d.seen is.0 in
      let then : has_none d.turn.after.phase ≡ true =
      first_none own units d.turn.event d.turn.action d.turn.after
      (subst (λ (z : State). Answers z d.turn.event) run.0 run.1.answers)
      (subst (λ (z : State). Follows z d.turn.event d.turn.action d.turn.after) run.0 run.1.follows) in
      let rest = none_all ds d.turn.action d.turn.after u d.seen k l g step
      (asked_next d.turn.action d.turn.before d.turn.event d.turn.after run.1.follows) then run.2 is.1 none.1
      (omega (arith, le, later)) get piece in
      let less : n ≤ mid =
      subst (λ (m : ℕ). n ≤ m) led.seen
      (omega (arith, le, later, later_seen ds d.turn.action d.seen is.1)) in
      let sum : times k (made_in n d.turn.action ds ++ made_over n o)
      ≡ times k (made_in n d.turn.action ds) + times k (made_over n o) =
      times-append k (made_in n d.turn.action ds) (made_over n o) in
      elim (cases_lt 0 (times k (made_in n d.turn.action ds))) [
        | inl now ↦ rest.none now
        | inr zero_of ↦ not_both u.phase rest.still
            (over_piece mid upto u b o k l g step (subst (λ (z : Action). Asked z u) led.wanted rest.asked) less
            (omega (arith, hit, sum, zero_of)) get piece).has
      ]

  -- ---- a responder that has its lane

  begins_list : (own : List ℕ) (units from mid upto : ℕ) (u : State) (b : Action) (calls : List Call)
      (o : IsOver spells history mid upto u b) → n ≤ from
      → Leads spells history from (new_responder own units) action.Read calls mid u b
      → BeginsWith spells history calls action.Read u from
      → (s : Segment) × IsOf n (Listens own units from) calls o s × IsSegment history n s
  begins_list own units from mid upto u b calls o le led g =
      let c : Call = g.call in
      let lane : ℕ = c.turn.after.lane in
      let generation : ℕ = c.turn.after.generation in
      let rest : List ℕ = made_in n action.Read calls ++ made_over n o in
      let events : List SessionEvent = list_of c.turn.action g.calls in
      let list : OnLane = record {
        lane = lane;
        generation = generation;
        at = g.at;
        events = events ++ told_over o;
      } in
      let l : SessionList = record { opening = list_of action.Read g.before; at = g.at; events = events } in
      let less : n ≤ mid = subst (λ (m : ℕ). n ≤ m) led.seen
      (omega (arith, le, later_seen calls action.Read from led.come_true)) in
      let cut : calls ≡ (g.before ++ c ∷ []) ++ g.calls =
      g.cut ∙ sym (append_assoc g.before (c ∷ []) g.calls) in
      let last : action_of action.Read (g.before ++ c ∷ []) ≡ c.turn.action =
      action_more g.before (c ∷ []) action.Read in
      let halves : made_in n action.Read calls
      ≡ made_in n action.Read (g.before ++ c ∷ []) ++ made_in n c.turn.action g.calls =
      ap (λ (cs : List Call). made_in n action.Read cs) cut
      ∙ made_more (g.before ++ c ∷ []) g.calls n action.Read
      ∙ ap (λ (z : Action). made_in n action.Read (g.before ++ c ∷ []) ++ made_in n z g.calls) last in
      let all : rest
      ≡ made_in n action.Read (g.before ++ c ∷ []) ++ (made_in n c.turn.action g.calls ++ made_over n o) =
      ap (λ (ns : List ℕ). ns ++ made_over n o) halves
      ∙ append_assoc (made_in n action.Read (g.before ++ c ∷ [])) (made_in n c.turn.action g.calls) (made_over n o) in
      let asks = asked_of spells history n g.pending c.turn.before g.asked in
      let begun : BeginsHere lane generation (On g.step.lane g.step.step) =
      subst (λ (y : Option StepOn). BeginsAs c.turn.after y) g.by
      (begins_as c.turn.before.phase c.turn.before c.turn.after c.turn.event g.pending c.turn.action g.ready.waits asks
      (λ i. does_at c.turn c.turn.event refl g.is i)) in
      let one : made_by n c.seen g.pending c.turn.event ≡ (c.seen - 1 - n) ∷ [] =
      subst (λ (y : Option StepOn). MadeOne n c.seen g.pending c.turn.event y) g.by
      (made_there n c.turn.before.phase c.turn.before c.turn.after c.turn.event g.pending c.turn.action c.seen
      g.ready.waits asks) in
      let done = begins_done c.turn g.is
      (is_some (step_by c.turn.before.phase c.turn.event c.turn.after) g.step g.by) in
      let awaited = (call_after c.turn.before c.turn.event c.turn.action c.turn.after g.is.fits g.ready.due
      g.is.follows).awaited in
      let listed_now : Listed lane generation c.turn.action c.turn.after = record {
        ready = ready_next c.turn g.is g.ready.due;
        asked = asked_next c.turn.action c.turn.before c.turn.event c.turn.after g.is.follows;
        turn = x.Before_accept;
        allowed = done.allowed;
        holds = done.holds;
        on = λ e. absurd (not_first c.turn.action (subst (λ (p : Phase). awaits c.turn.action p ≡ true) e awaited));
        is_on = λ j. (refl, refl);
      } in
      let wanted : action_of c.turn.action g.calls ≡ b =
      ap (λ (z : Action). action_of z g.calls) (sym last)
      ∙ sym (action_more (g.before ++ c ∷ []) g.calls action.Read)
      ∙ ap (λ (cs : List Call). action_of action.Read cs) (sym cut) ∙ led.wanted in
      let first_part : List ℕ = made_in n action.Read (g.before ++ c ∷ []) in
      let made_first : first_part ≡ made_in n action.Read g.before ++ ((c.seen - 1 - n) ∷ []) =
      made_more g.before (c ∷ []) n action.Read
      ∙ ap (λ (z : Action). made_in n action.Read g.before ++ (made_by n c.seen z c.turn.event ++ []))
      (sym g.pending_is)
      ∙ ap (λ (ns : List ℕ). made_in n action.Read g.before ++ (ns ++ [])) one in
      let behind : List ℕ = made_in n c.turn.action g.calls ++ made_over n o in (
        record { own = rest; list = Some list },
        record {
          own = refl;
          list = (
            l,
            subst (λ (cs : List Call). IsListOf spells history (new_responder own units) cs lane l) (sym g.cut)
                (Responds own units g.at g.before g.calls c g.step g.by g.seen g.has g.come_true),
            refl,
            refl,
          );
        },
        record {
          begins = record {
            begins = (On g.step.lane g.step.step, g.has, begun);
            later = omega (arith, le, g.least);
            owned =
                let place : c.seen - 1 - n ≡ g.at - n = omega (arith, g.seen) in
                let here : times (g.at - n) first_part
                ≡ times (g.at - n) (made_in n action.Read g.before) + times (g.at - n) ((c.seen - 1 - n) ∷ []) =
                ap (λ (ns : List ℕ). times (g.at - n) ns) made_first
                ∙ times-append (g.at - n) (made_in n action.Read g.before) ((c.seen - 1 - n) ∷ []) in
                let self : times (g.at - n) ((c.seen - 1 - n) ∷ []) ≡ 1 =
                ap (λ (m : ℕ). times (g.at - n) (m ∷ [])) place ∙ times-self (g.at - n) in
                let sum : times (g.at - n) rest ≡ times (g.at - n) first_part + times (g.at - n) behind =
                ap (λ (ns : List ℕ). times (g.at - n) ns) all ∙ times-append (g.at - n) first_part behind in
                omega (arith, here, self, sum);
          };
          lists = λ k m j step hit get piece.
              let sum : times k rest ≡ times k first_part + times k behind =
              ap (λ (ns : List ℕ). times k ns) all ∙ times-append k first_part behind in
              elim (cases_lt 0 (times k first_part)) [
                | inl early ↦ absurd (
                    none_first own units g.before g.calls c g.step u from k m j step g.by
                    (subst (λ (cs : List Call). AreCalls (new_responder own units) (turns_of cs) u) g.cut led.calls_are)
                    (subst (λ (cs : List Call). AllComeTrue spells history from action.Read cs) g.cut led.come_true)
                    g.none
                    le get piece early)
                | inr none ↦ (
                    let found = all_listed lane generation g.calls c.turn.action c.turn.after u b (g.at + 1) mid upto
                    o k m j
                    step listed_now g.run g.come_true wanted (omega (arith, le, g.least)) less
                    (omega (arith, hit, sum, none)) get piece in
                    record { lane_is = found.lane_is; generation_is = found.generation_is; listed = found.listed })
              ];
          once = λ k m j hit begins.
              let sum : times k rest ≡ times k first_part + times k behind =
              ap (λ (ns : List ℕ). times k ns) all ∙ times-append k first_part behind in
              let one_sum : times k first_part
              ≡ times k (made_in n action.Read g.before) + times k ((c.seen - 1 - n) ∷ []) =
              ap (λ (ns : List ℕ). times k ns) made_first
              ∙ times-append k (made_in n action.Read g.before) ((c.seen - 1 - n) ∷ []) in
              elim (cases_lt 0 (times k ((c.seen - 1 - n) ∷ []))) [
                | inl now ↦ (
                    let place : k ≡ c.seen - 1 - n = one_hit k (c.seen - 1 - n) now in
                    let there : n + k ≡ g.at = omega (arith, place, le, g.least, g.seen) in (
                      begun_lane m j g.step.lane g.step.step
                          (begins_told m j begins.0 g.step (slice_get history (n + k)) begins.1
                          (ap (λ (z : ℕ). slice_get history z) there ∙ g.has) begins.2)
                          ∙ sym (begun_lane lane generation g.step.lane g.step.step begun),
                      there,
                    ))
                | inr not_now ↦ elim (cases_lt 0 (times k (made_in n action.Read g.before))) [
                  | inl early ↦ absurd (
                      none_begun spells history n g.before (c ∷ g.calls) action.Read (new_responder own units) u from k
                      m j tt
                      (subst (λ (cs : List Call). AreCalls (new_responder own units) (turns_of cs) u) g.cut
                      led.calls_are)
                      (subst (λ (cs : List Call). AllComeTrue spells history from action.Read cs) g.cut led.come_true)
                      g.none le early begins)
                  | inr not_early ↦ absurd (
                      all_none spells history n lane generation g.calls c.turn.action c.turn.after u b (g.at + 1) mid
                      upto o k m j listed_now g.run g.come_true wanted (omega (arith, le, g.least)) less
                      (omega (arith, hit, sum, one_sum, not_now, not_early)) begins)
                ]
              ];
        },
      )

pub sessions_are_segments : SessionsAreSegments
sessions_are_segments spells history n from mid upto t u b calls (Calls p units at from' is has opens) o le led =
    initiates spells history n p units at from mid upto u b calls is has opens o le led
sessions_are_segments spells history n from mid upto t u b calls (Listens own units from') o le led =
    elim (begins_or_not spells history calls action.Read (new_responder own units) u from
    (record { due = refl; waits = refl }) tt led.calls_are led.come_true) [
      | inl g ↦ begins_list spells history n own units from mid upto u b calls o (omega (arith, le)) led g
      | inr none ↦ (
        record { own = made_in n action.Read calls ++ made_over n o; list = None },
        record { own = refl; list = (refl, none) },
        record {
          begins = tt;
          lists = λ k m j step hit get piece.
              absurd (gives_none spells history n own units mid upto u b calls from o k m j step led none
              (omega (arith, le)) get piece hit);
          once = λ k m j hit begins. tt;
        },
      )
    ]
