-- The steps that a session made on its lane stand in its list.
use Rattle.std.proofs.Common.{◌≡◌, ◌<◌, ◌≤◌, ℕ, ◌+◌, ◌-◌, Bool, true, false, cond, eqb, Option, None, Some, List, []}
use Rattle.std.proofs.Common.{◌∷◌, ◌++◌}
use Rattle.std.proofs.Common.{inl, inr, refl, sym, ap, subst, ◌∙◌, arith, slice_get}
use Rattle.std.proofs.lemmas.Bool.{cases_lt, eqb-true}
use Rattle.mta_transfer_rules.specs.Lanes.{On, Seen, SeenStep}
use Rattle.mta_session.specs.State.{State}
use Rattle.mta_session.specs.declared.ask.Ask.{Ask}
use Rattle.mta_session.specs.declared.ask.Reply.{Reply}
use Rattle.mta_session.specs.declared.event.Action.{Action}
use Rattle.mta_session.specs.declared.event.Action.TheVariants as action
use Rattle.mta_session.specs.declared.event.Event.{Event}
use Rattle.mta_session.specs.declared.event.Event.TheVariants as event
use Rattle.mta_session.specs.declared.phase.Phase.{Phase}
use Rattle.mta_session_laws.specs.Runs.{Turn}
use Rattle.mta_session_laws.specs.Whole.{AreCalls}
use Rattle.mta_transfer_laws.specs.Sessions.{Made, SessionEvent}
use Rattle.mta_lane_match_laws.specs.Asks.{IsAskOf}
use Rattle.mta_lane_match_laws.specs.Calls.{has_lane}
use Rattle.mta_session_list_laws.specs.Calls.{Call, come_of, list_of, look_told, step_told, StepOn, told_as, turns_of}
use Rattle.mta_session_list_laws.specs.Laws.{IsIn}
use Rattle.mta_session_list_laws.specs.Standing.{AllComeTrue, ComesTrue, StandsAs}
use Rattle.mta_shared.specs.Counts.{times}
use Rattle.mta_shared.proofs.Sums.{times-append}
use Rattle.mta_worker_list_laws.specs.Leads.{entry_at, made_by, made_in}
use Rattle.mta_worker_list_laws.specs.Segments.{IsOwnStep}
use Rattle.mta_worker_list_laws.proofs.Keeping.{Listed, listed_next}
use Rattle.mta_worker_list_laws.proofs.OwnSteps.{asked_place, lane_of, Place, place, StepOf, told_place}
use Rattle.mta_worker_list_laws.proofs.Responding.{comes_later}
use Rattle.mta_worker_list_laws.proofs.Waits.{Asked}

-- a number that stands in the list of one
pub one_hit : (k m : ℕ) → 0 < times k (m ∷ []) → k ≡ m
one_hit k m l = by_test (eqb k m) refl l
  where
    by_test : (b : Bool) → eqb k m ≡ b → 0 < cond b 1 0 + 0 → k ≡ m
    by_test true e l = eqb-true k m e
    by_test false e l = absurd (omega (arith, l))

pub none_hit : {A : Type 0} → (k : ℕ) → 0 < times k [] → A
none_hit k l = absurd (omega (arith, l))

abbrev pub on_lane : ℕ → SeenStep → StepOn
on_lane lane step = record { lane = lane; step = step }

same_entry : (z : StepOn) (lane : ℕ) (step : SeenStep) → Some (On z.lane z.step) ≡ Some (On lane step)
    → z ≡ on_lane lane step
same_entry z lane step e =
    let both : (z.lane ≡ lane) × (z.step ≡ step) = (cc, cc) in
    ap (λ (n : ℕ). on_lane n z.step) both.0 ∙ ap (λ (s : SeenStep). on_lane lane s) both.1

-- ---- one call

-- the lane and the generation of such a step, and the event
pub record Found (p : Phase) (t : State) (lane g position : ℕ) (step : SeenStep) (events : List SessionEvent) : Type 0
  where
    pub has : has_lane p ≡ true
    pub lane_is : lane ≡ t.lane
    pub generation_is : g ≡ t.generation
    pub listed : IsIn (Made position lane step) events

module _ (spells : List ℕ → Bool) (history : List Seen) (n : ℕ) where
  told_at : (o : Option StepOn) (q : Ask) (y : Reply) (from seen k lane : ℕ) (step : SeenStep)
      → StandsAs spells history from seen q y o → n ≤ from → 0 < times k (entry_at n seen o)
      → slice_get history (n + k) ≡ Some (On lane step)
      → (o ≡ Some (on_lane lane step)) × (seen - 1 ≡ n + k)
  told_at None q y from seen k lane step s le l get = none_hit k l
  told_at (Some z) q y from seen k lane step s le l get =
      let at : k ≡ seen - 1 - n = one_hit k (seen - 1 - n) l in
      let place_is : seen - 1 ≡ n + k = omega (arith, at, le, s.later) in
      let entry : Some (On z.lane z.step) ≡ Some (On lane step) =
      sym s.entry ∙ ap (λ (m : ℕ). slice_get history m) place_is ∙ get in
      (ap Some (same_entry z lane step entry), place_is)

  ask_piece : (p : Phase) (t : State) (q : Ask) (y : Reply) (turn : Turn) (from seen k lane g : ℕ) (step : SeenStep)
      → IsAskOf p t q → ComesTrue spells history from seen p (action.Ask q) (event.Reply y) → n ≤ from
      → 0 < times k (made_by n seen (action.Ask q) (event.Reply y)) → slice_get history (n + k) ≡ Some (On lane step)
      → IsOwnStep g step → Found p t lane g (n + k) step (come_of (action.Ask q) turn seen (event.Reply y))
  ask_piece p t q y turn from seen k lane g step asked is le l get piece =
      let told = told_at (step_told q y) q y from seen k lane step is.1 le l get in
      let of_step : StepOf g (step_told q y) = subst (λ (o : Option StepOn). StepOf g o) (sym told.0) piece in
      let at = told_place q y g of_step ∙ ap (λ (o : Option StepOn). Some (place (lane_of o) g)) told.0 in
      let found = asked_place p t q (place lane g) asked at in
      record {
        has = found.0;
        lane_is = ap (λ (x : Place). x.lane) found.1;
        generation_is = ap (λ (x : Place). x.generation) found.1;
        listed =
            inl
            (sym (ap (λ (o : Option StepOn). told_as seen o (look_told q y)) told.0
            ∙ ap (λ (m : ℕ). Made m lane step) told.1));
      }

  pub call_piece : (p : Phase) (t : State) (a : Action) (e : Event) (turn : Turn) (from seen k lane g : ℕ)
      (step : SeenStep) → ((q : Ask) → a ≡ action.Ask q → IsAskOf p t q) → ComesTrue spells history from seen p a e
      → n ≤ from → 0 < times k (made_by n seen a e) → slice_get history (n + k) ≡ Some (On lane step)
      → IsOwnStep g step → Found p t lane g (n + k) step (come_of a turn seen e)
  call_piece p t (action.Ask q) (event.Reply y) turn from seen k lane g step asked is le l get piece =
      ask_piece p t q y turn from seen k lane g step (asked q refl) is le l get piece
  call_piece p t (action.Ask q) any3 turn from seen k lane g step asked is le l get piece = none_hit k l
  call_piece p t any2 e turn from seen k lane g step asked is le l get piece = none_hit k l

  -- ---- all calls

  pub asked_of : (a : Action) (t : State) → Asked a t → (q : Ask) → a ≡ action.Ask q → IsAskOf t.phase t q
  asked_of a t i q e = subst (λ (z : Action). Asked z t) e i

  pub in_front : (y : SessionEvent) (xs ys : List SessionEvent) → IsIn y xs → IsIn y (xs ++ ys)
  in_front y [] ys i = absurd i
  in_front y (x ∷ xs) ys i = elim i [ inl e ↦ inl e | inr more ↦ inr (in_front y xs ys more) ]

  pub in_back : (y : SessionEvent) (xs ys : List SessionEvent) → IsIn y ys → IsIn y (xs ++ ys)
  in_back y [] ys i = i
  in_back y (x ∷ xs) ys i = inr (in_back y xs ys i)

  module _ (lane generation : ℕ) where
    pub record Owned_by (k l g : ℕ) (step : SeenStep) (events : List SessionEvent) : Type 0 where
      pub lane_is : l ≡ lane
      pub generation_is : g ≡ generation
      pub listed : IsIn (Made (n + k) l step) events

    from_call : (p : Phase) (t : State) (k l g : ℕ) (step : SeenStep) (events : List SessionEvent)
        → (has_lane p ≡ true → (t.lane ≡ lane) × (t.generation ≡ generation)) → Found p t l g (n + k) step events
        → Owned_by k l g step events
    from_call p t k l g step events on f = record {
      lane_is = f.lane_is ∙ (on f.has).0;
      generation_is = f.generation_is ∙ (on f.has).1;
      listed = f.listed;
    }

    pub pieces_in : (cs : List Call) (a : Action) (t u : State) (from k l g : ℕ) (step : SeenStep)
        → Listed lane generation a t → AreCalls t (turns_of cs) u → AllComeTrue spells history from a cs → n ≤ from
        → 0 < times k (made_in n a cs) → slice_get history (n + k) ≡ Some (On l step) → IsOwnStep g step
        → Owned_by k l g step (list_of a cs)
    pieces_in [] a t u from k l g step listed run is le hit get piece = none_hit k hit
    pieces_in (c ∷ cs) a t u from k l g step listed run is le hit get piece =
        let here : Listed lane generation a c.turn.before =
        subst (λ (z : State). Listed lane generation a z) (sym run.0) listed in
        let sum : times k (made_by n c.seen a c.turn.event ++ made_in n c.turn.action cs)
        ≡ times k (made_by n c.seen a c.turn.event) + times k (made_in n c.turn.action cs) =
        times-append k (made_by n c.seen a c.turn.event) (made_in n c.turn.action cs) in
        elim (cases_lt 0 (times k (made_by n c.seen a c.turn.event))) [
          | inl now ↦ (
              let one = from_call c.turn.before.phase c.turn.before k l g step (come_of a c.turn c.seen c.turn.event)
              here.is_on
              (call_piece c.turn.before.phase c.turn.before a c.turn.event c.turn from c.seen k l g step
              (asked_of a c.turn.before here.asked) is.0 le now get piece) in
              record {
                lane_is = one.lane_is;
                generation_is = one.generation_is;
                listed = in_front (Made (n + k) l step) (come_of a c.turn c.seen c.turn.event)
                    (list_of c.turn.action cs) one.listed;
              })
          | inr none ↦ (
              let later = comes_later spells history c.turn.before.phase a c.turn.event from c.seen is.0 in
              let rest = pieces_in cs c.turn.action c.turn.after u c.seen k l g step
              (listed_next lane generation c.turn a run.1 here) run.2 is.1 (omega (arith, le, later))
              (omega (arith, hit, sum, none)) get piece in
              record {
                lane_is = rest.lane_is;
                generation_is = rest.generation_is;
                listed = in_back (Made (n + k) l step) (come_of a c.turn c.seen c.turn.event)
                    (list_of c.turn.action cs) rest.listed;
              })
        ]
