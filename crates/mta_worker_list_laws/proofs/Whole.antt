-- The list of a session that is one of the parts of a history is a good one.
use Rattle.std.proofs.Common.{◌≡◌, ◌<◌, ℕ, suc, ◌+◌, Bool, false, Option, None, Some, List, [], ◌∷◌, ◌++◌, take}
use Rattle.std.proofs.Common.{inl, inr}
use Rattle.std.proofs.Common.{refl, sym, ap, subst, ◌∙◌, arith, slice_get}
use Rattle.mta_transfer_rules.specs.Sending.{SendEnd}
use Rattle.mta_transfer_rules.specs.Lanes.{Bind, Complete, Drop, Halves, halves_after, lane_in, LaneOpen, LanesAllow}
use Rattle.mta_transfer_rules.specs.Lanes.{On}
use Rattle.mta_transfer_rules.specs.Lanes.{Secure, Seen, SeenStep}
use Rattle.mta_session.specs.State.{is_initiator, State}
use Rattle.mta_session.specs.declared.event.Action.{Action}
use Rattle.mta_session.specs.declared.event.Action.TheVariants as action
use Rattle.mta_session.specs.declared.event.Event.TheVariants as event
use Rattle.mta_transfer_laws.specs.Sessions.{Made, seen_after, send_all, sending_event, SessionEvent, SessionList}
use Rattle.mta_lane_match_laws.specs.Generations.{Begins as BeginsHere, BeginsAt}
use Rattle.mta_session_list_laws.specs.Abandons.{abandon_at, abandoned_upto, given_up, has_before, with_abandons}
use Rattle.mta_session_list_laws.specs.Calls.{action_of, Call, look_told, step_told, told_as}
use Rattle.mta_session_list_laws.specs.Laws.{IsIn, IsPiece, ListsAreGood, OwnsPieces}
use Rattle.mta_session_list_laws.specs.Lists.{completed}
use Rattle.mta_session_list_laws.specs.Over.{abort_of, came_of, Over, tail_of}
use Rattle.mta_session_list_laws.proofs.Lanes.{step_leads}
use Rattle.mta_transfer_laws.specs.History.{lane_upto}
use Rattle.mta_transfer_laws.proofs.Histories.{upto-take}
use Rattle.mta_worker_list_laws.specs.Begun.{Ended, IsOver, over_as, Stopped, Untold}
use Rattle.mta_worker_list_laws.specs.Good.{IsListOver}
use Rattle.mta_worker_list_laws.specs.Segments.{Begins, BeginsIn, IsOwnStep, OnLane, SegmentsAreGood}
use Rattle.mta_worker_list_laws.specs.Segments.{told_over}
use Rattle.mta_worker_list_laws.proofs.Good.{sessions_good}
use Rattle.mta_worker_list_laws.proofs.Segments.{is_segment, lists_own_steps}

-- ---- in the list

before_in : (y : SessionEvent) (xs ys : List SessionEvent) → IsIn y xs → IsIn y (xs ++ ys)
before_in y [] ys i = absurd i
before_in y (x ∷ xs) ys i = elim i [ inl e ↦ inl e | inr more ↦ inr (before_in y xs ys more) ]

behind_in : (y : SessionEvent) (xs ys : List SessionEvent) → IsIn y ys → IsIn y (xs ++ ys)
behind_in y [] ys i = i
behind_in y (x ∷ xs) ys i = inr (behind_in y xs ys i)

in_either : (y : SessionEvent) (xs ys zs : List SessionEvent) → (IsIn y ys → IsIn y zs) → IsIn y (xs ++ ys)
    → IsIn y (xs ++ zs)
in_either y [] ys zs f i = f i
in_either y (x ∷ xs) ys zs f i = elim i [ inl e ↦ inl e | inr more ↦ inr (in_either y xs ys zs f more) ]

-- with the Abandons of other passes too
pub with_in : (history : List Seen) (lane : ℕ) (y : SessionEvent) (ys : List SessionEvent) (from : ℕ) (e : SendEnd)
    → IsIn y ys → IsIn y (with_abandons history lane from e ys)
with_in history lane y [] from e i = absurd i
with_in history lane y (x ∷ xs) from e i =
    let found : Option ℕ = abandoned_upto history lane from e (has_before lane x) in
    let then : ℕ = seen_after lane from x in
    let after : SendEnd = send_all (given_up e found) (sending_event lane x) in
    behind_in y (abandon_at lane e found) (x ∷ with_abandons history lane then after xs)
    (elim i [ inl same ↦ inl same | inr more ↦ inr (with_in history lane y xs then after more) ])

-- what came of the last action
pub over_in : (spells : List ℕ → Bool) (history : List Seen) (mid upto : ℕ) (u : State) (b : Action) (calls : List Call)
    (l m : SessionList) (o : IsOver spells history mid upto u b) (y : SessionEvent) → action_of action.Read calls ≡ b
    → IsListOver calls l o m → IsIn y (l.events ++ told_over o) → IsIn y m.events
over_in spells history mid upto u b calls l m o y w so i =
    subst (λ (z : SessionList). IsIn y z.events) (sym so) (in_over o w i)
  where
    last : Action
    last = action_of action.Read calls

    none_in : (x : Over) → IsIn y (l.events ++ []) → IsIn y (l.events ++ tail_of last x)
    none_in x i = in_either y l.events [] (tail_of last x) (λ k. absurd k) i

    in_over : (o : IsOver spells history mid upto u b) → last ≡ b → IsIn y (l.events ++ told_over o)
        → IsIn y (l.events ++ tail_of last (over_as o))
    in_over (Ended e is same) w i = none_in (record { untold = None; seen = upto; aborts = false }) i
    in_over (Stopped came aborts at may going same) w i =
        none_in (record { untold = came; seen = upto; aborts = aborts }) i
    in_over (Untold q x aborts is comes answers going) w i =
        let told : List SessionEvent = told_as upto (step_told q x) (look_told q x) ∷ [] in
        subst (λ (a : Action). IsIn y (l.events ++ (came_of a upto (event.Reply x) ++ abort_of aborts))) (sym (w ∙ is))
        (in_either y l.events told (told ++ abort_of aborts) (before_in y told (abort_of aborts)) i)

-- ---- its generation

begun_generation : (l : Halves) (lane g : ℕ) (step : Seen) (m : ℕ) (on : SeenStep) → step ≡ On m on
    → BeginsHere lane g step → (halves_after l on).generation ≡ g
begun_generation l lane g step m on e b = by_step on (subst (λ (z : Seen). BeginsHere lane g z) e b)
  where
    by_step : (on : SeenStep) → BeginsHere lane g (On m on) → (halves_after l on).generation ≡ g
    by_step (LaneOpen agreed size window) b = sym b.1
    by_step (Bind h) b = b.1
    by_step on b = absurd b

module _ (spells : List ℕ → Bool) (history : List Seen) (allow : LanesAllow spells history) where
  -- behind the step that begins it
  generation_there : (lane g at : ℕ) → BeginsAt history at lane g
      → (lane_in lane (take (suc at) history)).generation ≡ g
  generation_there lane g at b = by_step b.0 b.1 b.2
    where
      by_step : (step : Seen) → slice_get history at ≡ Some step → BeginsHere lane g step
          → (lane_in lane (take (suc at) history)).generation ≡ g
      by_step (On m on) get b =
          let same : m ≡ lane = mine m on b in
          let get_here : slice_get history at ≡ Some (On lane on) =
          subst (λ (n : ℕ). slice_get history at ≡ Some (On n on)) same get in
          ap (λ (z : Halves). z.generation)
          (sym (upto-take history lane (suc at) (omega arith)) ∙ step_leads spells history lane allow at on get_here)
          ∙ begun_generation (lane_upto history lane (take at history)) lane g (On m on) m on refl b
        where
          mine : (m : ℕ) (on : SeenStep) → BeginsHere lane g (On m on) → m ≡ lane
          mine m (LaneOpen agreed size window) b = b.0
          mine m (Bind h) b = b.0
          mine m on b = absurd b
      by_step step get b = absurd b

-- a step that concerns pieces is one that a session makes
piece_is : (g : ℕ) (step : SeenStep) → IsPiece g step → IsOwnStep g step
piece_is g (Secure j k n piece) i = i
piece_is g (Complete j k n piece) i = i
piece_is g (Drop j k) i = i
piece_is g step i = absurd i

pub segments_are_good : ListsAreGood → SegmentsAreGood
segments_are_good whole spells history before low from mid upto ss s t u b calls new over x l m size window
    allow
    are one of_it list le led is_list at_is events_are so values =
    sessions_good whole spells history from mid upto t u b calls x.lane l m size window allow new led over
    is_list
    so values owned
  where
    place : m.at ≡ x.at
    place = ap (λ (z : SessionList). z.at) so ∙ sym at_is

    begun : BeginsIn history before s.own x
    begun = subst (λ (o : Option OnLane). Begins history before s.own o) list
        (is_segment history before ss s are.segments one).begins

    generation_is : (lane_in x.lane (take (m.at + 1) history)).generation ≡ x.generation
    generation_is =
        let next : m.at + 1 ≡ suc x.at = omega (arith, place) in
        ap (λ (n : ℕ). (lane_in x.lane (take n history)).generation) next
        ∙ generation_there spells history allow.allowed x.lane x.generation x.at begun.begins

    owned : OwnsPieces history x.lane (completed history x.lane size window (is_initiator t.side) m)
    owned = λ q step later get piece.
        with_in history x.lane (Made q x.lane step) m.events _ _
        (over_in spells history mid upto u b calls l m over (Made q x.lane step) led.wanted so
        (subst (λ (zs : List SessionEvent). IsIn (Made q x.lane step) zs) events_are
        (lists_own_steps spells history before low ss s x allow.allowed are one list le q step
        (subst (λ (n : ℕ). n < q) place later) get
        (piece_is x.generation step (subst (λ (g : ℕ). IsPiece g step) generation_is piece)))))
