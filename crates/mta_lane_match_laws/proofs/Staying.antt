-- What stays of a lane, whoever makes steps.
use Rattle.std.proofs.Common.{◌≡◌, ℕ, ◌+◌, ◌≤◌, true, false, List, [], ◌∷◌, Option, refl, rules, sym, subst}
use Rattle.std.proofs.Common.{◌∙◌, arith, eqb}
use Rattle.std.proofs.lemmas.Bool.{eqb-true, ne_eqb}
use Rattle.mta_lane_send.specs.declared.state.SendState.{SendState}
use Rattle.mta_lane_send.specs.declared.state.SendState.TheVariants.{Idle, Sending, Dropping}
use Rattle.mta_lane_send.specs.Half.{goes_on, is_sending, last_of, confirmed_at}
use Rattle.mta_records.specs.declared.step.Step.{Step}
use Rattle.mta_records.specs.declared.lane.LaneRole.{LaneRole}
use Rattle.mta_histories.specs.Lanes.{Lane}
use Rattle.mta_histories.specs.Lanes as spool
use Rattle.mta_histories.specs.Classes.{LaneStep, agree, bind, start, confirm, to_end, settle, abandon, secure}
use Rattle.mta_histories.specs.Classes.{complete, drop_pieces, close, Class}
use Rattle.mta_histories.specs.Classes.{on_lane, class_of}
use Rattle.mta_histories.specs.Classes.{was_sent, was_refused, was_denied, was_dropped}
use Rattle.mta_histories.specs.History.{LaneNeeds, lane_after, after_step, ArePossible, after_from, when}
use Rattle.mta_histories.specs.Kept.{IsKept}
use Rattle.mta_histories.specs.Laws.{StepsKeep}
use Rattle.mta_lane_match_laws.specs.Laws.{LanesKeepRoles, IsPast, GivenUpStays, IsDropping, IsNoAbandon, AreNoAbandon}
use Rattle.mta_lane_match_laws.specs.Laws.{OnlyAbandonsDrop}
use Rattle.mta_lane_match_laws.proofs.OneLane.{LeadsOn, Holds, begins_with, step_keeps, steps_hold}

-- ---- roles

role_kept : (s : spool.State) (lane : Lane) (moment : ℕ) (step : LaneStep)
    → (lane_after s lane step moment).role ≡ lane.role
role_kept s lane moment step = search rules

roles_lead : (n : ℕ) (role : LaneRole) (s : spool.State) (c : Class) (moment : ℕ)
    → LeadsOn (λ lane. lane.role ≡ role) n s c moment
roles_lead n role s (on_lane m g step) moment = λ lane same current needs is. role_kept s lane moment step ∙ is
roles_lead n role s any3 moment = tt

pub lanes_keep_roles : StepsKeep → LanesKeepRoles
lanes_keep_roles keep n role s steps kept possible le is =
    (steps_hold keep (λ lane. lane.role ≡ role) n s steps kept possible (roles_lead n role) (le, is)).1

-- ---- an activity that does not go on

confirmed_past : (x : SendState) (k n : ℕ) → (k ≤ last_of x) × (goes_on x k ≡ false)
    → (k ≤ last_of (confirmed_at x n)) × (goes_on (confirmed_at x n) k ≡ false)
confirmed_past (Idle l) k n h = h
confirmed_past any0 k n h = h

ended_past : (x : SendState) (k j c : ℕ) → is_sending x j ≡ true → (k ≤ last_of x) × (goes_on x k ≡ false)
    → (k ≤ j) × (eqb k j ≡ false)
ended_past (Sending i d) k j c e h =
    let same : j ≡ i = eqb-true j i e in
    subst (λ (v : ℕ). (k ≤ v) × (eqb k v ≡ false)) (sym same) h
ended_past any0 k j c e h = absurd cc

module _ (k : ℕ) (s : spool.State) (lane : Lane) (moment : ℕ) where
  past_leads : (step : LaneStep) → LaneNeeds s lane step moment → IsPast k lane
      → IsPast k (lane_after s lane step moment)
  past_leads (agree c w) needs h = h
  past_leads bind needs h = h
  past_leads (start j i rs) needs h =
      (omega (arith, h.0), ne_eqb k (last_of lane.sending + 1) (λ e. omega (arith, e, h.0)))
  past_leads (confirm j n) needs h = confirmed_past lane.sending k n h
  past_leads (to_end j) needs h = ended_past lane.sending k j 0 needs h
  past_leads (settle was_sent j) needs h = (h.0, refl)
  past_leads (settle (was_refused kind) j) needs h = (h.0, refl)
  past_leads (settle was_denied j) needs h = (h.0, refl)
  past_leads (settle was_dropped j) needs h = (h.0, refl)
  past_leads (abandon j) needs h = ((ended_past lane.sending k j 0 needs.0 h).0, refl)
  past_leads (secure j n piece) needs h = h
  past_leads (complete j n piece) needs h = h
  past_leads (drop_pieces j) needs h = h
  past_leads close needs h = h

all_past_lead : (n k : ℕ) (s : spool.State) (c : Class) (moment : ℕ) → LeadsOn (IsPast k) n s c moment
all_past_lead n k s (on_lane m g step) moment = λ lane same current needs h. past_leads k s lane moment step needs h
all_past_lead n k s any3 moment = tt

pub given_up_stays : StepsKeep → GivenUpStays
given_up_stays keep n k s steps kept possible le h =
    (steps_hold keep (IsPast k) n s steps kept possible (all_past_lead n k) (le, h)).1

-- ---- an activity that is given up

confirmed_dropping : (x : SendState) (k n : ℕ) → confirmed_at x n ≡ Dropping k → x ≡ Dropping k
confirmed_dropping (Dropping j) k n e = e
confirmed_dropping any0 k n e = absurd cc

module _ (n k : ℕ) (s : spool.State) (lane : Lane) (moment : ℕ) where
  drop_leads : (g : Option ℕ) (step : LaneStep) → IsNoAbandon n k (on_lane n g step) → (IsDropping k lane → ⊥)
      → IsDropping k (lane_after s lane step moment) → ⊥
  drop_leads g (agree c w) other h e = h e
  drop_leads g bind other h e = h e
  drop_leads g (start j i rs) other h e = cc
  drop_leads g (confirm j m) other h e = h (confirmed_dropping lane.sending k m e)
  drop_leads g (to_end j) other h e = cc
  drop_leads g (settle was_sent j) other h e = cc
  drop_leads g (settle (was_refused kind) j) other h e = cc
  drop_leads g (settle was_denied j) other h e = cc
  drop_leads g (settle was_dropped j) other h e = cc
  drop_leads g (abandon j) other h e = other refl (let same : j ≡ k = cc in same)
  drop_leads g (secure j m piece) other h e = h e
  drop_leads g (complete j m piece) other h e = h e
  drop_leads g (drop_pieces j) other h e = h e
  drop_leads g close other h e = h e

no_abandon_leads : (n k : ℕ) (s : spool.State) (c : Class) (moment : ℕ) → IsNoAbandon n k c
    → LeadsOn (λ lane. IsDropping k lane → ⊥) n s c moment
no_abandon_leads n k s (on_lane m g step) moment other =
    λ lane same current needs h. drop_leads n k s lane moment g step
    (subst (λ (v : ℕ). IsNoAbandon n k (on_lane v g step)) same other) h
no_abandon_leads n k s any3 moment other = tt

drops_hold : StepsKeep → (n k : ℕ) (s : spool.State) (steps : List Step) → IsKept s → ArePossible s steps
    → AreNoAbandon n k steps → Holds (λ lane. IsDropping k lane → ⊥) n s
    → Holds (λ lane. IsDropping k lane → ⊥) n (after_from s steps)
drops_hold keep n k s [] kept possible none holds = holds
drops_hold keep n k s (step ∷ steps) kept possible none holds =
    drops_hold keep n k (after_step s step) steps (keep s step kept possible.0) possible.1 none.1
    (step_keeps (λ lane. IsDropping k lane → ⊥) n s step kept.numbered_lanes possible.0
    (begins_with (λ lane. IsDropping k lane → ⊥) n s (class_of step) (when s step) kept possible.0.allowed holds.0)
    (no_abandon_leads n k s (class_of step) (when s step) none.0) holds)

pub only_abandons_drop : StepsKeep → OnlyAbandonsDrop
only_abandons_drop keep n k s steps kept possible none le h =
    (drops_hold keep n k s steps kept possible none (le, h)).1
