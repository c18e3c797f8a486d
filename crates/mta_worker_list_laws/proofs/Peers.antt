-- A lane that this agent opened is to one peer, as long as it is open.
use Rattle.std.proofs.Common.{◌≡◌, ◌⊎◌, ℕ, ◌≤◌, List, [], ◌∷◌, ◌++◌, Option, Some, rules, refl, sym, ap, subst, ◌∙◌}
use Rattle.std.proofs.Common.{inl, inr, arith}
use Rattle.mta_records.specs.declared.lane.LaneRole.TheVariants.{Initiator}
use Rattle.mta_records.specs.declared.step.Step.{Step}
use Rattle.mta_histories.specs.Classes.{Class, LaneStep, on_lane}
use Rattle.mta_histories.specs.History.{after, after_from, lane_after, IsHistory}
use Rattle.mta_histories.specs.Kept.{IsKept}
use Rattle.mta_histories.specs.Lanes.{Lane, State as Spool, lane_at}
use Rattle.mta_histories.proofs.Keeps.{histories_keep, steps_keep}
use Rattle.mta_histories.proofs.LaneLists.{number-at, number-within}
use Rattle.mta_lane_match_laws.specs.Matches.{WhereOpen}
use Rattle.mta_lane_match_laws.proofs.OneLane.{LeadsOn, steps_hold}
use Rattle.mta_worker_list_laws.specs.Roles.{IsOpenTo, WasOpenAs, WasOpenTo}
use Rattle.mta_worker_list_laws.proofs.Annotating.{after_all, front_history, rest_history}

peer_kept : (s : Spool) (lane : Lane) (moment : ℕ) (step : LaneStep)
    → (lane_after s lane step moment).peer ≡ lane.peer
peer_kept s lane moment step = search rules

peers_lead : (n : ℕ) (peer : List ℕ) (s : Spool) (c : Class) (moment : ℕ)
    → LeadsOn (λ lane. lane.peer ≡ peer) n s c moment
peers_lead n peer s (on_lane m g step) moment = λ lane same current needs is. peer_kept s lane moment step ∙ is
peers_lead n peer s any3 moment = tt

-- ---- two lengths of one history

cons_same : (x z : Step) (xs zs : List Step) → x ≡ z → zs ≡ xs → z ∷ zs ≡ x ∷ xs
cons_same x z xs zs e f = cc

pub fronts : (xs ys zs ws : List Step) → xs ++ ys ≡ zs ++ ws
    → ((m : List Step) × (zs ≡ xs ++ m)) ⊎ ((m : List Step) × (xs ≡ zs ++ m))
fronts [] ys zs ws e = inl (zs, refl)
fronts (x ∷ xs) ys [] ws e = inr (x ∷ xs, refl)
fronts (x ∷ xs) ys (z ∷ zs) ws e =
    let head : x ≡ z = cc in
    let tail : xs ++ ys ≡ zs ++ ws = cc in
    elim (fronts xs ys zs ws tail) [
      | inl f ↦ inl (f.0, cons_same x z (xs ++ f.0) zs head f.1)
      | inr f ↦ inr (f.0, cons_same z x (zs ++ f.0) xs (sym head) f.1)
    ]

peer_stays : (a b : List ℕ) (n : ℕ) (xs more : List Step) → IsHistory (xs ++ more) → IsOpenTo a n (after xs)
    → IsOpenTo b n (after (xs ++ more)) → a ≡ b
peer_stays a b n xs more history x y =
    let kept : IsKept (after xs) = histories_keep xs (front_history xs more history) in
    let at : n ≡ x.now.number = number-at (after xs).lanes.open_lanes n x.now x.now_is in
    let below : x.now.number ≤ (after xs).lanes.count =
    number-within 0 (after xs).lanes.open_lanes (after xs).lanes.count n x.now kept.numbered_lanes x.now_is in
    let before : WhereOpen (λ lane. lane.peer ≡ a) (lane_at n (after xs).lanes.open_lanes) =
    subst (λ (o : Option Lane). WhereOpen (λ lane. lane.peer ≡ a) o) (sym x.now_is) x.peer_is in
    let then : WhereOpen (λ lane. lane.peer ≡ a) (lane_at n (after_from (after xs) more).lanes.open_lanes) =
    (steps_hold steps_keep (λ lane. lane.peer ≡ a) n (after xs) more kept (rest_history xs more history)
    (peers_lead n a) (omega (arith, at, below), before)).1 in
    let here : lane_at n (after_from (after xs) more).lanes.open_lanes ≡ Some y.now =
    ap (λ (s : Spool). lane_at n s.lanes.open_lanes) (sym (after_all xs more)) ∙ y.now_is in
    let same : y.now.peer ≡ a =
    subst (λ (o : Option Lane). WhereOpen (λ lane. lane.peer ≡ a) o) here then in
    sym same ∙ y.peer_is

pub one_peer : (a b : List ℕ) (n : ℕ) (steps : List Step) → IsHistory steps → WasOpenTo a n steps
    → WasOpenTo b n steps → a ≡ b
one_peer a b n steps history x y =
    elim (fronts x.before x.behind y.before y.behind (x.parts ∙ sym y.parts)) [
      | inl f ↦ peer_stays a b n x.before f.0
          (front_history (x.before ++ f.0) y.behind
          (subst IsHistory (sym (ap (λ (xs : List Step). xs ++ y.behind) (sym f.1) ∙ y.parts)) history)) x.opened
          (subst (λ (xs : List Step). IsOpenTo b n (after xs)) f.1 y.opened)
      | inr f ↦ sym (peer_stays b a n y.before f.0
          (front_history (y.before ++ f.0) x.behind
          (subst IsHistory (sym (ap (λ (xs : List Step). xs ++ x.behind) (sym f.1) ∙ x.parts)) history)) y.opened
          (subst (λ (xs : List Step). IsOpenTo a n (after xs)) f.1 x.opened))
    ]

-- so it is one that this agent opened
pub opened_to : (peer : List ℕ) (n : ℕ) (steps : List Step) → WasOpenTo peer n steps → WasOpenAs Initiator n steps
opened_to peer n steps x = record {
  before = x.before;
  behind = x.behind;
  parts = x.parts;
  opened = record { now = x.opened.now; now_is = x.opened.now_is; role_is = x.opened.role_is };
}
