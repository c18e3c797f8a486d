-- All sessions of a lane are on one side.
use Rattle.std.proofs.Common.{◌≡◌, ◌⊎◌, ℕ, ◌==◌, Bool, true, false, Option, Some, None, List, [], ◌∷◌, ◌++◌}
use Rattle.std.proofs.Common.{refl, sym, ap, ◌∙◌, inl, inr, length}
use Rattle.std.proofs.lemmas.Bool.{eqb-true, eqb-false}
use Rattle.mta_links.specs.Links.{LinkView}
use Rattle.mta_records.specs.declared.step.Step.{Step}
use Rattle.mta_histories.specs.History.{IsHistory}
use Rattle.mta_session.specs.State.{is_initiator}
use Rattle.mta_worker_list_laws.specs.Histories.{whole}
use Rattle.mta_worker_list_laws.specs.Parts.{AreForNone, AreSessions, IsSession}
use Rattle.mta_worker_list_laws.specs.Segments.{OnLane, Segment}
use Rattle.mta_worker_list_laws.proofs.Sides.{sides_agree}
use Rattle.mta_lane_list_laws.specs.Lanes.{AreOnSide, IsOnSide}

module _ {L : Type 0} (links : LinkView L) (spells : List ℕ → Bool) (first entries : List Step)
    (possible : IsHistory (first ++ entries)) (lane : ℕ) where
  abbrev Part : Segment → Type 0
  Part s = AreForNone (whole first entries) (length first) s ⊎ IsSession links spells first entries s

  abbrev Sided : (initiator : Bool) (ss : List Segment) → AreSessions links spells first entries ss → Type 0
  Sided initiator ss are = AreOnSide links spells first entries lane initiator ss are

  same_on : (x y : OnLane) → Some x ≡ Some y → x ≡ y
  same_on x y e = cc

  no_list : (s : Segment) (on : OnLane) → s.list ≡ None → s.list ≡ Some on → {A : Type 0} → A
  no_list s on e f = let both : None ≡ Some on = sym e ∙ f in absurd cc

  -- where one session had the lane, so is each on its side
  module _ (s : Segment) (x : IsSession links spells first entries s) (on : OnLane) (has : s.list ≡ Some on)
      (lane_is : on.lane ≡ lane) where
    one_on : (r : Segment) (part : Part r) → IsOnSide lane (is_initiator x.new.side) part
    one_on r (inl none) = tt
    one_on r (inr y) = λ o e f.
        sides_agree links spells first entries r s y x o on possible e has (f ∙ sym lane_is)

    all_on : (ss : List Segment) (are : AreSessions links spells first entries ss)
        → Sided (is_initiator x.new.side) ss are
    all_on [] are = tt
    all_on (r ∷ rs) are = (one_on r are.0, all_on rs are.1)

  -- one that had it not is on each side
  none_on : (s : Segment) (part : Part s) (initiator : Bool)
      → ((on : OnLane) → s.list ≡ Some on → on.lane ≡ lane → ⊥) → IsOnSide lane initiator part
  none_on s (inl none) initiator not_this = tt
  none_on s (inr x) initiator not_this = λ on e f. absurd (not_this on e f)

  side_more : (s : Segment) (ss : List Segment) (are : AreSessions links spells first entries (s ∷ ss))
      → (initiator : Bool) × Sided initiator ss are.1 → (initiator : Bool) × Sided initiator (s ∷ ss) are
  side_more s ss are rest = by_part are.0
    where
      behind : ((on : OnLane) → s.list ≡ Some on → on.lane ≡ lane → ⊥)
          → (initiator : Bool) × Sided initiator (s ∷ ss) are
      behind not_this = (rest.0, (none_on s are.0 rest.0 not_this, rest.1))

      by_list : (x : IsSession links spells first entries s) (o : Option OnLane) → s.list ≡ o
          → (initiator : Bool) × Sided initiator (s ∷ ss) are
      by_list x None e = behind (λ on f g. no_list s on e f)
      by_list x (Some on) e = by_lane (on.lane == lane) refl
        where
          by_lane : (t : Bool) → (on.lane == lane) ≡ t → (initiator : Bool) × Sided initiator (s ∷ ss) are
          by_lane true t =
              (is_initiator x.new.side, all_on s x on e (eqb-true on.lane lane t) (s ∷ ss) are)
          by_lane false t =
              behind (λ o f g.
              eqb-false on.lane lane t (ap (λ (z : OnLane). z.lane) (same_on on o (sym e ∙ f)) ∙ g))

      by_part : Part s → (initiator : Bool) × Sided initiator (s ∷ ss) are
      by_part (inl none) = behind (λ on f g. no_list s on none.none f)
      by_part (inr x) = by_list x s.list refl

  pub side_of : (ss : List Segment) (are : AreSessions links spells first entries ss)
      → (initiator : Bool) × Sided initiator ss are
  side_of [] are = (true, tt)
  side_of (s ∷ ss) are = side_more s ss are (side_of ss are.1)
