-- The open lane on which a step may be made.
use Rattle.std.proofs.Common.{◌≡◌, ◌≤◌, ◌<◌, ℕ, Bool, true, false, List, Option, Some, None, sym}
use Rattle.std.proofs.Common.{ap, subst, ◌∙◌, arith, inl, inr, eqb}
use Rattle.std.specs.Prelude.{◌↔◌, ◌⊎◌}
use Rattle.std.proofs.lemmas.Bool.{eqb-true, eq-eqb}
use Rattle.std.proofs.lemmas.Option.{same_Some}
use Rattle.mta_lane_send.specs.Half as send
use Rattle.mta_machine.specs.Items.{ItemValue, Machine, numbered}
use Rattle.mta_machine.specs.Rules.{is_expired}
use Rattle.mta_machine.specs.Machine.{last_tables}
use Rattle.mta_histories.specs.Lanes.{Lane, State, Transfer, lane_at}
use Rattle.mta_histories.specs.Classes.{LaneStep, abandon, secure, settle, was_denied, was_sent}
use Rattle.mta_histories.specs.History.{HasExpired, IsExpiredOn, IsOfGeneration, LaneNeeds}
use Rattle.mta_lanes.specs.Lane.{OfLane}
use Rattle.mta_replay.specs.Changes.{OpenFor}

module _ (s : State) (n : ℕ) (g : Option ℕ) (step : LaneStep) (moment : ℕ) where
  -- no lane of this number is open
  none_open : None ≡ lane_at n s.lanes.open_lanes → OpenFor s n g step moment None
  none_open none lane may = let both : None ≡ Some lane = none ∙ may.found in absurd cc

  module _ (lane : Lane) (found : Some lane ≡ lane_at n s.lanes.open_lanes) where
    -- the one that is open is too late, of another generation, or does not allow the step
    refuses : (moment < s.moment) ⊎ ((IsOfGeneration lane g step → ⊥) ⊎ (LaneNeeds s lane step moment → ⊥))
        → OpenFor s n g step moment None
    refuses (inl early) other may = let timely = may.timely in absurd (omega (arith, early, timely))
    refuses (inr (inl apart)) other may =
        let same : other ≡ lane = same_Some other lane (sym may.found ∙ sym found) in
        apart (subst (λ (l : Lane). IsOfGeneration l g step) same may.current)
    refuses (inr (inr never)) other may =
        let same : other ≡ lane = same_Some other lane (sym may.found ∙ sym found) in
        never (subst (λ (l : Lane). LaneNeeds s l step moment) same may.needs)

    allows : s.moment ≤ moment → IsOfGeneration lane g step → LaneNeeds s lane step moment
        → OpenFor s n g step moment (Some lane)
    allows timely current needs = record {
      found = sym found;
      current = current;
      needs = needs;
      timely = timely;
    }

-- ---- a generation

current_is : (g h : ℕ) → eqb g h ≡ true → Some g ≡ Some h
current_is g h e = ap (λ (x : ℕ). Some x) (eqb-true g h e)

other_is : (g h : ℕ) → eqb g h ≡ false → Some g ≡ Some h → ⊥
other_is g h e same = let both : eqb g h ≡ true = eq-eqb g h (same_Some g h same) in absurd (cc)

module _ (s : State) (n g k moment : ℕ) where
  pub no_ending : None ≡ lane_at n s.lanes.open_lanes → OpenFor s n (Some g) (settle was_sent k) moment None
  no_ending none = none_open s n (Some g) (settle was_sent k) moment none

  pub no_live : None ≡ lane_at n s.lanes.open_lanes → OpenFor s n (Some g) (settle was_denied k) moment None
  no_live none = none_open s n (Some g) (settle was_denied k) moment none

  pub no_expired : None ≡ lane_at n s.lanes.open_lanes → OpenFor s n None (abandon k) moment None
  no_expired none = none_open s n None (abandon k) moment none

  pub no_taking : (number : ℕ) (piece : List ℕ) → None ≡ lane_at n s.lanes.open_lanes
      → OpenFor s n (Some g) (secure k number piece) moment None
  no_taking number piece none = none_open s n (Some g) (secure k number piece) moment none

  module _ (lane : Lane) (found : Some lane ≡ lane_at n s.lanes.open_lanes) where
    pub not_ending : (moment < s.moment) ⊎ ((eqb g lane.generation ≡ false) ⊎ (send.is_ending lane.sending k ≡ false))
        → OpenFor s n (Some g) (settle was_sent k) moment None
    not_ending (inl early) = refuses s n (Some g) (settle was_sent k) moment lane found (inl early)
    not_ending (inr (inl apart)) =
        refuses s n (Some g) (settle was_sent k) moment lane found (inr (inl (other_is g lane.generation apart)))
    not_ending (inr (inr never)) =
        refuses s n (Some g) (settle was_sent k) moment lane found
        (inr (inr (λ is. let both : true ≡ false = sym is ∙ never in absurd cc)))

    pub is_ending : s.moment ≤ moment → eqb g lane.generation ≡ true → send.is_ending lane.sending k ≡ true
        → OpenFor s n (Some g) (settle was_sent k) moment (Some lane)
    is_ending timely current needs =
        allows s n (Some g) (settle was_sent k) moment lane found timely (current_is g lane.generation current) needs

    pub not_live : (moment < s.moment) ⊎ ((eqb g lane.generation ≡ false) ⊎ (send.is_live lane.sending k ≡ false))
        → OpenFor s n (Some g) (settle was_denied k) moment None
    not_live (inl early) = refuses s n (Some g) (settle was_denied k) moment lane found (inl early)
    not_live (inr (inl apart)) =
        refuses s n (Some g) (settle was_denied k) moment lane found (inr (inl (other_is g lane.generation apart)))
    not_live (inr (inr never)) =
        refuses s n (Some g) (settle was_denied k) moment lane found
        (inr (inr (λ is. let both : true ≡ false = sym is ∙ never in absurd cc)))

    pub is_live : s.moment ≤ moment → eqb g lane.generation ≡ true → send.is_live lane.sending k ≡ true
        → OpenFor s n (Some g) (settle was_denied k) moment (Some lane)
    is_live timely current needs =
        allows s n (Some g) (settle was_denied k) moment lane found timely (current_is g lane.generation current) needs

    pub not_taking : (number : ℕ) (piece : List ℕ)
        → (moment < s.moment) ⊎ ((eqb g lane.generation ≡ false) ⊎ (OfLane lane (secure k number piece) → ⊥))
        → OpenFor s n (Some g) (secure k number piece) moment None
    not_taking number piece (inl early) =
        refuses s n (Some g) (secure k number piece) moment lane found (inl early)
    not_taking number piece (inr (inl apart)) =
        refuses s n (Some g) (secure k number piece) moment lane found (inr (inl (other_is g lane.generation apart)))
    not_taking number piece (inr (inr never)) =
        refuses s n (Some g) (secure k number piece) moment lane found (inr (inr never))

    pub is_taking : (number : ℕ) (piece : List ℕ) → s.moment ≤ moment → eqb g lane.generation ≡ true
        → OfLane lane (secure k number piece) → OpenFor s n (Some g) (secure k number piece) moment (Some lane)
    is_taking number piece timely current needs =
        allows s n (Some g) (secure k number piece) moment lane found timely
        (current_is g lane.generation current) needs

    pub not_sending : (moment < s.moment) ⊎ (send.is_sending lane.sending k ≡ false)
        → OpenFor s n None (abandon k) moment None
    not_sending (inl early) = refuses s n None (abandon k) moment lane found (inl early)
    not_sending (inr never) =
        refuses s n None (abandon k) moment lane found
        (inr (inr (λ needs. let both : true ≡ false = sym needs.0 ∙ never in absurd cc)))

    pub not_expired : (b : Bool) → (b ≡ true) ↔ HasExpired s.machine lane.transfer moment → b ≡ false
        → OpenFor s n None (abandon k) moment None
    not_expired b same isnt =
        refuses s n None (abandon k) moment lane found
        (inr (inr (λ needs. let both : true ≡ false = sym (same.1 needs.1) ∙ isnt in absurd cc)))

    pub is_expired_on : (b : Bool) → s.moment ≤ moment → send.is_sending lane.sending k ≡ true
        → (b ≡ true) ↔ HasExpired s.machine lane.transfer moment → b ≡ true
        → OpenFor s n None (abandon k) moment (Some lane)
    is_expired_on b timely sending same is =
        allows s n None (abandon k) moment lane found timely tt (sending, same.0 is)

-- ---- expiry

pub no_transfer : (m : Machine) (o : Option Transfer) (moment : ℕ) → None ≡ o
    → (false ≡ true) ↔ HasExpired m o moment
no_transfer m o moment is = (
  λ e. absurd cc,
  λ has. let none : HasExpired m None moment =
      subst (λ (x : Option Transfer). HasExpired m x moment) (sym is) has in absurd none,
)

on_none : (format : ℕ) (a : Option (List ℕ)) (moment : ℕ) → IsExpiredOn format a None moment → ⊥
on_none format None moment has = has
on_none format (Some text) moment has = has

pub no_item : (m : Machine) (o : Option Transfer) (t : Transfer) (moment : ℕ) → Some t ≡ o
    → None ≡ numbered m.items t.item → (false ≡ true) ↔ HasExpired m o moment
no_item m o t moment is none = (
  λ e. absurd cc,
  λ has.
      let of_it : HasExpired m (Some t) moment =
      subst (λ (x : Option Transfer). HasExpired m x moment) (sym is) has in
      absurd (on_none m.format (numbered m.tables (last_tables m)) moment
      (subst (λ (x : Option ItemValue). IsExpiredOn m.format (numbered m.tables (last_tables m)) x moment) (sym none)
      of_it)),
)

pub on_item : (m : Machine) (o : Option Transfer) (t : Transfer) (format moment : ℕ) (text : List ℕ)
    (item : ItemValue) (b : Bool) → format ≡ m.format → numbered m.tables (last_tables m) ≡ Some text → Some t ≡ o
    → Some item ≡ numbered m.items t.item → b ≡ is_expired format text item.octets item.arrival moment
    → (b ≡ true) ↔ HasExpired m o moment
on_item m o t format moment text item b format_is text_is is item_is same =
    subst (λ (x : Option Transfer). (b ≡ true) ↔ HasExpired m x moment) is
    (subst (λ (x : Option (List ℕ)). (b ≡ true) ↔ IsExpiredOn m.format x (numbered m.items t.item) moment)
    (sym text_is)
    (subst (λ (x : Option ItemValue). (b ≡ true) ↔ IsExpiredOn m.format (Some text) x moment) item_is
    (subst (λ (f : ℕ). (b ≡ true) ↔ IsExpiredOn f (Some text) (Some item) moment) format_is
    (λ e. sym same ∙ e, λ e. same ∙ e))))

pub ruleset ending_laws = (no_ending, not_ending, is_ending)

pub ruleset live_laws = (no_live, not_live, is_live)

pub ruleset taking_laws = (no_taking, not_taking, is_taking)

pub ruleset expiry_laws = (no_transfer, no_item, on_item)

pub ruleset expired_laws = (no_expired, not_sending, not_expired, is_expired_on)
