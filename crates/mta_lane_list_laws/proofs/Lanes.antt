-- Where one station had all sessions of a lane, their lists have the steps of the history in its order.
use Rattle.std.proofs.Common.{◌≡◌, ◌⊎◌, ◌<◌, ◌≤◌, ℕ, ◌+◌, ◌-◌, ◌==◌, if◌then◌else◌, Bool, true, false, Option, Some}
use Rattle.std.proofs.Common.{None, List, [], ◌∷◌, ◌++◌, length, slice_get, inl, inr, refl, sym, ap, subst, ◌∙◌}
use Rattle.std.proofs.Common.{arith}
use Rattle.std.proofs.lemmas.Bool.{eq-eqb, eqb-false, eqb-true}
use Rattle.std.proofs.lemmas.List.{length-append}
use Rattle.mta_links.specs.Links.{LinkView}
use Rattle.mta_transfer_rules.specs.Lanes as h
use Rattle.mta_transfer_rules.specs.Lanes.{Elsewhere, LanesAllow, On, Seen, SeenStep}
use Rattle.mta_transfer_rules.specs.Receiving as r
use Rattle.mta_transfer_rules.specs.Sending as s
use Rattle.mta_records.specs.declared.step.Step.{Step}
use Rattle.mta_histories.specs.History.{IsHistory}
use Rattle.mta_lane_match_laws.specs.Generations.{Begins as BeginsHere, BeginsAt}
use Rattle.mta_transfer_laws.specs.Clause.{OneStationAgrees}
use Rattle.mta_transfer_laws.specs.History.{IsOfLanes}
use Rattle.mta_transfer_laws.specs.Covering as sent
use Rattle.mta_transfer_laws.specs.ReceivingOrder as received
use Rattle.mta_transfer_laws.specs.Receivings as receiving
use Rattle.mta_transfer_laws.specs.Run.{EachGood, SessionsAgree}
use Rattle.mta_transfer_laws.specs.Sendings as sending
use Rattle.mta_transfer_laws.specs.Sessions.{Made, receiving_step_of, sending_step_of, SessionEvent, SessionList}
use Rattle.mta_session.specs.State.{is_initiator}
use Rattle.mta_session_list_laws.specs.Laws.{IsIn, ListsAreGood}
use Rattle.mta_session_list_laws.specs.Lists.{AreValues}
use Rattle.mta_worker_list_laws.specs.Agreeing.{AreListsIn}
use Rattle.mta_worker_list_laws.specs.All.{all_of, AllParts, StationParts}
use Rattle.mta_worker_list_laws.specs.Histories.{place, TellsApdus, whole}
use Rattle.mta_worker_list_laws.specs.Parts.{AreForNone, AreSessions, BeginsBetween, IsSession, StandInTurn, StandsFrom}
use Rattle.mta_worker_list_laws.specs.Segments.{Begins, IsListedIn, IsOne, IsOwnStep, IsSegment, OnLane, Segment}
use Rattle.mta_worker_list_laws.proofs.Agreeing.{each_good}
use Rattle.mta_worker_list_laws.proofs.All.{place_below}
use Rattle.mta_worker_list_laws.proofs.Annotating.{length_seen}
use Rattle.mta_worker_list_laws.proofs.Segments.{is_segment, maker, Maker}
use Rattle.mta_worker_list_laws.proofs.Annotating.{of_lanes}
use Rattle.mta_lane_list_laws.specs.Lanes.{AreOnSide, EachBegan, HaveLane, HaveSteps, IsOnSide, IsStation}
use Rattle.mta_lane_list_laws.proofs.Sides.{side_of}
use Rattle.mta_lane_list_laws.proofs.Told.{each_began}
use Rattle.mta_lane_list_laws.specs.Lanes.{LanesOfStationsAgree}
use Rattle.mta_lane_list_laws.specs.Turns.{AreInTurn, None_more, Then}
use Rattle.mta_lane_list_laws.proofs.Ones.{one_list, OneList}
use Rattle.mta_lane_list_laws.proofs.Turns.{lists_in_turn_rise}

-- ---- what stands in a list

-- a step of the sending half that an event of the list is
sends_there : (p : ℕ) (b : Bool) (step : SeenStep) (v : s.SendStep) (xs : List sent.Placed) → b ≡ true
    → sending.sending_step p step ≡ sending.Makes v ∷ []
    → sent.HasPosition p (sent.placed_at p (if b then sending_step_of step else []) ++ xs)
sends_there p false step v xs t e = cc
sends_there p true (h.LaneOpen agreed size window) v xs t e = cc
sends_there p true (h.LaneAgree size window) v xs t e = cc
sends_there p true (h.Bind g) v xs t e = cc
sends_there p true (h.Secure g k n piece) v xs t e = cc
sends_there p true (h.Complete g k n piece) v xs t e = cc
sends_there p true (h.Drop g k) v xs t e = cc
sends_there p true (h.CloseLane g) v xs t e = cc
sends_there p true any2 v xs t e = inl refl

receives_there : (p : ℕ) (b : Bool) (step : SeenStep) (v : r.RecvStep) (xs : List received.Placed) → b ≡ true
    → receiving.receiving_step p step ≡ receiving.Makes v ∷ []
    → received.HasPosition p (received.placed_at p (if b then receiving_step_of step else []) ++ xs)
receives_there p false step v xs t e = cc
receives_there p true (h.Secure g k n piece) v xs t e = inl refl
receives_there p true (h.Complete g k n piece) v xs t e = inl refl
receives_there p true (h.Drop g k) v xs t e = inl refl
receives_there p true any2 v xs t e = cc

sent_front : (p : ℕ) (xs ys : List sent.Placed) → sent.HasPosition p xs → sent.HasPosition p (xs ++ ys)
sent_front p [] ys i = absurd i
sent_front p (x ∷ xs) ys i = elim i [ inl e ↦ inl e | inr more ↦ inr (sent_front p xs ys more) ]

sent_back : (p : ℕ) (xs ys : List sent.Placed) → sent.HasPosition p ys → sent.HasPosition p (xs ++ ys)
sent_back p [] ys i = i
sent_back p (x ∷ xs) ys i = inr (sent_back p xs ys i)

received_front : (p : ℕ) (xs ys : List received.Placed) → received.HasPosition p xs
    → received.HasPosition p (xs ++ ys)
received_front p [] ys i = absurd i
received_front p (x ∷ xs) ys i = elim i [ inl e ↦ inl e | inr more ↦ inr (received_front p xs ys more) ]

received_back : (p : ℕ) (xs ys : List received.Placed) → received.HasPosition p ys
    → received.HasPosition p (xs ++ ys)
received_back p [] ys i = i
received_back p (x ∷ xs) ys i = inr (received_back p xs ys i)

module _ (lane : ℕ) where
  sent_in : (p : ℕ) (step : SeenStep) (v : s.SendStep) (ys : List SessionEvent)
      → sending.sending_step p step ≡ sending.Makes v ∷ [] → IsIn (Made p lane step) ys
      → sent.HasPosition p (sent.placed_events lane ys)
  sent_in p step v [] e i = absurd i
  sent_in p step v (y ∷ ys) e i =
      elim i [
        | inl same ↦ subst (λ (z : SessionEvent). sent.HasPosition p (sent.placed_event lane z
            ++ sent.placed_events lane ys)) same
            (sends_there p (lane == lane) step v (sent.placed_events lane ys) (eq-eqb lane lane refl) e)
        | inr more ↦ sent_back p (sent.placed_event lane y) (sent.placed_events lane ys) (sent_in p step v ys e more)
      ]

  received_in : (p : ℕ) (step : SeenStep) (v : r.RecvStep) (ys : List SessionEvent)
      → receiving.receiving_step p step ≡ receiving.Makes v ∷ [] → IsIn (Made p lane step) ys
      → received.HasPosition p (received.placed_events lane ys)
  received_in p step v [] e i = absurd i
  received_in p step v (y ∷ ys) e i =
      elim i [
        | inl same ↦ subst (λ (z : SessionEvent). received.HasPosition p (received.placed_event lane z
            ++ received.placed_events lane ys)) same
            (receives_there p (lane == lane) step v (received.placed_events lane ys) (eq-eqb lane lane refl) e)
        | inr more ↦ received_back p (received.placed_event lane y) (received.placed_events lane ys)
            (received_in p step v ys e more)
      ]

  -- ---- of all lists

  -- one of these lists begins where this one does, and has its events
  abbrev HasList : OnLane → List SessionList → Type 0
  HasList on [] = ⊥
  HasList on (l ∷ ls) =
      ((l.at ≡ on.at) × ((y : SessionEvent) → IsIn y on.events → IsIn y l.events)) ⊎ HasList on ls

  sent_begins : (on : OnLane) (ls : List SessionList) → HasList on ls
      → sent.HasPosition on.at (sent.placed_lists lane ls)
  sent_begins on [] i = absurd i
  sent_begins on (l ∷ ls) i =
      elim i [
        | inl e ↦ inl (sym e.0)
        | inr more ↦ inr (sent_back on.at (sent.placed_events lane l.events) (sent.placed_lists lane ls)
            (sent_begins on ls more))
      ]

  received_begins : (on : OnLane) (ls : List SessionList) → HasList on ls
      → received.HasPosition on.at (received.placed_lists lane ls)
  received_begins on [] i = absurd i
  received_begins on (l ∷ ls) i =
      elim i [
        | inl e ↦ inl (sym e.0)
        | inr more ↦ inr (received_back on.at (received.placed_events lane l.events) (received.placed_lists lane ls)
            (received_begins on ls more))
      ]

  sent_listed : (p : ℕ) (step : SeenStep) (v : s.SendStep) (on : OnLane) (ls : List SessionList)
      → sending.sending_step p step ≡ sending.Makes v ∷ [] → IsIn (Made p lane step) on.events → HasList on ls
      → sent.HasPosition p (sent.placed_lists lane ls)
  sent_listed p step v on [] e i has = absurd has
  sent_listed p step v on (l ∷ ls) e i has =
      elim has [
        | inl one ↦ inr (sent_front p (sent.placed_events lane l.events) (sent.placed_lists lane ls)
            (sent_in p step v l.events e (one.1 (Made p lane step) i)))
        | inr more ↦ inr (sent_back p (sent.placed_events lane l.events) (sent.placed_lists lane ls)
            (sent_listed p step v on ls e i more))
      ]

  received_listed : (p : ℕ) (step : SeenStep) (v : r.RecvStep) (on : OnLane) (ls : List SessionList)
      → receiving.receiving_step p step ≡ receiving.Makes v ∷ [] → IsIn (Made p lane step) on.events → HasList on ls
      → received.HasPosition p (received.placed_lists lane ls)
  received_listed p step v on [] e i has = absurd has
  received_listed p step v on (l ∷ ls) e i has =
      elim has [
        | inl one ↦ inr (received_front p (received.placed_events lane l.events) (received.placed_lists lane ls)
            (received_in p step v l.events e (one.1 (Made p lane step) i)))
        | inr more ↦ inr (received_back p (received.placed_events lane l.events) (received.placed_lists lane ls)
            (received_listed p step v on ls e i more))
      ]

  in_turn_sooner : (low from : ℕ) (ls : List SessionList) → low ≤ from → AreInTurn lane from ls
      → AreInTurn lane low ls
  in_turn_sooner low from [] le None_more = None_more
  in_turn_sooner low from (l ∷ ls) le (Then upto _ b rest) =
      Then upto l (record { begins = omega (arith, le, b.begins); sends = b.sends; receives = b.receives }) rest

-- ---- what a step is for a half

-- it begins a generation, gives an activity up, or is one that a session makes
data Kind (g : ℕ) (p : ℕ) (step : SeenStep) (y : sending.HalfStep) : Type 0 where
  begins_it : ((lane : ℕ) → (j : ℕ) × BeginsHere lane j (On lane step)) → Kind g p step y
  gives_up : y ≡ sending.Makes s.Abandon → Kind g p step y
  makes_it : (j : ℕ) (v : s.SendStep) → IsOwnStep j step → sending.sending_step p step ≡ sending.Makes v ∷ []
      → Kind g p step y

same_half : (x y : sending.HalfStep) → x ∷ [] ≡ y ∷ [] → x ≡ y
same_half x y e = cc

kind_of : (p : ℕ) (step : SeenStep) (y : sending.HalfStep) → sending.sending_step p step ≡ y ∷ [] → Kind 0 p step y
kind_of p (h.LaneOpen agreed size window) y e = begins_it (λ lane. (1, (refl, refl)))
kind_of p (h.Bind g) y e = begins_it (λ lane. (g, (refl, refl)))
kind_of p (h.Start g k octets) y e = makes_it g (s.Start octets) refl refl
kind_of p (h.Confirm g k n) y e = makes_it g (s.Confirm n) refl refl
kind_of p (h.To_end g k) y e = makes_it g s.To_end refl refl
kind_of p (h.Sent g k) y e = makes_it g s.Sent refl refl
kind_of p (h.Refused g k) y e = makes_it g s.Refused refl refl
kind_of p (h.Denied g k) y e = makes_it g s.Denied refl refl
kind_of p (h.Dropped g k) y e = makes_it g s.Dropped refl refl
kind_of p (h.Abandon k) y e = gives_up (sym (same_half _ y e))
kind_of p any1 y e = cc

data ReceivedKind (p : ℕ) (step : SeenStep) : Type 0 where
  begins_there : ((lane : ℕ) → (j : ℕ) × BeginsHere lane j (On lane step)) → ReceivedKind p step
  makes_there : (j : ℕ) (v : r.RecvStep) → IsOwnStep j step
      → receiving.receiving_step p step ≡ receiving.Makes v ∷ [] → ReceivedKind p step

received_kind : (p : ℕ) (step : SeenStep) (y : receiving.HalfStep) → receiving.receiving_step p step ≡ y ∷ []
    → ReceivedKind p step
received_kind p (h.LaneOpen agreed size window) y e = begins_there (λ lane. (1, (refl, refl)))
received_kind p (h.Bind g) y e = begins_there (λ lane. (g, (refl, refl)))
received_kind p (h.Secure g k n piece) y e = makes_there g (r.Secure k n piece) refl refl
received_kind p (h.Complete g k n piece) y e = makes_there g (r.Complete k n piece) refl refl
received_kind p (h.Drop g k) y e = makes_there g (r.Drop k) refl refl
received_kind p any1 y e = cc

-- what the history has at a position where a half has a step
record OnHalf {Y : Type 0} (which : ℕ → SeenStep → List Y) (lane p : ℕ) (x : Option Seen) (y : Y) : Type 0 where
  step : SeenStep
  there : x ≡ Some (On lane step)
  is : which p step ≡ y ∷ []

on_half : {Y : Type 0} (which : ℕ → SeenStep → List Y) (lane p j : ℕ) (step : SeenStep) (y : Y) (b : Bool)
    → (j == lane) ≡ b → (if b then which p step else []) ≡ y ∷ [] → OnHalf which lane p (Some (On j step)) y
on_half which lane p j step y true t e = record {
  step = step;
  there = ap (λ (n : ℕ). Some (On n step)) (eqb-true j lane t);
  is = e;
}
on_half which lane p j step y false t e = cc

sent_here : (lane p : ℕ) (x : Option Seen) (y : sending.HalfStep) → sent.step_here lane p x ≡ y ∷ []
    → OnHalf sending.sending_step lane p x y
sent_here lane p None y e = cc
sent_here lane p (Some Elsewhere) y e = cc
sent_here lane p (Some (h.Begins count lanes)) y e = cc
sent_here lane p (Some (On j step)) y e = on_half sending.sending_step lane p j step y (j == lane) refl e

received_here : (lane p : ℕ) (x : Option Seen) (y : receiving.HalfStep) → received.step_here lane p x ≡ y ∷ []
    → OnHalf receiving.receiving_step lane p x y
received_here lane p None y e = cc
received_here lane p (Some Elsewhere) y e = cc
received_here lane p (Some (h.Begins count lanes)) y e = cc
received_here lane p (Some (On j step)) y e = on_half receiving.receiving_step lane p j step y (j == lane) refl e

-- where a generation begins, both halves have it so
sent_binds : (lane p g : ℕ) (x : Seen) → BeginsHere lane g x
    → sent.step_here lane p (Some x) ≡ sending.Binds p ∷ []
sent_binds lane p g (On m (h.LaneOpen agreed size window)) b =
    ap (λ (t : Bool). if t then (sending.Binds p ∷ []) else []) (eq-eqb m lane b.0)
sent_binds lane p g (On m (h.Bind j)) b =
    ap (λ (t : Bool). if t then (sending.Binds p ∷ []) else []) (eq-eqb m lane b.0)
sent_binds lane p g x b = absurd b

received_binds : (lane p g : ℕ) (x : Seen) → BeginsHere lane g x
    → received.step_here lane p (Some x) ≡ receiving.Binds p ∷ []
received_binds lane p g (On m (h.LaneOpen agreed size window)) b =
    ap (λ (t : Bool). if t then (receiving.Binds p ∷ []) else []) (eq-eqb m lane b.0)
received_binds lane p g (On m (h.Bind j)) b =
    ap (λ (t : Bool). if t then (receiving.Binds p ∷ []) else []) (eq-eqb m lane b.0)
received_binds lane p g x b = absurd b

-- ---- the lists of a station

module _ {L : Type 0} (links : LinkView L) (spells : List ℕ → Bool) (first entries : List Step) (low : ℕ)
    (all : AllParts links spells first entries low) (lane size window : ℕ) (initiator : Bool) where
  abbrev history : List Seen
  history = whole first entries

  abbrev Lists : List SessionList → Type 0
  Lists ls = AreListsIn links spells first entries all.parts lane size window initiator ls

  record Built (from : ℕ) (ss : List Segment) : Type 0 where
    lists : List SessionList
    are : Lists lists
    turns : AreInTurn lane from lists
    sent_begin : sent.EachBinds history lane lists
    received_begin : EachGood spells history lane size window initiator lists
        → received.EachBinds history lane lists
    has : (s : Segment) (on : OnLane) → IsOne s ss → s.list ≡ Some on → on.lane ≡ lane → HasList lane on lists

  same_on : (x y : OnLane) → Some x ≡ Some y → x ≡ y
  same_on x y e = cc

  no_list : (s : Segment) (on : OnLane) → s.list ≡ None → s.list ≡ Some on → {A : Type 0} → A
  no_list s on e f = let both : None ≡ Some on = sym e ∙ f in absurd cc

  -- those of a session that had not the lane are those behind it
  without : (low from : ℕ) (s : Segment) (ss : List Segment) → low ≤ from
      → ((on : OnLane) → s.list ≡ Some on → on.lane ≡ lane → ⊥) → Built from ss → Built low (s ∷ ss)
  without low from s ss le none rest = record {
    lists = rest.lists;
    are = rest.are;
    turns = in_turn_sooner lane low from rest.lists le rest.turns;
    sent_begin = rest.sent_begin;
    received_begin = rest.received_begin;
    has = λ t on i e f.
        elim i [
          | inl same ↦ absurd (none on (subst (λ (z : Segment). z.list ≡ Some on) same e) f)
          | inr more ↦ rest.has t on more e f
        ];
  }

  with_list : (from mid : ℕ) (s : Segment) (ss : List Segment)
      (x : IsSession links spells first entries s) (on : OnLane) → s.list ≡ Some on → on.lane ≡ lane
      → IsOne s all.parts → is_initiator x.new.side ≡ initiator → from ≤ on.at → on.at < place first x.over
      → place first x.over ≤ mid → Built mid ss → Built from (s ∷ ss)
  with_list from mid s ss x on has lane_is one side le less last rest = record {
    lists = l.list ∷ rest.lists;
    are = (l.is, rest.are);
    turns = Then (place first x.over) l.list
        (record { begins = omega (arith, le, l.at_is); sends = l.stands.sends; receives = l.stands.receives })
        (in_turn_sooner lane (place first x.over) mid rest.lists last rest.turns);
    sent_begin = (binds_sent, rest.sent_begin);
    received_begin = λ g. (binds_received, g.0.stands, rest.received_begin g.1);
    has = λ t o i e f.
        elim i [
          | inl same ↦ (
              let here : o ≡ on =
              same_on o on (sym e ∙ ap (λ (z : Segment). z.list) same ∙ has) in
              inl (
                l.at_is ∙ ap (λ (z : OnLane). z.at) (sym here),
                λ y there. l.has y (subst (λ (z : OnLane). IsIn y z.events) here there),
              ))
          | inr more ↦ inr (rest.has t o more e f)
        ];
  } where
    l : OneList links spells first entries low all lane size window initiator on (place first x.over)
    l = one_list links spells first entries low all lane size window initiator s x on one has lane_is side less

    begun : BeginsAt history on.at on.lane on.generation
    begun =
        (subst (λ (o : Option OnLane). Begins history (length first) s.own o) has
        (is_segment history (length first) all.parts s all.all.segments one).begins).begins

    on_this : BeginsHere lane on.generation begun.0
    on_this = subst (λ (n : ℕ). BeginsHere n on.generation begun.0) lane_is begun.2

    binds_sent : sent.step_at history lane l.list.at ≡ sending.Binds l.list.at ∷ []
    binds_sent =
        ap (λ (n : ℕ). sent.step_at history lane n) l.at_is
        ∙ ap (λ (z : Option Seen). sent.step_here lane on.at z) begun.1
        ∙ sent_binds lane on.at on.generation begun.0 on_this
        ∙ ap (λ (n : ℕ). sending.Binds n ∷ []) (sym l.at_is)

    binds_received : received.step_at history lane l.list.at ≡ receiving.Binds l.list.at ∷ []
    binds_received =
        ap (λ (n : ℕ). received.step_at history lane n) l.at_is
        ∙ ap (λ (z : Option Seen). received.step_here lane on.at z) begun.1
        ∙ received_binds lane on.at on.generation begun.0 on_this
        ∙ ap (λ (n : ℕ). receiving.Binds n ∷ []) (sym l.at_is)

  abbrev Within : List Segment → Type 0
  Within ss = (s : Segment) → IsOne s ss → IsOne s all.parts

  build : (from upto : ℕ) (ss : List Segment) (are : AreSessions links spells first entries ss)
      → StandInTurn links spells first entries from upto ss are → Within ss
      → AreOnSide links spells first entries lane initiator ss are → Built from ss
  build from upto [] are turns within side = record {
    lists = [];
    are = tt;
    turns = None_more;
    sent_begin = tt;
    received_begin = λ g. tt;
    has = λ s on i e f. absurd i;
  }
  build from upto (s ∷ ss) are turns within side =
      by_part are.0 turns.1 side.0
      (build turns.0 upto ss are.1 turns.2 (λ t i. within t (inr i)) side.1)
    where
      mid : ℕ
      mid = turns.0

      by_list : (x : IsSession links spells first entries s) (o : Option OnLane) → s.list ≡ o
          → BeginsBetween from (place first x.over) o → from ≤ place first x.over → place first x.over ≤ mid
          → IsOnSide lane initiator (inr x) → Built mid ss → Built from (s ∷ ss)
      by_list x None e b le last side rest =
          without from mid s ss (omega (arith, le, last)) (λ on f g. no_list s on e f) rest
      by_list x (Some on) e b le last side rest = by_lane (on.lane == lane) refl
        where
          by_lane : (t : Bool) → (on.lane == lane) ≡ t → Built from (s ∷ ss)
          by_lane true t =
              let is : on.lane ≡ lane = eqb-true on.lane lane t in
              with_list from mid s ss x on e is (within s (inl refl)) (side on e is) b.0 b.1 last rest
          by_lane false t =
              without from mid s ss (omega (arith, le, last))
              (λ o f g.
              eqb-false on.lane lane t (ap (λ (z : OnLane). z.lane) (same_on on o (sym e ∙ f)) ∙ g)) rest

      by_part : (x : AreForNone history (length first) s ⊎ IsSession links spells first entries s)
          → StandsFrom from mid x → IsOnSide lane initiator x → Built mid ss → Built from (s ∷ ss)
      by_part (inl none) b side rest =
          without from mid s ss b (λ on f g. no_list s on none.none f) rest
      by_part (inr x) b side rest = by_list x s.list refl b.0 b.1 b.2 side rest

  -- ---- each step stands in one

  module _ (from : ℕ) (from_is : from ≡ length first + low) (ss : List Segment) (built : Built from ss)
      (have : HaveLane ss all.parts lane) (began : EachBegan history from lane ss) where
    -- one that a session makes
    listed_own : (p j : ℕ) (step : SeenStep) → from ≤ p → slice_get history p ≡ Some (On lane step)
        → IsOwnStep j step → (on : OnLane) × HasList lane on built.lists × IsIn (Made p lane step) on.events
    listed_own p j step le get own = by_list m.segment.list refl (is.lists k lane j step m.has there own)
      where
        k : ℕ
        k = p - length first

        place_is : p ≡ length first + k
        place_is = omega (arith, le, from_is)

        there : slice_get history (length first + k) ≡ Some (On lane step)
        there = subst (λ (n : ℕ). slice_get history n ≡ Some (On lane step)) place_is get

        below : k < length entries
        below =
            let long : length history ≡ length first + length entries =
            length_seen (first ++ entries) ∙ length-append first entries in
            let short : length first + k < length history = place_below history (length first + k) (On lane step) there
            in
            omega (arith, long, short)

        m : Maker all.parts k
        m = maker all.parts k (all.each k (omega (arith, le, from_is)) below)

        is : IsSegment history (length first) m.segment
        is = is_segment history (length first) all.parts m.segment all.all.segments m.one

        by_list : (o : Option OnLane) → m.segment.list ≡ o → IsListedIn o (length first + k) lane step j
            → (on : OnLane) × HasList lane on built.lists × IsIn (Made p lane step) on.events
        by_list None e i = absurd i
        by_list (Some on) e i = (
          on,
          built.has m.segment on (have m.segment on m.one e (sym i.lane_is)) e (sym i.lane_is),
          subst (λ (n : ℕ). IsIn (Made n lane step) on.events) (sym place_is) i.listed,
        )

    -- one by which a generation begins
    listed_begin : (p j : ℕ) (step : SeenStep) → from ≤ p → slice_get history p ≡ Some (On lane step)
        → BeginsHere lane j (On lane step) → (on : OnLane) × HasList lane on built.lists × (on.at ≡ p)
    listed_begin p j step le get b =
        let found = began p j le (On lane step, get, b) in
        let o = found.2 in
        (o.on, built.has found.0 o.on found.1 o.has o.lane_is, o.at_is)

    sends : (p : ℕ) (y : sending.HalfStep) → from ≤ p → sent.step_at history lane p ≡ y ∷ []
        → sent.HasPosition p (sent.placed_lists lane built.lists) ⊎ (y ≡ sending.Makes s.Abandon)
    sends p y le e = by_kind (sent_here lane p (slice_get history p) y e)
      where
        by_kind : OnHalf sending.sending_step lane p (slice_get history p) y
            → sent.HasPosition p (sent.placed_lists lane built.lists) ⊎ (y ≡ sending.Makes s.Abandon)
        by_kind x = of_kind (kind_of p x.step y x.is)
          where
            of_kind : Kind 0 p x.step y
                → sent.HasPosition p (sent.placed_lists lane built.lists) ⊎ (y ≡ sending.Makes s.Abandon)
            of_kind (begins_it b) =
                let g = b lane in
                let found = listed_begin p g.0 x.step le x.there g.1 in
                inl (subst (λ (n : ℕ). sent.HasPosition n (sent.placed_lists lane built.lists)) found.2
                (sent_begins lane found.0 built.lists found.1))
            of_kind (gives_up is) = inr is
            of_kind (makes_it j v own is) =
                let found = listed_own p j x.step le x.there own in
                inl (sent_listed lane p x.step v found.0 built.lists is found.2 found.1)

    receives : (p : ℕ) (y : receiving.HalfStep) → from ≤ p → received.step_at history lane p ≡ y ∷ []
        → received.HasPosition p (received.placed_lists lane built.lists)
    receives p y le e = by_kind (received_here lane p (slice_get history p) y e)
      where
        by_kind : OnHalf receiving.receiving_step lane p (slice_get history p) y
            → received.HasPosition p (received.placed_lists lane built.lists)
        by_kind x = of_kind (received_kind p x.step y x.is)
          where
            of_kind : ReceivedKind p x.step → received.HasPosition p (received.placed_lists lane built.lists)
            of_kind (begins_there b) =
                let g = b lane in
                let found = listed_begin p g.0 x.step le x.there g.1 in
                subst (λ (n : ℕ). received.HasPosition n (received.placed_lists lane built.lists)) found.2
                (received_begins lane found.0 built.lists found.1)
            of_kind (makes_there j v own is) =
                let found = listed_own p j x.step le x.there own in
                received_listed lane p x.step v found.0 built.lists is found.2 found.1

-- ---- all of it

one_front : (s : Segment) (xs ys : List Segment) → IsOne s xs → IsOne s (xs ++ ys)
one_front s [] ys i = absurd i
one_front s (x ∷ xs) ys i = elim i [ inl e ↦ inl e | inr more ↦ inr (one_front s xs ys more) ]

one_back : (s : Segment) (xs ys : List Segment) → IsOne s ys → IsOne s (xs ++ ys)
one_back s [] ys i = i
one_back s (x ∷ xs) ys i = inr (one_back s xs ys i)

-- a station's parts are among all
pub of_all : (ss : List Segment) (all : List (List Segment)) (s : Segment) → IsStation ss all → IsOne s ss
    → IsOne s (all_of all)
of_all ss [] s i one = absurd i
of_all ss (x ∷ xs) s i one =
    elim i [
      | inl e ↦ one_front s x (all_of xs) (subst (λ (zs : List Segment). IsOne s zs) e one)
      | inr more ↦ one_back s x (all_of xs) (of_all ss xs s more one)
    ]

pub on_side : ListsAreGood → SessionsAgree → OneStationAgrees → {L : Type 0} (links : LinkView L)
    (spells : List ℕ → Bool) (first entries : List Step) (low : ℕ) (all : AllParts links spells first entries low)
    → TellsApdus spells → IsHistory (first ++ entries) → (lane size window : ℕ) (ss : List Segment)
    (one : StationParts links spells first entries (length first + low) ss)
    → ((s : Segment) → IsOne s ss → IsOne s all.parts) → HaveLane ss all.parts lane
    → EachBegan (whole first entries) (length first + low) lane ss
    → AreValues (whole first entries) lane size window → (before added : List Seen)
    → before ++ added ≡ whole first entries → length before ≡ length first + low → (initiator : Bool)
    → AreOnSide links spells first entries lane initiator ss one.sessions
    → HaveSteps links spells first entries all.parts before added lane size window initiator
on_side good whole_agree agree links spells first entries low all tells possible lane size window
    ss one within have began values before added cut from_is initiator side = (
      built.lists,
      built.are,
      agree spells before added lane size window initiator built.lists
          (subst (LanesAllow spells) (sym cut) allow.allowed)
          (subst (λ (xs : List Seen). EachGood spells xs lane size window initiator built.lists) (sym cut) goods)
          (subst (λ (xs : List Seen). sent.Owns xs (length before) lane built.lists) (sym cut)
          (subst (λ (k : ℕ). sent.Owns history k lane built.lists) (sym from_is) sent_owns))
          (subst (λ (xs : List Seen). received.Owns xs (length before) lane built.lists) (sym cut)
          (subst (λ (k : ℕ). received.Owns history k lane built.lists) (sym from_is) received_owns)),
    )
  where
    history : List Seen
    history = whole first entries

    n : ℕ
    n = length first + low

    allow : IsOfLanes spells (whole first entries)
    allow = of_lanes spells (first ++ entries) tells possible

    built : Built links spells first entries low all lane size window initiator n ss
    built = build links spells first entries low all lane size window initiator n one.upto ss one.sessions one.turns
        within side

    goods : EachGood spells history lane size window initiator built.lists
    goods = each_good links good whole_agree spells first entries low allow all lane size window initiator
        built.lists values built.are

    rises : sent.Rises n (sent.placed_lists lane built.lists)
        × received.Rises n (received.placed_lists lane built.lists)
    rises = lists_in_turn_rise lane n built.lists built.turns

    sent_owns : sent.Owns history n lane built.lists
    sent_owns = record {
      binds = built.sent_begin;
      rise = rises.0;
      owned = sends links spells first entries low all lane size window initiator n refl ss built have began;
    }

    received_owns : received.Owns history n lane built.lists
    received_owns = record {
      binds = built.received_begin goods;
      rise = rises.1;
      owned = receives links spells first entries low all lane size window initiator n refl ss built have began;
    }

pub lanes_agree : ListsAreGood → SessionsAgree → OneStationAgrees → {L : Type 0} (links : LinkView L)
    → LanesOfStationsAgree links
lanes_agree good whole_agree agree links spells first entries low all tells possible lane size window ss one
    station have told values before added cut from_is = (
      side_of links spells first entries possible lane ss one.sessions,
      λ initiator side.
          on_side good whole_agree agree links spells first entries low all tells possible lane size window ss
          one
          (λ s i.
          subst (λ (zs : List Segment). IsOne s zs) (sym all.of_stations)
          (inr (of_all ss all.by_station s station i))) have
          (each_began links spells first entries low all lane ss have told) values before added cut
          from_is initiator side,
    )
