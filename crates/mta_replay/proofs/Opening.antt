-- When a lane may be opened, and what that changes.
use Rattle.std.proofs.Common.{◌≡◌, ◌≤◌, ◌<◌, ◌+◌, ◌^◌, ℕ, Bool, true, false, List, [], ◌∷◌, ◌++◌}
use Rattle.std.proofs.Common.{zero, suc, bytes_eq, count_by, length, take, get_or, Option, Some, None}
use Rattle.std.proofs.Common.{refl, sym, ap, subst, ◌∙◌}
use Rattle.std.proofs.Common.{arith, inl, inr}
use Rattle.std.specs.Prelude.{◌↔◌, ◌⊎◌, ◌&&◌}
use Rattle.std.proofs.lemmas.Bool.{and_parts}
use Rattle.std.proofs.lemmas.List.{take_all, take_more}
use Rattle.std.proofs.lemmas.Slice.Eq.{bytes_eq-Decides}
use Rattle.mta_records.specs.Reference.{Identifier}
use Rattle.mta_records.specs.declared.lane.LaneRole.{LaneRole}
use Rattle.mta_records.specs.declared.lane.LaneRole.TheVariants.{Initiator, Responder}
use Rattle.mta_records.specs.declared.step.Step.TheVariants as steps
use Rattle.mta_machine.specs.Items.{numbered}
use Rattle.mta_machine.specs.Rules.{names_peer}
use Rattle.mta_machine.specs.Machine.{last_tables}
use Rattle.mta_histories.specs.Lanes.{EachLane, Lane, State}
use Rattle.mta_histories.specs.History.{CanOpen, NamesPeer, is_role, is_with, new_lane}
use Rattle.mta_lanes.specs.Finds.{IsNamed as IsNamedThere}
use Rattle.mta_state.specs.declared.kept.Kept.{Kept}
use Rattle.mta_state.specs.declared.change.Change.TheVariants as change
use Rattle.mta_state.specs.Kept.{state_of}
use Rattle.mta_state.specs.Prepared.{Prepares}
use Rattle.mta_replay.specs.Opening.{IsNamed, IsUnnamed}

-- ---- names

same_role : (a b : LaneRole) → is_role a b ≡ true → b ≡ a
same_role Initiator Initiator e = refl
same_role Initiator Responder e = absurd cc
same_role Responder Initiator e = absurd cc
same_role Responder Responder e = refl

role_itself : (a : LaneRole) → is_role a a ≡ true
role_itself Initiator = refl
role_itself Responder = refl

both_true : (a b : Bool) → a ≡ true → b ≡ true → (a && b) ≡ true
both_true a b p q = rw p q

with_parts : (role : LaneRole) (peer : List ℕ) (lane : Lane) → is_with role peer lane ≡ true
    → (lane.role ≡ role) × (lane.peer ≡ peer)
with_parts role peer lane e =
    let parts = and_parts (is_role role lane.role) (bytes_eq peer lane.peer) e in
    (same_role role lane.role parts.0, sym ((bytes_eq-Decides peer lane.peer).0 parts.1))

with_both : (role : LaneRole) (peer : List ℕ) (lane : Lane) → lane.role ≡ role → lane.peer ≡ peer
    → is_with role peer lane ≡ true
with_both role peer lane role_is peer_is =
    both_true (is_role role lane.role) (bytes_eq peer lane.peer)
    (subst (λ (r : LaneRole). is_role role r ≡ true) (sym role_is) (role_itself role))
    ((bytes_eq-Decides peer lane.peer).1 (sym peer_is))

pub named_so : (role : LaneRole) (peer : List ℕ) (reference : Identifier) (lane : Lane) (b : Bool)
    → (b ≡ true) ↔ IsNamedThere role peer (Some reference) lane
    → (b ≡ true) ↔ IsNamed role peer reference lane
named_so role peer reference lane b same = (
  λ e.
      let both = same.0 e in
      let parts = with_parts role peer lane both.0 in
      record { role_is = parts.0; peer_is = parts.1; reference_is = sym both.1 },
  λ named. same.1 (with_both role peer lane named.role_is named.peer_is, sym named.reference_is),
)

-- ---- each lane has another name

each_one_more : (P : Lane → Type 0) (xs : List Lane) (x : Lane) → EachLane P xs → P x
    → EachLane P (xs ++ x ∷ [])
each_one_more P [] x each p = (p, tt)
each_one_more P (y ∷ xs) x each p = (each.0, each_one_more P xs x each.1 p)

each_last : (P : Lane → Type 0) (xs ys : List Lane) (x : Lane) → EachLane P (xs ++ x ∷ ys) → P x
each_last P [] ys x each = each.0
each_last P (y ∷ xs) ys x each = each_last P xs ys x each.1

each_got : (P : Lane → Type 0) (xs : List Lane) (i : ℕ) (d : Lane) → i < length xs → EachLane P xs
    → P (get_or xs i d)
each_got P [] i d p each = absurd (omega (arith, p))
each_got P (x ∷ xs) zero d p each = each.0
each_got P (x ∷ xs) (suc i) d p each = each_got P xs i d (omega (arith, p)) each.1

module _ (role : LaneRole) (peer : List ℕ) (reference : Identifier) (xs : List Lane) where
  pub unnamed_further : (i : ℕ) (lane : Lane) (b : Bool) → i < length xs → lane ≡ get_or xs i lane
      → (b ≡ true) ↔ IsNamed role peer reference lane → b ≡ false
      → EachLane (IsUnnamed role peer reference) (take i xs)
      → EachLane (IsUnnamed role peer reference) (take (i + 1) xs)
  unnamed_further i lane b within is same isnt each =
      subst (λ (ls : List Lane). EachLane (IsUnnamed role peer reference) ls) (sym (take_more xs i lane within))
      (each_one_more (IsUnnamed role peer reference) (take i xs) (get_or xs i lane) each
      (subst (IsUnnamed role peer reference) is
      (λ role_is peer_is reference_is.
      let does : b ≡ true =
      same.1 (record { role_is = role_is; peer_is = peer_is; reference_is = reference_is }) in absurd cc)))

  pub named_there : (i : ℕ) (lane : Lane) (b : Bool) → i < length xs → lane ≡ get_or xs i lane
      → (b ≡ true) ↔ IsNamed role peer reference lane → b ≡ true
      → (false ≡ true) ↔ EachLane (IsUnnamed role peer reference) xs
  named_there i lane b within is same does = (
    λ e. absurd cc,
    λ each.
        let named = same.0 does in
        let unnamed : IsUnnamed role peer reference lane =
        subst (IsUnnamed role peer reference) (sym is)
        (each_got (IsUnnamed role peer reference) xs i lane within each) in
        absurd (unnamed named.role_is named.peer_is named.reference_is),
  )

  pub unnamed_all : (i : ℕ) → length xs ≤ i → EachLane (IsUnnamed role peer reference) (take i xs)
      → (true ≡ true) ↔ EachLane (IsUnnamed role peer reference) xs
  unnamed_all i past each = (
    λ e. subst (λ (ls : List Lane). EachLane (IsUnnamed role peer reference) ls) (take_all i xs past) each,
    λ all. refl,
  )

-- ---- what is needed

module _ (s : State) (role : LaneRole) (peer : List ℕ) (name : Identifier) (size window : ℕ) (text : List ℕ)
    (text_is : numbered s.machine.tables (last_tables s.machine) ≡ Some text)
  where
    can_open : names_peer text peer ≡ true → count_by (is_with role peer) s.lanes.open_lanes < 64
        → EachLane (IsUnnamed role peer name) s.lanes.open_lanes → s.lanes.count + 1 < 2 ^ 32
        → (size ≤ 64) × ((1 ≤ window) × (window ≤ 8)) → CanOpen s role peer name size window
    can_open named room new number fits = record {
      named = subst (λ (o : Option (List ℕ)). NamesPeer o peer) (sym text_is) named;
      room = room;
      new = new;
      number = number;
      checkpoint_fits = fits.0;
      window_fits = fits.1;
    }

    named_peer : CanOpen s role peer name size window → names_peer text peer ≡ true
    named_peer can = subst (λ (o : Option (List ℕ)). NamesPeer o peer) text_is can.named

    -- five tests tell whether a lane may be opened
    pub may_open : (a b c d e : Bool) → a ≡ names_peer text peer
        → (b ≡ true) ↔ (count_by (is_with role peer) s.lanes.open_lanes < 64)
        → (c ≡ true) ↔ EachLane (IsUnnamed role peer name) s.lanes.open_lanes
        → (d ≡ true) ↔ (s.lanes.count + 1 < 2 ^ 32)
        → (e ≡ true) ↔ ((size ≤ 64) × ((1 ≤ window) × (window ≤ 8)))
        → ((a && (b && (c && (d && e)))) ≡ true) ↔ CanOpen s role peer name size window
    may_open a b c d e named room new number fits = (
      λ all.
          let first = and_parts a (b && (c && (d && e))) all in
          let second = and_parts b (c && (d && e)) first.1 in
          let third = and_parts c (d && e) second.1 in
          let fourth = and_parts d e third.1 in
          can_open (sym named ∙ first.0) (room.0 second.0) (new.0 third.0) (number.0 fourth.0) (fits.0 fourth.1),
      λ can.
          both_true a (b && (c && (d && e))) (named ∙ named_peer can)
          (both_true b (c && (d && e)) (room.1 can.room)
          (both_true c (d && e) (new.1 can.new)
          (both_true d e (number.1 can.number) (fits.1 (can.checkpoint_fits, can.window_fits))))),
    )

-- ---- the change

module _ (k : Kept) (role : LaneRole) (peer : List ℕ) (name : Identifier) (twa : Bool) (size window moment : ℕ)
  where
    pub open_changes : (lane : Lane) → CanOpen (state_of k) role peer name size window → k.moment ≤ moment
        → length k.parts.items.items < 2 ^ 32
        → lane ≡ new_lane (k.lanes.count + 1) role peer name twa size window
        → Prepares (state_of k) (steps.LaneOpen role peer name twa size window moment)
        (Some (change.Open lane moment))
    open_changes lane can timely few is = record {
      possible = record { allowed = can; as_machine = tt; timely = timely; numbers = few };
      after = ap (λ (l : Lane). opened (state_of k) l) is;
      can = can.number;
    } where
      opened : State → Lane → State
      opened s l = record {
        machine = s.machine;
        lanes = record { count = s.lanes.count + 1; open_lanes = s.lanes.open_lanes ++ l ∷ [] };
        moment = moment;
        begun = true;
      }

    pub not_opened : (moment < k.moment) ⊎ (CanOpen (state_of k) role peer name size window → ⊥)
        → Prepares (state_of k) (steps.LaneOpen role peer name twa size window moment) None
    not_opened (inl early) = λ possible. let timely = possible.timely in absurd (omega (arith, early, timely))
    not_opened (inr never) = λ possible. never possible.allowed

pub ruleset unnamed_laws = (unnamed_further, named_there, unnamed_all)

pub ruleset may_open_laws = (may_open)

pub ruleset open_laws = (open_changes, not_opened)
