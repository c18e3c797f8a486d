-- When a lane may be opened, and what is written down then.
use Rattle.std.proofs.Common.{◌≡◌, ◌≤◌, ◌+◌, ℕ, Bool, true, List, [], ◌∷◌, length, count_by}
use Rattle.std.proofs.Common.{bytes_eq, Option, None, Some, inl, inr, refl, sym, subst, arith}
use Rattle.std.specs.Prelude.{◌&&◌, ◌↔◌}
use Rattle.std.proofs.lemmas.Bool.{and_parts}
use Rattle.std.proofs.lemmas.List.Sums.{count_by-le-length}
use Rattle.std.proofs.lemmas.Slice.Eq.{bytes_eq-Decides}
use Rattle.mta_ber.specs.Times.{last_moment}
use Rattle.mta_journal.specs.Bodies.{longest_body}
use Rattle.mta_records.specs.Body.{HasFields, body_of}
use Rattle.mta_records.specs.Reference.{Identifier, IsIdentifier}
use Rattle.mta_records.specs.declared.lane.LaneRole.{LaneRole}
use Rattle.mta_records.specs.declared.lane.LaneRole.TheVariants.{Initiator, Responder}
use Rattle.mta_records.specs.declared.step.Step.TheVariants as steps
use Rattle.mta_machine.specs.Items.{numbered}
use Rattle.mta_machine.specs.Machine.{last_tables}
use Rattle.mta_histories.specs.Lanes.{Lane, State, EachLane}
use Rattle.mta_histories.specs.History.{NamesPeer, is_role, is_with}
use Rattle.mta_histories.specs.Kept.{AreNumbered}
use Rattle.mta_lanes.specs.Finds.{IsNamed}
use Rattle.mta_spool.specs.Looking.{IsFirstNamed}
use Rattle.mta_spool.specs.Opened.{IsOther}
use Rattle.mta_spool.specs.Refusals.{MayOpen}
use Rattle.mta_spool.proofs.LaneLengths.{short_opening}
use Rattle.mta_spool.proofs.PeerWords.{peer_word}

role-same : (a b : LaneRole) → is_role a b ≡ true → b ≡ a
role-same Initiator Initiator e = refl
role-same Initiator Responder e = absurd cc
role-same Responder Initiator e = absurd cc
role-same Responder Responder e = refl

role-itself : (a : LaneRole) → is_role a a ≡ true
role-itself Initiator = refl
role-itself Responder = refl

both-true : (a b : Bool) → a ≡ true → b ≡ true → (a && b) ≡ true
both-true a b p q = rw p q

module _ (role : LaneRole) (peer : List ℕ) (name : Identifier) where
  named-by-parts : (lane : Lane) → lane.role ≡ role → lane.peer ≡ peer → lane.reference ≡ name
      → IsNamed role peer (Some name) lane
  named-by-parts lane role_is peer_is name_is = (
    both-true (is_role role lane.role) (bytes_eq peer lane.peer)
        (subst (λ (r : LaneRole). is_role role r ≡ true) (sym role_is) (role-itself role))
        ((bytes_eq-Decides peer lane.peer).1 (sym peer_is)),
    sym name_is,
  )

  other-not-named : (lane : Lane) → IsOther role peer name lane → IsNamed role peer (Some name) lane → ⊥
  other-not-named lane other named =
      let parts = and_parts (is_role role lane.role) (bytes_eq peer lane.peer) named.0 in
      other (role-same role lane.role parts.0) (sym ((bytes_eq-Decides peer lane.peer).0 parts.1)) (sym named.1)

  -- where none is so named each has another name
  pub each_other : (lanes : List Lane) → IsFirstNamed role peer (Some name) lanes None
      → EachLane (IsOther role peer name) lanes
  each_other [] first = tt
  each_other (lane ∷ lanes) (inl first) = let e : ◌≡◌ {A = Option ℕ} None (Some lane.number) = first.1 in absurd cc
  each_other (lane ∷ lanes) (inr first) = (
    λ role_is peer_is name_is. first.0 (named-by-parts lane role_is peer_is name_is),
    each_other lanes first.1,
  )

  pub one_named : (lanes : List Lane) (n : ℕ) → IsFirstNamed role peer (Some name) lanes (Some n)
      → EachLane (IsOther role peer name) lanes → ⊥
  one_named [] n first each = let e : ◌≡◌ {A = Option ℕ} (Some n) None = first in absurd cc
  one_named (lane ∷ lanes) n (inl first) each = other-not-named lane each.0 first.0
  one_named (lane ∷ lanes) n (inr first) each = one_named lanes n first.1 each.1

pub ruleset new_laws = (each_other, one_named)

-- ---- how many there are

numbered-most : (above : ℕ) (lanes : List Lane) (most : ℕ) → AreNumbered above lanes most → above + length lanes ≤ most
numbered-most above [] most each = omega (arith, each)
numbered-most above (lane ∷ lanes) most each =
    omega (arith, each.0, numbered-most lane.number lanes most each.1)

-- open lanes are no more than there are numbers
pub few_with : (role : LaneRole) (peer : List ℕ) (lanes : List Lane) (most : ℕ) → AreNumbered 0 lanes most
    → count_by (is_with role peer) lanes ≤ most
few_with role peer lanes most each =
    omega (arith, numbered-most 0 lanes most each, count_by-le-length (is_with role peer) lanes)

-- ---- what is needed, and what is written down

module _ (s : State) (role : LaneRole) (peer : List ℕ) (name : Identifier) (size window : ℕ) where
  -- three tests tell whether a lane may be opened, if not too many are open
  pub may_open : (a b c : Bool) → (a ≡ true) ↔ NamesPeer (numbered s.machine.tables (last_tables s.machine)) peer
      → (b ≡ true) ↔ EachLane (IsOther role peer name) s.lanes.open_lanes
      → (c ≡ true) ↔ ((size ≤ 64) × ((1 ≤ window) × (window ≤ 8)))
      → ((a && (b && c)) ≡ true) ↔ MayOpen s role peer name size window
  may_open a b c named new fits = (
    λ all.
        let first = and_parts a (b && c) all in
        let second = and_parts b c first.1 in
        let values = fits.0 second.1 in
        record {
          named = named.0 first.0;
          new = new.0 second.0;
          checkpoint_fits = values.0;
          window_fits = values.1;
        },
    λ may.
        both-true a (b && c) (named.1 may.named)
        (both-true b c (new.1 may.new) (fits.1 (may.checkpoint_fits, may.window_fits))),
  )

  module _ (twa : Bool) (moment : ℕ) (may : MayOpen s role peer name size window) where
    pub opening_fields : IsIdentifier name → moment ≤ last_moment
        → HasFields (steps.LaneOpen role peer name twa size window moment)
    opening_fields is fits =
        let size_fits = may.checkpoint_fits in
        let window_fits = may.window_fits.1 in (
          (tt, (peer_word (numbered s.machine.tables (last_tables s.machine)) peer may.named, is)),
          (tt, (omega (arith, size_fits), (omega (arith, window_fits), fits))),
        )

    pub opening_short : IsIdentifier name
        → length (body_of (steps.LaneOpen role peer name twa size window moment)) ≤ longest_body
    opening_short is =
        short_opening role peer name twa size window moment
        (peer_word (numbered s.machine.tables (last_tables s.machine)) peer may.named) is

pub ruleset may_open_laws = (may_open)
