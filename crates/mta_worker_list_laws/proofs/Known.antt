-- What a session knows of a lane that it is about to bind, or that it looks at in the turn of its Bind.
use Rattle.std.proofs.Common.{◌≡◌, ℕ, ◌*◌, ◌<◌, ◌≤◌, ◌==◌, Bool, true, false, cond, eqb, nat_lt, List, [], ◌∷◌}
use Rattle.std.proofs.Common.{◌++◌, length, Option, None, Some, inl, inr, refl, sym, ap, subst, ◌∙◌, arith}
use Rattle.std.proofs.lemmas.Bool.{and_parts, cond-false, cond-true, eq-eqb, eqb-true, ltb-true, ne_eqb}
use Rattle.std.proofs.lemmas.Slice.Eq.{bytes_eq-Decides}
use Rattle.std.specs.Str.{bytes_eq}
use Rattle.mta_lane_send.specs.Half.{FitsState}
use Rattle.mta_lane_send.specs.Pieces.{has_piece_after}
use Rattle.mta_lane_send.specs.declared.state.SendState.{SendState}
use Rattle.mta_lane_send.specs.declared.state.SendState.TheVariants.{Ending, Sending}
use Rattle.mta_records.specs.Outgoing.{Carried}
use Rattle.mta_records.specs.Reference.{Identifier}
use Rattle.mta_records.specs.declared.lane.LaneRole.{LaneRole}
use Rattle.mta_records.specs.declared.lane.LaneRole.TheVariants.{Initiator, Responder}
use Rattle.mta_records.specs.declared.step.Step.{Step}
use Rattle.mta_histories.specs.History.{after, after_from, after_step, ArePossible, is_role, IsHistory}
use Rattle.mta_histories.specs.Kept.{AreNumbered, IsFilled, IsKept}
use Rattle.mta_histories.specs.Lanes.{Lane, State, Transfer, lane_at, put_lane, total_of}
use Rattle.mta_histories.proofs.Falls.{numbers_never_fall}
use Rattle.mta_histories.proofs.Keeps.{histories_keep, steps_keep}
use Rattle.mta_histories.proofs.LaneLists.{number-above, number-at, number-within}
use Rattle.mta_histories.proofs.Shown.{put-found}
use Rattle.mta_lanes.specs.Finds.{IsNamed}
use Rattle.mta_lane_match_laws.specs.Looks.{HasRole, IsLookedAt}
use Rattle.mta_lane_match_laws.specs.Matches.{WhereOpen}
use Rattle.mta_lane_match_laws.proofs.Staying.{lanes_keep_roles}
use Rattle.mta_session.specs.Fits.{AgreedFor, CarriesOn, LeavesPieces}
use Rattle.mta_session.specs.State.{State as Session}
use Rattle.mta_session.specs.declared.event.Side.{Side}
use Rattle.mta_session.specs.declared.event.Side.TheVariants as side
use Rattle.mta_session.specs.declared.phase.Phase.{Phase}
use Rattle.mta_session.specs.declared.phase.Phase.TheVariants as phase
use Rattle.mta_session_list_laws.proofs.Found.{never}
use Rattle.mta_spool.specs.Looking.{IsFirstNamed}
use Rattle.mta_spool.specs.Starting.{Carries}
use Rattle.mta_worker_list_laws.proofs.Annotating.{after_all, front_history, rest_history}
use Rattle.mta_worker_list_laws.proofs.Calm.{is_calm, is_looking}

-- the lane was opened by the peer, where it is open
pub record IsAnswered (n : ℕ) (s : State) : Type 0 where
  pub within : n ≤ s.lanes.count
  pub role : WhereOpen (λ lane. lane.role ≡ Responder) (lane_at n s.lanes.open_lanes)

-- the lane is open, and as far as the session has looked at it
pub record IsSeen (p : Phase) (t : Session) (s : State) : Type 0 where
  pub lane : Lane
  pub lane_is : lane_at t.lane s.lanes.open_lanes ≡ Some lane
  pub looked : IsLookedAt p t lane
  pub role : HasRole t.side lane.role

abbrev pub KnowsAt : Phase → Session → State → Type 0
KnowsAt phase.AsksBind t s = IsAnswered t.lane s
KnowsAt phase.AsksValues t s = IsSeen phase.AsksValues t s
KnowsAt phase.AsksRecovery t s = IsSeen phase.AsksRecovery t s
KnowsAt (phase.AsksReceiving state) t s = IsSeen (phase.AsksReceiving state) t s
KnowsAt (phase.AsksResumed state) t s = IsSeen (phase.AsksResumed state) t s
KnowsAt p t s = Unit {0}

abbrev pub Knows : Session → State → Type 0
Knows t s = KnowsAt t.phase t s

-- else nothing is asked
pub calm_knows : (p : Phase) (t : Session) (s : State) → is_calm p ≡ true → KnowsAt p t s
calm_knows phase.AsksBind t s i = absurd (never i)
calm_knows phase.AsksValues t s i = absurd (never i)
calm_knows phase.AsksRecovery t s i = absurd (never i)
calm_knows (phase.AsksReceiving state) t s i = absurd (never i)
calm_knows (phase.AsksResumed state) t s i = absurd (never i)
calm_knows p t s i = tt

-- ---- between two turns of the lock

counts_rise : (s : State) (steps : List Step) → IsKept s → ArePossible s steps
    → s.lanes.count ≤ (after_from s steps).lanes.count
counts_rise s [] kept may = omega arith
counts_rise s (x ∷ xs) kept may =
    let one : s.lanes.count ≤ (after_step s x).lanes.count = (numbers_never_fall s x kept may.0).lane_numbers in
    let rest = counts_rise (after_step s x) xs (steps_keep s x kept may.0) may.1 in
    omega (arith, one, rest)

answered_stays : (n : ℕ) (s : State) (steps : List Step) → IsKept s → ArePossible s steps → IsAnswered n s
    → IsAnswered n (after_from s steps)
answered_stays n s steps kept may a = record {
  within = let rise = counts_rise s steps kept may in omega (arith, a.within, rise);
  role = lanes_keep_roles steps_keep n Responder s steps kept may a.within a.role;
}

later_at : (p : Phase) (t : Session) (s : State) (steps : List Step) → IsKept s → ArePossible s steps
    → is_looking p ≡ false → KnowsAt p t s → KnowsAt p t (after_from s steps)
later_at phase.AsksBind t s steps kept may i k = answered_stays t.lane s steps kept may k
later_at phase.AsksValues t s steps kept may i k = absurd (never (sym i))
later_at phase.AsksRecovery t s steps kept may i k = absurd (never (sym i))
later_at (phase.AsksReceiving state) t s steps kept may i k = absurd (never (sym i))
later_at (phase.AsksResumed state) t s steps kept may i k = absurd (never (sym i))
later_at p t s steps kept may i k = tt

-- whatever other workers did since
pub between_knows : (t : Session) (before more : List Step) → IsHistory (before ++ more)
    → is_looking t.phase ≡ false → Knows t (after before) → Knows t (after (before ++ more))
between_knows t before more history calm k =
    subst (λ (s : State). Knows t s) (sym (after_all before more))
    (later_at t.phase t (after before) more (histories_keep before (front_history before more history))
    (rest_history before more history) calm k)

-- ---- the lane of a name

role_is : (q r : LaneRole) → is_role q r ≡ true → r ≡ q
role_is Responder Initiator i = absurd (never i)
role_is Responder Responder i = refl
role_is Initiator Initiator i = refl
role_is Initiator Responder i = absurd (never i)

pub record IsPeers (role : LaneRole) (peer : List ℕ) (n : ℕ) (lanes : List Lane) : Type 0 where
  pub lane : Lane
  pub lane_is : lane_at n lanes ≡ Some lane
  pub role_is : lane.role ≡ role
  pub peer_is : lane.peer ≡ peer

pub first_peers : (q : LaneRole) (peer : List ℕ) (name : Option Identifier) (above : ℕ) (lanes : List Lane)
    (most n : ℕ) → AreNumbered above lanes most → IsFirstNamed q peer name lanes (Some n) → IsPeers q peer n lanes
first_peers q peer name above [] most n a f = absurd cc
first_peers q peer name above (l ∷ lanes) most n a f =
    elim f [
      | inl here ↦ found here.0 here.1
      | inr later ↦ behind (first_peers q peer name l.number lanes most n a.1 later.1)
    ]
  where
    same_number : Some n ≡ Some l.number → n ≡ l.number
    same_number e = cc

    found : IsNamed q peer name l → Some n ≡ Some l.number → IsPeers q peer n (l ∷ lanes)
    found named e = record {
      lane = l;
      lane_is = cond-true (eqb n l.number) (Some l) (lane_at n lanes) (eq-eqb n l.number (same_number e));
      role_is = role_is q l.role (and_parts _ _ named.0).0;
      peer_is = sym ((bytes_eq-Decides peer l.peer).0
          (and_parts (is_role q l.role) (bytes_eq peer l.peer) named.0).1);
    }

    behind : IsPeers q peer n lanes → IsPeers q peer n (l ∷ lanes)
    behind p =
        let over : l.number < p.lane.number = number-above l.number lanes most n p.lane a.1 p.lane_is in
        let at : n ≡ p.lane.number = number-at lanes n p.lane p.lane_is in
        record {
          lane = p.lane;
          lane_is =
              cond-false (eqb n l.number) (Some l) (lane_at n lanes)
              (ne_eqb n l.number (λ e. omega (arith, e, over, at)))
              ∙ p.lane_is;
          role_is = p.role_is;
          peer_is = p.peer_is;
        }

-- the first lane of a name that the peer opened
pub first_answered : (peer : List ℕ) (name : Option Identifier) (s : State) (n : ℕ) → IsKept s
    → IsFirstNamed Responder peer name s.lanes.open_lanes (Some n) → IsAnswered n s
first_answered peer name s n kept f =
    let p = first_peers Responder peer name 0 s.lanes.open_lanes s.lanes.count n kept.numbered_lanes f in
    let at : n ≡ p.lane.number = number-at s.lanes.open_lanes n p.lane p.lane_is in
    let below : p.lane.number ≤ s.lanes.count =
    number-within 0 s.lanes.open_lanes s.lanes.count n p.lane kept.numbered_lanes p.lane_is in
    record {
      within = omega (arith, at, below);
      role = subst (λ (o : Option Lane). WhereOpen (λ lane. lane.role ≡ Responder) o) (sym p.lane_is) p.role_is;
    }

-- ---- a lane that is put in its place

pub put_then : (n : ℕ) (l next : Lane) (lanes new : List Lane) → lane_at n lanes ≡ Some l → next.number ≡ l.number
    → new ≡ put_lane next lanes → lane_at n new ≡ Some next
put_then n l next lanes new at same e =
    let number : n ≡ next.number = number-at lanes n l at ∙ sym same in
    let there : lane_at next.number lanes ≡ Some l = subst (λ (k : ℕ). lane_at k lanes ≡ Some l) number at in
    ap (λ (zs : List Lane). lane_at n zs) e
    ∙ ap (λ (k : ℕ). lane_at k (put_lane next lanes)) number
    ∙ put-found next l lanes there

-- ---- what a session may be told of its lane

pub has_role : (s : Side) (r : LaneRole) → r ≡ Responder → HasRole s r
has_role (side.Initiator p) r e = tt
has_role (side.Responder own) r e = e

pub agreed_for : (s : Side) (lane : Lane) → IsFilled lane → HasRole s lane.role → AgreedFor s lane.agreed
agreed_for (side.Initiator p) lane filled role = tt
agreed_for (side.Responder own) lane filled role = filled.responder role

-- pieces are left behind what is confirmed
leaves : (checkpoint n : ℕ) (octets : List ℕ) → 1 ≤ length octets → has_piece_after checkpoint (length octets) n ≡ true
    → LeavesPieces (1024 * checkpoint) octets n
leaves checkpoint n octets some has = by_size (checkpoint == 0) refl has
  where
    by_size : (b : Bool) → eqb checkpoint 0 ≡ b
        → cond b (n == 0) (nat_lt (1024 * checkpoint * n) (length octets)) ≡ true
        → LeavesPieces (1024 * checkpoint) octets n
    by_size true e has =
        let zero_is : checkpoint ≡ 0 = eqb-true checkpoint 0 e in
        let none : n ≡ 0 = eqb-true n 0 has in (
          subst (λ (k : ℕ). 1024 * checkpoint * k < length octets) (sym none) (omega (arith, some)),
          λ z. none,
        )
    by_size false e has = (
      ltb-true (1024 * checkpoint * n) (length octets) has,
      λ z. absurd (
          let zero_is : checkpoint ≡ 0 = omega (arith, z) in
          never (sym e ∙ eq-eqb checkpoint 0 zero_is)),
    )

pub carries_on : (checkpoint : ℕ) (state : SendState) (octets : List ℕ) → FitsState checkpoint state (length octets)
    → CarriesOn (1024 * checkpoint) state octets
carries_on checkpoint (Sending k c) octets fits = leaves checkpoint c octets fits.0 fits.1
carries_on checkpoint (Ending k c) octets fits = leaves checkpoint c octets fits.0 fits.1
carries_on checkpoint any1 octets fits = tt

-- the octets of what it carries are those that are counted
pub carried_total : (t : Option Transfer) (k : ℕ) (o : Carried) → Carries t k o → total_of t ≡ length o.octets
carried_total None k o c = absurd c
carried_total (Some t) k o c = ap (λ (xs : List ℕ). length xs) (sym c.1)
