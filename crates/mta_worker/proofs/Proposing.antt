-- What comes next with a peer that this agent calls.
use Rattle.std.proofs.Common.{◌≡◌, ℕ, ◌+◌, ◌-◌, ◌^◌, ◌==◌, Bool, true, false}
use Rattle.std.proofs.Common.{if◌then◌else◌, nat_lt, inl, inr}
use Rattle.std.proofs.Common.{List, [], ◌∷◌, Option, None, Some, Result, Ok, Err, IfOk, refl, sym, subst, ap}
use Rattle.std.proofs.Common.{◌∙◌}
use Rattle.std.proofs.Common.{arith}
use Rattle.std.proofs.lemmas.Bool.Decides.{nat_tests}
use Rattle.std.proofs.lemmas.Bool.{ltb-false}
use Rattle.mta_ber.specs.declared.memory.Memory.{Memory as NoMemory}
use Rattle.mta_records.specs.Reference.{Identifier}
use Rattle.mta_records.specs.declared.lane.LaneRole.{LaneRole}
use Rattle.mta_tables.specs.Tables.{TablesValue}
use Rattle.mta_histories.specs.Lanes.{Lane, State, lane_at}
use Rattle.mta_spool.specs.Looking.{IsFirstNamed}
use Rattle.mta_session.specs.declared.peer.Peer.{Peer}
use Rattle.mta_worker.specs.Plans.{plan_to_open, plan_to_recover}
use Rattle.mta_worker.specs.declared.proposal.Next.{Next}
use Rattle.mta_worker.specs.declared.proposal.Next.TheVariants as next
use Rattle.mta_worker.specs.Nexts.{next_of_lane, next_of_none}
use Rattle.mta_worker.specs.Proposals.{HasFirst, HasNone, IsLineNow, IsNext, Opens, Past_last, Binds, Closes}

none_some : (lane : Lane) → Some lane ≡ None → ⊥
none_some lane e = cc

-- the lane of a number that was found is open
pub found_is_open : (role : LaneRole) (peer : List ℕ) (reference : Option Identifier) (lanes : List Lane) (n : ℕ)
    → IsFirstNamed role peer reference lanes (Some n) → lane_at n lanes ≡ None → ⊥
found_is_open role peer reference [] n f e = absurd cc
found_is_open role peer reference (l ∷ ls) n f e =
    by_test (n == l.number) refl e (λ rest none. found_is_open role peer reference ls n rest none)
  where
    behind : (n == l.number) ≡ false → lane_at n ls ≡ None
        → (IsFirstNamed role peer reference ls (Some n) → lane_at n ls ≡ None → ⊥) → ⊥
    behind other e again =
        elim f [
          | inl here ↦ let at : n ≡ l.number = cc in grind (arith, nat_tests)
          | inr rest ↦ again rest.1 e
        ]

    by_test : (b : Bool) → (n == l.number) ≡ b → (if b then Some l else lane_at n ls) ≡ None
        → (IsFirstNamed role peer reference ls (Some n) → lane_at n ls ≡ None → ⊥) → ⊥
    by_test true so e again = none_some l e
    by_test false other e again = behind other e again

pub next_is_of_none : (s : State) (peer : List ℕ) (tables : TablesValue) (line : Peer) (r : Result Next NoMemory)
    (moment last : ℕ) → IsLineNow s peer tables line → HasNone s peer → moment ≡ s.moment
    → last ≡ s.lanes.count
    → IfOk r (λ n. n ≡ next_of_none tables line moment last) → IfOk r (IsNext s peer)
next_is_of_none s peer tables line (Err m) moment last l h at count is = tt
next_is_of_none s peer tables line (Ok x) moment last l h at count is =
    subst (IsNext s peer) (sym (is ∙ (ap (λ (m : ℕ). next_of_none tables line m last) at
    ∙ ap (λ (k : ℕ). next_of_none tables line s.moment k) count)))
    (by_test (nat_lt s.lanes.count (2 ^ 32 - 1)) refl)
  where
    by_test : (b : Bool) → nat_lt s.lanes.count (2 ^ 32 - 1) ≡ b
        → IsNext s peer (if b then next.Open (plan_to_open tables line s.moment (s.lanes.count + 1))
        else next.NoNumber s.lanes.count)
    by_test true e = Opens tables line l h
    by_test false e = Past_last tables line l h (ltb-false s.lanes.count (2 ^ 32 - 1) e)

pub next_is_of_lane : (s : State) (peer : List ℕ) (tables : TablesValue) (line : Peer) (lane : Lane)
    (r : Result Next NoMemory) → IsLineNow s peer tables line → HasFirst s peer lane
    → IfOk r (λ n. n ≡ next_of_lane tables line lane) → IfOk r (IsNext s peer)
next_is_of_lane s peer tables line lane (Err m) l h is = tt
next_is_of_lane s peer tables line lane (Ok x) l h is =
    subst (IsNext s peer) (sym is) (by_test lane.agreed refl)
  where
    by_test : (b : Bool) → lane.agreed ≡ b
        → IsNext s peer (if b then next.Bind lane.number (plan_to_recover tables line lane.reference)
        else next.Close lane.number lane.generation)
    by_test true e = Binds tables line lane l h e
    by_test false e = Closes tables line lane l h e
