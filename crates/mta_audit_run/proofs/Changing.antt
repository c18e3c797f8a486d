-- A change of the lane of a number, and that numbers ascend.
use Rattle.std.proofs.Common.{◌≡◌, ℕ, zero, suc, ◌<◌, Bool, true, false, List, [], ◌∷◌, ◌++◌, length, get_or}
use Rattle.std.proofs.Common.{slice_set, eqb, eq-eqb, Option, None, refl, sym, ap, subst, ◌∙◌, arith}
use Rattle.std.specs.Prelude.{if◌then◌else◌}
use Rattle.std.proofs.lemmas.Bool.{ne_eqb}
use Rattle.mta_lane_send.specs.declared.state.SendState.{SendState}
use Rattle.mta_lane_send.specs.declared.state.SendState.TheVariants.{Idle, Sending, Ending, Dropping}
use Rattle.mta_histories.specs.Classes.{Outcome, was_sent, was_refused, was_denied, was_dropped, LaneStep, agree, bind}
use Rattle.mta_histories.specs.Classes.{start, confirm, to_end, settle, abandon, secure, complete, drop_pieces, close}
use Rattle.mta_histories.specs.Classes.{Class, begins, sets_format, records, accepts, settles, opens, on_lane}
use Rattle.mta_histories.specs.Lanes.{Lane, State, lane_at}
use Rattle.mta_histories.specs.History.{StepNeeds, lanes_after}
use Rattle.mta_histories.specs.Kept.{AreNumbered as AreLanesNumbered}
use Rattle.mta_audit_run.specs.declared.account.Account.{Account}
use Rattle.mta_audit_run.specs.Account.{AreAscending, AreNumbered, accounts_begun, changed, with_completed, with_ending}
use Rattle.mta_audit_run.specs.Account.{with_sent}
use Rattle.mta_audit_run.specs.Accounts.{accounts_after, accounts_on, completed_on, ending_in, octets_in, settled_on}
use Rattle.mta_audit_run.specs.Accounts.{transferred_on}
use Rattle.mta_audit_run.specs.Places.{IsPlaceOf, StandsAt}

-- ---- a change of one

-- each number is above the one below the first
pub above_all : (above most : ℕ) (xs : List Account) (k : ℕ) (d : Account) → AreNumbered above xs most → k < length xs
    → above < (get_or xs k d).number
above_all above most [] k d each inside = absurd (omega (arith, inside))
above_all above most (x ∷ xs) zero d each inside = each.0
above_all above most (x ∷ xs) (suc k) d each inside =
    let more = above_all x.number most xs k d each.1 (omega (arith, inside)) in
    let first = each.0 in
    omega (arith, first, more)

set-at : (f : Account → Account) (n above most : ℕ) (xs : List Account) (place : ℕ) (x new : Account)
    → AreNumbered above xs most → place < length xs → ((d : Account) → (get_or xs place d).number ≡ n)
    → x ≡ get_or xs place x → new ≡ f x → slice_set xs place new ≡ changed f n xs
set-at f n above most [] place x new each inside is at made = absurd (omega (arith, inside))
set-at f n above most (y ∷ xs) zero x new each inside is at made =
    rw (eq-eqb n y.number (sym (is y))) (ap (λ (z : Account). z ∷ xs) (made ∙ ap f at))
set-at f n above most (y ∷ xs) (suc place) x new each inside is at made =
    let more = above_all y.number most xs place y each.1 (omega (arith, inside)) in
    let here = is y in
    rw (ne_eqb n y.number (λ same. omega (arith, more, here, same)))
    (ap (λ (t : List Account). y ∷ t) (set-at f n y.number most xs place x new each.1 (omega (arith, inside)) is at
    made))

-- it is made where the lane stands
pub changed_there : (f : Account → Account) (n : ℕ) (xs : List Account) (place : ℕ) (x new : Account)
    → AreAscending xs → StandsAt n xs place → x ≡ get_or xs place x → new ≡ f x → slice_set xs place new
    ≡ changed f n xs
changed_there f n xs place x new each stands at made =
    set-at f n 0 each.0 xs place x new each.1 stands.within stands.number at made

-- or there is no such lane
pub changed_nowhere : (f : Account → Account) (n : ℕ) (xs : List Account) → IsPlaceOf n xs None → xs ≡ changed f n xs
changed_nowhere f n [] none = refl
changed_nowhere f n (y ∷ xs) none =
    rw (ne_eqb n y.number (λ same. none 0 y (omega arith) (sym same)))
    (ap (λ (t : List Account). y ∷ t)
    (changed_nowhere f n xs (λ k d inside same. none (suc k) d (omega (arith, inside)) same)))

-- ---- numbers ascend

changed-numbered : (f : Account → Account) (n above most : ℕ) (xs : List Account)
    → ((a : Account) → (f a).number ≡ a.number) → AreNumbered above xs most → AreNumbered above (changed f n xs) most
changed-numbered f n above most [] same each = each
changed-numbered f n above most (y ∷ xs) same each =
    by (eqb n y.number) (changed-numbered f n y.number most xs same each.1)
  where
    by : (b : Bool) → AreNumbered y.number (changed f n xs) most
        → AreNumbered above (if b then f y ∷ xs else y ∷ changed f n xs) most
    by true more = subst (λ (k : ℕ). (above < k) × AreNumbered k xs most) (sym (same y)) each
    by false more = (each.0, more)

pushed-numbered : (above most : ℕ) (xs : List Account) (x : Account) → most < x.number → AreNumbered above xs most
    → AreNumbered above (xs ++ x ∷ []) x.number
pushed-numbered above most [] x higher each = (omega (arith, higher, each), omega arith)
pushed-numbered above most (y ∷ xs) x higher each = (each.0, pushed-numbered y.number most xs x higher each.1)

begun-numbered : (above most : ℕ) (lanes : List Lane) → AreLanesNumbered above lanes most
    → AreNumbered above (accounts_begun lanes) most
begun-numbered above most [] each = each
begun-numbered above most (lane ∷ lanes) each = (each.0, begun-numbered lane.number most lanes each.1)

module _ (most : ℕ) (known : List Account) (each : AreNumbered 0 known most) (lane : Option Lane) (n : ℕ) where
  settled-numbered : (outcome : Outcome) → AreNumbered 0 (settled_on lane n outcome known) most
  settled-numbered was_sent =
      changed-numbered (with_sent (transferred_on lane)) n 0 most known (λ a. refl) each
  settled-numbered (was_refused kind) = each
  settled-numbered was_denied = each
  settled-numbered was_dropped = each

  on-numbered : (step : LaneStep) → AreNumbered 0 (accounts_on lane n step known) most
  on-numbered (agree checkpoint window) = each
  on-numbered bind = each
  on-numbered (start k i rs) = each
  on-numbered (confirm k c) = each
  on-numbered (to_end k) = each
  on-numbered (settle outcome k) = settled-numbered outcome
  on-numbered (abandon k) = each
  on-numbered (secure k p piece) = each
  on-numbered (complete k p piece) =
      changed-numbered (with_completed (completed_on lane p piece)) n 0 most known (λ a. refl) each
  on-numbered (drop_pieces k) = each
  on-numbered close = each

-- so they do behind a step
pub after_numbered : (s : State) (class : Class) (moment : ℕ) (known : List Account) → StepNeeds s class moment
    → AreNumbered 0 known s.lanes.count
    → AreNumbered 0 (accounts_after s.lanes class known) (lanes_after s class moment).count
after_numbered s (begins t) moment known needs each =
    begun-numbered 0 t.lane_count t.lanes needs.kept.numbered_lanes
after_numbered s sets_format moment known needs each = each
after_numbered s (records text) moment known needs each = each
after_numbered s (accepts octets) moment known needs each = each
after_numbered s (settles how i r) moment known needs each = each
after_numbered s (opens role peer reference twa checkpoint window) moment known needs each =
    pushed-numbered 0 s.lanes.count known _ (omega arith) each
after_numbered s (on_lane n generation step) moment known needs each =
    on-numbered s.lanes.count known each (lane_at n s.lanes.open_lanes) n step

-- and with the activities in Ending
pub ending_ascending : (lane : Lane) (state : SendState) (known : List Account) → AreAscending known
    → AreAscending (ending_in lane state known)
ending_ascending lane (Idle last) known each = each
ending_ascending lane (Sending k c) known each = each
ending_ascending lane (Ending k c) known each = (
  each.0,
  changed-numbered (with_ending (octets_in lane.transfer)) lane.number 0 each.0 known (λ a. refl) each.1,
)
ending_ascending lane (Dropping k) known each = each
