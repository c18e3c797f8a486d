-- What a worker does with a link is all that one session did, or none began.
use Rattle.std.specs.Prelude.{◌≡◌, ◌<◌, ◌≤◌, ℕ, ◌+◌, Bool, List, ◌++◌, length, slice_get}
use Rattle.std.specs.Prelude.{None, Some}
use mathlib.Core.List.{IsPrefix}
use Rattle.mta_edge.specs.Views.{ClockView, DiskView}
use Rattle.mta_links.specs.Links.{LinkView}
use Rattle.mta_links.specs.declared.role.Role.{Role}
use Rattle.mta_transfer_rules.specs.Lanes.{CloseLane, On, Seen}
use Rattle.mta_records.specs.declared.step.Step.{Step}
use Rattle.mta_session.specs.State.{State}
use Rattle.mta_session_list_laws.specs.Calls.{Call}
use Rattle.mta_shared.specs.Counts.{times}
use Rattle.mta_shared.specs.Held.{Held}
use Rattle.mta_worker.specs.Served.{IsLinkServed}
use Rattle.mta_worker.specs.declared.session.Served.{Served}
use Rattle.mta_worker_list_laws.specs.Begun.{begun_by, HasRun, IsBehind}
use Rattle.mta_worker_list_laws.specs.Histories.{AreEntries, place, TellsApdus, whole}

-- entries by which lanes were closed that were never agreed
abbrev pub AreClosings : List Seen → (before : ℕ) → List ℕ → Type 0
AreClosings history n ks =
    (k : ℕ) → 0 < times k ks
    → (lane : ℕ) × (generation : ℕ) × (slice_get history (n + k) ≡ Some (On lane (CloseLane generation)))

-- What a worker did with a link of a station of this role, of which, as of its pass, this is what it was before and
-- then: it closed lanes, and no session began, or all that one did, behind the entry by which its lane was opened or
-- bound.
pub data IsRun {L : Type 0} (links : LinkView L) (spells : List ℕ → Bool) (first entries : List Step) (role : Role)
    (old new : L) (p q : Held Step) (served : Served) : Type 0 where
  None_began : (closings : List ℕ) → AreClosings (whole first entries) (length first) closings
      → served.end ≡ None → q.own ≡ p.own ++ closings → new ≡ old
      → IsRun links spells first entries role old new p q served
  Began : (closings : List ℕ) (t : State) (begun : Held Step) (calls : List Call)
      (ran : HasRun links spells first entries old t begun calls q new) → ran.role ≡ role
      → AreClosings (whole first entries) (length first) closings
      → begun.own ≡ p.own ++ (closings ++ begun_by (length first) ran.begins)
      → length (begun_by (length first) ran.begins) ≤ length begun.seen → IsBehind (place first p) ran.begins
      → IsRun links spells first entries role old new p q served

module _ {D C L : Type 0} (disks : DiskView D) (clocks : ClockView C) (links : LinkView L) where
  -- Over each possible history that goes on from what the worker's pass has seen then.
  abbrev pub LinksAreRun : Type 0
  LinksAreRun =
      (spells : List ℕ → Bool) (first entries : List Step) (role : Role) (units : ℕ) (p : Held Step) (old new : L)
      (q : Held Step) (served : Served) → TellsApdus spells → AreEntries p.base first entries
      → IsLinkServed disks clocks links role units p old new q served → IsPrefix q.seen entries
      → IsRun links spells first entries role old new p q served
