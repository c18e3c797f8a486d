-- What a standby makes of a unit that came.
use Rattle.std.proofs.Common.{◌≡◌, ℕ, ◌≤◌, List, length, Result, Ok, Err, Bool}
use Rattle.std.proofs.Common.{false, true, refl, sym, ap, subst, ◌∙◌, IsErr}
use Rattle.std.specs.Str.{bytes_eq}
use Rattle.std.proofs.lemmas.Slice.Eq.{bytes_eq-Decides}
use Rattle.mta_edge.specs.Views.{DiskView}
use Rattle.mta_journal.specs.Appending.{Appends}
use Rattle.mta_journal.specs.Shown.{Shown}
use Rattle.mta_journal.specs.declared.journal.AppendFault.{AppendFault}
use Rattle.mta_journal.specs.declared.journal.AppendFault.TheVariants as Faults
use Rattle.mta_records.specs.Body.{HasFields, body_of}
use Rattle.mta_records.specs.Reading.{Reads}
use Rattle.mta_records.specs.declared.step.Step.{Step}
use Rattle.mta_records.specs.declared.fault.RecordFault.{RecordFault}
use Rattle.mta_records.specs.declared.fault.RecordFault.TheVariants as RecordFaults
use Rattle.mta_follow_run.specs.declared.stop.Stop.{Stop}
use Rattle.mta_follow_run.specs.declared.stop.Stop.TheVariants as Stops
use Rattle.mta_follow_run.specs.Stops.{stop_of_append}
use Rattle.mta_follow_run.specs.Taking.{Adds, IsNoRecord, IsRecord, Judges, add_failed, add_short, judged}
use Rattle.mta_follow_run.specs.Taking.{IsEnded, Keeps, Takes, judged_none, judged_short, no_more, no_room, no_step}
use Rattle.mta_follow_run.specs.Taking.{some_more, takes_bad, takes_done, takes_more, takes_none, takes_one}
use Rattle.mta_follow_units.specs.declared.due.Due.TheVariants as due
use Rattle.mta_follow_units.specs.Units.{IsBad, done_unit, most, record_unit}

-- a body that is refused is that of no step
pub no_record : (fault : RecordFault) (at : ℕ) (body : List ℕ) → fault ≡ RecordFaults.BadRecord at
    → ((step : Step) → HasFields step → body_of step ≡ body → Reads (Err fault) (Ok step)) → IsNoRecord body
no_record fault at body bad only step fields is =
    absurd (apart (subst (λ (f : RecordFault). Reads (Err f) (Ok step)) bad (only step fields is)))
  where
    apart : ◌≡◌ {A = Result Step ℕ} (Ok step) (Err at) → ⊥
    apart e = cc

pub is_record : (at : ℕ) (body : List ℕ) (r : Result (Unit {0}) Stop) (t : Unit {0}) → r ≡ Ok t → Judges at body r
    → IsRecord body
is_record at body r t is h = by (subst (Judges at body) is h)
  where
    by : Judges at body (Ok tt) → IsRecord body
    by (judged one) = one

module _ {D : Type 0} (disks : DiskView D) (at : ℕ) (body : List ℕ) (old new : Shown D) where
  -- it is not appended, as it is none or for want of memory
  pub not_judged : (r s : Result (Unit {0}) Stop) (stop other : Stop) → r ≡ Err stop → s ≡ Err other → other ≡ stop
      → Judges at body r → Adds disks at body old old s
  not_judged r s stop other was is same h =
      subst (Adds disks at body old old) (sym (is ∙ ap Err same)) (by stop (subst (Judges at body) was h))
    where
      by : (stop : Stop) → Judges at body (Err stop) → Adds disks at body old old (Err stop)
      by stop (judged_none none) = no_step none refl
      by stop judged_short = add_short refl

  -- the journal refused it
  pub not_added : (fault : AppendFault) (r : Result (Unit {0}) AppendFault) → IsRecord body → r ≡ Err fault
      → Appends disks body old new r → Adds disks at body old new (Err (stop_of_append fault))
  not_added (Faults.Full size need) r one is a =
      let f = a.full size need is in no_room size need one f.0 f.1 f.2 (a.kept (refused is) (λ e. other is e))
    where
      refused : {fault : AppendFault} → r ≡ Err fault → IsErr r
      refused e = subst IsErr (sym e) refl

      other : r ≡ Err (Faults.Full size need) → r ≡ Err Faults.Disk → ⊥
      other e f = cc
  not_added Faults.Disk r one is a = add_failed one r is a
  not_added Faults.Ended r one is a =
      add_short (a.kept (subst IsErr (sym is) refl) (λ e. ended is e))
    where
      ended : r ≡ Err Faults.Ended → r ≡ Err Faults.Disk → ⊥
      ended e f = cc
  not_added Faults.Memory r one is a =
      add_short (a.kept (subst IsErr (sym is) refl) (λ e. short is e))
    where
      short : r ≡ Err Faults.Memory → r ≡ Err Faults.Disk → ⊥
      short e f = cc

-- ---- the unit that came

module _ {D : Type 0} (disks : DiskView D) (kept : List (List ℕ)) (count at read : ℕ) (octets : List ℕ)
    (old new : Shown D) (read_is : read ≡ at) where
  module _ (body : List ℕ) (unit : (length body ≤ most count) × (octets ≡ record_unit body)) where
    -- a record that is kept
    pub took_one : (r : Result (Unit {0}) Stop) (t : Unit {0}) → r ≡ Ok t → Keeps disks kept count read body old new r
        → Takes disks kept count at octets old new (Ok true)
    took_one r t is keeps =
        takes_one body unit.1 unit.0 (subst (λ (n : ℕ). Keeps disks kept count n body old new (Ok tt)) read_is
        (subst (Keeps disks kept count read body old new) is keeps))

    -- and one that is not
    pub took_none : (r : Result (Unit {0}) Stop) (s : Result Bool Stop) (stop other : Stop) → r ≡ Err stop
        → s ≡ Err other → other ≡ stop → Keeps disks kept count read body old new r
        → Takes disks kept count at octets old new s
    took_none r s stop other was is same keeps =
        subst (Takes disks kept count at octets old new) (sym (is ∙ ap Err same))
        (takes_none body stop unit.1 unit.0
        (subst (λ (n : ℕ). Keeps disks kept count n body old new (Err stop)) read_is
        (subst (Keeps disks kept count read body old new) was keeps)))

  -- a unit that is none that was due
  pub took_bad : IsBad (due.Record count) octets → Takes disks kept count at octets old old (Err (Stops.BadUnit read))
  took_bad bad =
      subst (λ (n : ℕ). Takes disks kept count at octets old old (Err (Stops.BadUnit n))) (sym read_is)
      (takes_bad bad refl)

module _ {D : Type 0} (disks : DiskView D) (kept : List (List ℕ)) (count at : ℕ) (octets : List ℕ) (old : Shown D)
    (unit : octets ≡ done_unit count) where
  -- these were all
  pub took_end : (r : Result (Unit {0}) Stop) (t : Unit {0}) → r ≡ Ok t → IsEnded (length kept) count r
      → Takes disks kept count at octets old old (Ok false)
  took_end r t is h = by (subst (IsEnded (length kept) count) is h)
    where
      by : IsEnded (length kept) count (Ok tt) → Takes disks kept count at octets old old (Ok false)
      by (no_more within) = takes_done unit within refl

  -- but more are kept
  pub took_fewer : (r : Result (Unit {0}) Stop) (s : Result Bool Stop) (stop other : Stop) → r ≡ Err stop
      → s ≡ Err other → other ≡ stop → IsEnded (length kept) count r → Takes disks kept count at octets old old s
  took_fewer r s stop other was is same h =
      subst (Takes disks kept count at octets old old) (sym (is ∙ ap Err same))
      (by stop (subst (IsEnded (length kept) count) was h))
    where
      by : (stop : Stop) → IsEnded (length kept) count (Err stop)
          → Takes disks kept count at octets old old (Err stop)
      by stop (some_more more) = takes_more unit more refl

-- ---- the record that is kept

pub same_octets : (xs ys : List ℕ) → bytes_eq xs ys ≡ true → xs ≡ ys
same_octets xs ys e = (bytes_eq-Decides xs ys).0 e

pub other_octets : (xs ys : List ℕ) → bytes_eq xs ys ≡ false → xs ≡ ys → ⊥
other_octets xs ys e is = let same : bytes_eq xs ys ≡ true = (bytes_eq-Decides xs ys).1 is in absurd cc
