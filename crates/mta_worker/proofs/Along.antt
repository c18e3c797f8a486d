-- Two lists of jobs of one length, member by member.
use Rattle.std.proofs.Common.{◌≡◌, ℕ, ◌<◌, List, [], ◌++◌, length, map, reverse, slice_index_or, All, Some}
use Rattle.std.proofs.Common.{sym, ap, ◌∙◌, subst, arith}
use Rattle.mta_edge.specs.Views.{ClockView, DiskView}
use Rattle.mta_links.specs.Links.{LinkView, StationView}
use Rattle.mta_session.specs.declared.limits.Limits.{Limits}
use Rattle.mta_shared.specs.declared.history.Base.{Base}
use Rattle.mta_shared.specs.Counts.{times, row}
use Rattle.mta_shared.specs.Held.{Held, LockId}
use Rattle.mta_shared.specs.Passes.{Worked}
use Rattle.mta_records.specs.declared.step.Step.{Step}
use Rattle.mta_stations.specs.declared.end.WorkerEnd.{WorkerEnd}
use Rattle.mta_worker.specs.Working.{HasWorked}
use Rattle.mta_worker.specs.declared.jobs.Job.{Job}
use Rattle.mta_worker.specs.Jobs.{end_of, ends_as, IsDealt, IsDealtOne, IsDone, JobDone, owned_by, SawFront}
use Rattle.mta_worker.specs.Jobs.{station_of}
use Rattle.mta_worker.specs.Wholes.{AreWorkers}

module _ {S : Type 0} where
  pub begin_so : (at : LockId) (main : Held Step) (first : List Step) (base : Base) (dealt : List (Job S))
      → main.seen ≡ first → main.base ≡ base → All (IsDealt at main) dealt
      → All (λ (j : Job S). (j.pass.seen ≡ first) × (j.pass.base ≡ base) × (j.pass.own ≡ [])) dealt
  begin_so at main first base dealt seen_is base_is all i d l =
      let j = all i d l in (j.seen ∙ seen_is, j.base ∙ base_is, j.dealt.bare)

module _ {D C L S : Type 0} (disks : DiskView D) (clocks : ClockView C) (links : LinkView L)
    (stations : StationView S) (limits : Limits) (at : LockId) where
  -- what a worker came to, from what its work says
  pub job_done : (j k : Job S) (e : WorkerEnd) → IsDealtOne at j → Worked j.pass k.pass
      → HasWorked disks clocks links stations limits
      (record { station = j.station; pass = j.pass; sessions = 0; closed = 0 }) k.station k.pass e
      → stations.out k.station ≡ stations.out j.station → k.end ≡ Some e
      → JobDone disks clocks links stations limits at j k
  job_done j k e dealt worked did out end_is = record {
    done = record {
      ready = (worked.lock ∙ dealt.ready.0, worked.rests);
      one = worked.parts ∙ dealt.one;
      ended = (e, end_is);
    };
    worked = worked;
    end = e;
    end_is = end_is;
    did = did;
    out = out;
  }

  module _ (dealt run : List (Job S)) (len : length dealt ≡ length run)
      (each : (i : ℕ) (d : Job S) → i < length dealt
      → JobDone disks clocks links stations limits at (slice_index_or dealt i d) (slice_index_or run i d)) where
    pub all_done : All (IsDone at) run
    all_done i d l = (each i d (omega arith)).done

    pub workers_of : (main : Held Step) (before after : List S) (ends : List WorkerEnd) (first : List Step)
        (base : Base) (xs seen_all : List Step) (before_own own_all : List ℕ)
        → All (IsDealt at main) dealt → main.seen ≡ first → main.base ≡ base
        → reverse (map station_of dealt) ≡ before → after ≡ reverse (map station_of run)
        → ends_as ends ≡ reverse (map end_of run)
        → before_own ≡ row 0 (length first) → own_all ≡ before_own ++ owned_by run
        → ((p : ℕ) → times p own_all ≡ times p (row 0 (length xs))) → xs ≡ seen_all → All (SawFront seen_all) run
        → AreWorkers disks clocks links stations limits before after ends first base xs
    workers_of main before after ends first base xs seen_all before_own own_all begin seen_is base_is
        before_is after_is ends_is own_is own_grown counts is saw = record {
          lock = at;
          dealt = dealt;
          done = run;
          before_are = before_is;
          after_are = sym after_is;
          ends_are = sym ends_is;
          as_many = sym len;
          begin = begin_so at main first base dealt seen_is base_is begin;
          each = each;
          shares = λ p. ap (times p) (sym (own_grown ∙ ap (λ l. l ++ owned_by run) own_is)) ∙ counts p;
          seen = subst (λ l. All (SawFront l) run) (sym is) saw;
        }
