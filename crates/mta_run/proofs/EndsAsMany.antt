-- Workers come to as many ends as there are stations.
use Rattle.std.proofs.Common.{◌≡◌, List, Option, Some, length, map, sym, ap, ◌∙◌}
use Rattle.std.proofs.lemmas.List.{length-map, length-reverse}
use Rattle.mta_edge.specs.Views.{ClockView, DiskView}
use Rattle.mta_links.specs.Links.{LinkView, StationView}
use Rattle.mta_records.specs.declared.step.Step.{Step}
use Rattle.mta_session.specs.declared.limits.Limits.{Limits}
use Rattle.mta_shared.specs.declared.history.Base.{Base}
use Rattle.mta_stations.specs.declared.end.WorkerEnd.{WorkerEnd}
use Rattle.mta_worker.specs.Jobs.{end_of, station_of}
use Rattle.mta_worker.specs.Wholes.{AreWorkers}

pub ends_as_many : {D C L S : Type 0} (disks : DiskView D) (clocks : ClockView C) (links : LinkView L)
    (stations : StationView S) (limits : Limits) (before after : List S) (ends : List WorkerEnd)
    (first : List Step) (base : Base) (xs : List Step)
    → AreWorkers disks clocks links stations limits before after ends first base xs → length ends ≡ length before
ends_as_many {S = S} disks clocks links stations limits before after ends first base xs w =
    sym (length-map ends (λ (e : WorkerEnd). Some e))
    ∙ (ap (λ (es : List (Option WorkerEnd)). length es) (sym w.ends_are)
    ∙ (length-reverse (map end_of w.done)
    ∙ (length-map w.done end_of
    ∙ (w.as_many
    ∙ (sym (length-map w.dealt station_of)
    ∙ (sym (length-reverse (map station_of w.dealt))
    ∙ ap (λ (ss : List S). length ss) w.before_are))))))
