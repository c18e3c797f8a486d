use Rattle.std.proofs.Common.{◌++◌}
use Rattle.std.specs.Prelude.{codes}
use Rattle.mta_output.specs.Output.{output}
use Rattle.mta_follow_run.specs.Stops.{last_number}
use Rattle.mta_follow_run.specs.declared.stop.Stop.TheVariants as Stops
use Rattle.mta_follow_run.proofs.Printing.{as_put, at_line, line_disk, line_diverged, line_not_spool, line_usage}
use Rattle.mta_follow_run.proofs.lines.put_line.Goals as goal

pub returns-in-Usage : goal.returns-in-Usage
returns-in-Usage g c =
    at_line c.args.stop Stops.Usage (codes "usage: mta_follow push HOST PORT or pull PORT\n")
    (output g.O.Sink.model c.args.out.now c.put_all.new.out) c.put_all.result c.in-Usage.is line_usage
    (as_put g.O.Sink.model c.args.out.now c.put_all.new.out
    (codes "usage: mta_follow push HOST PORT or pull PORT\n") c.put_all.result c.put_all.ensures.whole
    c.put_all.ensures.front c.put_all.ensures.cause)

pub returns-in-NotSpool : goal.returns-in-NotSpool
returns-in-NotSpool g c =
    at_line c.args.stop (Stops.NotSpool c.in-NotSpool.at) (codes "not a spool at " ++ last_number c.in-NotSpool.at)
    (output g.O.Sink.model c.args.out.now c.put_counted.new.out) c.put_counted.result c.in-NotSpool.is
    (line_not_spool c.in-NotSpool.at) c.put_counted.ensures

pub returns-in-Disk : goal.returns-in-Disk
returns-in-Disk g c =
    at_line c.args.stop Stops.Disk (codes "disk fault\n")
    (output g.O.Sink.model c.args.out.now c.put_all-in-Disk.new.out) c.put_all-in-Disk.result c.in-Disk.is line_disk
    (as_put g.O.Sink.model c.args.out.now c.put_all-in-Disk.new.out (codes "disk fault\n") c.put_all-in-Disk.result
    c.put_all-in-Disk.ensures.whole c.put_all-in-Disk.ensures.front c.put_all-in-Disk.ensures.cause)

pub returns-in-Diverged : goal.returns-in-Diverged
returns-in-Diverged g c =
    at_line c.args.stop (Stops.Diverged c.in-Diverged.number) (codes "diverged at " ++ last_number c.in-Diverged.number)
    (output g.O.Sink.model c.args.out.now c.put_counted-in-Diverged.new.out) c.put_counted-in-Diverged.result
    c.in-Diverged.is (line_diverged c.in-Diverged.number) c.put_counted-in-Diverged.ensures
