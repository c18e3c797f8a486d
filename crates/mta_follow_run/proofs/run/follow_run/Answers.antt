use Rattle.std.proofs.Common.{Global, map, refl, string_bytes, subst}
use Rattle.mta_follow_run.specs.Outcome.{handed}
use Rattle.mta_output.specs.Output.{output}
use Rattle.mta_follow_run.specs.Ran.{run_pulled, run_pushed, run_unasked}
use Rattle.mta_follow_run.specs.Words.{Says, asked_by}
use Rattle.mta_follow_run.specs.declared.words.Command.{Command}
use Rattle.mta_follow_run.proofs.Handing.{follow_for, push_for}
use Rattle.mta_follow_run.proofs.Statuses.{tells_it}
use Rattle.mta_follow_run.proofs.run.follow_run.Goals as goal

pub returns-in-Some-Push-clause-ran : goal.returns-in-Some-Push-clause-ran
returns-in-Some-Push-clause-ran g c =
    run_pushed c.in-Some-Push.field-0-0.now c.in-Some-Push.field-0-1 c.send-outcome.result.outcome
    (subst (λ (k : Command). Says (map (string_bytes {Z = Global}) c.args.words.now) (asked_by k))
    c.in-Some-Push.field-0-is c.in-Some-Push.ensures)
    (push_for (map (string_bytes {Z = Global}) c.args.words.now) g.D.Disk.model g.S.Link.Link.model g.S.Station.model
    c.args.disk c.send-outcome.result.disk c.args.station c.send-outcome.result.station c.send-outcome.result.outcome
    c.send-outcome.ensures)
    c.tell_pushed.ensures.printed

pub returns-in-Some-Push-clause-tells : goal.returns-in-Some-Push-clause-tells
returns-in-Some-Push-clause-tells g c =
    tells_it (handed (map (string_bytes {Z = Global}) c.args.words.now) g.D.Disk.model g.S.Link.Link.model
    g.S.Station.model
    c.args.disk c.send-outcome.result.disk c.args.station c.send-outcome.result.station)
    (output g.O.Sink.model c.args.out.now c.tell_pushed.new.out) g.met.D.Disk.laws c.tell_pushed.result
    (returns-in-Some-Push-clause-ran g c)

pub returns-in-Some-Pull-clause-ran : goal.returns-in-Some-Pull-clause-ran
returns-in-Some-Pull-clause-ran g c =
    run_pulled c.in-Some-Pull.field-0-0 c.get-kept.result.outcome.kept c.get-kept.result.outcome.ended
    (subst (λ (k : Command). Says (map (string_bytes {Z = Global}) c.args.words.now) (asked_by k))
    c.in-Some-Pull.field-0-is c.in-Some-Pull.ensures)
    (follow_for (map (string_bytes {Z = Global}) c.args.words.now) g.D.Disk.model g.S.Link.Link.model
    g.S.Station.model c.args.disk c.get-kept.result.disk c.args.station c.get-kept.result.station
    c.get-kept.result.outcome.kept c.get-kept.result.outcome.ended c.get-kept.ensures)
    c.tell_kept.ensures.printed

pub returns-in-Some-Pull-clause-tells : goal.returns-in-Some-Pull-clause-tells
returns-in-Some-Pull-clause-tells g c =
    tells_it (handed (map (string_bytes {Z = Global}) c.args.words.now) g.D.Disk.model g.S.Link.Link.model
    g.S.Station.model
    c.args.disk c.get-kept.result.disk c.args.station c.get-kept.result.station)
    (output g.O.Sink.model c.args.out.now c.tell_kept.new.out) g.met.D.Disk.laws c.tell_kept.result
    (returns-in-Some-Pull-clause-ran g c)

pub returns-in-None-clause-ran : goal.returns-in-None-clause-ran
returns-in-None-clause-ran g c = run_unasked c.in-None.ensures refl refl c.tell.ensures.printed

pub returns-in-None-clause-tells : goal.returns-in-None-clause-tells
returns-in-None-clause-tells g c =
    tells_it (handed (map (string_bytes {Z = Global}) c.args.words.now) g.D.Disk.model g.S.Link.Link.model
    g.S.Station.model
    c.args.disk c.args.disk c.args.station c.args.station)
    (output g.O.Sink.model c.args.out.now c.tell.new.out) g.met.D.Disk.laws c.tell.result
    (returns-in-None-clause-ran g c)
