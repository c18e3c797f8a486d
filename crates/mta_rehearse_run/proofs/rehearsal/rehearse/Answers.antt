use Rattle.std.proofs.Common.{List, map, string_bytes, Global, subst}
use Rattle.mta_tables.specs.Tables.{TablesValue}
use Rattle.mta_rehearse_run.specs.Asked.{asked_of}
use Rattle.mta_rehearse_run.specs.Rehearsal.{IsRehearsed}
use Rattle.mta_rehearse_run.proofs.Outcomes.{has_not_asked, has_not_read, has_answered}
use Rattle.mta_rehearse_run.proofs.rehearsal.rehearse.Goals as goal

pub returns-in-Err : goal.returns-in-Err
returns-in-Err g c =
    has_not_asked g.I.Source.model (asked_of (map (string_bytes {Z = Global}) c.args.words.now)) c.args.conf.now
    c.in-Err.stop c.in-Err.ensures

pub returns-in-Ok-read_network : goal.returns-in-Ok-read_network
returns-in-Ok-read_network g c =
    let a = c.in-Ok.asked in
    has_answered g.I.Source.model (asked_of (map (string_bytes {Z = Global}) c.args.words.now)) a
    c.in-Ok-read_network.agents c.args.conf.now c.read_network.new.conf c.rehearsed.result c.in-Ok.ensures
    c.in-Ok-read_network.ensures.read
    (subst (λ (xs : List TablesValue). IsRehearsed xs a c.rehearsed.result) c.as_slice.ensures c.rehearsed.ensures)

pub returns : goal.returns
returns g c =
    has_not_read g.I.Source.model (asked_of (map (string_bytes {Z = Global}) c.args.words.now)) c.in-Ok.asked
    c.args.conf.now c.read_network.new.conf c.in-Err-read_network.stop c.in-Ok.ensures
    c.in-Err-read_network.ensures.read
