use Rattle.std.proofs.Common.{rules, ◌≡◌}
use Rattle.mta_stations.specs.Deciding.{deciding, halts_of}
use Rattle.mta_stations.proofs.DecidingLaws.{deciding_found, deciding_none}
use Rattle.mta_stations.proofs.decision.deciding.Goals as goal

pub returns-clause-found : goal.returns-clause-found
returns-clause-found c =
    let e : c.or-2.result ≡ deciding (halts_of c.args.ends.now) = search rules in
    rw e (deciding_found (halts_of c.args.ends.now))

pub returns-clause-none : goal.returns-clause-none
returns-clause-none c =
    let e : c.or-2.result ≡ deciding (halts_of c.args.ends.now) = search rules in
    rw e (deciding_none (halts_of c.args.ends.now))
