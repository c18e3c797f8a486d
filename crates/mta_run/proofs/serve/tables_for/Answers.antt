use Rattle.mta_run.specs.Served.{All_named, Not_named, Not_read}
use Rattle.mta_run.proofs.serve.tables_for.Goals as goal

pub returns-in-Err : goal.returns-in-Err
returns-in-Err g c = Not_read c.in-Err.stop c.in-Err.ensures

pub returns-in-Some : goal.returns-in-Some
returns-in-Some g c =
    Not_named c.in-Ok.tables c.in-Some.peer.now c.in-Ok.ensures c.in-Some.ensures.found c.stop_of_peer.result
    c.stop_of_peer.ensures

pub returns-in-None : goal.returns-in-None
returns-in-None g c = All_named c.in-Ok.tables c.in-Ok.ensures c.in-None.ensures.none
