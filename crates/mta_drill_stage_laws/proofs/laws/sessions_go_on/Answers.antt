use Rattle.mta_drill_stage_laws.proofs.InSessions.{sessions_call, sessions_go, sessions_hear, sessions_listen}
use Rattle.mta_drill_stage_laws.proofs.InSessions.{sessions_rest, sessions_turn}
use Rattle.mta_drill_stage_laws.proofs.laws.sessions_go_on.Goals as goal

pub returns : goal.returns
returns c = record {
  listens = sessions_listen;
  all = sessions_go;
  calls = sessions_call;
  turns = sessions_turn;
  rests = sessions_rest;
  hears = sessions_hear;
}
