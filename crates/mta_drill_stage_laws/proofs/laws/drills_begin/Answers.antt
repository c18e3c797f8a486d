use Rattle.mta_drill_stage_laws.proofs.Beginning.{drills_begin}
use Rattle.mta_drill_stage_laws.proofs.laws.drills_begin.Goals as goal

pub returns : goal.returns
returns c = drills_begin
