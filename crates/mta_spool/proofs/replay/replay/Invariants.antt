use Rattle.std.specs.Prelude.{length}
use Rattle.mta_state.specs.Kept.{state_of}
use Rattle.mta_table_rules.specs.Text.{format_of, text_of}
use Rattle.mta_replay.specs.Sound.{IsSound}
use Rattle.mta_spool.proofs.Replays.{IsUnderWay}
use Rattle.mta_spool.proofs.replay.replay.Given as goal

abbrev pub invariant-loop-body : goal.invariant-loop-body
invariant-loop-body l = record {
  sound : IsSound format_of text_of l.replay.kept l.replay.rules;
  way : IsUnderWay l.fn.first l.fn.bodies.items l.rest (state_of l.replay.kept) l.at;
}

abbrev pub decreases-loop-body : goal.decreases-loop-body
decreases-loop-body l = length l.rest
