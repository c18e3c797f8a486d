use Rattle.std.proofs.Common.{◌≡◌}
use Rattle.std.specs.Prelude.{vec_len}
use Rattle.mta_state.specs.Parts.{machine_of, HasRoom}
use Rattle.mta_state.specs.Kept.{settled_in_turn, made_by_all}
use Rattle.mta_state.proofs.kept.settle_in_turn.Given as goal

abbrev pub invariant-loop-settlement : goal.invariant-loop-settlement
invariant-loop-settlement l = record {
  same : settled_in_turn (machine_of l.parts) l.item l.rest.items l.moment
      ≡ settled_in_turn (machine_of l.fn.parts) l.item l.fn.settlements.items l.moment;
  room : HasRoom l.parts 0 (made_by_all l.rest.items) 0;
}

abbrev pub decreases-loop-settlement : goal.decreases-loop-settlement
decreases-loop-settlement l = vec_len l.rest
