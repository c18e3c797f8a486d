use Rattle.mta_session_list_laws.proofs.Insertion.{places, stand, turns, refusals, received}
use Rattle.mta_session_list_laws.proofs.laws.abandons_stand.Goals as goal

pub returns : goal.returns
returns c = record {
  placed = λ history lane from e ys r. places history lane ys from e r;
  stand = λ history lane from e ys r k. stand history lane ys from e r k;
  turns = λ history lane from e t ys k. turns history lane ys from e t k;
  refusals = λ history lane from e ys k. refusals history lane ys from e k;
  received = λ history lane from e ys. received history lane ys from e;
}
