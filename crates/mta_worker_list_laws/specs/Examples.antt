-- A worked row: the calls of a responder that takes a message in one piece, and closes the lane.
use Rattle.std.specs.Prelude.{◌≡◌, [], ◌∷◌}
use Rattle.mta_units.specs.declared.unit.Unit.TheVariants as unit
use Rattle.mta_session.specs.declared.event.Action.TheVariants as action
use Rattle.mta_session_list_laws.specs.Examples.{accepted, taken_calls, two}
use Rattle.mta_worker_list_laws.specs.Leads.{got_in, made_in}

-- The entries that its calls tell are the third and the fourth of the history, which are its own, and these units were
-- got.
pub record TakesOne : Type 0 where
  pub entries : made_in 0 (action.Put accepted) taken_calls ≡ 2 ∷ 3 ∷ []
  pub got : got_in taken_calls ≡ unit.Start 1 ∷ unit.Piece two ∷ unit.End 1 ∷ unit.Close ∷ []
