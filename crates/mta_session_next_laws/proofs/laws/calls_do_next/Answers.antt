use Rattle.mta_session_next_laws.proofs.Calls.{calls_do_next, holders_ask, listeners_take}
use Rattle.mta_session_next_laws.proofs.laws.calls_do_next.Goals as goal

pub returns : goal.returns
returns c = record { calls = calls_do_next; takes = listeners_take; asks = holders_ask }
