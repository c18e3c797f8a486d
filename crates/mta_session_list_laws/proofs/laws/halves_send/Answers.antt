use Rattle.mta_session_list_laws.proofs.Sent.{others_left_out, none_goes_on, none_drops}
use Rattle.mta_session_list_laws.proofs.laws.halves_send.Goals as goal

pub returns : goal.returns
returns c = record { others = others_left_out; past = none_goes_on; undropped = none_drops }
