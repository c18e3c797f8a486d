use Rattle.mta_transfer_laws.proofs.Standing.{sends, receives}
use Rattle.mta_transfer_laws.proofs.own_events_stand.Goals as goal

pub returns : goal.returns
returns c = record { sending = sends; receiving = receives }
