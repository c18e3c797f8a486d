use Rattle.mta_sound_laws.proofs.Fits.{snapshots_fit}
use Rattle.mta_sound_laws.proofs.law.snapshots_fit.Goals as goal

pub returns : goal.returns
returns c = record { fits = snapshots_fit }
