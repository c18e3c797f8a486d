use Rattle.mta_histories.proofs.SoundItems.{items_stay_sound}
use Rattle.mta_histories.proofs.SoundStays.{sound_stays}
use Rattle.mta_histories.proofs.law.sound_stays.Goals as goal

pub returns : goal.returns
returns c = record { items = items_stay_sound; states = sound_stays }
