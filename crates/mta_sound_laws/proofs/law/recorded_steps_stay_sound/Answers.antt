use Rattle.mta_sound_laws.proofs.Stays.{histories_are_sound, steps_make_written, steps_stay_sound}
use Rattle.mta_sound_laws.proofs.law.recorded_steps_stay_sound.Goals as goal

pub returns : goal.returns
returns c = record { made = steps_make_written; steps = steps_stay_sound; histories = histories_are_sound }
