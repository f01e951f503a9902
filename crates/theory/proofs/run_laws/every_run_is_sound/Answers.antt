use Rattle.theory.proofs.SoundRuns.{every_run_is_sound}
use Rattle.theory.proofs.run_laws.every_run_is_sound.Goals as goal

pub returns : goal.returns
returns c = every_run_is_sound
