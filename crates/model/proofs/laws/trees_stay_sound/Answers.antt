use Rattle.model.proofs.Runs.{stays_sound}
use Rattle.model.proofs.laws.trees_stay_sound.Goals as goal

pub returns : goal.returns
returns c = stays_sound
