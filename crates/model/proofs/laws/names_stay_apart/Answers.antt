use Rattle.model.proofs.Runs.{names_apart}
use Rattle.model.proofs.laws.names_stay_apart.Goals as goal

pub returns : goal.returns
returns c = names_apart
