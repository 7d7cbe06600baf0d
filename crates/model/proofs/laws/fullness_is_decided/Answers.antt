use Rattle.model.proofs.Runs.{fullness_decided}
use Rattle.model.proofs.laws.fullness_is_decided.Goals as goal

pub returns : goal.returns
returns c = fullness_decided
