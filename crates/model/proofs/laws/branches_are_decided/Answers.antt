use Rattle.model.proofs.Runs.{branch_decided}
use Rattle.model.proofs.laws.branches_are_decided.Goals as goal

pub returns : goal.returns
returns c = branch_decided
