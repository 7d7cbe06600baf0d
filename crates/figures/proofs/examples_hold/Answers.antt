use Rattle.figures.proofs.Computed.{examples}
use Rattle.figures.proofs.examples_hold.Goals as goal

pub returns : goal.returns
returns c = examples
