use Rattle.std.proofs.Common.{rules}
use Rattle.model.proofs.laws.refusals_keep_all.Goals as goal

pub returns : goal.returns
returns c = search rules
