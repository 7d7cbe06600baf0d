use Rattle.std.proofs.Common.{rules}
use Rattle.header.specs.Headers.{deepest}
use Rattle.header.proofs.codec.depth_of.Goals as goal

pub returns : goal.returns
unfolding deepest
returns c = search rules
