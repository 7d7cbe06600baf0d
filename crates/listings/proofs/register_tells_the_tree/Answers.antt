use Rattle.listings.proofs.Tells.{register_tells}
use Rattle.listings.proofs.register_tells_the_tree.Goals as goal

pub returns : goal.returns
returns c = register_tells
