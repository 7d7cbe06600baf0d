use Rattle.listings.proofs.Tells.{folder_tells}
use Rattle.listings.proofs.folders_tell_the_tree.Goals as goal

pub returns : goal.returns
returns c = folder_tells
