use Rattle.figures.proofs.Listed.{listing}
use Rattle.figures.proofs.listing_is_one.Goals as goal

pub returns : goal.returns
returns c = listing
