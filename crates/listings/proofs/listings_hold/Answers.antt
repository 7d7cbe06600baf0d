use Rattle.listings.proofs.Fair.{listing_law}
use Rattle.listings.proofs.listings_hold.Goals as goal

pub returns : goal.returns
returns c = listing_law
