use Rattle.listings.proofs.Altered.{create_puts}
use Rattle.listings.proofs.creates_put_records.Goals as goal

pub returns : goal.returns
returns c = create_puts
