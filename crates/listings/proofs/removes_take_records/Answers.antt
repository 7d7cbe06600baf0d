use Rattle.listings.proofs.Altered.{remove_takes}
use Rattle.listings.proofs.removes_take_records.Goals as goal

pub returns : goal.returns
returns c = remove_takes
