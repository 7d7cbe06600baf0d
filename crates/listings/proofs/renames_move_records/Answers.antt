use Rattle.listings.proofs.Moved.{rename_moves}
use Rattle.listings.proofs.renames_move_records.Goals as goal

pub returns : goal.returns
returns c = rename_moves
