-- A log's volume carried onto an image: what becomes of the image's bytes.
use Rattle.std.specs.Prelude.{◌≡◌, ℕ, List, ◌++◌, length, drop, Ok, Err, vec_items, Result}
use Rattle.copying.specs.declared.error.CopyError.{CopyError}
use Rattle.copying.specs.Copies.{differing, Reason}
use Rattle.image.specs.Blocks.{image_blocks, SameBeyond}
use Rattle.append_log.specs.Records.{log_blocks}
use Rattle.carry.specs.declared.carried.Carried.{Carried}

-- the log's blocks come first, the image's further blocks and what lies past its blocks stay, and just the blocks that differed are told
pub record Carries (log image : List ℕ) (carried : Carried) : Type 0 where
  pub blocks : image_blocks (vec_items carried.image.bytes) ≡ log_blocks log ++ drop (length (log_blocks log)) (image_blocks image)
  pub beyond : SameBeyond image (vec_items carried.image.bytes)
  pub told : vec_items carried.written ≡ differing (log_blocks log) (image_blocks image) (length (log_blocks log))

abbrev pub CarryEnds : List ℕ → List ℕ → Result Carried CopyError → Type 0
CarryEnds log image (Ok carried) = Carries log image carried
CarryEnds log image (Err error) = Reason (log_blocks log) (image_blocks image) 4294967295 error
