-- The blocks of an image: whole blocks of 512 bytes after one another.
use Rattle.std.specs.Prelude.{◌≡◌, ℕ, ◌*◌, ◌/◌, min, List, map, length, take, drop}
use Rattle.std.specs.List.{range_with_len}

-- the bytes 512 · b to 512 · b + 511
abbrev pub block_at : List ℕ → ℕ → List ℕ
block_at bytes b = take 512 (drop (512 * b) bytes)

-- how many whole blocks there are, up to 65,535
abbrev pub whole_blocks : List ℕ → ℕ
whole_blocks bytes = min (length bytes / 512) 65535

unfoldable pub image_blocks : List ℕ → List (List ℕ)
image_blocks bytes = map (block_at bytes) (range_with_len 0 (whole_blocks bytes))

-- the bytes past the blocks are the same, and as many
pub record SameBeyond (bytes after : List ℕ) : Type 0 where
  pub len : length bytes ≡ length after
  pub rest : drop (512 * whole_blocks bytes) bytes ≡ drop (512 * whole_blocks bytes) after
