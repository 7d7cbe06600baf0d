-- An empty index is made.
use Rattle.std.specs.Prelude.{◌≡◌, ℕ, ◌<◌, ◌≤◌, [], ◌∷◌, length, ◌≢◌}
use Rattle.kinds.specs.Kinds.{Kind}
use Rattle.index.specs.Stored.{Blocks, block, Stored, home}

-- two blocks of the device that are not the same, and two writes
pub record Creatable (blocks : Blocks) (allowed head bucket : ℕ) : Type 0 where
  pub top : head < length blocks
  pub low : bucket < length blocks
  pub apart : head ≡ bucket → ⊥
  pub writes : 2 ≤ allowed

-- an index of no records in just these two blocks; no other block changes
pub record Created (kind : Kind) (before after : Blocks) (head bucket : ℕ) : Type 0 where
  pub stored : Stored kind after head []
  pub lies : home kind after head [] ≡ head ∷ bucket ∷ []
  pub kept : (b : ℕ) → (b ≢ head) → (b ≢ bucket) → block after b ≡ block before b
  pub count : length after ≡ length before
