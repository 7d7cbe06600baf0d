-- Buckets laid out in memory.
use Rattle.std.specs.Prelude.{◌≡◌, ℕ, ◌+◌, ◌-◌, ◌*◌, ◌≤◌, List, map, take, drop}
use Rattle.arrayvec.specs.ArrayVec.{ArrayVec, array_vec_len, Extends}
use Rattle.kinds.specs.Kinds.{Kind}
use Rattle.shape.specs.Shapes.{Held, buckets}
use Rattle.shape.specs.Buckets.{Leaf, leaves}
use Rattle.shape.specs.Keyed.{by_key}
use Rattle.index.specs.Stored.{bucket_at}
use Rattle.layout.specs.declared.part.Part.{Part}

-- blocks in order
abbrev pub Buckets : Type 0
Buckets = ArrayVec (List ℕ)

-- the records from one place up to another
abbrev pub span : ℕ → ℕ → List (List ℕ) → List (List ℕ)
span from to records = take (to - from) (drop from records)

-- the slots under a prefix, and its two halves
pub record Halves (part low high : Part) : Type 0 where
  pub low_room : low.room + 1 ≡ part.room
  pub high_room : high.room + 1 ≡ part.room
  pub low_prefix : low.prefix ≡ 2 * part.prefix
  pub high_prefix : high.prefix ≡ 2 * part.prefix + 1

-- the block of a bucket
abbrev pub leaf_block : Kind → List (List ℕ) → Leaf → List ℕ
leaf_block kind records leaf = bucket_at kind records leaf.room leaf.prefix

-- the buckets under a prefix are laid out behind others
pub record LaidBehind (kind : Kind) (records : List (List ℕ)) (k p : ℕ) (old new : Buckets) : Type 0 where
  pub held : Held (by_key kind) k p records
  pub blocks : Extends old (map (leaf_block kind records) (leaves (by_key kind) k p records)) new
  pub longer : array_vec_len new ≡ array_vec_len old + buckets (by_key kind) k p records

-- there are too many buckets under a prefix, or they cannot be held
abbrev pub Unlaid : Kind → List (List ℕ) → ℕ → ℕ → Buckets → Type 0
Unlaid kind records k p old = array_vec_len old + buckets (by_key kind) k p records ≤ 8 → Held (by_key kind) k p records → ⊥

-- the buckets under a prefix, laid out alone
pub record LaidOut (kind : Kind) (records : List (List ℕ)) (k p : ℕ) (laid : Buckets) : Type 0 where
  pub held : Held (by_key kind) k p records
  pub blocks : laid.items ≡ map (leaf_block kind records) (leaves (by_key kind) k p records)
  pub long : array_vec_len laid ≡ buckets (by_key kind) k p records
