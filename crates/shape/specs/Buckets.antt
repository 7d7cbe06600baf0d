-- Which prefixes are buckets.
use Rattle.std.specs.Prelude.{ℕ, zero, suc, ◌+◌, ◌*◌, ◌/◌, ◌^◌, cond, List, [], ◌∷◌, ◌++◌}
use Rattle.shape.specs.Shapes.{Measure, is_light}

-- A slot is a number of 7 bits. Its prefix that leaves k of them is s / 2 ^ k.

-- how many bits the prefix of the bucket of slot s leaves, of those prefixes that leave at most k: the shortest light one
unfoldable pub room : {X : Type 0} → Measure X → ℕ → List X → ℕ → ℕ
room m zero records s = 0
room m (suc k) records s = cond (is_light m (suc k) (s / 2 ^ suc k) records) (suc k) (room m k records s)

-- a bucket, by its prefix: how many of the 7 bits it leaves, and its bits as a number
pub record Leaf : Type 0 where
  pub room : ℕ
  pub prefix : ℕ

-- the first of the slots that begin with its prefix
abbrev pub first_slot : Leaf → ℕ
first_slot leaf = leaf.prefix * 2 ^ leaf.room

-- the buckets under p, in order: a light prefix is one, a heavier one has those of its two halves
unfoldable pub leaves : {X : Type 0} → Measure X → ℕ → ℕ → List X → List Leaf
leaves m zero p records = record { room = 0; prefix = p } ∷ []
leaves m (suc k) p records =
    cond (is_light m (suc k) p records) (record { room = suc k; prefix = p } ∷ []) (leaves m k (2 * p) records ++ leaves m k (2 * p + 1) records)
