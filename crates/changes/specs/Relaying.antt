-- Pointers and rooms of slots, while the buckets under a prefix are named anew.
use Rattle.std.specs.Prelude.{◌≡◌, ℕ, ◌+◌, ◌-◌, ◌*◌, ◌/◌, ◌^◌, ◌<◌, ◌≤◌, Bool, cond, ◌&&◌, List, map, length, get_or, ◌≢◌, nat_le, nat_lt, slice_index}
use Rattle.kinds.specs.Kinds.{Kind}
use Rattle.shape.specs.Buckets.{Leaf, leaves}
use Rattle.shape.specs.Keyed.{by_key}
use Rattle.layout.specs.Laid.{leaf_block}

-- element s of a list whose elements from one place up to another became v
abbrev pub filled_at : ℕ → ℕ → ℕ → List ℕ → ℕ → ℕ
filled_at from to v xs s = cond (nat_le from s && nat_lt s to) v (slice_index xs s)

-- the run of slots of a bucket block: its first slot, and how many bits its prefix leaves
abbrev pub first_in : List ℕ → ℕ
first_in block = slice_index block 4 / 2

abbrev pub room_in : List ℕ → ℕ
room_in block = 7 - slice_index block 1

-- a bucket's run lies among the 128 slots
abbrev pub is_run : List ℕ → Bool
is_run block = nat_le (slice_index block 1) 7 && nat_le (first_in block + 2 ^ room_in block) 128

-- slots that have bucket i of the list have its block and room now
abbrev pub Named : List Leaf → ℕ → List ℕ → List ℕ → List ℕ → Type 0
Named ls n numbers slots rooms =
    (i s : ℕ) → i < n → i < length ls → s < 128 → s / 2 ^ (get_or ls i (record { room = 0; prefix = 0 })).room ≡ (get_or ls i (record { room = 0; prefix = 0 })).prefix
    → (slice_index slots s ≡ slice_index numbers i) × (slice_index rooms s ≡ (get_or ls i (record { room = 0; prefix = 0 })).room)

-- slots that have none of them are as they were
abbrev pub Unnamed : List Leaf → ℕ → List ℕ → List ℕ → List ℕ → List ℕ → Type 0
Unnamed ls n slots rooms slots' rooms' =
    (s : ℕ) → s < 128 → ((i : ℕ) → i < n → i < length ls → s / 2 ^ (get_or ls i (record { room = 0; prefix = 0 })).room ≢ (get_or ls i (record { room = 0; prefix = 0 })).prefix)
    → (slice_index slots' s ≡ slice_index slots s) × (slice_index rooms' s ≡ slice_index rooms s)

-- the buckets under a prefix are named anew, and all others as before
pub record Relaid (kind : Kind) (records : List (List ℕ)) (k p : ℕ) (numbers slots rooms slots' rooms' : List ℕ) : Type 0 where
  pub on : Named (leaves (by_key kind) k p records) (length (leaves (by_key kind) k p records)) numbers slots' rooms'
  pub off : (s : ℕ) → s < 128 → (s / 2 ^ k ≢ p) → (slice_index slots' s ≡ slice_index slots s) × (slice_index rooms' s ≡ slice_index rooms s)

-- blocks are the buckets under a prefix, and there are numbers enough for them
pub record Lays (kind : Kind) (records : List (List ℕ)) (k p : ℕ) (numbers : List ℕ) (blocks : List (List ℕ)) : Type 0 where
  pub deep : k ≤ 7
  pub small : (p + 1) * 2 ^ k ≤ 128
  pub laid : blocks ≡ map (leaf_block kind records) (leaves (by_key kind) k p records)
  pub enough : length blocks ≤ length numbers
