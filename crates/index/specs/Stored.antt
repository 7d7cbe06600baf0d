-- What it is that blocks store an index of these records.
use Rattle.std.specs.Prelude.{◌≡◌, ℕ, ◌+◌, ◌-◌, ◌*◌, ◌/◌, ◌^◌, ◌<◌, cond, List, [], ◌∷◌, map, length, Some, ◌==◌, ◌≢◌, slice_index, slice_index_or}
use Rattle.std.specs.List.{range_with_len}
use Rattle.kinds.specs.Kinds.{Kind}
use Rattle.records.specs.Searches.{Sorted}
use Rattle.buckets.specs.declared.prefix.Prefix.{Prefix}
use Rattle.buckets.specs.Blocks.{bucket_bytes}
use Rattle.header.specs.Headers.{RunAt, Encodes, deepest, slot_in, pointer_in}
use Rattle.shape.specs.Shapes.{under, Held}
use Rattle.shape.specs.Buckets.{room, Leaf, leaves, first_slot}
use Rattle.shape.specs.Keyed.{by_key}

abbrev pub Blocks : Type 0
Blocks = List (List ℕ)

abbrev pub block : Blocks → ℕ → List ℕ
block blocks b = slice_index_or blocks b []

-- the prefix that leaves k of 7 bits, as a bucket block has it: its length, and its bits at the top of 32
abbrev pub prefix_at : ℕ → ℕ → Prefix
prefix_at k p = record { bits = 7 - k; top = p * 2 ^ (25 + k) }

-- the bucket block of the records under a prefix
abbrev pub bucket_at : Kind → List (List ℕ) → ℕ → ℕ → List ℕ
bucket_at kind records k p = bucket_bytes (prefix_at k p) (under (by_key kind) k p records)

-- how many bits the bucket of a slot leaves, and its block
abbrev pub room_at : Kind → List (List ℕ) → ℕ → ℕ
room_at kind records s = room (by_key kind) 7 records s

abbrev pub bucket_for : Kind → List (List ℕ) → ℕ → List ℕ
bucket_for kind records s = bucket_at kind records (room_at kind records s) (s / 2 ^ room_at kind records s)

-- the same for all 128 slots
unfoldable pub rooms : Kind → List (List ℕ) → List ℕ
rooms kind records = map (room_at kind records) (range_with_len 0 128)

-- the pointer that a header block has for each slot
unfoldable pub slots : List ℕ → List ℕ
slots header = map (slot_in header (slice_index header 1)) (range_with_len 0 128)

-- Blocks store an index of sorted records that can be held, with its header in the block `head`: each slot's pointer
-- leads to the block of its bucket, and pointers are equal just within a bucket's run of slots.
pub record Stored (kind : Kind) (blocks : Blocks) (head : ℕ) (records : List (List ℕ)) : Type 0 where
  pub sorted : Sorted kind records
  pub held : Held (by_key kind) 7 0 records
  pub countable : length records < 2 ^ 32
  pub inside : head < length blocks
  pub header : Encodes (length records) (deepest (rooms kind records)) (slots (block blocks head)) (block blocks head)
  pub within : (s : ℕ) → s < 128 → slice_index (slots (block blocks head)) s < length blocks
  pub leads : (s : ℕ) → s < 128 → block blocks (slice_index (slots (block blocks head)) s) ≡ bucket_for kind records s
  pub runs : (s : ℕ) → s < 128 → RunAt (slots (block blocks head)) (room_at kind records s) s
  pub beside : (s : ℕ) → s < 128 → slice_index (slots (block blocks head)) s ≢ head

-- the blocks that a header's pointers name for these buckets
abbrev pub pointers : List ℕ → List Leaf → List ℕ
pointers header buckets = map (λ leaf. slice_index (slots header) (first_slot leaf)) buckets

-- the blocks of the index: its header, and the block of each bucket
abbrev pub home : Kind → Blocks → ℕ → List (List ℕ) → List ℕ
home kind blocks head records = head ∷ pointers (block blocks head) (leaves (by_key kind) 7 0 records)

-- how often a list names a block
abbrev pub times : ℕ → List ℕ → ℕ
times b [] = 0
times b (c ∷ cs) = cond (b == c) 1 0 + times b cs

-- the block that a header names for a hash
pub record BucketIn (blocks : Blocks) (header : List ℕ) (hash number : ℕ) (bucket : List ℕ) : Type 0 where
  pub named : pointer_in header hash ≡ Some number
  pub there : number < length blocks
  pub bytes : bucket ≡ block blocks number
