-- A planned change of an index, and what it is that it was made.
use Rattle.std.specs.Prelude.{◌≡◌, ℕ, ◌+◌, ◌/◌, ◌^◌, ◌<◌, ◌≤◌, false, List, ◌∷◌, length, take, ◌≢◌, slice_index}
use Rattle.kinds.specs.Kinds.{Kind}
use Rattle.records.specs.Searches.{Sorted}
use Rattle.shape.specs.Shapes.{under, is_light, Held}
use Rattle.shape.specs.Buckets.{leaves}
use Rattle.shape.specs.Keyed.{by_key}
use Rattle.index.specs.Stored.{Blocks, block, slots, room_at, Stored, pointers, home, times}
use Rattle.layout.specs.Laid.{LaidOut}
use Rattle.plans.specs.declared.numbers.Numbers.{Numbers}
use Rattle.plans.specs.declared.plan.Plan.{Plan}

abbrev pub numbers_of : Numbers → List ℕ
numbers_of n = take n.len n.list

-- two lists of records that differ at most under the prefixes of one slot
abbrev pub Differ : Kind → ℕ → List (List ℕ) → List (List ℕ) → Type 0
Differ kind s old new = (j p : ℕ) → (p ≢ s / 2 ^ j) → under (by_key kind) j p old ≡ under (by_key kind) j p new

-- above the prefix of a slot that leaves k bits, all prefixes of the slot are heavy in both lists
abbrev pub HeavyAbove : Kind → ℕ → ℕ → List (List ℕ) → List (List ℕ) → Type 0
HeavyAbove kind s k old new =
    (j : ℕ) → k < j → j ≤ 7 → (is_light (by_key kind) j (s / 2 ^ j) old ≡ false) × (is_light (by_key kind) j (s / 2 ^ j) new ≡ false)

-- A plan leads from the records that an index stores to others: it lays the buckets under one prefix out anew, and
-- names the blocks that the old ones are in.
pub record Planned (kind : Kind) (header : List ℕ) (old new : List (List ℕ)) (plan : Plan) : Type 0 where
  pub read : plan.header ≡ header
  pub slot : plan.slot < 128
  pub deep : plan.room ≤ 7
  pub start : plan.start ≡ room_at kind old plan.slot
  pub sorted : Sorted kind new
  pub held : Held (by_key kind) 7 0 new
  pub counted : plan.count ≡ length new
  pub countable : length new < 2 ^ 32
  pub differ : Differ kind plan.slot old new
  pub heavy : HeavyAbove kind plan.slot plan.room old new
  pub number : plan.number ≡ slice_index (slots header) plan.slot
  pub laid : LaidOut kind new plan.room (plan.slot / 2 ^ plan.room) plan.laid
  pub given : (b : ℕ) → times b (plan.number ∷ numbers_of plan.given) ≡ times b (pointers header (leaves (by_key kind) plan.room (plan.slot / 2 ^ plan.room) old))

-- blocks that an index may take: none is its own, none is named twice, and each is the device's
pub record Spare (kind : Kind) (blocks : Blocks) (head : ℕ) (records : List (List ℕ)) (spare : List ℕ) : Type 0 where
  pub apart : (b : ℕ) → times b (home kind blocks head records) + times b spare ≤ 1
  pub there : (i : ℕ) → i < length spare → slice_index spare i < length blocks

-- An index that was changed: it stores the new records. Blocks pass between it and the spare ones, and none is lost:
-- it took the first ones, and gave others up. No other block changes.
pub record Changed (kind : Kind) (before after : Blocks) (head : ℕ) (old new : List (List ℕ)) (taken given : List ℕ) : Type 0 where
  pub stored : Stored kind after head new
  pub passed : (b : ℕ) → times b (home kind after head new) + times b given ≡ times b (home kind before head old) + times b taken
  pub kept : (b : ℕ) → times b (home kind before head old) + times b taken ≡ 0 → block after b ≡ block before b
  pub count : length after ≡ length before
