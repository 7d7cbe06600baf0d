-- Buckets that merge as far as the rule says.
use Rattle.std.specs.Prelude.{◌≡◌, ℕ, suc, ◌+◌, ◌/◌, ◌^◌, ◌<◌, ◌≤◌, Bool, true, false, cond, List, ◌∷◌, ◌++◌, Some, None, Ok, Err, Option, Result, ◌==◌, slice_index}
use Rattle.kinds.specs.Kinds.{Kind}
use Rattle.records.specs.Searches.{Sorted}
use Rattle.shape.specs.Shapes.{is_light}
use Rattle.shape.specs.Buckets.{leaves}
use Rattle.shape.specs.Keyed.{by_key}
use Rattle.index.specs.declared.blocks.Bucket.{Bucket}
use Rattle.index.specs.declared.fault.Fault.{Fault}
use Rattle.index.specs.Stored.{Blocks, block, slots, Stored, room_at, bucket_at, pointers, times}
use Rattle.layout.specs.declared.branch.Branch.{Branch}
use Rattle.plans.specs.declared.merge.Merge.{Merge}
use Rattle.plans.specs.Planned.{numbers_of, Differ, HeavyAbove}

-- the records of the low half before those of the high half
abbrev pub in_order : Bool → List (List ℕ) → List (List ℕ) → List (List ℕ)
in_order is_low half other = cond is_low (half ++ other) (other ++ half)

-- A bucket under a prefix of a slot that leaves k bits holds the new records there. The old records, which are
-- stored, have that prefix or longer ones for buckets.
pub record Under (kind : Kind) (blocks : Blocks) (head : ℕ) (header : List ℕ) (old new : List (List ℕ)) (s k : ℕ) (bytes : List ℕ) : Type 0 where
  pub stored : Stored kind blocks head old
  pub read : header ≡ block blocks head
  pub sorted : Sorted kind new
  pub slot : s < 128
  pub differ : Differ kind s old new
  pub above : room_at kind old s ≤ k
  pub light : is_light (by_key kind) k (s / 2 ^ k) new ≡ true
  pub holds : bytes ≡ bucket_at kind new k (s / 2 ^ k)

-- the bucket joined with the one beside it, whose block is then named no more
pub record Joins (kind : Kind) (header : List ℕ) (old new : List (List ℕ)) (s k : ℕ) (beside : Bucket) : Type 0 where
  pub light : is_light (by_key kind) (suc k) (s / 2 ^ suc k) new ≡ true
  pub bytes : beside.block ≡ bucket_at kind new (suc k) (s / 2 ^ suc k)
  pub named : (b : ℕ) → times b (pointers header (leaves (by_key kind) (suc k) (s / 2 ^ suc k) old)) ≡ cond (b == beside.number) 1 0 + times b (pointers header (leaves (by_key kind) k (s / 2 ^ k) old))

-- a step leads to the prefix that is a bit shorter
abbrev pub GoesUp : Branch → Result (Option (Branch × Bucket)) Fault → Type 0
GoesUp from (Ok (Some step)) = (step.0.slot ≡ from.slot) × (step.0.room ≡ suc from.room)
GoesUp from (Ok None) = Unit {0}
GoesUp from (Err fault) = Unit {0}

-- one step: the two are joined where they are light together
abbrev pub JoinEnds : Kind → List ℕ → List (List ℕ) → List (List ℕ) → ℕ → ℕ → Result (Option (Branch × Bucket)) Fault → Type 0
JoinEnds kind header old new s k (Ok (Some step)) = Joins kind header old new s k step.1
JoinEnds kind header old new s k (Ok None) = k < 7 → is_light (by_key kind) (suc k) (s / 2 ^ suc k) new ≡ false
JoinEnds kind header old new s k (Err fault) = ⊥

-- merged as far as the rule says
pub record Merged (kind : Kind) (header : List ℕ) (old new : List (List ℕ)) (s : ℕ) (merge : Merge) : Type 0 where
  pub deep : merge.room ≤ 7
  pub light : is_light (by_key kind) merge.room (s / 2 ^ merge.room) new ≡ true
  pub heavy : HeavyAbove kind s merge.room old new
  pub bytes : merge.block ≡ bucket_at kind new merge.room (s / 2 ^ merge.room)
  pub given : (b : ℕ) → times b (slice_index (slots header) s ∷ numbers_of merge.given) ≡ times b (pointers header (leaves (by_key kind) merge.room (s / 2 ^ merge.room) old))

-- merged so far, up to the prefix that leaves k bits
pub record Reached (kind : Kind) (blocks : Blocks) (head : ℕ) (header : List ℕ) (old new : List (List ℕ)) (s k : ℕ) (bytes given : List ℕ) : Type 0 where
  pub under : Under kind blocks head header old new s k bytes
  pub names : (b : ℕ) → times b (slice_index (slots header) s ∷ given) ≡ times b (pointers header (leaves (by_key kind) k (s / 2 ^ k) old))
