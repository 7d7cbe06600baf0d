-- What it takes to make a planned change, and what it comes to.
use Rattle.std.specs.Prelude.{◌≡◌, ℕ, ◌+◌, ◌-◌, ◌/◌, ◌^◌, ◌<◌, ◌≤◌, true, false, List, [], ◌∷◌, length, take, is_ok, Err, Decides, Result, slice_index, slice_set}
use Rattle.arrayvec.specs.ArrayVec.{array_vec_len}
use Rattle.kinds.specs.Kinds.{Kind}
use Rattle.header.specs.Headers.{Encodes, deepest}
use Rattle.index.specs.declared.fault.Fault.{Fault}
use Rattle.index.specs.declared.fault.Fault.TheVariants.{NoRoom}
use Rattle.index.specs.Stored.{Blocks, block, slots, rooms, Stored}
use Rattle.plans.specs.declared.plan.Plan.{Plan}
use Rattle.plans.specs.Planned.{numbers_of, Planned, Spare, Changed}
use Rattle.changes.specs.Relaying.{Relaid}

-- blocks after each of some is written to its number
abbrev pub written : Blocks → List ℕ → List (List ℕ) → Blocks
written blocks ns [] = blocks
written blocks [] (x ∷ xs) = blocks
written blocks (n ∷ ns) (x ∷ xs) = written (slice_set blocks n x) ns xs

-- a device has a header block and others, and allows as many writes
pub record Ready (blocks : Blocks) (allowed head : ℕ) (numbers : List ℕ) : Type 0 where
  pub writes : length numbers + 1 ≤ allowed
  pub header : head < length blocks
  pub there : (i : ℕ) → i < length numbers → slice_index numbers i < length blocks

-- a plan for an index that blocks store, with spare blocks enough for its buckets
pub record Pending (kind : Kind) (blocks : Blocks) (head : ℕ) (old new : List (List ℕ)) (plan : Plan) (spare : List ℕ) : Type 0 where
  pub stored : Stored kind blocks head old
  pub planned : Planned kind (block blocks head) old new plan
  pub spared : Spare kind blocks head old spare
  pub enough : array_vec_len plan.laid ≤ 1 + length spare

-- the header block after a plan: all slots under its prefix name its buckets
pub record Headed (kind : Kind) (header : List ℕ) (old new : List (List ℕ)) (plan : Plan) (spare after : List ℕ) : Type 0 where
  pub bytes : Encodes (length new) (deepest (rooms kind new)) (slots after) after
  pub relaid : Relaid kind new plan.room (plan.slot / 2 ^ plan.room) (plan.number ∷ spare) (slots header) (rooms kind old) (slots after) (rooms kind new)

-- there are spare blocks enough, and writes
abbrev pub Affords : ℕ → Plan → List ℕ → Type 0
Affords allowed plan spare = (array_vec_len plan.laid ≤ 1 + length spare) × (array_vec_len plan.laid + 1 ≤ allowed)

-- a planned change is made exactly where spare blocks and allowance do for it
pub record Makes (kind : Kind) (before after : Blocks) (allowed head : ℕ) (old new : List (List ℕ)) (plan : Plan) (spare : List ℕ) (done : Result (Unit {0}) Fault) : Type 0 where
  pub served : Decides (is_ok done) (Affords allowed plan spare)
  pub scarce : is_ok done ≡ false → done ≡ Err NoRoom
  pub changed : is_ok done ≡ true → Changed kind before after head old new (take (array_vec_len plan.laid - 1) spare) (numbers_of plan.given)
