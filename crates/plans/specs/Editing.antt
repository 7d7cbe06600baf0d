-- A change of the records under one bucket's prefix.
use Rattle.std.specs.Prelude.{◌≡◌, ℕ, ◌/◌, ◌^◌, ◌<◌, ◌≤◌, Bool, false, cond, List, [], length, Some, None, Ok, Err, Option, Result, slice_index}
use Rattle.std.specs.List.{remove}
use Rattle.kinds.specs.Kinds.{Kind}
use Rattle.buckets.specs.Blocks.{bucket_bytes}
use Rattle.records.specs.Items.{records_in}
use Rattle.records.specs.Records.{is_record, key_of, load}
use Rattle.records.specs.Searches.{Sorted}
use Rattle.records.specs.Ordered.{put, without, alike}
use Rattle.shape.specs.Shapes.{under, Held}
use Rattle.shape.specs.Keyed.{by_key}
use Rattle.index.specs.declared.fault.Fault.{Fault}
use Rattle.index.specs.declared.fault.Fault.TheVariants.{Full}
use Rattle.index.specs.Stored.{Blocks, block, slots, room_at, Stored, prefix_at}
use Rattle.plans.specs.declared.located.Located.{Located}
use Rattle.plans.specs.declared.plan.Plan.{Plan}
use Rattle.plans.specs.Planned.{Differ, Planned}

-- the records of a bucket, without the one at the key's place where the key is found, and that place
abbrev pub Cleared : Result ℕ ℕ → List (List ℕ) → List (List ℕ) → ℕ → Type 0
Cleared (Ok place) records left n = (left ≡ remove records place) × (n ≡ place)
Cleared (Err place) records left n = (left ≡ records) × (n ≡ place)

-- the bucket's block with fewer records, which are light
abbrev pub Relieved : Located → List (List ℕ) → List ℕ → Type 0
Relieved at records bytes = (bytes ≡ bucket_bytes (prefix_at at.branch.room (at.branch.slot / 2 ^ at.branch.room)) records) × (records_in bytes ≡ records) × (load records ≤ 504)

-- the stored records are to become others, which differ at the slot of a located key: its bucket's prefix then has `changed`
pub record Edited (kind : Kind) (blocks : Blocks) (head : ℕ) (old new : List (List ℕ)) (at : Located) (changed : List (List ℕ)) (count : ℕ) : Type 0 where
  pub stored : Stored kind blocks head old
  pub read : at.header ≡ block blocks head
  pub slot : at.branch.slot < 128
  pub room : at.branch.room ≡ room_at kind old at.branch.slot
  pub number : at.number ≡ slice_index (slots (block blocks head)) at.branch.slot
  pub sorted : Sorted kind new
  pub differ : Differ kind at.branch.slot old new
  pub there : changed ≡ under (by_key kind) at.branch.room (at.branch.slot / 2 ^ at.branch.room) new
  pub counted : count ≡ length new

-- a lawful record, and what a plan for putting it comes to: a plan, or that the records cannot be held
abbrev pub is_lawful : Kind → List ℕ → Bool
is_lawful kind bytes = cond (is_record bytes) (kind.lawful (key_of bytes)) false

abbrev pub PutPlanned : Kind → List ℕ → List (List ℕ) → List ℕ → Result Plan Fault → Type 0
PutPlanned kind header records bytes (Ok plan) = Planned kind header records (put kind bytes records) plan
PutPlanned kind header records bytes (Err fault) = (fault ≡ Full) × (Held (by_key kind) 7 0 (put kind bytes records) → ⊥)

-- what a plan for removing a key comes to: nothing where the key is not there
abbrev pub RemovalPlanned : Kind → List ℕ → List (List ℕ) → List ℕ → Result (Option Plan) Fault → Type 0
RemovalPlanned kind header records key (Ok (Some plan)) = (length (alike kind key records) ≡ 1) × Planned kind header records (without kind key records) plan
RemovalPlanned kind header records key (Ok None) = alike kind key records ≡ []
RemovalPlanned kind header records key (Err fault) = ⊥
