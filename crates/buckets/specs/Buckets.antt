-- What it is that a block is the bucket of some records.
use Rattle.std.specs.Prelude.{◌≡◌, ℕ, ◌-◌, ◌<◌, ◌≤◌, true, List, [], length, slice_index_or}
use Rattle.std.specs.declared.cmp.Ordering.TheVariants.{Less}
use Rattle.kinds.specs.Kinds.{Kind, position}
use Rattle.records.specs.Records.{is_record, load}
use Rattle.records.specs.Searches.{key_at, Sorted}
use Rattle.buckets.specs.declared.prefix.Prefix.{Prefix}
use Rattle.buckets.specs.Prefixes.{is_prefix, begins}
use Rattle.buckets.specs.Blocks.{bucket_bytes}

-- lawful records in strictly rising position, each hash beginning with the prefix, not too heavy, and the block is theirs
pub record BucketOf (kind : Kind) (prefix : Prefix) (records : List (List ℕ)) (block : List ℕ) : Type 0 where
  pub proper : is_prefix prefix ≡ true
  pub sorted : Sorted kind records
  pub under : (n : ℕ) → n < length records → begins prefix (kind.hash (key_at records n)) ≡ true
  pub light : load records ≤ 504
  pub bytes : block ≡ bucket_bytes prefix records

-- a block that is the bucket of some records
abbrev pub IsBucket : Kind → Prefix → List ℕ → Type 0
IsBucket kind prefix block = (records : List (List ℕ)) × BucketOf kind prefix records block

-- record n is lawful under the prefix, and after the one before it
pub record FitsAt (kind : Kind) (prefix : Prefix) (records : List (List ℕ)) (n : ℕ) : Type 0 where
  pub whole : is_record (slice_index_or records n []) ≡ true
  pub lawful : kind.lawful (key_at records n) ≡ true
  pub under : begins prefix (kind.hash (key_at records n)) ≡ true
  pub after : 0 < n → position kind (key_at records (n - 1)) (key_at records n) ≡ Less
