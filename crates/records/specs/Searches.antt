-- Records in rising position, and what a search among them answers.
use Rattle.std.specs.Prelude.{◌≡◌, ℕ, ◌<◌, ◌≤◌, true, ◌≢◌, List, [], length, Some, None, Option, Ok, Err, Result, slice_index_or}
use Rattle.std.specs.declared.cmp.Ordering.TheVariants.{Less, Equal}
use Rattle.kinds.specs.Kinds.{Kind, position}
use Rattle.records.specs.Records.{is_record, key_of}

-- the key of the record at a place
abbrev pub key_at : List (List ℕ) → ℕ → List ℕ
key_at records n = key_of (slice_index_or records n [])

-- each is a record with a lawful key, and they stand in strictly rising position
pub record Sorted (kind : Kind) (records : List (List ℕ)) : Type 0 where
  pub whole : (n : ℕ) → n < length records → is_record (slice_index_or records n []) ≡ true
  pub keyed : (n : ℕ) → n < length records → kind.lawful (key_at records n) ≡ true
  pub rising : (m n : ℕ) → m < n → n < length records → position kind (key_at records m) (key_at records n) ≡ Less

-- the records before place n are those before the key
pub record Goes (kind : Kind) (records : List (List ℕ)) (key : List ℕ) (n : ℕ) : Type 0 where
  pub before : (m : ℕ) → m < n → position kind (key_at records m) key ≡ Less
  pub after : (m : ℕ) → n ≤ m → m < length records → position kind (key_at records m) key ≢ Less

-- a key's place among sorted records, or where it goes
abbrev pub PlacedAt : Kind → List (List ℕ) → List ℕ → Result ℕ ℕ → Type 0
PlacedAt kind records key (Ok n) = Goes kind records key n × (n < length records) × (kind.order (key_at records n) key ≡ Equal)
PlacedAt kind records key (Err n) = Goes kind records key n × (n ≤ length records) × (n < length records → kind.order (key_at records n) key ≢ Equal)

-- the place of a record whose key is alike to the lawful key, or nothing where there is none
abbrev pub Finds : Kind → List (List ℕ) → List ℕ → Option ℕ → Type 0
Finds kind records key (Some n) = (n < length records) × (is_record (slice_index_or records n []) ≡ true) × (kind.lawful key ≡ true) × (kind.order (key_at records n) key ≡ Equal)
Finds kind records key None = Sorted kind records → kind.lawful key ≡ true → (n : ℕ) → n < length records → kind.order (key_at records n) key ≢ Equal
