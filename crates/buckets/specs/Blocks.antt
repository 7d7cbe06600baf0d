-- The bucket block of a list of records, byte for byte.
use Rattle.std.specs.Prelude.{ℕ, ◌+◌, ◌-◌, ◌*◌, List, [], ◌∷◌, ◌++◌, length, replicate}
use Rattle.words.specs.BigEndian.{bytes16, bytes32}
use Rattle.records.specs.Records.{load}
use Rattle.buckets.specs.declared.prefix.Prefix.{Prefix}

-- the bytes of the records together
abbrev pub size : List (List ℕ) → ℕ
size [] = 0
size (r ∷ rs) = length r + size rs

-- the records without gaps
abbrev pub bodies : List (List ℕ) → List ℕ
bodies [] = []
bodies (r ∷ rs) = r ++ bodies rs

-- the pair of each record, its offset and its length, where the first record starts at `from`
abbrev pub pairs : ℕ → List (List ℕ) → List ℕ
pairs from [] = []
pairs from (r ∷ rs) = bytes16 from ++ (bytes16 (length r) ++ pairs (from + length r) rs)

-- the tag 3, the prefix's length, the count of records, and the prefix
abbrev pub heading : Prefix → ℕ → List ℕ
heading prefix count = 3 ∷ prefix.bits ∷ (bytes16 count ++ bytes32 prefix.top)

-- heading, pairs and records; the rest is zero
unfoldable pub bucket_bytes : Prefix → List (List ℕ) → List ℕ
bucket_bytes prefix rs = heading prefix (length rs) ++ (pairs (8 + 4 * length rs) rs ++ (bodies rs ++ replicate (504 - load rs) 0))
