-- Small indexes of straight numbers.
use Rattle.std.specs.Prelude.{ℕ, zero, suc, ◌+◌, ◌*◌, cond, List, [], ◌∷◌, ◌++◌, map, replicate}
use Rattle.std.specs.List.{range_with_len}
use Rattle.words.specs.BigEndian.{bytes32}
use Rattle.kinds.specs.Numbers.{straight_numbers}
use Rattle.records.specs.Ordered.{put}
use Rattle.shape.specs.Shapes.{Measure, load, is_light}
use Rattle.shape.specs.Keyed.{by_key}
use Rattle.model.specs.Indexes.{indexed}

-- the record of a key, with 47 bytes of data
abbrev pub number_record : ℕ → List ℕ
number_record n = 4 ∷ bytes32 n ++ replicate 47 0

-- the index of keys 0 to 8
abbrev pub nine : List (List ℕ)
nine = indexed straight_numbers (map number_record (range_with_len 0 9))

-- the same with one more key
abbrev pub nine_and : ℕ → List (List ℕ)
nine_and n = put straight_numbers (number_record n) nine

-- the load of each bucket, in order of prefixes: a light prefix is one bucket, a heavier one counts as its two halves
unfoldable pub bucket_loads : {X : Type 0} → Measure X → ℕ → ℕ → List X → List ℕ
bucket_loads m zero p records = load m zero p records ∷ []
bucket_loads m (suc k) p records = cond (is_light m (suc k) p records) (load m (suc k) p records ∷ []) (bucket_loads m k (2 * p) records ++ bucket_loads m k (2 * p + 1) records)

-- those of an index of straight numbers
abbrev pub loads_of : List (List ℕ) → List ℕ
loads_of records = bucket_loads (by_key straight_numbers) 7 0 records
