-- What no bucket of an index has: a record that is none.
use Rattle.std.specs.Prelude.{◌≡◌, ℕ, ◌<◌, false, List, [], length, slice_index_or}
use Rattle.records.specs.Records.{is_record}

abbrev pub Unreadable : List (List ℕ) → Type 0
Unreadable rs = (n : ℕ) × (n < length rs) × (is_record (slice_index_or rs n []) ≡ false)
