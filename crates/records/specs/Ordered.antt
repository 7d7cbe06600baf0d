-- Lists of records by position: what stands before and after a key, put and removal.
use Rattle.std.specs.Prelude.{ℕ, List, ◌∷◌, ◌++◌, filter}
use Rattle.std.specs.Ordering.{is_lt, is_eq}
use Rattle.kinds.specs.Kinds.{Kind, position}
use Rattle.records.specs.Records.{key_of}

-- the records whose position is before that of the key
unfoldable pub before : Kind → List ℕ → List (List ℕ) → List (List ℕ)
before kind key rs = filter (λ r. is_lt (position kind (key_of r) key)) rs

-- the records whose position is after that of the key
unfoldable pub after : Kind → List ℕ → List (List ℕ) → List (List ℕ)
after kind key rs = filter (λ r. is_lt (position kind key (key_of r))) rs

-- put: the record stands at its position, in the place of one with an alike key
unfoldable pub put : Kind → List ℕ → List (List ℕ) → List (List ℕ)
put kind r rs = before kind (key_of r) rs ++ r ∷ after kind (key_of r) rs

-- removal: the record with an alike key is gone
unfoldable pub without : Kind → List ℕ → List (List ℕ) → List (List ℕ)
without kind key rs = before kind key rs ++ after kind key rs

-- the records whose key is alike to the key: one or none, where they are sorted
unfoldable pub alike : Kind → List ℕ → List (List ℕ) → List (List ℕ)
alike kind key rs = filter (λ r. is_eq (kind.order (key_of r) key)) rs
