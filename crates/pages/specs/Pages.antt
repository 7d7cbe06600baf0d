-- The page of a list of records: what it shows after a bookmark, and its bytes.
use Rattle.std.specs.Prelude.{ℕ, ◌+◌, ◌-◌, ◌*◌, Bool, cond, List, [], ◌∷◌, ◌++◌, length, drop, ◌==◌, nat_le}
use Rattle.words.specs.BigEndian.{bytes16}
use Rattle.kinds.specs.Kinds.{Kind}
use Rattle.records.specs.Records.{weight, load}
use Rattle.records.specs.Ordered.{after}
use Rattle.buckets.specs.Blocks.{bodies, pairs}

-- the records after a bookmark, and all of them after the empty one
abbrev pub following : Kind → List ℕ → List (List ℕ) → List (List ℕ)
following kind bookmark rs = cond (length bookmark == 0) rs (after kind bookmark rs)

-- as many of the first records as fit into so many bytes
abbrev pub fitting : ℕ → List (List ℕ) → List (List ℕ)
fitting room [] = []
fitting room (r ∷ rs) = cond (nat_le (weight r) room) (r ∷ fitting (room - weight r) rs) []

-- the records that a page of `size` bytes shows, after its head of four bytes
abbrev pub shown : Kind → List ℕ → ℕ → List (List ℕ) → List (List ℕ)
shown kind bookmark size rs = fitting (size - 4) (following kind bookmark rs)

-- none of them is left over
abbrev pub is_end : Kind → List ℕ → ℕ → List (List ℕ) → Bool
is_end kind bookmark size rs = length (shown kind bookmark size rs) == length (following kind bookmark rs)

-- the bytes that a page of records uses
abbrev pub used : List (List ℕ) → ℕ
used rs = 4 + load rs

-- count, end mark and a zero, the pairs, the records; bytes beyond stay
unfoldable pub page_bytes : List (List ℕ) → Bool → List ℕ → List ℕ
page_bytes rs end buffer =
    bytes16 (length rs) ++ (cond end 1 0 ∷ 0 ∷ pairs (4 + 4 * length rs) rs ++ (bodies rs ++ drop (used rs) buffer))

-- a buffer after the page that follows a bookmark
abbrev pub paged : Kind → List ℕ → List (List ℕ) → List ℕ → List ℕ
paged kind bookmark rs buffer =
    page_bytes (shown kind bookmark (length buffer) rs) (is_end kind bookmark (length buffer) rs) buffer
