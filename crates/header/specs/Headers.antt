-- The header of an index: which bucket holds the hashes that begin with each 7 bits.
use Rattle.std.specs.Prelude.{◌≡◌, ℕ, ◌+◌, ◌-◌, ◌*◌, ◌/◌, ◌%◌, ◌^◌, ◌<◌, ◌≤◌, max, Bool, cond, ◌&&◌, List, length, Some, None, fold, Option, ◌==◌, nat_le, nat_lt, slice_index}

-- A slot is a number of 7 bits, and has a pointer to the bucket of the hashes that begin with it. The room of a slot is
-- how many of the 7 bits its bucket's prefix leaves, so that the bucket has a run of 2 ^ room slots.

-- slots s and t share the prefix that leaves k bits
abbrev pub together : ℕ → ℕ → ℕ → Bool
together k s t = t / 2 ^ k == s / 2 ^ k

-- each bucket is named by an aligned run of equal pointers, of 2 ^ room slots
abbrev pub Runs : List ℕ → List ℕ → Type 0
Runs slots rooms = (s t : ℕ) → (slice_index slots (t % 128) == slice_index slots (s % 128)) ≡ together (slice_index rooms (s % 128)) (s % 128) (t % 128)

-- the same of one slot
abbrev pub RunAt : List ℕ → ℕ → ℕ → Type 0
RunAt slots k s = (t : ℕ) → t < 128 → (slice_index slots t == slice_index slots s) ≡ together k s t

-- the same of one slot and its room
abbrev pub LawfulAt : List ℕ → List ℕ → ℕ → Type 0
LawfulAt slots rooms s = (slice_index rooms s ≤ 7) × RunAt slots (slice_index rooms s) s

-- the room that a slot has if its run is lawful
unfoldable pub IsRoom : List ℕ → ℕ → ℕ → Type 0
IsRoom slots s room = (k : ℕ) → k ≤ 7 → RunAt slots k s → room ≡ k

-- a slot is lawful, where those before it are; and all are
unfoldable pub LawfulNext : List ℕ → List ℕ → ℕ → Type 0
LawfulNext slots rooms s = ((t : ℕ) → t < s → LawfulAt slots rooms t) → LawfulAt slots rooms s

unfoldable pub AllLawful : List ℕ → List ℕ → Type 0
AllLawful slots rooms = (s : ℕ) → s < 128 → LawfulAt slots rooms s

-- the length of the longest prefix of a bucket
unfoldable pub deepest : List ℕ → ℕ
deepest rooms = fold (λ d r. max d (7 - r)) 0 rooms

-- the parts of a lawful header
pub record Lawful (count : ℕ) (slots rooms : List ℕ) : Type 0 where
  pub count_fits : count < 2 ^ 32
  pub slots_long : length slots ≡ 128
  pub rooms_long : length rooms ≡ 128
  pub small : (s : ℕ) → s < 128 → slice_index rooms s ≤ 7
  pub runs : (s : ℕ) → s < 128 → RunAt slots (slice_index rooms s) s

-- the high or the low byte of the pointer of a slot, and 0 past the last
abbrev pub pointer_byte : List ℕ → ℕ → ℕ → ℕ
pointer_byte slots s odd = cond (nat_lt s 128) (cond (odd == 0) (slice_index slots s / 256) (slice_index slots s % 256)) 0

-- byte i of the header block: the tag 2, the depth, the count of records, two zeros, and 2 ^ depth pointers
abbrev pub byte_of : ℕ → ℕ → List ℕ → ℕ → ℕ
byte_of count depth slots i =
    cond (i == 0) 2 (cond (i == 1) depth (cond (nat_lt i 6) (count / 2 ^ (8 * (5 - i)) % 256) (cond (nat_lt i 8) 0 (pointer_byte slots ((i - 8) / 2 * (128 / 2 ^ depth)) (i % 2)))))

-- the block of a header
pub record Encodes (count depth : ℕ) (slots block : List ℕ) : Type 0 where
  pub long : length block ≡ 512
  pub bytes : (i : ℕ) → i < 512 → slice_index block i ≡ byte_of count depth slots i

-- byte i of a block whose count is written anew
abbrev pub recounted : List ℕ → ℕ → ℕ → ℕ
recounted block count i = cond (nat_le 2 i && nat_lt i 6) (count / 2 ^ (8 * (5 - i)) % 256) (slice_index block i)

-- what a block with that depth says of slot i
abbrev pub slot_in : List ℕ → ℕ → ℕ → ℕ
slot_in block depth i = slice_index block (8 + 2 * (i / 2 ^ (7 - depth))) * 256 + slice_index block (8 + 2 * (i / 2 ^ (7 - depth)) + 1)

-- the pointer that a block has for a hash, by the first bits of the hash, as many as the depth says
abbrev pub pointer_in : List ℕ → ℕ → Option ℕ
pointer_in block hash = cond (nat_le (slice_index block 1) 7 && nat_le 512 (length block)) (Some (slot_in block (slice_index block 1) (hash / 2 ^ 25))) None
