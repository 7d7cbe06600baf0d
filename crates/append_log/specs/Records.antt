-- A log: a head of six bytes, then records of 514 bytes, a block number and the block's new contents.
use Rattle.std.specs.Prelude.{◌≡◌, ℕ, zero, suc, ◌+◌, ◌-◌, ◌*◌, ◌/◌, ◌%◌, ◌<◌, ◌≤◌, min, Bool, true, cond, ◌&&◌, List, map, length, take, drop, replicate, Some, None, Option, Result, MatchResult, ◌==◌, nat_le, nat_lt, slice_index, slice_set}
use Rattle.std.specs.List.{range_with_len}
use Rattle.device.specs.Access.{writable}
use Rattle.device.specs.declared.refused.Refused.{Refused}
use Rattle.words.specs.BigEndian.{be16, be32}
use Rattle.append_log.specs.declared.head.Head.{Head}

-- bytes 0 to 3: the records used; bytes 4 and 5: the count of blocks
abbrev pub used : List ℕ → ℕ
used bytes = be32 bytes 0

abbrev pub total : List ℕ → ℕ
total bytes = be16 bytes 4 % 65536

-- where record k starts, its block number and its bytes
abbrev pub start : ℕ → ℕ
start k = 6 + 514 * k

abbrev pub number : List ℕ → ℕ → ℕ
number bytes k = be16 bytes (start k)

abbrev pub body : List ℕ → ℕ → List ℕ
body bytes k = take 512 (drop (start k + 2) bytes)

-- each of the first n records is for a block below the count
abbrev pub in_range : List ℕ → ℕ → Bool
in_range bytes zero = true
in_range bytes (suc k) = in_range bytes k && nat_lt (number bytes k) (total bytes)

-- long enough for its head and its used records, each of them for a block below the count
unfoldable pub valid : List ℕ → Bool
valid bytes = nat_le 6 (length bytes) && (nat_le (start (used bytes)) (length bytes) && in_range bytes (used bytes))

-- what the head of a valid log says
unfoldable pub head_of : List ℕ → Option Head
head_of bytes = cond (valid bytes) (Some (record { used = used bytes; count = total bytes })) None

-- whether record k is there and is for a block below n, and whether it is for block b
abbrev pub holds_below : List ℕ → ℕ → ℕ → Bool
holds_below bytes n k = nat_le (start k + 2) (length bytes) && nat_lt (number bytes k) n

abbrev pub holds_for : List ℕ → ℕ → ℕ → Bool
holds_for bytes b k = nat_le (start k + 2) (length bytes) && number bytes k == b

-- what block b holds after the first n records: the last of them that is for b, or zeros
abbrev pub latest : List ℕ → ℕ → ℕ → List ℕ
latest bytes zero b = replicate 512 0
latest bytes (suc k) b = cond (number bytes k == b) (body bytes k) (latest bytes k b)

-- how many blocks there are under a head
abbrev pub count_of : Option Head → ℕ
count_of None = 0
count_of (Some head) = head.count

-- how many whole records still fit into n bytes under a head, and can still be counted
abbrev pub room_of : ℕ → Option Head → ℕ
room_of n None = 0
room_of n (Some head) = min ((n - 6) / 514 - head.used) (4294967295 - head.used)

unfoldable pub log_blocks : List ℕ → List (List ℕ)
log_blocks bytes = map (latest bytes (used bytes)) (range_with_len 0 (count_of (head_of bytes)))

abbrev pub log_room : List ℕ → ℕ
log_room bytes = room_of (length bytes) (head_of bytes)

-- whether a log takes a write of these bytes to block b, and its blocks after a write that it took or refused
abbrev pub takes_write : List ℕ → ℕ → List ℕ → Bool
takes_write bytes b source = writable (log_blocks bytes) b source (log_room bytes)

abbrev pub written_blocks : Bool → List ℕ → ℕ → List ℕ → List (List ℕ)
written_blocks taken bytes b source = cond taken (slice_set (log_blocks bytes) b source) (log_blocks bytes)

-- as many bytes, the count of blocks and the used records as they were, and nothing written past the records that are used after
pub record OnlyAppends (bytes after : List ℕ) : Type 0 where
  pub len : length bytes ≡ length after
  pub grows : used bytes ≤ used after
  pub records : (i : ℕ) → 4 ≤ i → i < start (used bytes) → slice_index bytes i ≡ slice_index after i
  pub beyond : (i : ℕ) → start (used after) ≤ i → slice_index bytes i ≡ slice_index after i

-- `after` is `bytes` with one record more, its n-th, for block b
pub record Appended (bytes after : List ℕ) (n b : ℕ) (source : List ℕ) : Type 0 where
  pub len : length bytes ≡ length after
  pub counted : used after ≡ n + 1
  pub old : (i : ℕ) → 4 ≤ i → i < start n → slice_index bytes i ≡ slice_index after i
  pub block : number after n ≡ b
  pub holds : body after n ≡ source
  pub beyond : (i : ℕ) → start (n + 1) ≤ i → slice_index bytes i ≡ slice_index after i

-- a write that is served appends one record, for block b with these bytes, and one that is refused leaves all bytes
abbrev pub AppendsOne : {X : Type 0} → List ℕ → ℕ → List ℕ → List ℕ → Result X Refused → Type 0
AppendsOne bytes b source after r = MatchResult r (λ _. Appended bytes after (used bytes) b source) (λ _. after ≡ bytes)
