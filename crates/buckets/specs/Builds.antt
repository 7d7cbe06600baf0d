-- A bucket block while it is being built.
use Rattle.std.specs.Prelude.{ℕ, ◌+◌, ◌-◌, ◌*◌, List, ◌++◌, length, take, drop, replicate}
use Rattle.words.specs.BigEndian.{bytes16}
use Rattle.buckets.specs.Blocks.{size, bodies, pairs}

-- `block` with `bytes` written from `at` on
abbrev pub over : ℕ → List ℕ → List ℕ → List ℕ
over at bytes block = take at block ++ (bytes ++ drop (at + length bytes) block)

abbrev pub pair : ℕ → ℕ → List ℕ
pair offset len = bytes16 offset ++ bytes16 len

-- where record k starts
abbrev pub start_of : List (List ℕ) → ℕ → ℕ
start_of rs k = 8 + 4 * length rs + size (take k rs)

-- eight bytes, the first k records with their pairs, and zeros for the others
unfoldable pub partly : List ℕ → List (List ℕ) → ℕ → List ℕ
partly head rs k =
    head
    ++ (pairs (8 + 4 * length rs) (take k rs)
    ++ (replicate (4 * (length rs - k)) 0
    ++ (bodies (take k rs) ++ replicate (504 - (4 * length rs + size (take k rs))) 0)))
