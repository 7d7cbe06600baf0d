-- When a device serves a read or a write.
use Rattle.std.specs.Prelude.{ℕ, Bool, ◌&&◌, List, length, ◌==◌, nat_lt}

-- the block is one of the device's, and the bytes are as long as a block
abbrev pub readable : List (List ℕ) → ℕ → List ℕ → Bool
readable blocks b bytes = nat_lt b (length blocks) && length bytes == 512

-- the same, and a further write is allowed
abbrev pub writable : List (List ℕ) → ℕ → List ℕ → ℕ → Bool
writable blocks b bytes allowed = nat_lt b (length blocks) && (length bytes == 512 && nat_lt 0 allowed)
