-- Exact names: all strings of 1 to 40 bytes, by FNV-1a and the first byte that differs.
use Rattle.std.specs.Prelude.{ℕ, ◌*◌, ◌%◌, ◌^◌, Bool, cond, ◌&&◌, List, [], ◌∷◌, length, fold, bit_xor, nat_le, nat_lt}
use Rattle.std.specs.declared.cmp.Ordering.TheVariants.{Less, Equal, Greater}
use Rattle.std.specs.declared.cmp.Ordering.{Ordering}
use Rattle.kinds.specs.Kinds.{Kind}

-- 1 to 40 bytes
abbrev pub is_name : List ℕ → Bool
is_name key = nat_le 1 (length key) && nat_le (length key) 40

-- one byte of FNV-1a: xored in, then multiplied
abbrev pub fnv_byte : ℕ → ℕ → ℕ
fnv_byte hash byte = (bit_xor hash byte * 0x0100_0193) % 2 ^ 32

-- FNV-1a, over the bytes one after another
abbrev pub fnv : List ℕ → ℕ
fnv key = fold fnv_byte 0x811C_9DC5 key

-- by the first differing byte; a name is before any longer one that begins with it
abbrev pub by_bytes : List ℕ → List ℕ → Ordering
by_bytes [] [] = Equal
by_bytes [] (y ∷ ys) = Less
by_bytes (x ∷ xs) [] = Greater
by_bytes (x ∷ xs) (y ∷ ys) = cond (nat_lt x y) Less (cond (nat_lt y x) Greater (by_bytes xs ys))

abbrev pub exact_names : Kind
exact_names = record { lawful = is_name; hash = fnv; order = by_bytes }
