-- Numbers of two and four bytes in a list of bytes, high byte first.
use Rattle.std.specs.Prelude.{ℕ, ◌+◌, ◌*◌, ◌/◌, ◌%◌, cond, List, [], ◌∷◌, length, Some, None, Option, nat_le, slice_index}

-- the number that the two bytes from `at` on are
abbrev pub be16 : List ℕ → ℕ → ℕ
be16 xs at = slice_index xs at * 256 + slice_index xs (at + 1)

-- the number that the four bytes from `at` on are
abbrev pub be32 : List ℕ → ℕ → ℕ
be32 xs at = slice_index xs at * 16777216 + slice_index xs (at + 1) * 65536 + slice_index xs (at + 2) * 256 + slice_index xs (at + 3)

-- the same, or nothing where the bytes reach past the end
abbrev pub word16 : List ℕ → ℕ → Option ℕ
word16 xs at = cond (nat_le (at + 2) (length xs)) (Some (be16 xs at)) None

abbrev pub word32 : List ℕ → ℕ → Option ℕ
word32 xs at = cond (nat_le (at + 4) (length xs)) (Some (be32 xs at)) None

-- the bytes of a number
abbrev pub bytes16 : ℕ → List ℕ
bytes16 v = (v / 256 % 256) ∷ (v % 256) ∷ []

abbrev pub bytes32 : ℕ → List ℕ
bytes32 v = (v / 16777216 % 256) ∷ (v / 65536 % 256) ∷ (v / 256 % 256) ∷ (v % 256) ∷ []
