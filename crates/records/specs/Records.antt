-- Records: the length of the key, the key, then data.
use Rattle.std.specs.Prelude.{ℕ, ◌+◌, Bool, ◌&&◌, List, [], ◌∷◌, length, take, drop, nat_le, slice_index}

-- what the first byte says
abbrev pub key_length : List ℕ → ℕ
key_length bytes = slice_index bytes 0

abbrev pub key_of : List ℕ → List ℕ
key_of bytes = take (key_length bytes) (drop 1 bytes)

abbrev pub data_of : List ℕ → List ℕ
data_of bytes = drop (key_length bytes) (drop 1 bytes)

-- 2 to 52 bytes, with a key of a byte at least that ends within them
abbrev pub is_record : List ℕ → Bool
is_record bytes = nat_le 2 (length bytes) && (nat_le (length bytes) 52 && (nat_le 1 (key_length bytes) && nat_le (key_length bytes) (length (drop 1 bytes))))

-- the record itself, and the pair that leads to it
abbrev pub weight : List ℕ → ℕ
weight bytes = length bytes + 4

-- what records take together
abbrev pub load : List (List ℕ) → ℕ
load [] = 0
load (r ∷ rs) = weight r + load rs
