-- Keys of four bytes, read as a number, high byte first.
use Rattle.std.specs.Prelude.{ℕ, ◌*◌, ◌%◌, ◌^◌, Bool, cond, List, length, ◌==◌, nat_lt}
use Rattle.std.specs.declared.cmp.Ordering.TheVariants.{Less, Equal, Greater}
use Rattle.std.specs.declared.cmp.Ordering.{Ordering}
use Rattle.words.specs.BigEndian.{be32}
use Rattle.kinds.specs.Kinds.{Kind}

abbrev pub is_number : List ℕ → Bool
is_number key = length key == 4

-- the number of a key, and 0 for any other string
abbrev pub number_of : List ℕ → ℕ
number_of key = cond (is_number key) (be32 key 0) 0

abbrev pub numeric : ℕ → ℕ → Ordering
numeric m n = cond (nat_lt m n) Less (cond (nat_lt n m) Greater Equal)

abbrev pub by_number : List ℕ → List ℕ → Ordering
by_number a b = numeric (number_of a) (number_of b)

-- the multiplier spreads numbers that follow one another
abbrev pub spread_number : ℕ → ℕ
spread_number number = (number * 2654435761) % 2 ^ 32

abbrev pub spread : List ℕ → ℕ
spread key = spread_number (number_of key)

-- the number itself; a kind's hash is below 2 ^ 32 on any list, also where an element is no byte
abbrev pub straight_number : ℕ → ℕ
straight_number number = number % 2 ^ 32

abbrev pub straight : List ℕ → ℕ
straight key = straight_number (number_of key)

-- numbers under a hash
abbrev pub numbers : (ℕ → ℕ) → Kind
numbers hashed = record { lawful = is_number; hash = λ key. hashed (number_of key); order = by_number }

abbrev pub register_numbers : Kind
register_numbers = numbers spread_number

abbrev pub straight_numbers : Kind
straight_numbers = numbers straight_number
