-- Bit prefixes of hashes.
use Rattle.std.specs.Prelude.{ℕ, ◌-◌, ◌/◌, ◌%◌, ◌^◌, Bool, ◌&&◌, ◌==◌, nat_le}
use Rattle.buckets.specs.declared.prefix.Prefix.{Prefix}

-- what the bits below the prefix weigh
abbrev pub span : Prefix → ℕ
span prefix = 2 ^ (32 - prefix.bits)

-- at most 7 bits, at the top of 32, with zeros below
abbrev pub is_prefix : Prefix → Bool
is_prefix prefix = nat_le prefix.bits 7 && prefix.top % span prefix == 0

-- a hash begins with the prefix
abbrev pub begins : Prefix → ℕ → Bool
begins prefix hash = hash / span prefix == prefix.top / span prefix
