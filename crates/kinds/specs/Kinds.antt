-- What a key kind is, and the laws that every kind keeps over its lawful keys.
use Rattle.std.specs.Prelude.{◌≡◌, ℕ, ◌^◌, ◌<◌, ◌≤◌, Bool, true, cond, ◌≢◌, List, length, nat_lt}
use Rattle.std.specs.declared.cmp.Ordering.TheVariants.{Less, Equal, Greater}
use Rattle.std.specs.declared.cmp.Ordering.{Ordering}

-- which keys are lawful, their hash, and how two of them stand: before, alike or after
pub record Kind : Type 0 where
  pub lawful : List ℕ → Bool
  pub hash : List ℕ → ℕ
  pub order : List ℕ → List ℕ → Ordering

-- before for after, and after for before
abbrev pub turned : Ordering → Ordering
turned Less = Greater
turned Equal = Equal
turned Greater = Less

-- a total order over the keys that pass a test
pub record TotalOrder (lawful : List ℕ → Bool) (order : List ℕ → List ℕ → Ordering) : Type 0 where
  -- each key is alike to itself
  pub self : (a : List ℕ) → lawful a ≡ true → order a a ≡ Equal
  -- a is before b exactly when b is after a
  pub mirrored : (a b : List ℕ) → lawful a ≡ true → lawful b ≡ true → order b a ≡ turned (order a b)
  -- if a is not after b and b is not after c, a is not after c
  pub onward : (a b c : List ℕ) → lawful a ≡ true → lawful b ≡ true → lawful c ≡ true → order a b ≢ Greater → order b c ≢ Greater → order a c ≢ Greater

-- two lawful keys that are alike have the same hash
abbrev pub AlikeHash : Kind → Type 0
AlikeHash kind = (a b : List ℕ) → kind.lawful a ≡ true → kind.lawful b ≡ true → kind.order a b ≡ Equal → kind.hash a ≡ kind.hash b

-- a lawful key has 1 to 40 bytes, and its hash has 32 bits
pub record Bounded (kind : Kind) : Type 0 where
  pub some : (a : List ℕ) → kind.lawful a ≡ true → 1 ≤ length a
  pub short : (a : List ℕ) → kind.lawful a ≡ true → length a ≤ 40
  pub narrow : (a : List ℕ) → kind.lawful a ≡ true → kind.hash a < 2 ^ 32

-- the position of a key is its hash, then its order
abbrev pub position : Kind → List ℕ → List ℕ → Ordering
position kind a b = cond (nat_lt (kind.hash a) (kind.hash b)) Less (cond (nat_lt (kind.hash b) (kind.hash a)) Greater (kind.order a b))
