-- The shape of an index: the buckets that its records are held in.
use Rattle.std.specs.Prelude.{◌≡◌, ℕ, zero, suc, ◌+◌, ◌*◌, ◌/◌, ◌^◌, ◌≤◌, max, Bool, cond, List, sum_by, filter, ◌==◌, nat_eq, nat_le}

-- what the shape asks of a record
pub record Measure (X : Type 0) : Type 0 where
  pub hash : X → ℕ
  pub weight : X → ℕ

-- A prefix has at most 7 bits. It is given by the number of them that it leaves, k, and by its bits as a number.

-- the prefix of a hash that leaves k bits
unfoldable pub prefix_of : ℕ → ℕ → ℕ
prefix_of k hash = hash / 2 ^ (25 + k)

-- the records whose hash begins with the prefix p
unfoldable pub under : {X : Type 0} → Measure X → ℕ → ℕ → List X → List X
under m k p records = filter (λ r. nat_eq (prefix_of k (m.hash r)) p) records

-- what a record weighs there: nothing, where its hash does not begin so
abbrev pub weight_under : {X : Type 0} → Measure X → ℕ → ℕ → X → ℕ
weight_under m k p r = cond (prefix_of k (m.hash r) == p) (m.weight r) 0

-- what they weigh
abbrev pub load : {X : Type 0} → Measure X → ℕ → ℕ → List X → ℕ
load m k p records = sum_by m.weight (under m k p records)

-- they go into one bucket
abbrev pub is_light : {X : Type 0} → Measure X → ℕ → ℕ → List X → Bool
is_light m k p records = nat_le (load m k p records) 504

-- no prefix of 7 bits under p is too heavy
abbrev pub Held : {X : Type 0} → Measure X → ℕ → ℕ → List X → Type 0
Held m k p records = (q : ℕ) → q / 2 ^ k ≡ p → load m 0 q records ≤ 504

-- how many buckets there are under p: a light prefix is one, a heavier one counts as its two halves
unfoldable pub buckets : {X : Type 0} → Measure X → ℕ → ℕ → List X → ℕ
buckets m zero p records = 1
buckets m (suc k) p records = cond (is_light m (suc k) p records) 1 (buckets m k (2 * p) records + buckets m k (2 * p + 1) records)

-- how much longer than p the longest prefix of them is
unfoldable pub depth : {X : Type 0} → Measure X → ℕ → ℕ → List X → ℕ
depth m zero p records = 0
depth m (suc k) p records = cond (is_light m (suc k) p records) 0 (1 + max (depth m k (2 * p) records) (depth m k (2 * p + 1) records))
