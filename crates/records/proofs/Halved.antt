-- A search by halving: what one comparison tells of records in rising position.
use Rattle.std.proofs.Common.{◌≡◌, ℕ, ◌+◌, ◌<◌, ◌≤◌, true, ◌≢◌, List, length, Less, Equal, Greater, subst, ⊎_elim, arith}
use Rattle.std.proofs.lemmas.Bool.{cases_lt, cases_order}
use Rattle.kinds.specs.Kinds.{Kind, TotalOrder, AlikeHash, position}
use Rattle.kinds.proofs.Positions.{less_onward, position-total, alike-position}
use Rattle.records.specs.Searches.{key_at, Sorted, Goes}

-- the place lies between low and high
pub record Between (kind : Kind) (rs : List (List ℕ)) (key : List ℕ) (low high : ℕ) : Type 0 where
  pub before : (m : ℕ) → m < low → position kind (key_at rs m) key ≡ Less
  pub after : (m : ℕ) → high ≤ m → m < length rs → position kind (key_at rs m) key ≢ Less

module _ (kind : Kind) (o : TotalOrder kind.lawful kind.order) (rs : List (List ℕ)) (s : Sorted kind rs) (key : List ℕ) (lk : kind.lawful key ≡ true) where
  -- a record that is not after the key puts each earlier one before it
  earlier : (m n : ℕ) → m < n → n < length rs → position kind (key_at rs n) key ≢ Greater → position kind (key_at rs m) key ≡ Less
  earlier m n h l e = less_onward (position-total kind o) (key_at rs m) (key_at rs n) key (s.keyed m (omega arith)) (s.keyed n l) lk (s.rising m n h l) e

  lower : (n : ℕ) → n < length rs → position kind (key_at rs n) key ≡ Less → (m : ℕ) → m < n + 1 → position kind (key_at rs m) key ≡ Less
  lower n l e m h =
      ⊎_elim (λ (b : m < n). earlier m n b l (grind arith)) (λ (b : n ≤ m). let q : n ≡ m = omega arith in subst (λ (k : ℕ). position kind (key_at rs k) key ≡ Less) q e) (cases_lt m n)

  pub raise_low : (n high : ℕ) (low : ℕ) → n < length rs → position kind (key_at rs n) key ≡ Less → Between kind rs key low high → Between kind rs key (n + 1) high
  raise_low n high low l e b = record { before = lower n l e; after = b.after }

  pub cut_high : (n low high : ℕ) → position kind (key_at rs n) key ≢ Less → Between kind rs key low high → Between kind rs key low n
  cut_high n low high e b = record { before = b.before; after = λ m h l f. e (lower m l f n (omega arith)) }

  -- past its place no record has the key's position
  pub none_past : (n : ℕ) → Goes kind rs key n → (m : ℕ) → n < m → m < length rs → position kind (key_at rs m) key ≢ Equal
  none_past n g m h l e = g.after n (omega arith) (omega arith) (earlier n m h l (grind arith))

  -- a key that is not alike to the record at its place is alike to none
  pub none_alike : AlikeHash kind → (n : ℕ) → Goes kind rs key n → (n < length rs → kind.order (key_at rs n) key ≢ Equal) → (m : ℕ) → m < length rs → kind.order (key_at rs m) key ≢ Equal
  none_alike level n g here m l e =
      let alike = alike-position kind level (key_at rs m) key (s.keyed m l) lk e in
      ⊎_elim
      (λ (q : m ≡ n). here (omega arith) (subst (λ (k : ℕ). kind.order (key_at rs k) key ≡ Equal) q e))
      (⊎_elim (λ (b : m < n). let w = g.before m b in grind arith) (λ (b : n < m). none_past n g m b l alike))
      (cases_order m n)
