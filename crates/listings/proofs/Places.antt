-- The laws of positions, from those of the kind.
use Rattle.std.proofs.Common.{◌≡◌, ℕ, true, false, ◌≢◌, List, Ordering, Less, Equal, Greater, refl, ap, arith}
use Rattle.std.specs.Ordering.{is_eq, is_le}
use Rattle.std.proofs.lemmas.Bool.Decides.{nat_tests}
use Rattle.kinds.specs.Kinds.{Kind, TotalOrder, position, turned}
use Rattle.kinds.proofs.Positions.{position-total, alike-position, less_onward}
use Rattle.model.specs.Trees.{is_alike}
use Rattle.model.specs.Soundness.{KeepsLaws}

mirror_less : (ab ba : Ordering) → ba ≡ turned ab → ab ≡ Less → ba ≡ Greater
mirror_less ab ba h e = grind arith

mirror_greater : (ab ba : Ordering) → ba ≡ turned ab → ba ≡ Greater → ab ≡ Less
mirror_greater ab ba h e = grind arith

mirror_equal : (ab ba : Ordering) → ba ≡ turned ab → ab ≡ Equal → ba ≡ Equal
mirror_equal ab ba h e = grind arith

le_not : (o : Ordering) → is_le o ≡ true → o ≢ Greater
le_not o e = grind arith

not_le : (o : Ordering) → o ≢ Greater → is_le o ≡ true
not_le Less h = refl
not_le Equal h = refl
not_le Greater h = absurd (h refl)

module _ (k : Kind) (l : KeepsLaws k) where
  total : TotalOrder k.lawful (position k)
  total = position-total k l.ordered

  pub self : (a : List ℕ) → k.lawful a ≡ true → position k a a ≡ Equal
  self a x = total.self a x

  pub turn : (a b : List ℕ) → k.lawful a ≡ true → k.lawful b ≡ true → position k a b ≡ Less → position k b a ≡ Greater
  turn a b x y = mirror_less _ _ (total.mirrored a b x y)

  pub turn_back : (a b : List ℕ) → k.lawful a ≡ true → k.lawful b ≡ true → position k b a ≡ Greater → position k a b ≡ Less
  turn_back a b x y = mirror_greater _ _ (total.mirrored a b x y)

  pub chain : (a b c : List ℕ) → k.lawful a ≡ true → k.lawful b ≡ true → k.lawful c ≡ true → is_le (position k a b) ≡ true → is_le (position k b c) ≡ true → is_le (position k a c) ≡ true
  chain a b c x y z p q = not_le _ (total.onward a b c x y z (le_not _ p) (le_not _ q))

  pub eq_sym : (a b : List ℕ) → k.lawful a ≡ true → k.lawful b ≡ true → position k a b ≡ Equal → position k b a ≡ Equal
  eq_sym a b x y = mirror_equal _ _ (total.mirrored a b x y)

  pub lt_not : (a b : List ℕ) → k.lawful a ≡ true → k.lawful b ≡ true → position k a b ≡ Less → is_le (position k b a) ≡ false
  lt_not a b x y e = ap is_le (turn a b x y e)

  pub lt_le : (a b c : List ℕ) → k.lawful a ≡ true → k.lawful b ≡ true → k.lawful c ≡ true → position k a b ≡ Less → is_le (position k b c) ≡ true → position k a c ≡ Less
  lt_le a b c x y z p q = less_onward total a b c x y z p (le_not _ q)

  pub le_lt : (a b c : List ℕ) → k.lawful a ≡ true → k.lawful b ≡ true → k.lawful c ≡ true → is_le (position k a b) ≡ true → position k b c ≡ Less → position k a c ≡ Less
  le_lt a b c x y z p q =
      let m = total.mirrored a c x z in
      let n = total.mirrored b c y z in
      let back = total.onward c a b z x y in
      let h = le_not _ p in
      grind arith

  -- alike names have one position
  pub alike_equal : (a b : List ℕ) → k.lawful a ≡ true → k.lawful b ≡ true → is_alike k a b ≡ true → position k a b ≡ Equal
  alike_equal a b x y e = alike-position k l.level a b x y (true-eq _ e)
    where
      true-eq : (o : Ordering) → is_eq o ≡ true → o ≡ Equal
      true-eq o h = grind arith

  pub equal_alike : (a b : List ℕ) → position k a b ≡ Equal → is_alike k a b ≡ true
  equal_alike a b e = grind (arith, nat_tests)
