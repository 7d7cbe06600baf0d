-- Records in rising position, and how often a name is among them.
use Rattle.std.proofs.Common.{◌≡◌, ℕ, ◌+◌, Bool, true, false, cond, List, [], ◌∷◌, ◌++◌, is_some, Some, filter, Ordering, Less, Equal, Greater, sym, refl, ap, ◌∙◌, add_assoc, zero-add, arith}
use Rattle.std.specs.Ordering.{is_lt, is_le}
use Rattle.std.specs.List.{AllByRecursion}
use Rattle.std.proofs.ByRecursion.{All-append}
use Rattle.kinds.specs.Kinds.{Kind, position}
use Rattle.records.specs.Records.{key_of}
use Rattle.model.specs.Trees.{is_alike, find}
use Rattle.model.specs.Soundness.{KeepsLaws}
use Rattle.model.proofs.Finds.{by_test, never}
use Rattle.listings.specs.Indexes.{named}
use Rattle.listings.specs.Listings.{times, is_after, Rising, last_name}
use Rattle.listings.proofs.Places.{self, turn, chain, eq_sym, lt_not, lt_le, alike_equal, equal_alike}

-- records with lawful keys
abbrev pub Good : Kind → List (List ℕ) → Type 0
Good k rs = AllByRecursion (λ r. k.lawful (key_of r) ≡ true) rs

-- a bookmark is empty or lawful
abbrev pub Mark : Kind → List ℕ → Type 0
Mark k [] = Unit {0}
Mark k (x ∷ xs) = k.lawful (x ∷ xs) ≡ true

pub lt_true : (o : Ordering) → o ≡ Less → is_lt o ≡ true
lt_true o e = grind arith

pub true_lt : (o : Ordering) → is_lt o ≡ true → o ≡ Less
true_lt o e = grind arith

pub eq_le : (o : Ordering) → o ≡ Equal → is_le o ≡ true
eq_le o e = grind arith

pub less_le : (o : Ordering) → o ≡ Less → is_le o ≡ true
less_le o e = grind arith

two_le : (ab ba : Ordering) → (ab ≡ Less → ba ≡ Greater) → is_le ab ≡ true → is_le ba ≡ true → ab ≡ Equal
two_le ab ba h p q = grind arith

module _ (k : Kind) (l : KeepsLaws k) where
  pub alike_le : (a b : List ℕ) → k.lawful a ≡ true → k.lawful b ≡ true → is_alike k a b ≡ true → is_le (position k a b) ≡ true
  alike_le a b x y e = eq_le _ (alike_equal k l a b x y e)

  alike_ge : (a b : List ℕ) → k.lawful a ≡ true → k.lawful b ≡ true → is_alike k a b ≡ true → is_le (position k b a) ≡ true
  alike_ge a b x y e = eq_le _ (eq_sym k l a b x y (alike_equal k l a b x y e))

  -- two names alike to a third
  pub alike_both : (n a b : List ℕ) → k.lawful n ≡ true → k.lawful a ≡ true → k.lawful b ≡ true → is_alike k n a ≡ true → is_alike k n b ≡ true → position k a b ≡ Equal
  alike_both n a b w x y p q =
      two_le _ _ (turn k l a b x y) (chain k l a n b x w y (alike_ge n a w x p) (alike_le n b w y q)) (chain k l b n a y w x (alike_ge n b w y q) (alike_le n a w x p))

  pub alike_on : (n a b : List ℕ) → k.lawful n ≡ true → k.lawful a ≡ true → k.lawful b ≡ true → position k a b ≡ Equal → is_alike k n b ≡ true → is_alike k n a ≡ true
  alike_on n a b w x y e q =
      equal_alike k l n a
      (two_le _ _ (turn k l n a w x) (chain k l n b a w y x (alike_le n b w y q) (eq_le _ (eq_sym k l a b x y e))) (chain k l a b n x y w (eq_le _ e) (alike_ge n b w y q)))

  pub is_mark : (b : List ℕ) → k.lawful b ≡ true → Mark k b
  is_mark [] h = tt
  is_mark (x ∷ xs) h = h

  pub after_is : (b n : List ℕ) → k.lawful b ≡ true → is_after k b n ≡ is_lt (position k b n)
  after_is [] n h = absurd (let some = l.bounded.some [] h in omega arith)
  after_is (x ∷ xs) n h = refl

  pub after_le : (b m n : List ℕ) → Mark k b → k.lawful m ≡ true → k.lawful n ≡ true → is_after k b m ≡ true → is_le (position k m n) ≡ true → is_after k b n ≡ true
  after_le [] m n h x y p q = refl
  after_le (c ∷ cs) m n h x y p q = lt_true _ (lt_le k l (c ∷ cs) m n h x y (true_lt _ p) q)

  pub after-after : (b m n : List ℕ) → Mark k b → k.lawful m ≡ true → k.lawful n ≡ true → is_after k b m ≡ true → is_after k m n ≡ true → is_after k b n ≡ true
  after-after b m n h x y p q = after_le b m n h x y p (less_le _ (true_lt _ (sym (after_is m n x) ∙ q)))

  -- what is alike to a bookmark is not after it
  pub alike_not : (m n : List ℕ) → k.lawful m ≡ true → k.lawful n ≡ true → is_alike k n m ≡ true → is_after k m n ≡ true → ⊥
  alike_not m n x y e a = never _ (alike_le n m y x e) (lt_not k l m n x y (true_lt _ (sym (after_is m n x) ∙ a)))

  pub rising_from : (b m : List ℕ) (rs : List (List ℕ)) → Mark k b → k.lawful m ≡ true → Good k rs → is_after k b m ≡ true → Rising k m rs → Rising k b rs
  rising_from b m [] h x g p r = tt
  rising_from b m (o ∷ os) h x g p r = (after-after b m (key_of o) h x g.0 p r.0, r.1)

  -- some of them rise too
  pub rising_kept : (test : List ℕ → Bool) (c : List ℕ) (rs : List (List ℕ)) → Mark k c → Good k rs → Rising k c rs → Rising k c (filter test rs)
  rising_kept test c [] h g r = tt
  rising_kept test c (o ∷ os) h g r =
      by_test (test o)
      (λ e. rw e (r.0, rising_kept test (key_of o) os (is_mark (key_of o) g.0) g.1 r.1))
      (λ e. rw e (rising_kept test c os h g.1 (rising_from c (key_of o) os h g.0 g.1 r.0 r.1)))

  -- every one of them comes after the bookmark
  pub rising_all : (b : List ℕ) (rs : List (List ℕ)) → Mark k b → Good k rs → Rising k b rs → AllByRecursion (λ r. is_after k b (key_of r) ≡ true) rs
  rising_all b [] h g r = tt
  rising_all b (o ∷ os) h g r = (r.0, rising_all b os h g.1 (rising_from b (key_of o) os h g.0 g.1 r.0 r.1))

  pub found_after : (b n : List ℕ) (rs : List (List ℕ)) → Mark k b → k.lawful n ≡ true → Good k rs → Rising k b rs → is_some (find (named k n) rs) ≡ true → is_after k b n ≡ true
  found_after b n [] h x g r e = never _ e refl
  found_after b n (o ∷ os) h x g r e =
      by_test (named k n o)
      (λ p. after_le b (key_of o) n h g.0 x r.0 (alike_ge n (key_of o) x g.0 p))
      (λ p. after-after b (key_of o) n h g.0 x r.0 (found_after (key_of o) n os (is_mark (key_of o) g.0) x g.1 r.1 (rw p at e)))

  pub times_none : (n : List ℕ) (rs : List (List ℕ)) → is_some (find (named k n) rs) ≡ false → times k n rs ≡ 0
  times_none n [] e = refl
  times_none n (o ∷ os) e = by_test (named k n o) (λ p. never _ refl (rw p at e)) (λ p. rw p (zero-add _ ∙ times_none n os (rw p at e)))

  pub times_one : (b n : List ℕ) (rs : List (List ℕ)) → Mark k b → k.lawful n ≡ true → Good k rs → Rising k b rs → is_some (find (named k n) rs) ≡ true → times k n rs ≡ 1
  times_one b n [] h x g r e = never _ e refl
  times_one b n (o ∷ os) h x g r e =
      by_test (named k n o)
      (λ p. rw p (ap (λ (i : ℕ). 1 + i) (times_none n os
      (by_test (is_some (find (named k n) os))
      (λ s. absurd (alike_not (key_of o) n g.0 x p (found_after (key_of o) n os (is_mark (key_of o) g.0) x g.1 r.1 s)))
      (λ s. s)))))
      (λ p. rw p (zero-add _ ∙ times_one (key_of o) n os (is_mark (key_of o) g.0) x g.1 r.1 (rw p at e)))

  -- each record of a rising list is found in it by its name
  abbrev Finds : List (List ℕ) → List (List ℕ) → Type 0
  Finds all rs = AllByRecursion (λ r. find (named k (key_of r)) all ≡ Some r) rs

  finds_more : (o : List ℕ) (all rs : List (List ℕ)) → k.lawful (key_of o) ≡ true → Good k all → Rising k (key_of o) all → Good k rs → Finds all rs → Finds (o ∷ all) rs
  finds_more o all [] x g r d f = tt
  finds_more o all (p ∷ ps) x g r d f = (
    by_test (named k (key_of p) o)
        (λ s. absurd (alike_not (key_of o) (key_of p) x d.0 s (found_after (key_of o) (key_of p) all (is_mark (key_of o) x) d.0 g r (ap is_some f.0))))
        (λ s. rw s f.0),
    finds_more o all ps x g r d.1 f.1,
  )

  pub finds_all : (b : List ℕ) (rs : List (List ℕ)) → Good k rs → Rising k b rs → Finds rs rs
  finds_all b [] g r = tt
  finds_all b (o ∷ os) g r = (
    rw (equal_alike k l (key_of o) (key_of o) (self k l (key_of o) g.0)),
    finds_more o os os g.0 g.1 r.1 g.1 (finds_all (key_of o) os g.1 r.1),
  )

  pub times-append : (n : List ℕ) (rs ss : List (List ℕ)) → times k n (rs ++ ss) ≡ times k n rs + times k n ss
  times-append n [] ss = sym (zero-add _)
  times-append n (o ∷ os) ss = ap (λ (i : ℕ). cond (named k n o) 1 0 + i) (times-append n os ss) ∙ sym (add_assoc _ _ _)

  pub rising_append : (b : List ℕ) (rs ss : List (List ℕ)) → Rising k b rs → Rising k (last_name b rs) ss → Rising k b (rs ++ ss)
  rising_append b [] ss r s = s
  rising_append b (o ∷ os) ss r s = (r.0, rising_append (key_of o) os ss r.1 s)

  pub last_mark : (b : List ℕ) (rs : List (List ℕ)) → Mark k b → Good k rs → Mark k (last_name b rs)
  last_mark b [] m g = m
  last_mark b (o ∷ os) m g = last_mark (key_of o) os (is_mark (key_of o) g.0) g.1

  -- what is among the first ones is not among the later ones
  pub shown_not : (b n : List ℕ) (rs ss : List (List ℕ)) → Mark k b → k.lawful n ≡ true → Good k rs → Good k ss → Rising k b rs → Rising k (last_name b rs) ss → is_some (find (named k n) rs) ≡ true → times k n ss ≡ 0
  shown_not b n rs ss m w g h r s e =
      let whole : times k n (rs ++ ss) ≡ 1 = times_one b n (rs ++ ss) m w (All-append _ rs ss g h) (rising_append b rs ss r s) (there rs e) in
      let front : times k n rs ≡ 1 = times_one b n rs m w g r e in
      omega (arith, times-append n rs ss)
    where
      there : (rs : List (List ℕ)) → is_some (find (named k n) rs) ≡ true → is_some (find (named k n) (rs ++ ss)) ≡ true
      there [] e = never _ e refl
      there (o ∷ os) e = by_test (named k n o) (λ s. rw s) (λ s. rw s (there os (rw s at e)))
