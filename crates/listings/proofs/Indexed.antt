-- Records that are put into an index one after another.
use Rattle.std.proofs.Common.{◌≡◌, ℕ, true, false, cond, List, [], ◌∷◌, ◌++◌, Some, Option, Ordering, Less, Equal, Greater, sym, refl, ap, ◌∙◌, subst}
use Rattle.std.specs.Ordering.{is_lt, is_le}
use Rattle.std.specs.List.{AllByRecursion}
use Rattle.kinds.specs.Kinds.{Kind, position}
use Rattle.records.specs.Records.{key_of}
use Rattle.records.specs.Ordered.{before, after, put}
use Rattle.records.proofs.Kept.{kept_all, kept_none}
use Rattle.model.specs.Trees.{find}
use Rattle.model.specs.Indexes.{indexed}
use Rattle.model.specs.Soundness.{KeepsLaws}
use Rattle.model.proofs.Finds.{by_test, never}
use Rattle.model.proofs.Indexing.{all-indexed}
use Rattle.listings.specs.Indexes.{named}
use Rattle.listings.specs.Listings.{is_after, Rising}
use Rattle.listings.proofs.Places.{turn_back, eq_sym, lt_not, le_lt}
use Rattle.listings.proofs.Rises.{Good, Mark, lt_true, true_lt, eq_le, less_le, alike_both, alike_on, is_mark, after_is, rising_all}

not_lt : (o : Ordering) → is_le o ≡ false → is_lt o ≡ false
not_lt Less e = e
not_lt Equal e = refl
not_lt Greater e = refl

-- where a record goes, by its position and that of the first
abbrev by : {X : Type 0} → Ordering → X → X → X → X
by Less x y z = x
by Equal x y z = y
by Greater x y z = z

module _ (k : Kind) (l : KeepsLaws k) where
  -- what follows a record that is not before the key follows the key
  pub past : (key : List ℕ) (q : List ℕ) (qs : List (List ℕ)) → k.lawful key ≡ true → k.lawful (key_of q) ≡ true → Good k qs → Rising k (key_of q) qs → is_le (position k key (key_of q)) ≡ true
      → AllByRecursion (λ x. position k key (key_of x) ≡ Less) qs
  past key q qs x y g r e = go qs g (rising_all k l (key_of q) qs (is_mark k l (key_of q) y) g r)
    where
      go : (xs : List (List ℕ)) → Good k xs → AllByRecursion (λ x. is_after k (key_of q) (key_of x) ≡ true) xs → AllByRecursion (λ x. position k key (key_of x) ≡ Less) xs
      go [] h a = tt
      go (z ∷ zs) h a = (le_lt k l key (key_of q) (key_of z) x y h.0 e (true_lt _ (sym (after_is k l (key_of q) (key_of z) y) ∙ a.0)), go zs h.1 a.1)

  pub after-all : (key : List ℕ) (xs : List (List ℕ)) → AllByRecursion (λ x. position k key (key_of x) ≡ Less) xs → after k key xs ≡ xs
  unfolding after
  after-all key xs h = kept_all _ xs (go xs h)
    where
      go : (xs : List (List ℕ)) → AllByRecursion (λ x. position k key (key_of x) ≡ Less) xs → AllByRecursion (λ x. is_lt (position k key (key_of x)) ≡ true) xs
      go [] h = tt
      go (z ∷ zs) h = (lt_true _ h.0, go zs h.1)

  pub before_none : (key : List ℕ) (xs : List (List ℕ)) → k.lawful key ≡ true → Good k xs → AllByRecursion (λ x. position k key (key_of x) ≡ Less) xs → before k key xs ≡ []
  unfolding before
  before_none key xs x g h = kept_none _ xs (go xs g h)
    where
      go : (xs : List (List ℕ)) → Good k xs → AllByRecursion (λ x. position k key (key_of x) ≡ Less) xs → AllByRecursion (λ x. is_lt (position k (key_of x) key) ≡ false) xs
      go [] g h = tt
      go (z ∷ zs) g h = (not_lt _ (lt_not k l key (key_of z) x g.0 h.0), go zs g.1 h.1)

  pub after-cons : (key q : List ℕ) (qs : List (List ℕ)) → after k key (q ∷ qs) ≡ cond (is_lt (position k key (key_of q))) (q ∷ after k key qs) (after k key qs)
  unfolding after
  after-cons key q qs = refl

  pub before-cons : (key q : List ℕ) (qs : List (List ℕ)) → before k key (q ∷ qs) ≡ cond (is_lt (position k (key_of q) key)) (q ∷ before k key qs) (before k key qs)
  unfolding before
  before-cons key q qs = refl

  -- a record goes before the first that comes after it, in the place of one that is alike
  put-cons : (r q : List ℕ) (qs : List (List ℕ)) → k.lawful (key_of r) ≡ true → k.lawful (key_of q) ≡ true → Good k qs → Rising k (key_of q) qs
      → put k r (q ∷ qs) ≡ by (position k (key_of r) (key_of q)) (r ∷ q ∷ qs) (r ∷ qs) (q ∷ put k r qs)
  unfolding put
  put-cons r q qs x y g s = go (position k (key_of r) (key_of q)) refl
    where
      key : List ℕ
      key = key_of r

      go : (v : Ordering) → position k (key_of r) (key_of q) ≡ v → before k (key_of r) (q ∷ qs) ++ r ∷ after k (key_of r) (q ∷ qs) ≡ by v (r ∷ q ∷ qs) (r ∷ qs) (q ∷ put k r qs)
      go Less e =
          let all = past (key_of r) q qs x y g s (less_le _ e) in
          rw (before_none (key_of r) (q ∷ qs) x (y, g) (e, all), after-all (key_of r) (q ∷ qs) (e, all))
      go Equal e =
          let all = past (key_of r) q qs x y g s (eq_le _ e) in
          rw (before-cons (key_of r) q qs, after-cons (key_of r) q qs, e, eq_sym k l (key_of r) (key_of q) x y e, before_none (key_of r) qs x g all, after-all (key_of r) qs all)
      go Greater e =
          rw (before-cons (key_of r) q qs, after-cons (key_of r) q qs, e, turn_back k l (key_of q) (key_of r) y x e)

  put_none : (r : List ℕ) → put k r [] ≡ r ∷ []
  unfolding put before after
  put_none r = refl

  find-put : (n r : List ℕ) (b : List ℕ) (qs : List (List ℕ)) → k.lawful n ≡ true → k.lawful (key_of r) ≡ true → Good k qs → Rising k b qs
      → find (named k n) (put k r qs) ≡ cond (named k n r) (Some r) (find (named k n) qs)
  find-put n r b [] w x g s = rw (put_none r)
  find-put n r b (q ∷ qs) w x g s =
      ap (find (named k n)) (put-cons r q qs x g.0 g.1 s.1) ∙ go (position k (key_of r) (key_of q)) refl (find-put n r (key_of q) qs w x g.1 s.1)
    where
      on : position k (key_of r) (key_of q) ≡ Equal → named k n q ≡ true → named k n r ≡ true
      on = alike_on k l n (key_of r) (key_of q) w x g.0

      one : named k n r ≡ true → named k n q ≡ true → position k (key_of r) (key_of q) ≡ Equal
      one = alike_both k l n (key_of r) (key_of q) w x g.0

      go : (v : Ordering) → position k (key_of r) (key_of q) ≡ v → find (named k n) (put k r qs) ≡ cond (named k n r) (Some r) (find (named k n) qs)
          → find (named k n) (by v (r ∷ q ∷ qs) (r ∷ qs) (q ∷ put k r qs)) ≡ cond (named k n r) (Some r) (find (named k n) (q ∷ qs))
      go Less e h = refl
      go Equal e h =
          by_test (named k n r) (λ a. rw a) (λ a. rw a (by_test (named k n q) (λ b. never _ (on e b) a) (λ b. rw b)))
      go Greater e h =
          by_test (named k n r)
          (λ a. by_test (named k n q) (λ b. let z : Equal ≡ Greater = sym (one a b) ∙ e in cc) (λ b. rw (a, b) (h ∙ rw a)))
          (λ a. rw a (ap (λ (o : Option (List ℕ)). cond (named k n q) (Some q) o) (h ∙ rw a)))

  rising_put : (b r : List ℕ) (qs : List (List ℕ)) → Mark k b → k.lawful (key_of r) ≡ true → Good k qs → is_after k b (key_of r) ≡ true → Rising k b qs → Rising k b (put k r qs)
  rising_put b r [] h x g p s = rw (put_none r) (p, tt)
  rising_put b r (q ∷ qs) h x g p s =
      subst (Rising k b) (sym (put-cons r q qs x g.0 g.1 s.1)) (go (position k (key_of r) (key_of q)) refl (rising_put (key_of q) r qs (is_mark k l (key_of q) g.0) x g.1))
    where
      go : (v : Ordering) → position k (key_of r) (key_of q) ≡ v → (is_after k (key_of q) (key_of r) ≡ true → Rising k (key_of q) qs → Rising k (key_of q) (put k r qs))
          → Rising k b (by v (r ∷ q ∷ qs) (r ∷ qs) (q ∷ put k r qs))
      go Less e f = (p, (after_is k l (key_of r) (key_of q) x ∙ lt_true _ e, s.1))
      go Equal e f = (p, same_from qs g.1 s.1)
        where
          same_from : (os : List (List ℕ)) → Good k os → Rising k (key_of q) os → Rising k (key_of r) os
          same_from [] d u = tt
          same_from (m ∷ ms) d u = (
            after_is k l (key_of r) (key_of m) x
                ∙ lt_true _ (le_lt k l (key_of r) (key_of q) (key_of m) x g.0 d.0 (eq_le _ e) (true_lt _ (sym (after_is k l (key_of q) (key_of m) g.0) ∙ u.0))),
            u.1,
          )
      go Greater e f =
          (s.0, f (after_is k l (key_of q) (key_of r) g.0 ∙ lt_true _ (turn_back k l (key_of q) (key_of r) g.0 x e)) s.1)

  pub good_indexed : (rs : List (List ℕ)) → Good k rs → Good k (indexed k rs)
  good_indexed rs g = all-indexed k _ rs g

  -- an index is in rising position
  pub rising_indexed : (rs : List (List ℕ)) → Good k rs → Rising k [] (indexed k rs)
  rising_indexed [] g = tt
  rising_indexed (r ∷ rs) g = rising_put [] r (indexed k rs) tt g.0 (good_indexed rs g.1) refl (rising_indexed rs g.1)

  -- and has under a name the record that was put last
  pub find-indexed : (n : List ℕ) (rs : List (List ℕ)) → k.lawful n ≡ true → Good k rs → find (named k n) (indexed k rs) ≡ find (named k n) rs
  find-indexed n [] w g = refl
  find-indexed n (r ∷ rs) w g =
      find-put n r [] (indexed k rs) w g.0 (good_indexed rs g.1) (rising_indexed rs g.1)
      ∙ ap (λ (o : Option (List ℕ)). cond (named k n r) (Some r) o) (find-indexed n rs w g.1)
