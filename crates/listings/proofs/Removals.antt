-- Records that are taken out of an index, and indexes that have the same records.
use Rattle.std.proofs.Common.{◌≡◌, ℕ, true, false, cond, not, List, [], ◌∷◌, ◌++◌, is_some, Some, None, filter, Option, Ordering, Less, Equal, Greater, sym, refl, ap, ◌∙◌, ap₂}
use Rattle.std.specs.List.{AllByRecursion}
use Rattle.std.proofs.ByRecursion.{all_kept_by}
use Rattle.kinds.specs.Kinds.{Kind, position}
use Rattle.records.specs.Records.{key_of}
use Rattle.records.specs.Ordered.{before, after, without}
use Rattle.records.proofs.Kept.{kept_all}
use Rattle.model.specs.Trees.{is_alike, find}
use Rattle.model.specs.Indexes.{indexed}
use Rattle.model.specs.Soundness.{KeepsLaws}
use Rattle.model.proofs.Finds.{by_test, never}
use Rattle.listings.specs.Indexes.{named}
use Rattle.listings.specs.Listings.{Rising}
use Rattle.listings.proofs.Places.{self, turn_back, eq_sym, alike_equal, equal_alike}
use Rattle.listings.proofs.Rises.{Good, lt_true, eq_le, less_le, alike_both, alike_on, alike_not, is_mark, after_is, rising_kept, found_after}
use Rattle.listings.proofs.Indexed.{past, after-all, before_none, after-cons, before-cons, good_indexed, rising_indexed, find-indexed}

module _ (k : Kind) (l : KeepsLaws k) where
  unlike : (key x : List ℕ) → k.lawful key ≡ true → k.lawful (key_of x) ≡ true → (position k key (key_of x) ≡ Equal → ⊥) → named k key x ≡ false
  unlike key x w y h = by_test (named k key x) (λ t. absurd (h (alike_equal k l key (key_of x) w y t))) (λ t. t)

  unlike_all : (key : List ℕ) (xs : List (List ℕ)) → k.lawful key ≡ true → Good k xs → AllByRecursion (λ x. position k key (key_of x) ≡ Less) xs → AllByRecursion (λ x. not (named k key x) ≡ true) xs
  unlike_all key [] w g h = tt
  unlike_all key (x ∷ xs) w g h =
      (ap not (unlike key x w g.0 (λ e. let z : Less ≡ Equal = sym h.0 ∙ e in cc)), unlike_all key xs w g.1 h.1)

  without_none : (key : List ℕ) → before k key [] ++ after k key [] ≡ []
  unfolding before after
  without_none key = refl

  -- removal takes out the record that is alike
  pub without_is : (key b : List ℕ) (rs : List (List ℕ)) → k.lawful key ≡ true → Good k rs → Rising k b rs → without k key rs ≡ filter (λ r. not (named k key r)) rs
  unfolding without
  without_is key b [] w g s = without_none key
  without_is key b (q ∷ qs) w g s = go (position k key (key_of q)) refl (without_is key (key_of q) qs w g.1 s.1)
    where
      go : (v : Ordering) → position k key (key_of q) ≡ v → before k key qs ++ after k key qs ≡ filter (λ r. not (named k key r)) qs
          → before k key (q ∷ qs) ++ after k key (q ∷ qs) ≡ filter (λ r. not (named k key r)) (q ∷ qs)
      go Less e h =
          let all = past k l key q qs w g.0 g.1 s.1 (less_le _ e) in
          rw (before_none k l key (q ∷ qs) w g (e, all), after-all k l key (q ∷ qs) (e, all)) (sym (kept_all _ (q ∷ qs) (unlike_all key (q ∷ qs) w g (e, all))))
      go Equal e h =
          let all = past k l key q qs w g.0 g.1 s.1 (eq_le _ e) in
          rw (before-cons k l key q qs, after-cons k l key q qs, e, eq_sym k l key (key_of q) w g.0 e, before_none k l key qs w g.1 all, after-all k l key qs all, equal_alike k l key (key_of q) e)
          (sym (kept_all _ qs (unlike_all key qs w g.1 all)))
      go Greater e h =
          rw (before-cons k l key q qs, after-cons k l key q qs, e, turn_back k l (key_of q) key g.0 w e, unlike key q w g.0 (λ z. let y : Greater ≡ Equal = sym e ∙ z in cc))
          (ap (λ xs. q ∷ xs) h)

  -- what is found where records are taken out
  pub find-without : (n m : List ℕ) (rs : List (List ℕ)) → k.lawful n ≡ true → k.lawful m ≡ true → Good k rs
      → find (named k m) (filter (λ r. not (named k n r)) rs) ≡ cond (is_alike k n m) None (find (named k m) rs)
  find-without n m [] w x g = by_test (is_alike k n m) (λ t. rw t) (λ t. rw t)
  find-without n m (r ∷ rs) w x g =
      by_test (named k n r)
      (λ a. rw a (by_test (named k m r)
      (λ b. let both : is_alike k n m ≡ true = equal_alike k l n m (eq-through a b) in rw (b, both) (find-without n m rs w x g.1 ∙ rw both))
      (λ b. rw b (find-without n m rs w x g.1))))
      (λ a. rw a (by_test (named k m r)
      (λ b. rw b (by_test (is_alike k n m) (λ t. never _ (on t b) a) (λ t. rw t)))
      (λ b. rw b (find-without n m rs w x g.1))))
    where
      eq-through : named k n r ≡ true → named k m r ≡ true → position k n m ≡ Equal
      eq-through a b =
          alike_both k l (key_of r) n m g.0 w x
          (equal_alike k l (key_of r) n (eq_sym k l n (key_of r) w g.0 (alike_equal k l n (key_of r) w g.0 a)))
          (equal_alike k l (key_of r) m (eq_sym k l m (key_of r) x g.0 (alike_equal k l m (key_of r) x g.0 b)))

      on : is_alike k n m ≡ true → named k m r ≡ true → named k n r ≡ true
      on t b =
          equal_alike k l n (key_of r)
          (alike_both k l m n (key_of r) x w g.0 (equal_alike k l m n (eq_sym k l n m w x (alike_equal k l n m w x t))) b)

  -- a name that comes before all of a list is not found in it
  absent : (n r : List ℕ) (ys : List (List ℕ)) → k.lawful n ≡ true → k.lawful (key_of r) ≡ true → Good k ys → Rising k (key_of r) ys → named k n r ≡ true → find (named k n) ys ≡ None
  absent n r ys w x g s t = go (find (named k n) ys) refl
    where
      go : (v : Option (List ℕ)) → find (named k n) ys ≡ v → v ≡ None
      go None e = refl
      go (Some y) e = absurd (alike_not k l (key_of r) n x w t (found_after k l (key_of r) n ys (is_mark k l (key_of r) x) w g s (ap is_some e)))

  alike_self : (x : List ℕ) → k.lawful (key_of x) ≡ true → named k (key_of x) x ≡ true
  alike_self x w = equal_alike k l (key_of x) (key_of x) (self k l (key_of x) w)

  here : (x : List ℕ) (xs : List (List ℕ)) → k.lawful (key_of x) ≡ true → find (named k (key_of x)) (x ∷ xs) ≡ Some x
  here x xs w = rw (alike_self x w)

  -- rising lists with the same records are equal
  pub same_records : (b c : List ℕ) (xs ys : List (List ℕ)) → Good k xs → Good k ys → Rising k b xs → Rising k c ys
      → ((n : List ℕ) → k.lawful n ≡ true → find (named k n) xs ≡ find (named k n) ys) → xs ≡ ys
  same_records b c [] [] g d r s h = refl
  same_records b c [] (y ∷ ys) g d r s h =
      let z : None ≡ Some y = h (key_of y) d.0 ∙ here y ys d.0 in absurd (cc)
  same_records b c (x ∷ xs) [] g d r s h =
      let z : Some x ≡ None = sym (here x xs g.0) ∙ h (key_of x) g.0 in absurd (cc)
  same_records b c (x ∷ xs) (y ∷ ys) g d r s h =
      go (position k (key_of x) (key_of y)) refl (same_records (key_of x) (key_of y) xs ys g.1 d.1 r.1 s.1)
    where
      seen : find (named k (key_of x)) (y ∷ ys) ≡ Some x
      seen = sym (h (key_of x) g.0) ∙ here x xs g.0

      met : find (named k (key_of y)) (x ∷ xs) ≡ Some y
      met = h (key_of y) d.0 ∙ here y ys d.0

      go : (v : Ordering) → position k (key_of x) (key_of y) ≡ v → (((n : List ℕ) → k.lawful n ≡ true → find (named k n) xs ≡ find (named k n) ys) → xs ≡ ys) → x ∷ xs ≡ y ∷ ys
      go Less e f =
          let none = absent (key_of x) x (y ∷ ys) g.0 g.0 d (after_is k l (key_of x) (key_of y) g.0 ∙ lt_true _ e, s.1) (alike_self x g.0) in
          let z : None ≡ Some x = sym none ∙ seen in absurd (cc)
      go Greater e f =
          let none = absent (key_of y) y (x ∷ xs) d.0 d.0 g (after_is k l (key_of y) (key_of x) d.0 ∙ lt_true _ (turn_back k l (key_of y) (key_of x) d.0 g.0 e), r.1) (alike_self y d.0) in
          let z : None ≡ Some y = sym none ∙ met in absurd (cc)
      go Equal e f =
          let one : Some y ≡ Some x = sym (rw (equal_alike k l (key_of x) (key_of y) e)) ∙ seen in
          let same : x ≡ y = cc in
          ap₂ (λ (z : List ℕ) (zs : List (List ℕ)). z ∷ zs) same (f rest)
        where
          alike-y : (n : List ℕ) → k.lawful n ≡ true → named k n x ≡ true → named k n y ≡ true
          alike-y n w t = alike_on k l n (key_of y) (key_of x) w d.0 g.0 (eq_sym k l (key_of x) (key_of y) g.0 d.0 e) t

          alike-x : (n : List ℕ) → k.lawful n ≡ true → named k n y ≡ true → named k n x ≡ true
          alike-x n w t = alike_on k l n (key_of x) (key_of y) w g.0 d.0 e t

          rest : (n : List ℕ) → k.lawful n ≡ true → find (named k n) xs ≡ find (named k n) ys
          rest n w =
              by_test (named k n x)
              (λ t. absent n x xs w g.0 g.1 r.1 t ∙ sym (absent n y ys w d.0 d.1 s.1 (alike-y n w t)))
              (λ t. let q : named k n y ≡ false = by_test (named k n y) (λ v. never _ (alike-x n w v) t) (λ v. v) in
              let z = h n w in sym (rw t) ∙ z ∙ rw q)

  -- an index of what is left is the index without what was taken out
  pub indexed-without : (n : List ℕ) (rs : List (List ℕ)) → k.lawful n ≡ true → Good k rs → indexed k (filter (λ r. not (named k n r)) rs) ≡ without k n (indexed k rs)
  indexed-without n rs w g =
      let left = filter (λ r. not (named k n r)) rs in
      let good_left = all_kept_by (λ r. not (named k n r)) _ rs g in
      let good = good_indexed k l rs g in
      let rises = rising_indexed k l rs g in
      same_records [] [] (indexed k left) (filter (λ r. not (named k n r)) (indexed k rs))
      (good_indexed k l left good_left) (all_kept_by (λ r. not (named k n r)) _ (indexed k rs) good)
      (rising_indexed k l left good_left) (rising_kept k l (λ r. not (named k n r)) [] (indexed k rs) tt good rises)
      (λ m x. find-indexed k l m left x good_left ∙ find-without n m rs w x g
      ∙ ap (λ (v : Option (List ℕ)). cond (is_alike k n m) None v) (sym (find-indexed k l m rs x g))
      ∙ sym (find-without n m (indexed k rs) w x good))
      ∙ sym (without_is n [] (indexed k rs) w good rises)
