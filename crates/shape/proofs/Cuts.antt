-- Records in rising hash: those under a prefix are those of its low half, then those of its high half.
use Rattle.std.proofs.Common.{◌≡◌, ℕ, zero, suc, ◌+◌, ◌*◌, ◌/◌, ◌^◌, ◌<◌, ◌≤◌, Bool, true, false, eqb, List, [], ◌∷◌, ◌++◌, length, get_or, take, drop, filter, sym, refl, ap, ◌∙◌, subst, ⊎_elim, arith}
use Rattle.std.specs.List.{AllByRecursion}
use Rattle.std.proofs.lemmas.Nat.{le-div, pow_pos, div-add-mod'}
use Rattle.std.proofs.ByRecursion.{All-get_or, All-weaker}
use Rattle.std.proofs.lemmas.Bool.{cases_eq, cases_lt, cases_Bool, both_ways, eqb-true, eqb-false, eq-eqb, ne_eqb}
use Rattle.records.proofs.Kept.{kept_yes, kept_no, kept_none, kept_front, kept_back}
use Rattle.shape.specs.Shapes.{Measure, prefix_of, under}
use Rattle.shape.proofs.Halves.{prefix_far}
use Rattle.shape.proofs.Rooms.{half_of}

pub prefix_le : (k g h : ℕ) → g ≤ h → prefix_of k g ≤ prefix_of k h
unfolding prefix_of
prefix_le k g h l = le-div (g / 2 ^ (25 + k)) h (2 ^ (25 + k)) (pow_pos (25 + k)) (omega (arith, div-add-mod' g (2 ^ (25 + k))))

pub prefix_half : (k h : ℕ) → prefix_of (suc k) h ≡ prefix_of k h / 2
prefix_half k h = prefix_far (suc k) h ∙ half_of k (prefix_of 0 h) ∙ ap (λ n. n / 2) (sym (prefix_far k h))

module _ {X : Type 0} (m : Measure X) where
  -- in rising hash
  abbrev pub Up : List X → Type 0
  Up [] = Unit {0}
  Up (x ∷ xs) = AllByRecursion (λ y. m.hash x ≤ m.hash y) xs × Up xs

  pub up_get_or : (xs : List X) (d : X) → Up xs → (i j : ℕ) → i < j → j < length xs → m.hash (get_or xs i d) ≤ m.hash (get_or xs j d)
  up_get_or [] d u i j l b = absurd (omega arith)
  up_get_or (x ∷ xs) d u zero zero l b = absurd (omega arith)
  up_get_or (x ∷ xs) d u zero (suc j) l b = All-get_or (λ y. m.hash x ≤ m.hash y) xs j d (omega arith) u.0
  up_get_or (x ∷ xs) d u (suc i) zero l b = absurd (omega arith)
  up_get_or (x ∷ xs) d u (suc i) (suc j) l b = up_get_or xs d u.1 i j (omega arith) (omega arith)

  -- p passes nothing after the first that q passes: then what either passes is what p passes, and then q
  kept_apart : (p q s : X → Bool) → ((x : X) → q x ≡ true → (p x ≡ false) × (s x ≡ true)) → ((x : X) → p x ≡ true → s x ≡ true) → ((x : X) → p x ≡ false → q x ≡ false → s x ≡ false)
      → ((x y : X) → q x ≡ true → m.hash x ≤ m.hash y → p y ≡ false) → (xs : List X) → Up xs → filter s xs ≡ filter p xs ++ filter q xs
  kept_apart p q s hq hp hn late [] u = refl
  kept_apart p q s hq hp hn late (x ∷ xs) u =
      let ih = kept_apart p q s hq hp hn late xs u.1 in
      ⊎_elim
      (λ (t : p x ≡ true).
      let out : q x ≡ false = ⊎_elim (λ (b : q x ≡ true). absurd (both_ways (p x) (hq x b).0 t)) (λ b. b) (cases_Bool (q x)) in
      kept_yes s x xs (hp x t) ∙ ap (λ ys. x ∷ ys) ih ∙ ap (λ ys. ys ++ filter q xs) (sym (kept_yes p x xs t)) ∙ ap (λ ys. filter p (x ∷ xs) ++ ys) (sym (kept_no q x xs out)))
      (λ (n : p x ≡ false). ⊎_elim
      (λ (t : q x ≡ true).
      let none = kept_none p xs (All-weaker (λ y. m.hash x ≤ m.hash y) (λ y. p y ≡ false) (λ y l. late x y t l) xs u.0) in
      kept_yes s x xs (hq x t).1 ∙ ap (λ ys. x ∷ ys) (ih ∙ ap (λ ys. ys ++ filter q xs) none) ∙ sym (ap (λ ys. ys ++ filter q (x ∷ xs)) (kept_no p x xs n ∙ none) ∙ kept_yes q x xs t))
      (λ (f : q x ≡ false).
      kept_no s x xs (hn x n f) ∙ ih ∙ sym (ap (λ ys. ys ++ filter q (x ∷ xs)) (kept_no p x xs n) ∙ ap (λ ys. filter p xs ++ ys) (kept_no q x xs f)))
      (cases_Bool (q x)))
      (cases_Bool (p x))

  pub under_halves : (k p : ℕ) (rs : List X) → Up rs → under m (suc k) p rs ≡ under m k (2 * p) rs ++ under m k (2 * p + 1) rs
  unfolding under
  under_halves k p rs u = kept_apart
      (λ r. eqb (prefix_of k (m.hash r)) (2 * p)) (λ r. eqb (prefix_of k (m.hash r)) (2 * p + 1)) (λ r. eqb (prefix_of (suc k) (m.hash r)) p)
      (λ x t. let e = eqb-true _ _ t in (ne_eqb _ _ (λ (z : prefix_of k (m.hash x) ≡ 2 * p). omega arith), eq-eqb _ _ (omega (arith, prefix_half k (m.hash x)))))
      (λ x t. let e = eqb-true _ _ t in eq-eqb _ _ (omega (arith, prefix_half k (m.hash x))))
      (λ x a b. ne_eqb _ _ (λ (z : prefix_of (suc k) (m.hash x) ≡ p).
      let na = eqb-false _ _ a in let nb = eqb-false _ _ b in
      ⊎_elim (λ (e : prefix_of k (m.hash x) ≡ 2 * p). na e) (λ (e : prefix_of k (m.hash x) ≡ 2 * p → ⊥). nb (omega (arith, prefix_half k (m.hash x)))) (cases_eq (prefix_of k (m.hash x)) (2 * p))))
      (λ x y t l. ne_eqb _ _ (λ (z : prefix_of k (m.hash y) ≡ 2 * p). let e = eqb-true _ _ t in absurd (omega (arith, prefix_le k (m.hash x) (m.hash y) l))))
      rs u

  -- where the low half ends: n records are in it, and the next, if any, is not
  module _ (k p : ℕ) (rs : List X) (d : X) (u : Up rs) (all : AllByRecursion (λ r. prefix_of (suc k) (m.hash r) ≡ p) rs) (n : ℕ) (within : n ≤ length rs)
      (low : (i : ℕ) → i < n → prefix_of k (m.hash (get_or rs i d)) ≡ 2 * p) (next : n < length rs → prefix_of k (m.hash (get_or rs n d)) ≡ 2 * p → ⊥) where
    high : (i : ℕ) → n ≤ i → i < length rs → prefix_of k (m.hash (get_or rs i d)) ≡ 2 * p + 1
    high i l b =
        let h = m.hash (get_or rs i d) in
        let e = All-get_or (λ r. prefix_of (suc k) (m.hash r) ≡ p) rs i d b all in
        let e0 = All-get_or (λ r. prefix_of (suc k) (m.hash r) ≡ p) rs n d (omega arith) all in
        let ne : prefix_of k h ≡ 2 * p → ⊥ = λ z. ⊎_elim
        (λ (q : i ≡ n). next (omega arith) (subst (λ j. prefix_of k (m.hash (get_or rs j d)) ≡ 2 * p) q z))
        (λ (q : i ≡ n → ⊥).
        let le = prefix_le k (m.hash (get_or rs n d)) h (up_get_or rs d u n i (⊎_elim (λ (x : n < i). x) (λ (x : i ≤ n). absurd (q (omega arith))) (cases_lt n i)) b) in
        next (omega arith) (omega (arith, prefix_half k (m.hash (get_or rs n d)), prefix_half k h)))
        (cases_eq i n) in
        omega (arith, prefix_half k h)

    pub cut_low : take n rs ≡ under m k (2 * p) rs
    unfolding under
    cut_low = sym (kept_front (λ r. eqb (prefix_of k (m.hash r)) (2 * p)) rs n d within (λ i l. eq-eqb _ _ (low i l)) (λ i l b. ne_eqb _ _ (λ (z : prefix_of k (m.hash (get_or rs i d)) ≡ 2 * p). omega (arith, high i l b))))

    pub cut_high : drop n rs ≡ under m k (2 * p + 1) rs
    unfolding under
    cut_high = sym (kept_back (λ r. eqb (prefix_of k (m.hash r)) (2 * p + 1)) rs n d within (λ i l. ne_eqb _ _ (λ (z : prefix_of k (m.hash (get_or rs i d)) ≡ 2 * p + 1). omega (arith, low i l))) (λ i l b. eq-eqb _ _ (high i l b)))
