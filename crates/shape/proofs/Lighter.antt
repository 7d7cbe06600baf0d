-- Records that can be held, as a test; and records that weigh no more than others.
use Rattle.std.proofs.Common.{◌≡◌, ℕ, zero, suc, ◌+◌, ◌*◌, ◌≤◌, true, false, List, Decides, ⊎_elim, arith}
use Rattle.std.proofs.lemmas.Bool.{cases_Bool, cond_both, leb-true, leb-false, le-leb, or_cases, or_right, and_parts, and_from}
use Rattle.shape.specs.Shapes.{Measure, load, is_light, Held, buckets}
use Rattle.shape.specs.Holding.{is_held}
use Rattle.shape.proofs.Halves.{held_light, held_here, held_both, held_low, held_high}

module _ {X : Type 0} (m : Measure X) (rs : List X) where
  held_from_test : (k p : ℕ) → is_held m k p rs ≡ true → Held m k p rs
  unfolding is_held
  held_from_test zero p t = held_light m rs 0 p (leb-true _ _ t)
  held_from_test (suc k) p t =
      ⊎_elim
      (λ l. held_light m rs (suc k) p (leb-true _ _ l))
      (λ b. let parts = and_parts _ _ b in held_both m rs k p (held_from_test k (2 * p) parts.0) (held_from_test k (2 * p + 1) parts.1))
      (or_cases _ _ t)

  test_from_held : (k p : ℕ) → Held m k p rs → is_held m k p rs ≡ true
  unfolding is_held
  test_from_held zero p h = le-leb _ _ (held_here m rs p h)
  test_from_held (suc k) p h =
      or_right _ _ (and_from _ _ (test_from_held k (2 * p) (held_low m rs k p h)) (test_from_held k (2 * p + 1) (held_high m rs k p h)))

  -- the test tells whether they can be held
  pub decides_held : (k p : ℕ) → Decides (is_held m k p rs) (Held m k p rs)
  decides_held k p = (held_from_test k p, test_from_held k p)

  buckets_some : (k p : ℕ) → 1 ≤ buckets m k p rs
  unfolding buckets
  buckets_some zero p = omega arith
  buckets_some (suc k) p =
      cond_both (is_light m (suc k) p rs) 1 (buckets m k (2 * p) rs + buckets m k (2 * p + 1) rs) (λ n. 1 ≤ n)
      (λ _. omega arith) (λ _. omega (arith, buckets_some k (2 * p)))

-- no prefix of rs is heavier than that of ss
module _ {X : Type 0} (m : Measure X) (rs ss : List X) (less : (k p : ℕ) → load m k p rs ≤ load m k p ss) where
  pub held_less : (k p : ℕ) → Held m k p ss → Held m k p rs
  held_less k p h q e = omega (arith, less 0 q, h q e)

  pub buckets_less : (k p : ℕ) → buckets m k p rs ≤ buckets m k p ss
  unfolding buckets
  buckets_less zero p = omega arith
  buckets_less (suc k) p =
      let low = buckets_less k (2 * p) in
      let high = buckets_less k (2 * p + 1) in
      let some = buckets_some m ss k (2 * p) in
      let w = less (suc k) p in
      ⊎_elim
      (λ (t : is_light m (suc k) p rs ≡ true).
      rw t (cond_both (is_light m (suc k) p ss) 1 (buckets m k (2 * p) ss + buckets m k (2 * p + 1) ss) (λ n. 1 ≤ n) (λ _. omega arith) (λ _. omega arith)))
      (λ (f : is_light m (suc k) p rs ≡ false).
      let heavy = leb-false (load m (suc k) p rs) 504 f in
      ⊎_elim
      (λ (t : is_light m (suc k) p ss ≡ true). absurd (omega (arith, leb-true (load m (suc k) p ss) 504 t)))
      (λ (g : is_light m (suc k) p ss ≡ false). rw (f, g) (omega arith))
      (cases_Bool (is_light m (suc k) p ss)))
      (cases_Bool (is_light m (suc k) p rs))
