-- Loads as sums over all records.
use Rattle.std.proofs.Common.{◌≡◌, ℕ, ◌+◌, ◌<◌, ◌≤◌, Bool, eqb, List, [], ◌∷◌, length, get_or, take, sum_by, filter, sym, refl, ap, ◌∙◌, ⊎_elim, arith}
use Rattle.std.proofs.lemmas.List.Sums.{sum_by-cons, sum_by_more, sum_by-take-le}
use Rattle.std.proofs.lemmas.Bool.{cases_Bool, cond-true, cond-false}
use Rattle.std.proofs.lemmas.Bool.Decides.{nat_tests}
use Rattle.shape.specs.Shapes.{Measure, prefix_of, under, weight_under, load}

module _ {X : Type 0} (m : Measure X) where
  load_cons : (k p : ℕ) (r : X) (rs : List X) → load m k p (r ∷ rs) ≡ weight_under m k p r + load m k p rs
  unfolding under
  load_cons k p r rs = ⊎_elim
      (λ t. ap (sum_by m.weight) (cond-true (q r) (r ∷ filter q rs) (filter q rs) t) ∙ sum_by-cons m.weight r (filter q rs) ∙ ap (λ n. n + sum_by m.weight (filter q rs)) (sym (cond-true (q r) (m.weight r) 0 t)))
      (λ f. ap (sum_by m.weight) (cond-false (q r) (r ∷ filter q rs) (filter q rs) f) ∙ sym (ap (λ n. n + sum_by m.weight (filter q rs)) (cond-false (q r) (m.weight r) 0 f) ∙ omega arith))
      (cases_Bool (q r))
    where
      q : X → Bool
      q x = eqb (prefix_of k (m.hash x)) p

  pub load_none : (k p : ℕ) → load m k p [] ≡ 0
  unfolding under
  load_none k p = refl

  pub load_parts : (k p : ℕ) (rs : List X) → load m k p rs ≡ sum_by (weight_under m k p) rs
  load_parts k p [] = load_none k p
  load_parts k p (r ∷ rs) = load_cons k p r rs ∙ ap (λ n. weight_under m k p r + n) (load_parts k p rs) ∙ sym (sum_by-cons (weight_under m k p) r rs)

  pub load_more : (k p : ℕ) (rs : List X) (i : ℕ) (d : X) → i < length rs → load m k p (take (i + 1) rs) ≡ load m k p (take i rs) + weight_under m k p (get_or rs i d)
  load_more k p rs i d l =
      load_parts k p (take (i + 1) rs) ∙ sum_by_more (weight_under m k p) rs i d l ∙ ap (λ n. n + weight_under m k p (get_or rs i d)) (sym (load_parts k p (take i rs)))

  pub load-take : (k p : ℕ) (rs : List X) (i : ℕ) → load m k p (take i rs) ≤ load m k p rs
  load-take k p rs i = omega (arith, load_parts k p (take i rs), load_parts k p rs, sum_by-take-le (weight_under m k p) rs i)

  sum_le : (f g : X → ℕ) → ((x : X) → f x ≤ g x) → (rs : List X) → sum_by f rs ≤ sum_by g rs
  sum_le f g h [] = omega arith
  sum_le f g h (r ∷ rs) = omega (arith, sum_by-cons f r rs, sum_by-cons g r rs, h r, sum_le f g h rs)

  -- a longer prefix weighs no more
  pub load_longer : (j q k p : ℕ) → ((h : ℕ) → prefix_of j h ≡ q → prefix_of k h ≡ p) → (rs : List X) → load m j q rs ≤ load m k p rs
  load_longer j q k p f rs = omega (arith, load_parts j q rs, load_parts k p rs, sum_le (weight_under m j q) (weight_under m k p) less rs)
    where
      less : (x : X) → weight_under m j q x ≤ weight_under m k p x
      less x = let g = f (m.hash x) in grind (arith, nat_tests, g)
