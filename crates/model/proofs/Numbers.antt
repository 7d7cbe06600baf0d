-- Objects by their numbers, which fall.
use Rattle.std.proofs.Common.{◌≡◌, ℕ, ◌<◌, ◌≤◌, Bool, true, false, not, List, [], ◌∷◌, map, length, is_some, Some, filter, sym, refl, ◌∙◌, arith}
use Rattle.std.specs.Option.{option_map}
use Rattle.std.specs.List.{AllByRecursion}
use Rattle.std.proofs.lemmas.Bool.{eqb-true, eq-eqb, ne_eqb}
use Rattle.model.specs.Trees.{Object, numbered, find}
use Rattle.model.specs.Soundness.{Falling}
use Rattle.model.proofs.Finds.{by_test, never}

falling_from : (m n : ℕ) (os : List Object) → m ≤ n → Falling m os → Falling n os
falling_from m n [] h f = tt
falling_from m n (o ∷ os) h f = (let q = f.0 in omega arith, f.1)

pub falling_kept : (test : Object → Bool) (n : ℕ) (os : List Object) → Falling n os → Falling n (filter test os)
falling_kept test n [] f = tt
falling_kept test n (o ∷ os) f =
    by_test (test o)
    (λ e. rw e (f.0, falling_kept test o.number os f.1))
    (λ e. rw e (falling_from o.number n (filter test os) (let q = f.0 in omega arith) (falling_kept test o.number os f.1)))

pub falling_below : (n : ℕ) (os : List Object) → Falling n os → AllByRecursion (λ o. o.number < n) os
falling_below n [] f = tt
falling_below n (o ∷ os) f = (f.0, falling_below n os (falling_from o.number n os (let q = f.0 in omega arith) f.1))

-- each object is found by its number
pub by_number : (n : ℕ) (os : List Object) → Falling n os → AllByRecursion (λ o. find (numbered o.number) os ≡ Some o) os
by_number n [] f = tt
by_number n (o ∷ os) f =
    (rw (eq-eqb o.number o.number refl), go os (falling_below o.number os f.1) (by_number o.number os f.1))
  where
    go : (ps : List Object) → AllByRecursion (λ p. p.number < o.number) ps → AllByRecursion (λ p. find (numbered p.number) os ≡ Some p) ps → AllByRecursion (λ p. find (numbered p.number) (o ∷ os) ≡ Some p) ps
    go [] b h = tt
    go (p ∷ ps) b h = (let q = b.0 in rw (ne_eqb o.number p.number (λ e. omega arith)) h.0, go ps b.1 h.1)

-- a change of objects that a test does not see
module _ (test : Object → Bool) (change : Object → Object) (kept : (o : Object) → test (change o) ≡ test o) where
  pub find-map : (os : List Object) → find test (map change os) ≡ option_map change (find test os)
  find-map [] = refl
  find-map (o ∷ os) = by_test (test o) (λ e. rw (kept o, e)) (λ e. rw (kept o, e) (find-map os))

-- what is found is not among those that are taken out
pub find_kept : (test out : Object → Bool) → ((o : Object) → test o ≡ true → out o ≡ false) → (os : List Object) → find test (filter (λ o. not (out o)) os) ≡ find test os
find_kept test out h [] = refl
find_kept test out h (o ∷ os) =
    by_test (out o)
    (λ e. rw e (by_test (test o) (λ t. never _ e (h o t)) (λ t. rw t (find_kept test out h os))))
    (λ e. rw e (by_test (test o) (λ t. rw t) (λ t. rw t (find_kept test out h os))))

other_number : (m n : ℕ) → (m ≡ n → ⊥) → (o : Object) → numbered m o ≡ true → numbered n o ≡ false
other_number m n h o e = ne_eqb o.number n (λ z. h (sym (eqb-true o.number m e) ∙ z))

pub find_other : (m n : ℕ) → (m ≡ n → ⊥) → (os : List Object) → find (numbered m) (filter (λ o. not (numbered n o)) os) ≡ find (numbered m) os
find_other m n h os = find_kept (numbered m) (numbered n) (other_number m n h) os

pub shorter : (n : ℕ) (os : List Object) → is_some (find (numbered n) os) ≡ true → length (filter (λ o. not (numbered n o)) os) < length os
shorter n [] e = never _ e refl
shorter n (o ∷ os) e =
    by_test (numbered n o)
    (λ t. rw t (let h = fewer os in omega arith))
    (λ t. rw t (let h = shorter n os (rw t at e) in omega arith))
  where
    fewer : (os : List Object) → length (filter (λ o. not (numbered n o)) os) ≤ length os
    fewer [] = omega arith
    fewer (p ∷ ps) = by_test (numbered n p) (λ t. rw t (let h = fewer ps in omega arith)) (λ t. rw t (let h = fewer ps in omega arith))
