-- What a test keeps of a list.
use Rattle.std.proofs.Common.{◌≡◌, ℕ, zero, suc, ◌<◌, ◌≤◌, Bool, true, false, List, [], ◌∷◌, length, get_or, take, drop, filter, refl, ap, ◌∙◌, arith}
use Rattle.std.specs.List.{AllByRecursion}
use Rattle.std.proofs.lemmas.Bool.{cond-true, cond-false}

module _ {X : Type 0} where
  pub kept_yes : (p : X → Bool) (x : X) (xs : List X) → p x ≡ true → filter p (x ∷ xs) ≡ x ∷ filter p xs
  kept_yes p x xs t = cond-true (p x) (x ∷ filter p xs) (filter p xs) t

  pub kept_no : (p : X → Bool) (x : X) (xs : List X) → p x ≡ false → filter p (x ∷ xs) ≡ filter p xs
  kept_no p x xs t = cond-false (p x) (x ∷ filter p xs) (filter p xs) t

  pub kept_none : (p : X → Bool) (xs : List X) → AllByRecursion (λ x. p x ≡ false) xs → filter p xs ≡ []
  kept_none p [] h = refl
  kept_none p (x ∷ xs) h = kept_no p x xs h.0 ∙ kept_none p xs h.1

  pub kept_all : (p : X → Bool) (xs : List X) → AllByRecursion (λ x. p x ≡ true) xs → filter p xs ≡ xs
  kept_all p [] h = refl
  kept_all p (x ∷ xs) h = let ih = kept_all p xs h.1 in grind arith

  -- two tests that agree on each element
  pub kept_same : (p q : X → Bool) (xs : List X) → AllByRecursion (λ x. p x ≡ q x) xs → filter p xs ≡ filter q xs
  kept_same p q [] h = refl
  kept_same p q (x ∷ xs) h = let ih = kept_same p q xs h.1 in grind arith

  -- the order of two tests does not matter
  pub kept_comm : (p q : X → Bool) (xs : List X) → filter p (filter q xs) ≡ filter q (filter p xs)
  kept_comm p q [] = refl
  kept_comm p q (x ∷ xs) = let ih = kept_comm p q xs in grind arith

  pub all-every : (P : X → Type 0) → ((x : X) → P x) → (xs : List X) → AllByRecursion P xs
  all-every P f [] = tt
  all-every P f (x ∷ xs) = (f x, all-every P f xs)

  -- a test that passes no element but those that a second one passes
  pub kept_within : (p q : X → Bool) (xs : List X) → AllByRecursion (λ x. p x ≡ true → q x ≡ true) xs → filter p (filter q xs) ≡ filter p xs
  kept_within p q [] h = refl
  kept_within p q (x ∷ xs) h = let ih = kept_within p q xs h.1 in let here = h.0 in grind arith

  pub kept_kept : (p q : X → Bool) → ((x : X) → p x ≡ true → q x ≡ true) → (xs : List X) → filter p (filter q xs) ≡ filter p xs
  kept_kept p q h xs = kept_within p q xs (all-every (λ x. p x ≡ true → q x ≡ true) h xs)

  -- the first n pass, and no later one
  pub kept_front : (p : X → Bool) (xs : List X) (n : ℕ) (d : X) → n ≤ length xs → ((i : ℕ) → i < n → p (get_or xs i d) ≡ true) → ((i : ℕ) → n ≤ i → i < length xs → p (get_or xs i d) ≡ false) → filter p xs ≡ take n xs
  kept_front p [] zero d l passes fails = refl
  kept_front p [] (suc n) d l passes fails = absurd (omega arith)
  kept_front p (x ∷ xs) zero d l passes fails = kept_no p x xs (fails 0 (omega arith) (omega arith)) ∙ kept_front p xs zero d (omega arith) (λ i h. absurd (omega arith)) (λ i h k. fails (suc i) (omega arith) (omega arith))
  kept_front p (x ∷ xs) (suc n) d l passes fails = kept_yes p x xs (passes 0 (omega arith)) ∙ ap (λ ys. x ∷ ys) (kept_front p xs n d (omega arith) (λ i h. passes (suc i) (omega arith)) (λ i h k. fails (suc i) (omega arith) (omega arith)))

  -- the first n do not, and each later one does
  pub kept_back : (p : X → Bool) (xs : List X) (n : ℕ) (d : X) → n ≤ length xs → ((i : ℕ) → i < n → p (get_or xs i d) ≡ false) → ((i : ℕ) → n ≤ i → i < length xs → p (get_or xs i d) ≡ true) → filter p xs ≡ drop n xs
  kept_back p [] zero d l fails passes = refl
  kept_back p [] (suc n) d l fails passes = absurd (omega arith)
  kept_back p (x ∷ xs) zero d l fails passes = kept_yes p x xs (passes 0 (omega arith) (omega arith)) ∙ ap (λ ys. x ∷ ys) (kept_back p xs zero d (omega arith) (λ i h. absurd (omega arith)) (λ i h k. passes (suc i) (omega arith) (omega arith)))
  kept_back p (x ∷ xs) (suc n) d l fails passes = kept_no p x xs (fails 0 (omega arith)) ∙ kept_back p xs n d (omega arith) (λ i h. fails (suc i) (omega arith)) (λ i h k. passes (suc i) (omega arith) (omega arith))

  -- just the one at n does
  pub kept_one : (p : X → Bool) (xs : List X) (n : ℕ) (d : X) → n < length xs → p (get_or xs n d) ≡ true → ((i : ℕ) → i < length xs → (i ≡ n → ⊥) → p (get_or xs i d) ≡ false) → filter p xs ≡ get_or xs n d ∷ []
  kept_one p [] n d l passes fails = absurd (omega arith)
  kept_one p (x ∷ xs) zero d l passes fails = kept_yes p x xs passes ∙ ap (λ ys. x ∷ ys) (kept_front p xs zero d (omega arith) (λ i h. absurd (omega arith)) (λ i h k. fails (suc i) (omega arith) (λ e. omega arith)))
  kept_one p (x ∷ xs) (suc n) d l passes fails = kept_no p x xs (fails 0 (omega arith) (λ e. omega arith)) ∙ kept_one p xs n d (omega arith) passes (λ i h ne. fails (suc i) (omega arith) (λ e. ne (omega arith)))
