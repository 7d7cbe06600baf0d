-- What an index holds of the records that were put into it.
use Rattle.std.proofs.Common.{◌≡◌, ℕ, ◌+◌, Bool, true, false, not, List, [], ◌∷◌, sum_by, filter, refl, ap, ◌∙◌, arith}
use Rattle.std.specs.Ordering.{is_lt}
use Rattle.std.specs.List.{AllByRecursion}
use Rattle.std.proofs.ByRecursion.{All-append, all_kept_by}
use Rattle.std.proofs.lemmas.List.Sums.{sum_by-cons, sum_by-append}
use Rattle.kinds.specs.Kinds.{Kind, position}
use Rattle.records.specs.Records.{key_of}
use Rattle.records.specs.Ordered.{before, after, put}
use Rattle.model.specs.Indexes.{indexed}
use Rattle.model.proofs.Finds.{by_test}

module _ (k : Kind) where
  all-put : (P : List ℕ → Type 0) (r : List ℕ) (qs : List (List ℕ)) → P r → AllByRecursion P qs → AllByRecursion P (put k r qs)
  unfolding put before after
  all-put P r qs x g = All-append P _ _ (all_kept_by _ P qs g) (x, all_kept_by _ P qs g)

  pub all-indexed : (P : List ℕ → Type 0) (rs : List (List ℕ)) → AllByRecursion P rs → AllByRecursion P (indexed k rs)
  all-indexed P [] g = tt
  all-indexed P (r ∷ rs) g = all-put P r (indexed k rs) g.0 (all-indexed P rs g.1)

  -- x is before r or after it
  abbrev pub Separate : List ℕ → List ℕ → Type 0
  Separate r x = is_lt (position k (key_of x) (key_of r)) ≡ not (is_lt (position k (key_of r) (key_of x)))

  abbrev pub Separated : List (List ℕ) → Type 0
  Separated [] = Unit {0}
  Separated (r ∷ rs) = AllByRecursion (Separate r) rs × Separated rs

sum_split : {X : Type 0} (g : X → ℕ) (p q : X → Bool) (xs : List X) → AllByRecursion (λ x. p x ≡ not (q x)) xs → sum_by g (filter p xs) + sum_by g (filter q xs) ≡ sum_by g xs
sum_split g p q [] h = refl
sum_split g p q (x ∷ xs) h =
    let e = sum_split g p q xs h.1 in
    let z = sum_by-cons g x xs in
    by_test (q x)
    (λ t. let u : p x ≡ false = h.0 ∙ ap not t in rw (u, t) (let s = sum_by-cons g x (filter q xs) in omega arith))
    (λ t. let u : p x ≡ true = h.0 ∙ ap not t in rw (u, t) (let s = sum_by-cons g x (filter p xs) in omega arith))

module _ (k : Kind) (g : List ℕ → ℕ) where
  sum-put : (r : List ℕ) (qs : List (List ℕ)) → AllByRecursion (Separate k r) qs → sum_by g (put k r qs) ≡ g r + sum_by g qs
  unfolding put before after
  sum-put r qs h =
      let b = filter (λ x. is_lt (position k (key_of x) (key_of r))) qs in
      let a = filter (λ x. is_lt (position k (key_of r) (key_of x))) qs in
      let s = sum_split g (λ x. is_lt (position k (key_of x) (key_of r))) (λ x. is_lt (position k (key_of r) (key_of x))) qs h in
      omega (arith, sum_by-append g b (r ∷ a), sum_by-cons g r a)

  -- nothing is lost where none replaces another
  pub sum-indexed : (rs : List (List ℕ)) → Separated k rs → sum_by g (indexed k rs) ≡ sum_by g rs
  sum-indexed [] h = refl
  sum-indexed (r ∷ rs) h =
      let e = sum-indexed rs h.1 in
      omega (arith, sum-put r (indexed k rs) (all-indexed k (Separate k r) rs h.0), sum_by-cons g r rs)
