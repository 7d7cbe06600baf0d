-- The first of a list that passes a test.
use Rattle.std.proofs.Common.{◌≡◌, Bool, true, false, List, [], ◌∷◌, is_some, Some, None, Option, sym, refl, ap, ◌∙◌}
use Rattle.std.specs.List.{AllByRecursion}
use Rattle.model.specs.Trees.{find}

pub by_test : {X : Type 0} (b : Bool) → (b ≡ true → X) → (b ≡ false → X) → X
by_test true f g = f refl
by_test false f g = g refl

pub never : {X : Type 0} (b : Bool) → b ≡ true → b ≡ false → X
never b p q = absurd (cc)

module _ {X : Type 0} (test : X → Bool) where
  pub found_passes : (xs : List X) (x : X) → find test xs ≡ Some x → test x ≡ true
  found_passes [] x e = absurd (cc)
  found_passes (y ∷ ys) x e =
      by_test (test y) (λ t. let z : Some y ≡ Some x = rw t at e in let w : y ≡ x = cc in ap test (sym w) ∙ t) (λ t. found_passes ys x (rw t at e))

  pub found_all : (P : X → Type 0) (xs : List X) (x : X) → AllByRecursion P xs → find test xs ≡ Some x → P x
  found_all P [] x h e = absurd (cc)
  found_all P (y ∷ ys) x h e =
      by_test (test y) (λ t. let z : Some y ≡ Some x = rw t at e in let w : y ≡ x = cc in rw (← w) h.0) (λ t. found_all P ys x h.1 (rw t at e))

  pub none_passes : (xs : List X) → is_some (find test xs) ≡ false → AllByRecursion (λ x. test x ≡ false) xs
  none_passes [] e = tt
  none_passes (y ∷ ys) e = by_test (test y) (λ t. never _ refl (rw t at e)) (λ t. (t, none_passes ys (rw t at e)))

pub some_is : {X : Type 0} (o : Option X) → is_some o ≡ true → (x : X) × (o ≡ Some x)
some_is None e = never _ e refl
some_is (Some x) e = (x, refl)
