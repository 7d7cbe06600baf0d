use Rattle.std.proofs.Common.{◌≡◌, ℕ, zero, suc, ◌+◌, ◌<◌, List, get_or, sym, subst, arith}
use Rattle.std.specs.Array.{IsFromFnResult, IsFromFnResultFrom}
use denote.Param.Members.{Mut, Called}

module _ {F B : Type 0} {g : Mut F (ℕ × Unit {0}) B} (P : ℕ → B → Type 0) where
  each_from : (f : F) → ((i : ℕ) (y : B) (q : F) → Called g f (i, tt) y q → (q ≡ f) × P i y) → (ys : List B) (i n : ℕ) → IsFromFnResultFrom g f ys i n → (k j : ℕ) (d : B) → k < n → j ≡ i + k → P j (get_or ys j d)
  each_from f step ys i zero h k j d l e = absurd (omega arith)
  each_from f step ys i (suc n) (q, y, at, call, rest) zero j d l e =
      let here : j ≡ i = omega arith in
      subst (λ m. P m (get_or ys m d)) (sym here) (subst (P i) (sym (at.1 d)) (step i y q call).1)
  each_from f step ys i (suc n) (q, y, at, call, rest) (suc k) j d l e =
      each_from f step ys (i + 1) n (subst (λ s. IsFromFnResultFrom g s ys (i + 1) n) (step i y q call).0 rest) k j d (omega arith) (omega arith)

  -- what each call of a closure gives that changes nothing, each element is
  pub from_fn_each : {f : F} {ys : List B} {n : ℕ} → IsFromFnResult g f ys n → ((i : ℕ) (y : B) (q : F) → Called g f (i, tt) y q → (q ≡ f) × P i y) → (i : ℕ) (d : B) → i < n → P i (get_or ys i d)
  from_fn_each {f} {ys} {n} made step i d l = each_from f step ys 0 n made.each i i d l (omega arith)
