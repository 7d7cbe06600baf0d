-- What a choice between something and nothing tells.
use Rattle.std.proofs.Common.{◌≡◌, Bool, true, false, cond, Some, None, Ok, Err, Result, refl, arith, MatchResult}

pub some_told : {X : Type 0} (b : Bool) (x y : X) → Some x ≡ cond b (Some y) None → (b ≡ true) × (x ≡ y)
some_told true x y e = (refl, cc)
some_told false x y e = absurd (grind arith)

pub none_told : {X : Type 0} (b : Bool) (y : X) → None ≡ cond b (Some y) None → b ≡ false
none_told true y e = absurd (grind arith)
none_told false y e = refl

-- an answer that is never an error
pub never_err : {X Y : Type 0} (r : Result X Y) (P : X → Type 0) (Q : Result X Y → Type 0) → ((x : X) → P x → Q (Ok x)) → MatchResult r P (λ _. ⊥) → Q r
never_err (Ok x) P Q f h = f x h
never_err (Err y) P Q f h = absurd h
