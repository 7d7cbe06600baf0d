-- What follows from a kind's laws for positions.
use Rattle.std.proofs.Common.{◌≡◌, ℕ, Bool, true, ◌≢◌, List, Ordering, Less, Equal, Greater, arith}
use Rattle.std.proofs.lemmas.Bool.Decides.{nat_tests}
use Rattle.kinds.specs.Kinds.{Kind, TotalOrder, AlikeHash, position}

pub less_onward : {lawful : List ℕ → Bool} {order : List ℕ → List ℕ → Ordering} → TotalOrder lawful order → (a b c : List ℕ) → lawful a ≡ true → lawful b ≡ true → lawful c ≡ true → order a b ≡ Less → order b c ≢ Greater → order a c ≡ Less
less_onward o a b c la lb lc p q =
    let onto = o.onward a b c la lb lc in
    let back = o.onward b c a lb lc la in
    let m = o.mirrored a b la lb in
    let n = o.mirrored a c la lc in
    grind arith

module _ (kind : Kind) where
  -- positions are a total order too
  pub position-total : TotalOrder kind.lawful kind.order → TotalOrder kind.lawful (position kind)
  position-total o = record {
    self = λ a la. let e = o.self a la in grind (arith, nat_tests);
    mirrored = λ a b la lb. let e = o.mirrored a b la lb in grind (arith, nat_tests);
    onward = λ a b c la lb lc p q. let e = o.onward a b c la lb lc in grind (arith, nat_tests);
  }

  -- lawful keys that are alike have the same position
  pub alike-position : AlikeHash kind → (a b : List ℕ) → kind.lawful a ≡ true → kind.lawful b ≡ true → kind.order a b ≡ Equal → position kind a b ≡ Equal
  alike-position level a b la lb e = let h = level a b la lb e in grind (arith, nat_tests)
