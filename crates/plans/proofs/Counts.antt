-- How many records an index can hold.
use Rattle.std.proofs.Common.{◌≡◌, ℕ, zero, suc, ◌+◌, ◌*◌, ◌^◌, ◌≤◌, true, eqb, List, [], ◌∷◌, length, sum_by, sym, ap, ◌∙◌, add-one, arith}
use Rattle.std.proofs.lemmas.Nat.{div_below, pow-add}
use Rattle.std.proofs.ByRecursion.{All-from_get_or}
use Rattle.std.proofs.lemmas.List.Sums.{sum_by-cons}
use Rattle.std.proofs.lemmas.Bool.{eq-eqb}
use Rattle.kinds.specs.Kinds.{Kind, Bounded}
use Rattle.records.specs.Records.{key_of, weight}
use Rattle.records.specs.Searches.{key_at, Sorted}
use Rattle.records.proofs.Kept.{kept_all}
use Rattle.shape.specs.Shapes.{Measure, under, prefix_of, load, Held}
use Rattle.shape.specs.Keyed.{by_key}
use Rattle.shape.proofs.Halves.{held_here, held_low, held_high}
use Rattle.shape.proofs.Leaves.{load_halves}

load_held : {X : Type 0} (m : Measure X) (k p : ℕ) (rs : List X) → Held m k p rs → load m k p rs ≤ 504 * 2 ^ k
load_held m zero p rs h = omega (arith, held_here m rs p h)
load_held m (suc k) p rs h =
    let e : 2 ^ suc k ≡ 2 ^ k * 2 = ap (λ j. 2 ^ j) (sym (add-one k)) ∙ pow-add 2 k 1 in
    omega (arith, e, load_halves m k p rs, load_held m k (2 * p) rs (held_low m rs k p h), load_held m k (2 * p + 1) rs (held_high m rs k p h))

light_each : (rs : List (List ℕ)) → 4 * length rs ≤ sum_by weight rs
light_each [] = omega arith
light_each (r ∷ rs) = omega (arith, sum_by-cons weight r rs, light_each rs)

module _ (kind : Kind) (bounded : Bounded kind) (rs : List (List ℕ)) (s : Sorted kind rs) where
  -- all hashes begin with the empty prefix
  all_under : under (by_key kind) 7 0 rs ≡ rs
  unfolding under prefix_of
  all_under =
      kept_all (λ r. eqb (prefix_of 7 (kind.hash (key_of r))) 0) rs
      (All-from_get_or (λ r. eqb (prefix_of 7 (kind.hash (key_of r))) 0 ≡ true) rs []
      (λ i l. eq-eqb _ _ (let h = bounded.narrow (key_at rs i) (s.keyed i l) in let d = div_below (kind.hash (key_at rs i)) (2 ^ 32) 1 (omega arith) (omega arith) in omega arith)))

  pub few_records : Held (by_key kind) 7 0 rs → length rs ≤ 16128
  few_records h = omega (arith, light_each rs, ap (sum_by weight) all_under, load_held (by_key kind) 7 0 rs h)
