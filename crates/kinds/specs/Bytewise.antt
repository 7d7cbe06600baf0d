-- The order of exact names is total, its alike names are equal, and FNV-1a has 32 bits.
use Rattle.std.specs.Prelude.{◌≡◌, ℕ, ◌^◌, ◌<◌, ◌≢◌, List, [], ◌∷◌, fold, refl}
use Rattle.std.specs.declared.cmp.Ordering.TheVariants.{Equal, Greater}
use Rattle.std.proofs.Common.{◌∙◌, arith}
use Rattle.std.specs.Cmp.Lexicographic.{slice_cmp}
use Rattle.std.specs.Ordering.{nat_cmp}
use Rattle.std.proofs.lemmas.Bool.Decides.{nat_tests}
use Rattle.std.proofs.lemmas.Cmp.{nat_list_cmp_total}
use Rattle.std.proofs.lemmas.Map.Lookups.{exact_bytes}
use Rattle.kinds.specs.Kinds.{TotalOrder, turned}
use Rattle.kinds.specs.Names.{is_name, fnv_byte, by_bytes}

-- what the comparison of slices answers
pub by_bytes_is : (a b : List ℕ) → slice_cmp nat_cmp a b ≡ by_bytes a b
by_bytes_is [] [] = refl
by_bytes_is [] (y ∷ ys) = refl
by_bytes_is (x ∷ xs) [] = refl
by_bytes_is (x ∷ xs) (y ∷ ys) = let e = by_bytes_is xs ys in grind (arith, nat_tests)

self : (a : List ℕ) → by_bytes a a ≡ Equal
self a = let e = by_bytes_is a a in let m = nat_list_cmp_total.antisymm a a in grind arith

mirrored : (a b : List ℕ) → by_bytes b a ≡ turned (by_bytes a b)
mirrored a b = let e = by_bytes_is a b in let f = by_bytes_is b a in let m = nat_list_cmp_total.antisymm a b in grind arith

onward : (a b c : List ℕ) → by_bytes a b ≢ Greater → by_bytes b c ≢ Greater → by_bytes a c ≢ Greater
onward a b c p q =
    let e = by_bytes_is a b in
    let f = by_bytes_is b c in
    let g = by_bytes_is a c in
    let less = nat_list_cmp_total.trans a b c in
    let ab = nat_list_cmp_total.congr a b c in
    let cb = nat_list_cmp_total.congr c b a in
    let bc = nat_list_cmp_total.antisymm b c in
    let ac = nat_list_cmp_total.antisymm a c in
    let ba = nat_list_cmp_total.antisymm a b in
    grind arith

pub by_bytes-total : TotalOrder is_name by_bytes
by_bytes-total = record {
  self = λ a l. self a;
  mirrored = λ a b l m. mirrored a b;
  onward = λ a b c l m n p q. onward a b c p q;
}

pub alike_same : (a b : List ℕ) → by_bytes a b ≡ Equal → a ≡ b
alike_same a b e = exact_bytes a b (by_bytes_is a b ∙ e)

pub fnv_narrow : (h : ℕ) (a : List ℕ) → h < 2 ^ 32 → fold fnv_byte h a < 2 ^ 32
fnv_narrow h [] l = l
fnv_narrow h (x ∷ xs) l = fnv_narrow (fnv_byte h x) xs (omega arith)
