-- A list after a write to a part of it, and a number that was written there.
use Rattle.std.proofs.Common.{◌≡◌, ℕ, ◌+◌, ◌*◌, ◌/◌, ◌%◌, ◌^◌, ◌<◌, ◌≤◌, List, length, get_or, sym, ap, ◌∙◌, mod-eq_of_lt, arith, lit<, rules}
use native.Mathlib.Nat.{div-div-eq-div-mul}
use borrow.Rule.Slice.PartMut.{put_mid}
use Rattle.std.proofs.lemmas.Nat.{div-add-mod', div_below}
use Rattle.std.proofs.lemmas.List.{places}
use Rattle.words.specs.BigEndian.{be16, be32, bytes16, bytes32}

-- ys written over the k bytes from `at` on
module _ (xs ys : List ℕ) (at k : ℕ) (fits : at + k ≤ length xs) (whole : length ys ≡ k) where
  pub length-put : length (put_mid at k xs ys) ≡ length xs
  length-put = search (rules, places)

  pub put_below : (i : ℕ) → i < at → get_or (put_mid at k xs ys) i 0 ≡ get_or xs i 0
  put_below i l = search (rules, places)

  pub put_inside : (i j : ℕ) → at + i ≡ j → i < k → get_or (put_mid at k xs ys) j 0 ≡ get_or ys i 0
  put_inside i j e l = let m : i < length ys = omega arith in search (rules, places)

  pub put_above : (i : ℕ) → at + k ≤ i → get_or (put_mid at k xs ys) i 0 ≡ get_or xs i 0
  put_above i l = search (rules, places)

join : (v q r s a b c d : ℕ) → q * 256 + d ≡ v → r * 256 + c ≡ q → s * 256 + b ≡ r → a ≡ s → a * 16777216 + b * 65536 + c * 256 + d ≡ v
join v q r s a b c d e f g h = omega arith

pub value32 : (v : ℕ) → v < 2 ^ 32 → (v / 16777216 % 256) * 16777216 + (v / 65536 % 256) * 65536 + (v / 256 % 256) * 256 + v % 256 ≡ v
value32 v h =
    let small : v / 16777216 < 256 = div_below v 16777216 256 (lit< tt) h in
    join v (v / 256) (v / 65536) (v / 16777216) _ _ _ _
    (div-add-mod' v 256)
    (ap (λ x. x * 256 + v / 256 % 256) (sym (div-div-eq-div-mul v 256 256)) ∙ div-add-mod' (v / 256) 256)
    (ap (λ x. x * 256 + v / 65536 % 256) (sym (div-div-eq-div-mul v 65536 256)) ∙ div-add-mod' (v / 65536) 256)
    (mod-eq_of_lt small)

pub be16-put : (xs : List ℕ) (at k v : ℕ) → at + 2 ≤ length xs → k ≡ 2 → v < 65536 → be16 (put_mid at k xs (bytes16 v)) at ≡ v
be16-put xs at k v fits two small =
    let f : at + k ≤ length xs = omega arith in
    let a = put_inside xs (bytes16 v) at k f (sym two) 0 at (omega arith) (omega arith) in
    let b = put_inside xs (bytes16 v) at k f (sym two) 1 (at + 1) (omega arith) (omega arith) in
    omega arith

pub be32-put : (xs : List ℕ) (at k v : ℕ) → at + 4 ≤ length xs → k ≡ 4 → v < 2 ^ 32 → be32 (put_mid at k xs (bytes32 v)) at ≡ v
be32-put xs at k v fits four small =
    let f : at + k ≤ length xs = omega arith in
    let in_place = put_inside xs (bytes32 v) at k f (sym four) in
    let a = in_place 0 at (omega arith) (omega arith) in
    let b = in_place 1 (at + 1) (omega arith) (omega arith) in
    let c = in_place 2 (at + 2) (omega arith) (omega arith) in
    let d = in_place 3 (at + 3) (omega arith) (omega arith) in
    let e = value32 v small in
    simp (a, b, c, d) e
