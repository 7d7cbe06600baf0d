-- A list after a part of it was replaced, as the lemmas on slices spell it.
use Rattle.std.specs.Prelude.{Bool, true, if◌then◌else◌, nat_le}
use Rattle.std.proofs.Common.{◌≡◌, ℕ, ◌+◌, ◌≤◌, List, ◌++◌, length, take, drop, sym, ap, ◌∙◌, append_assoc, arith, length-append, length-take, length-drop}
use Rattle.std.specs.List.{replace_range}
use borrow.Rule.Slice.PartMut.{put_mid}
use Rattle.std.proofs.lemmas.Bool.{le-leb}
use Rattle.std.proofs.lemmas.List.{drop-drop}

pub replace_range-put_mid : (xs ys : List ℕ) (at k : ℕ) → replace_range xs at (at + k) ys ≡ put_mid at k xs ys
replace_range-put_mid xs ys at k = append_assoc (take at xs) ys (drop (at + k) xs) ∙ ap (λ zs. take at xs ++ (ys ++ zs)) (sym (drop-drop k at xs))

-- what reaches to the end at most is written, and the length stays
pub served : (xs ys after : List ℕ) (at : ℕ) (told : Bool) → told ≡ nat_le (at + length ys) (length xs) → after ≡ (if told then replace_range xs at (at + length ys) ys else xs) → at + length ys ≤ length xs → (told ≡ true) × (after ≡ replace_range xs at (at + length ys) ys) × (length after ≡ length xs)
served xs ys after at told e p l =
    let t : told ≡ true = e ∙ le-leb _ _ l in
    let is : after ≡ replace_range xs at (at + length ys) ys = p ∙ ap (λ (b : Bool). if b then replace_range xs at (at + length ys) ys else xs) t in
    let len : length (replace_range xs at (at + length ys) ys) ≡ length xs = omega (arith, length-append {A = ℕ}, length-take {A = ℕ}, length-drop {A = ℕ}) in
    (t, is, ap length is ∙ len)
