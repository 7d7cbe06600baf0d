-- The blocks that differ, one by one, and the target once they are written.
use Rattle.std.proofs.Common.{◌≡◌, ℕ, zero, suc, ◌+◌, ◌<◌, ◌≤◌, true, false, cond, List, [], ◌∷◌, ◌++◌, map, length, get_or, take, drop, set, filter, sym, refl, ap, ◌∙◌, ⊎_elim, add-one, arith, length-append}
use Rattle.std.specs.List.{range_with_len, AllByRecursion}
use Rattle.std.proofs.lemmas.List.FromFn.{filter_of_map_range_with_len_more, length-range_with_len, get_or-range_with_len}
use Rattle.std.proofs.ByRecursion.{All-get_or, All-from_get_or, all_kept_by}
use Rattle.std.proofs.lemmas.Slice.Eq.{bytes_eq-Decides}
use Rattle.std.proofs.lemmas.List.{map-id, append-nil, append_assoc, take_more, take_all, drop_more, length-take-le, set_at}
use Rattle.std.proofs.lemmas.Bool.{cases_Bool, cases_lt, cond-true, cond-false, not-false}
use Rattle.copying.specs.Copies.{differs, differing, laid}

pub differing_more : (xs ys : List (List ℕ)) (n : ℕ) → differing xs ys (n + 1) ≡ differing xs ys n ++ cond (differs xs ys n) (n ∷ []) []
differing_more xs ys n =
    let p = differs xs ys in
    let same : (k : ℕ) → map (λ (x : ℕ). x) (range_with_len 0 k) ≡ range_with_len 0 k = λ k. map-id (range_with_len 0 k) in
    sym (ap (filter p) (same (n + 1))) ∙ filter_of_map_range_with_len_more p (λ (x : ℕ). x) 0 n n (omega arith) ∙ ap (λ zs. filter p zs ++ cond (p n) (n ∷ []) []) (same n)

below_all : (n : ℕ) → AllByRecursion (λ (b : ℕ). b < n) (range_with_len 0 n)
below_all n = All-from_get_or (λ (b : ℕ). b < n) (range_with_len 0 n) 0 (λ i h. let l : i < n = omega (arith, length-range_with_len 0 n) in omega (arith, get_or-range_with_len 0 n i 0 l))

pub differing_below : (xs ys : List (List ℕ)) (n i : ℕ) → i < length (differing xs ys n) → get_or (differing xs ys n) i 0 < n
differing_below xs ys n i h = All-get_or (λ (b : ℕ). b < n) (differing xs ys n) i 0 h (all_kept_by (differs xs ys) (λ (b : ℕ). b < n) (range_with_len 0 n) (below_all n))

-- where some block differs, the list has one
pub differing_some : (xs ys : List (List ℕ)) (n b : ℕ) → b < n → differs xs ys b ≡ true → 0 < length (differing xs ys n)
differing_some xs ys zero b l d = absurd (omega arith)
differing_some xs ys (suc n) b l d =
    let grows : length (differing xs ys (n + 1)) ≡ length (differing xs ys n) + length (cond (differs xs ys n) (n ∷ []) []) = ap length (differing_more xs ys n) ∙ length-append (differing xs ys n) (cond (differs xs ys n) (n ∷ []) []) in
    let some : 0 < length (differing xs ys (n + 1)) =
    ⊎_elim
    (λ (m : b < n). let rest = differing_some xs ys n b m d in omega arith)
    (λ (m : n ≤ b). let e : b ≡ n = omega arith in let one : length (cond (differs xs ys n) (n ∷ []) []) ≡ 1 = ap length (cond-true _ (n ∷ []) [] (ap (differs xs ys) (sym e) ∙ d)) in omega arith)
    (cases_lt b n)
    in
    rw add-one at some

laid_push : (xs ys : List (List ℕ)) (bs : List ℕ) (b : ℕ) → laid xs ys (bs ++ b ∷ []) ≡ set (laid xs ys bs) b (get_or xs b [])
laid_push xs ys [] b = refl
laid_push xs ys (c ∷ bs) b = laid_push xs (set ys c (get_or xs c [])) bs b

module _ (xs ys : List (List ℕ)) (fits : length xs ≤ length ys) where
  -- one block more, from either list
  one_more : (n : ℕ) → n < length xs → take n xs ++ (get_or xs n [] ∷ drop (n + 1) ys) ≡ take (n + 1) xs ++ drop (n + 1) ys
  one_more n l = sym (ap (λ zs. zs ++ drop (n + 1) ys) (take_more xs n [] l) ∙ append_assoc (take n xs) (get_or xs n [] ∷ []) (drop (n + 1) ys))

  laid_more : (n : ℕ) → n < length xs → laid xs ys (differing xs ys n) ≡ take n xs ++ drop n ys → laid xs ys (differing xs ys (n + 1)) ≡ take (n + 1) xs ++ drop (n + 1) ys
  laid_more n l e =
      let split : laid xs ys (differing xs ys n) ≡ take n xs ++ (get_or ys n [] ∷ drop (n + 1) ys) = e ∙ ap (λ zs. take n xs ++ zs) (drop_more ys n [] (omega arith)) in
      ap (laid xs ys) (differing_more xs ys n)
      ∙ ⊎_elim
      (λ (d : differs xs ys n ≡ true).
      ap (λ zs. laid xs ys (differing xs ys n ++ zs)) (cond-true _ (n ∷ []) [] d)
      ∙ laid_push xs ys (differing xs ys n) n
      ∙ ap (λ zs. set zs n (get_or xs n [])) split
      ∙ set_at (take n xs) (get_or ys n []) (drop (n + 1) ys) (get_or xs n []) n (length-take-le n xs (omega arith))
      ∙ one_more n l)
      (λ (d : differs xs ys n ≡ false).
      let same : get_or xs n [] ≡ get_or ys n [] = (bytes_eq-Decides (get_or xs n []) (get_or ys n [])).0 (not-false _ d) in
      ap (λ zs. laid xs ys (differing xs ys n ++ zs)) (cond-false _ (n ∷ []) [] d)
      ∙ ap (laid xs ys) (append-nil (differing xs ys n))
      ∙ split
      ∙ ap (λ z. take n xs ++ (z ∷ drop (n + 1) ys)) (sym same)
      ∙ one_more n l)
      (cases_Bool (differs xs ys n))

  laid_upto : (n : ℕ) → n ≤ length xs → laid xs ys (differing xs ys n) ≡ take n xs ++ drop n ys
  laid_upto zero h = refl
  laid_upto (suc n) h =
      let more = laid_more n (omega arith) (laid_upto n (omega arith)) in
      rw add-one at more

  -- the source's blocks, then the target's own
  pub laid-all : laid xs ys (differing xs ys (length xs)) ≡ xs ++ drop (length xs) ys
  laid-all = laid_upto (length xs) (omega arith) ∙ ap (λ zs. zs ++ drop (length xs) ys) (take_all (length xs) xs (omega arith))
