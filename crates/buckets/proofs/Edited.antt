-- A list with an element put in or taken out at any place.
use Rattle.std.proofs.Common.{◌≡◌, ℕ, suc, ◌+◌, ◌-◌, ◌<◌, ◌≤◌, min, cond, nat_lt, List, ◌∷◌, ◌++◌, length, get_or, take, drop, sym, ap, ◌∙◌, ⊎_elim, arith}
use Rattle.std.specs.List.{insert, remove}
use Rattle.std.proofs.lemmas.List.Edits.{length-insert, length-remove, get_or-insert_below, get_or-insert_at, get_or-insert_above, get_or-remove_below, get_or-remove_above}
use Rattle.std.proofs.lemmas.List.{take_all, drop_all, append-nil, get_or_past}
use Rattle.std.proofs.lemmas.Bool.{cases_lt}
use Rattle.std.proofs.lemmas.Bool.Decides.{nat_tests}

module _ {X : Type 0} (xs : List X) (i : ℕ) (y : X) where
  -- past the end is at the end
  clamped : insert xs i y ≡ insert xs (min i (length xs)) y
  clamped =
      ⊎_elim
      (λ (l : i < length xs). let e : i ≡ min i (length xs) = omega arith in ap (λ k. insert xs k y) e)
      (λ (l : length xs ≤ i).
      let e : length xs ≡ min i (length xs) = omega arith in
      let front : take i xs ≡ take (length xs) xs = take_all i xs l ∙ sym (take_all (length xs) xs (omega arith)) in
      let back : drop i xs ≡ drop (length xs) xs = drop_all i xs l ∙ sym (drop_all (length xs) xs (omega arith)) in
      ap (λ zs. zs ++ y ∷ drop i xs) front ∙ ap (λ zs. take (length xs) xs ++ y ∷ zs) back ∙ ap (λ k. insert xs k y) e)
      (cases_lt i (length xs))

  pub length_put_in : length (insert xs i y) ≡ length xs + 1
  length_put_in = ap length clamped ∙ length-insert xs (min i (length xs)) y (omega arith)

  module _ (k : ℕ) (d : X) where
    pub put_in_below : k < min i (length xs) → get_or (insert xs i y) k d ≡ get_or xs k d
    put_in_below l = ap (λ zs. get_or zs k d) clamped ∙ get_or-insert_below xs (min i (length xs)) y d k l (omega arith)

    pub put_in_here : k ≡ min i (length xs) → get_or (insert xs i y) k d ≡ y
    put_in_here e = rw (e, clamped) (get_or-insert_at xs (min i (length xs)) y d (omega arith))

    pub put_in_above : min i (length xs) < k → get_or (insert xs i y) k d ≡ get_or xs (k - 1) d
    put_in_above l =
        let e : k ≡ k - 1 + 1 = omega arith in
        ap (λ zs. get_or zs k d) clamped ∙ ap (λ j. get_or (insert xs (min i (length xs)) y) j d) e ∙ get_or-insert_above xs (min i (length xs)) y d (k - 1) (omega arith) (omega arith)

module _ {X : Type 0} (xs : List X) (i : ℕ) where
  pub nothing_out : length xs ≤ i → remove xs i ≡ xs
  nothing_out l = ap (λ zs. zs ++ drop (suc i) xs) (take_all i xs l) ∙ ap (λ zs. xs ++ zs) (drop_all (suc i) xs (omega arith)) ∙ append-nil xs

  pub length_taken_out : length (remove xs i) ≡ cond (nat_lt i (length xs)) (length xs - 1) (length xs)
  length_taken_out =
      ⊎_elim
      (λ (l : i < length xs). let e = length-remove xs i l in grind (arith, nat_tests))
      (λ (l : length xs ≤ i). let e = ap length (nothing_out l) in grind (arith, nat_tests))
      (cases_lt i (length xs))

  module _ (k : ℕ) (d : X) where
    pub taken_out_below : k < i → get_or (remove xs i) k d ≡ get_or xs k d
    taken_out_below l =
        ⊎_elim (λ (m : i < length xs). get_or-remove_below xs i d k l m) (λ (m : length xs ≤ i). ap (λ zs. get_or zs k d) (nothing_out m)) (cases_lt i (length xs))

    pub taken_out_above : i ≤ k → get_or (remove xs i) k d ≡ get_or xs (k + 1) d
    taken_out_above l =
        ⊎_elim
        (λ (m : i < length xs). get_or-remove_above xs i d k l m)
        (λ (m : length xs ≤ i). ap (λ zs. get_or zs k d) (nothing_out m) ∙ get_or_past xs k d (omega arith) ∙ sym (get_or_past xs (k + 1) d (omega arith)))
        (cases_lt i (length xs))
