-- The records that are used, each looked at once.
use Rattle.std.proofs.Common.{◌≡◌, ℕ, zero, suc, ◌+◌, ◌≤◌, Bool, true, false, cond, ◌&&◌, ltb, List, [], ◌∷◌, ◌++◌, length, None, Some, sym, refl, ap, ◌∙◌, add-one, arith}
use Rattle.std.specs.Bool.{then_some}
use Rattle.std.specs.List.{range_with_len, list_all}
use Rattle.std.proofs.lemmas.List.{map-id}
use Rattle.std.proofs.lemmas.List.Folds.{list_all-append}
use Rattle.std.proofs.lemmas.List.FromFn.{map-range_with_len_more}
use Rattle.std.proofs.lemmas.Bool.{le-leb}
use Rattle.append_log.specs.declared.head.Head.{Head}
use Rattle.append_log.specs.Records.{used, total, start, number, in_range, valid, head_of, holds_below}
use Rattle.append_log.specs.Replayed.{valid_is}

range_more : (n : ℕ) → range_with_len 0 (n + 1) ≡ range_with_len 0 n ++ n ∷ []
range_more n = sym (map-id (range_with_len 0 (n + 1))) ∙ map-range_with_len_more (λ (x : ℕ). x) 0 n n (omega arith) ∙ ap (λ ys. ys ++ n ∷ []) (map-id (range_with_len 0 n))

abbrev head : ℕ → ℕ → Head
head k n = record { used = k; count = n }

and-true : (b : Bool) → (b && true) ≡ b
and-true true = refl
and-true false = refl

then_some_is : (b : Bool) (x : Head) → then_some b x ≡ cond b (Some x) None
then_some_is true x = refl
then_some_is false x = refl

module _ (xs : List ℕ) where
  all_below : (n : ℕ) → start n ≤ length xs → list_all (holds_below xs (total xs)) (range_with_len 0 n) ≡ in_range xs n
  all_below zero h = refl
  all_below (suc n) h =
      let p = holds_below xs (total xs) in
      let here : (p n && true) ≡ ltb (number xs n) (total xs) = and-true (p n) ∙ ap (λ t. t && ltb (number xs n) (total xs)) (le-leb (start n + 2) (length xs) (omega arith)) in
      let e : list_all p (range_with_len 0 (n + 1)) ≡ (in_range xs n && ltb (number xs n) (total xs)) =
      ap (list_all p) (range_more n) ∙ list_all-append p (range_with_len 0 n) (n ∷ []) ∙ ap (λ t. t && (p n && true)) (all_below n (omega arith)) ∙ ap (λ t. in_range xs n && t) here
      in
      sym (ap (λ m. list_all p (range_with_len 0 m)) (add-one n)) ∙ e

  pub checked : (u c : ℕ) → u ≡ used xs → c ≡ total xs → 6 ≤ length xs → start u ≤ length xs → then_some (list_all (holds_below xs c) (range_with_len 0 u)) (head u c) ≡ head_of xs
  unfolding head_of
  checked u c e f h l =
      let fits : start (used xs) ≤ length xs = omega arith in
      ap (λ n. then_some (list_all (holds_below xs n) (range_with_len 0 u)) (head u n)) f
      ∙ ap (λ k. then_some (list_all (holds_below xs (total xs)) (range_with_len 0 k)) (head k (total xs))) e
      ∙ ap (λ b. then_some b (head (used xs) (total xs))) (all_below (used xs) fits ∙ sym (valid_is xs h fits))
      ∙ then_some_is (valid xs) (head (used xs) (total xs))
