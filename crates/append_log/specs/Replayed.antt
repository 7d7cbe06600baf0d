-- What the definitions of a log come to, case by case.
use Rattle.std.specs.Prelude.{◌≡◌, ℕ, zero, suc, ◌+◌, ◌<◌, ◌≤◌, true, false, ◌&&◌, ◌≢◌, List, length, Some, None, nat_le, nat_lt, slice_index_or}
use Rattle.std.proofs.Common.{subst, ◌∙◌, ⊎_elim, arith, add-one}
use Rattle.std.proofs.Math.Path.{ap}
use Rattle.std.proofs.lemmas.List.FromFn.{length-map-range_with_len, get_or-map-range_with_len}
use Rattle.std.proofs.lemmas.Bool.{and_from, and_parts, and_left, and_right, le-leb, lt-leb, leb-true, lt-ltb, le-ltb, cases_lt, cases_Bool, cond-true, cond-false, eq-eqb, ne_eqb}
use Rattle.append_log.specs.Records.{used, total, start, number, body, in_range, valid, head_of, latest, count_of, log_blocks}

module _ (xs : List ℕ) where
  pub in_range_more : (k : ℕ) → in_range xs k ≡ true → number xs k < total xs → in_range xs (k + 1) ≡ true
  in_range_more k g l = rw add-one (and_from (in_range xs k) _ g (lt-ltb (number xs k) (total xs) l))

  pub in_range_not : (n k : ℕ) → k < n → total xs ≤ number xs k → in_range xs n ≡ false
  in_range_not zero k l h = absurd (omega arith)
  in_range_not (suc n) k l h =
      ⊎_elim
      (λ (m : k < n). and_left (in_range xs n) _ (in_range_not n k m h))
      (λ (m : n ≤ k). let e : k ≡ n = omega arith in and_right (in_range xs n) _ (subst (λ (j : ℕ). nat_lt (number xs j) (total xs) ≡ false) e (le-ltb (number xs k) (total xs) h)))
      (cases_lt k n)

  pub valid_is : 6 ≤ length xs → start (used xs) ≤ length xs → valid xs ≡ in_range xs (used xs)
  unfolding valid
  valid_is h l = ap (λ t. t && (nat_le (start (used xs)) (length xs) && in_range xs (used xs))) (le-leb 6 (length xs) h) ∙ ap (λ t. t && in_range xs (used xs)) (le-leb (start (used xs)) (length xs) l)

  pub short_head : length xs < 6 → valid xs ≡ false
  unfolding valid
  short_head h = and_left _ _ (lt-leb 6 (length xs) h)

  pub short_records : length xs < start (used xs) → valid xs ≡ false
  unfolding valid
  short_records h = and_right (nat_le 6 (length xs)) _ (and_left _ _ (lt-leb (start (used xs)) (length xs) h))

  pub valid_parts : valid xs ≡ true → (6 ≤ length xs) × (start (used xs) ≤ length xs) × (in_range xs (used xs) ≡ true)
  unfolding valid
  valid_parts v =
      let p = and_parts (nat_le 6 (length xs)) (nat_le (start (used xs)) (length xs) && in_range xs (used xs)) v in
      let q = and_parts (nat_le (start (used xs)) (length xs)) (in_range xs (used xs)) p.1 in
      (leb-true 6 (length xs) p.0, leb-true (start (used xs)) (length xs) q.0, q.1)

  pub head_of-valid : valid xs ≡ true → head_of xs ≡ Some (record { used = used xs; count = total xs })
  unfolding head_of
  head_of-valid v = cond-true _ _ _ v

  pub head_of_not : valid xs ≡ false → head_of xs ≡ None
  unfolding head_of
  head_of_not v = cond-false _ _ _ v

  pub length-log_blocks : length (log_blocks xs) ≡ count_of (head_of xs)
  unfolding log_blocks
  length-log_blocks = length-map-range_with_len (latest xs (used xs)) 0 (count_of (head_of xs))

  pub get_or-log_blocks : (b : ℕ) (d : List ℕ) → b < length (log_blocks xs) → slice_index_or (log_blocks xs) b d ≡ latest xs (used xs) b
  unfolding log_blocks
  get_or-log_blocks b d l = get_or-map-range_with_len (latest xs (used xs)) 0 (count_of (head_of xs)) b b d (omega (arith, length-map-range_with_len (latest xs (used xs)) 0 (count_of (head_of xs)))) (omega arith)

  -- a log that tells a block is valid
  pub valid-from-block : (b : ℕ) → b < length (log_blocks xs) → valid xs ≡ true
  valid-from-block b l =
      ⊎_elim (λ (v : valid xs ≡ true). v) (λ (v : valid xs ≡ false). let e = length-log_blocks ∙ ap count_of (head_of_not v) in absurd (omega arith)) (cases_Bool (valid xs))

  pub length-valid : valid xs ≡ true → length (log_blocks xs) ≡ total xs
  length-valid v = length-log_blocks ∙ ap count_of (head_of-valid v)

  -- one record more, of this block or of another
  pub latest_same : (k b : ℕ) → number xs k ≡ b → latest xs (k + 1) b ≡ body xs k
  latest_same k b e = rw add-one (cond-true _ _ _ (eq-eqb (number xs k) b e))

  pub latest_other : (k b : ℕ) → number xs k ≢ b → latest xs (k + 1) b ≡ latest xs k b
  latest_other k b ne = rw add-one (cond-false _ _ _ (ne_eqb (number xs k) b ne))
