-- Record n of a block or page, case by case.
use Rattle.std.proofs.Common.{◌≡◌, ℕ, ◌+◌, ◌<◌, ◌≤◌, List, [], length, get_or, take, drop, Some, None, unwrap_or, sym, ap, ◌∙◌, ⊎_elim, arith}
use Rattle.std.proofs.lemmas.List.{get_or_past}
use Rattle.std.proofs.lemmas.List.FromFn.{length-map-range_with_len, get_or-map-range_with_len}
use Rattle.std.proofs.lemmas.Bool.{cases_lt}
use Rattle.std.proofs.lemmas.Bool.Decides.{nat_tests}
use Rattle.words.specs.BigEndian.{be16}
use Rattle.records.specs.Items.{pair_at, offset_at, length_at, item_at, bucket_item, record_count, records_in}

module _ (count pairs : ℕ) (xs : List ℕ) (n : ℕ) where
  pub item_is : n < be16 xs count → pair_at pairs n + 4 ≤ length xs → offset_at xs pairs n + length_at xs pairs n ≤ length xs → item_at count pairs xs n ≡ Some (take (length_at xs pairs n) (drop (offset_at xs pairs n) xs))
  unfolding item_at
  item_is a b c = grind (arith, nat_tests)

  pub past_count : be16 xs count ≤ n → item_at count pairs xs n ≡ None
  unfolding item_at
  past_count a = grind (arith, nat_tests)

  pub pair_past_end : length xs < pair_at pairs n + 4 → item_at count pairs xs n ≡ None
  unfolding item_at
  pair_past_end b = grind (arith, nat_tests)

pub length-records_in : (xs : List ℕ) → length (records_in xs) ≡ record_count xs
unfolding records_in
length-records_in xs = length-map-range_with_len (λ n. unwrap_or (bucket_item xs n) []) 0 (record_count xs)

pub get_or-records_in : (xs : List ℕ) (n : ℕ) → n < length (records_in xs) → get_or (records_in xs) n [] ≡ unwrap_or (bucket_item xs n) []
unfolding records_in
get_or-records_in xs n l = get_or-map-range_with_len (λ n. unwrap_or (bucket_item xs n) []) 0 (record_count xs) n n [] (omega (arith, length-map-range_with_len (λ n. unwrap_or (bucket_item xs n) []) 0 (record_count xs))) (omega arith)

past_last : (xs : List ℕ) (n : ℕ) → length (records_in xs) ≤ n → bucket_item xs n ≡ None
past_last xs n l =
    let e = length-records_in xs in
    ⊎_elim
    (λ (s : length xs < 4). pair_past_end 2 8 xs n (omega arith))
    (λ (s : 4 ≤ length xs). past_count 2 8 xs n (grind (arith, nat_tests)))
    (cases_lt (length xs) 4)

-- a record that cannot be read and one past the last are alike empty
pub record_is : (xs : List ℕ) (n : ℕ) → get_or (records_in xs) n [] ≡ unwrap_or (bucket_item xs n) []
record_is xs n =
    ⊎_elim
    (get_or-records_in xs n)
    (λ (l : length (records_in xs) ≤ n). get_or_past (records_in xs) n [] l ∙ ap (λ o. unwrap_or {T = List ℕ} o []) (sym (past_last xs n l)))
    (cases_lt n (length (records_in xs)))

-- one that is handed out is below the count
pub record_told : (xs : List ℕ) (n : ℕ) (r : List ℕ) → Some r ≡ bucket_item xs n → (n < length (records_in xs)) × (get_or (records_in xs) n [] ≡ r)
record_told xs n r e = (
  ⊎_elim (λ (l : n < length (records_in xs)). l) (λ (l : length (records_in xs) ≤ n). let none = past_last xs n l in cc) (cases_lt n (length (records_in xs))),
  record_is xs n ∙ ap (λ o. unwrap_or {T = List ℕ} o []) (sym e),
)
