-- Record n of a bucket block or of a page, by the pair of offset and length that leads to it.
use Rattle.std.specs.Prelude.{ℕ, ◌+◌, ◌*◌, Bool, cond, ◌&&◌, List, [], map, length, take, drop, Some, None, Option, nat_le, nat_lt}
use Rattle.std.specs.List.{range_with_len}
use Rattle.std.specs.Option.{unwrap_or}
use Rattle.words.specs.BigEndian.{be16, word16}

-- where pair n stands, and what it says
abbrev pub pair_at : ℕ → ℕ → ℕ
pair_at pairs n = pairs + 4 * n

abbrev pub offset_at : List ℕ → ℕ → ℕ → ℕ
offset_at bytes pairs n = be16 bytes (pair_at pairs n)

abbrev pub length_at : List ℕ → ℕ → ℕ → ℕ
length_at bytes pairs n = be16 bytes (pair_at pairs n + 2)

-- n is below the count, and neither the pair nor the record reaches past the end
abbrev pub item_inside : ℕ → ℕ → List ℕ → ℕ → Bool
item_inside count pairs bytes n = nat_lt n (be16 bytes count) && (nat_le (pair_at pairs n + 4) (length bytes) && nat_le (offset_at bytes pairs n + length_at bytes pairs n) (length bytes))

-- the record from its offset on, for its length; the count stands at `count`, and the pairs from `pairs` on
unfoldable pub item_at : ℕ → ℕ → List ℕ → ℕ → Option (List ℕ)
item_at count pairs bytes n = cond (item_inside count pairs bytes n) (Some (take (length_at bytes pairs n) (drop (offset_at bytes pairs n) bytes))) None

-- in a bucket block the count stands at 2 and the pairs from 8 on, in a page at 0 and from 4 on
abbrev pub bucket_item : List ℕ → ℕ → Option (List ℕ)
bucket_item block n = item_at 2 8 block n

abbrev pub page_item : List ℕ → ℕ → Option (List ℕ)
page_item page n = item_at 0 4 page n

-- how many records a bucket block counts
abbrev pub record_count : List ℕ → ℕ
record_count block = unwrap_or (word16 block 2) 0

-- all of them, in order; one that cannot be read is empty
unfoldable pub records_in : List ℕ → List (List ℕ)
records_in block = map (λ n. unwrap_or (bucket_item block n) []) (range_with_len 0 (record_count block))
