-- The page reader finds the records that a page was made of.
use Rattle.std.proofs.Common.{◌≡◌, ℕ, ◌+◌, ◌*◌, ◌<◌, Bool, List, ◌++◌, length, drop, refl, arith}
use Rattle.words.specs.BigEndian.{be16}
use Rattle.records.specs.Items.{page_item}
use Rattle.buckets.specs.Blocks.{bodies, pairs}
use Rattle.buckets.proofs.Held.{load_is, laid_back, told_back}
use Rattle.pages.specs.Pages.{used, page_bytes}
use Rattle.pages.specs.Gathered.{page_head}
use Rattle.pages.specs.Contents.{page_records}

module _ (rs : List (List ℕ)) (end : Bool) (buffer : List ℕ) (small : used rs < 65536) where
  abbrev page : List ℕ
  page = page_head (length rs) end ++ (pairs (4 + 4 * length rs) rs ++ (bodies rs ++ drop (used rs) buffer))

  count_at : be16 page 0 ≡ length rs
  count_at = let l = load_is rs in omega arith

  -- all records are read back
  pub page_back : page_records (page_bytes rs end buffer) ≡ rs
  unfolding page_records page_bytes
  page_back = told_back (page_item page) (be16 page 0) rs count_at (λ i l. laid_back (page_head (length rs) end) (drop (used rs) buffer) 4 refl rs (omega (arith, load_is rs)) 0 i count_at l)
