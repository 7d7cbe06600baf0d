-- The records of a page, as the page reader reads them.
use Rattle.std.specs.Prelude.{ℕ, List, [], map}
use Rattle.std.specs.List.{range_with_len}
use Rattle.std.specs.Option.{unwrap_or}
use Rattle.words.specs.BigEndian.{be16}
use Rattle.records.specs.Items.{page_item}

-- record n for each n below the count; one that cannot be read is empty
unfoldable pub page_records : List ℕ → List (List ℕ)
page_records page = map (λ n. unwrap_or (page_item page n) []) (range_with_len 0 (be16 page 0))
