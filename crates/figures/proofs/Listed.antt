-- The whole listing, by computation.
use Rattle.std.proofs.Common.{◌≡◌, true, false, List, [], ◌∷◌, ◌++◌, length, get_or, drop, None, refl, arith}
use Rattle.records.specs.Ordered.{put, before, after}
use Rattle.records.specs.Items.{item_at}
use Rattle.shape.specs.Shapes.{prefix_of, under, buckets}
use Rattle.shape.specs.Holding.{is_held}
use Rattle.pages.specs.Pages.{page_bytes}
use Rattle.pages.specs.Contents.{page_records}
use Rattle.model.specs.Names.{is_bad_name}
use Rattle.model.specs.Indexes.{folder_records, register_records, blocks_in_use, is_held_tree}
use Rattle.model.specs.Calls.{idle, format, done, page_given}
use Rattle.model.specs.Histories.{Event}
use Rattle.listings.specs.Listings.{Page, Listing, more, between, last}
use Rattle.figures.specs.Runs.{run, two_pages}
use Rattle.figures.specs.Listed.{shown_first, shown_second, IsListing}

none : Event
none = record { call = format; answer = done; buffer = []; left = idle None }

-- two pages with two calls between
four : (es : List Event) → length es ≡ 4 → Page 1 [] (get_or es 0 none) shown_first false → Page 1 (97 ∷ []) (get_or es 3 none) shown_second true → Listing 1 [] es (shown_first ++ shown_second)
four [] n p q = absurd (omega arith)
four (a ∷ []) n p q = absurd (omega arith)
four (a ∷ b ∷ []) n p q = absurd (omega arith)
four (a ∷ b ∷ c ∷ []) n p q = absurd (omega arith)
four (a ∷ b ∷ c ∷ d ∷ []) n p q = more {rs = shown_first} {ss = shown_second} p (between (between (last q)))
four (a ∷ b ∷ c ∷ d ∷ e ∷ es) n p q = absurd (omega arith)

first_shown : page_records (get_or (drop 8 (run two_pages)) 0 none).buffer ≡ shown_first
unfolding buckets put before after under prefix_of is_held is_held_tree blocks_in_use register_records folder_records is_bad_name page_bytes page_records item_at
first_shown = refl

first_served : (get_or (drop 8 (run two_pages)) 0 none).answer ≡ page_given (record { count = 5; used = 59; end = false })
unfolding buckets put before after under prefix_of is_held is_held_tree blocks_in_use register_records folder_records is_bad_name
first_served = refl

second_shown : page_records (get_or (drop 8 (run two_pages)) 3 none).buffer ≡ shown_second
unfolding buckets put before after under prefix_of is_held is_held_tree blocks_in_use register_records folder_records is_bad_name page_bytes page_records item_at
second_shown = refl

second_served : (get_or (drop 8 (run two_pages)) 3 none).answer ≡ page_given (record { count = 3; used = 37; end = true })
unfolding buckets put before after under prefix_of is_held is_held_tree blocks_in_use register_records folder_records is_bad_name
second_served = refl

pub listing : IsListing
listing =
    four (drop 8 (run two_pages)) refl
    (record { asked = refl; answer = record { count = 5; used = 59; end = false }; served = first_served; mark = refl; shown = first_shown })
    (record { asked = refl; answer = record { count = 3; used = 37; end = true }; served = second_served; mark = refl; shown = second_shown })
