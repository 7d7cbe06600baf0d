-- The figures, by computation.
use Rattle.std.proofs.Common.{◌≡◌, ℕ, true, false, List, refl}
use Rattle.std.proofs.lemmas.Bool.{both_ways}
use Rattle.kinds.specs.Numbers.{straight_numbers}
use Rattle.records.specs.Ordered.{put, before, after, without}
use Rattle.records.specs.Items.{item_at}
use Rattle.shape.specs.Shapes.{prefix_of, under, buckets, depth, Held}
use Rattle.shape.specs.Holding.{is_held}
use Rattle.shape.specs.Keyed.{by_key}
use Rattle.shape.proofs.Lighter.{decides_held}
use Rattle.pages.specs.Pages.{page_bytes}
use Rattle.pages.specs.Contents.{page_records}
use Rattle.model.specs.Names.{is_bad_name}
use Rattle.model.specs.Indexes.{folder_records, register_records, blocks_in_use, is_held_tree}
use Rattle.figures.specs.Indexes.{nine_and, bucket_loads}
use Rattle.figures.specs.Examples.{Examples}
use Rattle.figures.specs.Figures.{Figures}

-- what the test of an index tells
not_held : (rs : List (List ℕ)) → is_held (by_key straight_numbers) 7 0 rs ≡ false → Held (by_key straight_numbers) 7 0 rs → ⊥
not_held rs e h = both_ways (is_held (by_key straight_numbers) 7 0 rs) e ((decides_held (by_key straight_numbers) rs 7 0).1 h)

ten : is_held (by_key straight_numbers) 7 0 (nine_and 9) ≡ false
unfolding is_held put before after under prefix_of
ten = refl

near : is_held (by_key straight_numbers) 7 0 (nine_and 0x0100_0000) ≡ false
unfolding is_held put before after under prefix_of
near = refl

far : is_held (by_key straight_numbers) 7 0 (nine_and 0x0200_0000) ≡ true
unfolding is_held put before after under prefix_of
far = refl

pub figures : Figures
unfolding bucket_loads buckets depth put before after without under prefix_of is_held is_held_tree blocks_in_use register_records folder_records is_bad_name page_bytes page_records item_at
figures = record {
  fnv_of_a = refl;
  fnv_of_foobar = refl;
  spread_of_one = refl;
  spread_of_two = refl;
  spread_of_three = refl;
  nine_buckets = refl;
  nine_load = refl;
  tenth = not_held (nine_and 9) ten;
  near_one = not_held (nine_and 0x0100_0000) near;
  far_held = (decides_held (by_key straight_numbers) (nine_and 0x0200_0000) 7 0).0 far;
  far_depth = refl;
  far_buckets = refl;
  far_loads = refl;
  top_buckets = refl;
  merged_buckets = refl;
  two_answers = refl;
  two_page = λ buffer e. rw e;
  first_page = refl;
  second_page = refl;
  page_answers = refl;
}

pub examples : Examples
unfolding buckets put before after without under prefix_of is_held is_held_tree blocks_in_use register_records folder_records is_bad_name
examples = record {
  numbers = refl;
  first = refl;
  named = refl;
  nested = refl;
  again = refl;
  one_left = refl;
  filled = refl;
  crammed = refl;
  small = refl;
  large = refl;
  worn = refl;
  buffers = refl;
  numberless = refl;
  leaseless = refl;
}
