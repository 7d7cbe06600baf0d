-- The worked figures, as one list.
use Rattle.std.specs.Prelude.{◌≡◌, ℕ, true, false, List, [], ◌∷◌, ◌++◌, map, length, drop, None, codes}
use Rattle.words.specs.BigEndian.{bytes32}
use Rattle.kinds.specs.Names.{exact_names}
use Rattle.kinds.specs.Numbers.{register_numbers, straight_numbers}
use Rattle.records.specs.Ordered.{without}
use Rattle.shape.specs.Shapes.{load, Held, buckets, depth}
use Rattle.shape.specs.Keyed.{by_key}
use Rattle.model.specs.Calls.{idle, format, page, done, made, page_given}
use Rattle.figures.specs.Indexes.{nine, nine_and, loads_of}
use Rattle.model.specs.Histories.{history}
use Rattle.figures.specs.Runs.{bring, bring_into, run, answers_of, last_page, last_buffer, documents, two_pages}

-- the list
pub record Figures : Type 0 where
  -- FNV-1a
  pub fnv_of_a : exact_names.hash (codes "a") ≡ 0xE40C_292C
  pub fnv_of_foobar : exact_names.hash (codes "foobar") ≡ 0xBF9C_F968
  -- register hashes
  pub spread_of_one : register_numbers.hash (bytes32 1) ≡ 0x9E37_79B1
  pub spread_of_two : register_numbers.hash (bytes32 2) ≡ 0x3C6E_F362
  pub spread_of_three : register_numbers.hash (bytes32 3) ≡ 0xDAA6_6D13
  -- straight keys 0 to 8 with 47 bytes of data: one bucket, load 504
  pub nine_buckets : buckets (by_key straight_numbers) 7 0 nine ≡ 1
  pub nine_load : load (by_key straight_numbers) 7 0 nine ≡ 504
  -- key 9 added cannot be held, nor can key 01000000h
  pub tenth : Held (by_key straight_numbers) 7 0 (nine_and 9) → ⊥
  pub near_one : Held (by_key straight_numbers) 7 0 (nine_and 0x0100_0000) → ⊥
  -- key 02000000h added instead: depth 7, eight buckets, six of them empty
  pub far_held : Held (by_key straight_numbers) 7 0 (nine_and 0x0200_0000)
  pub far_depth : depth (by_key straight_numbers) 7 0 (nine_and 0x0200_0000) ≡ 7
  pub far_buckets : buckets (by_key straight_numbers) 7 0 (nine_and 0x0200_0000) ≡ 8
  pub far_loads : loads_of (nine_and 0x0200_0000) ≡ 504 ∷ 56 ∷ 0 ∷ 0 ∷ 0 ∷ 0 ∷ 0 ∷ 0 ∷ []
  -- key 80000000h added instead: two buckets; key 3 then removed: one
  pub top_buckets : buckets (by_key straight_numbers) 7 0 (nine_and 0x8000_0000) ≡ 2
  pub merged_buckets : buckets (by_key straight_numbers) 7 0 (without straight_numbers (bytes32 3) (nine_and 0x8000_0000)) ≡ 1
  -- documents b, a created in the root get 2, 3; a page of 64 bytes has them in 26 bytes, and the last 38 stay
  pub two_answers : answers_of (run (format ∷ documents (codes "ba"))) ≡ done ∷ made 2 ∷ made 3 ∷ []
  pub two_page :
      (buffer : List ℕ) → length buffer ≡ 64
      → last_buffer (history exact_names 16 (idle None) (map bring (format ∷ documents (codes "ba")) ++ bring_into buffer (page 1 []) ∷ []))
      ≡ 0x00 ∷ 0x02 ∷ 0x01 ∷ 0x00
      ∷ 0x00 ∷ 0x0C ∷ 0x00 ∷ 0x07
      ∷ 0x00 ∷ 0x13 ∷ 0x00 ∷ 0x07
      ∷ 0x01 ∷ 0x61 ∷ 0x00 ∷ 0x00 ∷ 0x00 ∷ 0x03 ∷ 0x02
      ∷ 0x01 ∷ 0x62 ∷ 0x00 ∷ 0x00 ∷ 0x00 ∷ 0x02 ∷ 0x02
      ∷ drop 26 buffer
  -- documents a to g: the first page of 64 is e, d, g, f, a, no end
  pub first_page : last_page (run (format ∷ documents (codes "abcdefg") ++ page 1 [] ∷ [])) ≡ codes "e" ∷ codes "d" ∷ codes "g" ∷ codes "f" ∷ codes "a" ∷ []
  -- then d is removed and h created: after "a" come c, b, h, end
  pub second_page : last_page (run two_pages) ≡ codes "c" ∷ codes "b" ∷ codes "h" ∷ []
  pub page_answers :
      answers_of (run two_pages)
      ≡ done ∷ made 2 ∷ made 3 ∷ made 4 ∷ made 5 ∷ made 6 ∷ made 7 ∷ made 8
      ∷ page_given (record { count = 5; used = 59; end = false }) ∷ done ∷ made 9 ∷ page_given (record { count = 3; used = 37; end = true }) ∷ []
