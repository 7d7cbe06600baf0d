-- An image after a write to one block.
use Rattle.std.proofs.Common.{◌≡◌, ℕ, ◌+◌, ◌-◌, ◌*◌, ◌/◌, ◌<◌, min, ◌≢◌, List, [], length, get_or, take, drop, set, sym, ap, ◌∙◌, ⊎_elim, arith, length-append, length-drop, length-set, length-take}
use Rattle.std.specs.List.{replace_range}
use borrow.Rule.Slice.PartMut.{put_mid}
use Rattle.std.proofs.lemmas.List.{ext_get_or, drop-take, get_or-set_same, get_or-set_other}
use Rattle.std.proofs.lemmas.Slice.{take-put_mid_below, drop-put_mid, between-put_mid}
use Rattle.std.proofs.lemmas.Bool.{cases_order}
use Rattle.device.proofs.Overwritten.{replace_range-put_mid}
use Rattle.image.specs.Blocks.{block_at, whole_blocks, image_blocks, SameBeyond}
use Rattle.image.specs.Lawful.{block_ends, length-image_blocks, get_or-image_blocks}

-- ys written over block b of xs
module _ (xs ys : List ℕ) (b : ℕ) (h : b < whole_blocks xs) (e : length ys ≡ 512) where
  abbrev after : List ℕ
  after = put_mid (512 * b) 512 xs ys

  pub overwritten : (zs : List ℕ) (start n : ℕ) → zs ≡ replace_range xs start (start + n) ys → start ≡ 512 * b → n ≡ 512 → zs ≡ after
  overwritten zs start n p at len = p ∙ ap (λ i. replace_range xs i (i + n) ys) at ∙ ap (λ m. replace_range xs (512 * b) (512 * b + m) ys) len ∙ replace_range-put_mid xs ys (512 * b) 512

  same_length : length after ≡ length xs
  same_length = let i = block_ends xs b h in omega (arith, length-append {A = ℕ}, length-take {A = ℕ}, length-drop {A = ℕ})

  block_written : block_at after b ≡ ys
  block_written =
      let i = block_ends xs b h in
      let n : 512 ≡ (512 * b + 512) - 512 * b = omega arith in
      ap (λ m. take m (drop (512 * b) after)) n ∙ between-put_mid (512 * b) 512 xs ys (512 * b + 512) (omega arith) (omega arith)

  block_below : (j : ℕ) → j < b → block_at after j ≡ block_at xs j
  block_below j l =
      let i = block_ends xs b h in
      sym (drop-take (512 * j) 512 after)
      ∙ ap (drop (512 * j)) (take-put_mid_below (512 * b) 512 xs ys (512 * j + 512) (omega arith) (omega arith))
      ∙ drop-take (512 * j) 512 xs

  block_above : (j : ℕ) → b < j → block_at after j ≡ block_at xs j
  block_above j l = let i = block_ends xs b h in ap (take 512) (drop-put_mid (512 * b) 512 xs ys (512 * j) (omega arith) (omega arith) (omega arith))

  same_count : whole_blocks after ≡ whole_blocks xs
  same_count = ap (λ n. min (n / 512) 65535) same_length

  block_at_lem : (j : ℕ) → j < whole_blocks xs → get_or (image_blocks after) j [] ≡ get_or (set (image_blocks xs) b ys) j []
  block_at_lem j l =
      let lj : j < whole_blocks after = omega (arith, same_count) in
      let lb : b < length (image_blocks xs) = omega (arith, length-image_blocks xs) in
      let other : (j ≢ b) → block_at after j ≡ block_at xs j → block_at after j ≡ get_or (set (image_blocks xs) b ys) j [] = λ ne same.
      same ∙ sym (get_or-set_other (image_blocks xs) b j ys [] ne ∙ get_or-image_blocks xs j [] l)
      in
      get_or-image_blocks after j [] lj
      ∙ ⊎_elim
      (λ q. ap (block_at after) q ∙ block_written ∙ sym (ap (λ m. get_or (set (image_blocks xs) b ys) m []) q ∙ get_or-set_same (image_blocks xs) b ys [] lb))
      (⊎_elim (λ q. other (omega arith) (block_below j q)) (λ q. other (omega arith) (block_above j q)))
      (cases_order j b)

  pub blocks_after : image_blocks after ≡ set (image_blocks xs) b ys
  blocks_after =
      ext_get_or [] (image_blocks after) (set (image_blocks xs) b ys)
      (length-image_blocks after ∙ same_count ∙ sym (simp length-set (length-image_blocks xs)))
      (λ j l. block_at_lem j (omega (arith, length-image_blocks after, same_count)))

  pub beyond_after : SameBeyond xs after
  beyond_after =
      let i = block_ends xs b h in
      record { len = sym same_length; rest = sym (drop-put_mid (512 * b) 512 xs ys (512 * whole_blocks xs) (omega arith) (omega arith) (omega arith)) }
