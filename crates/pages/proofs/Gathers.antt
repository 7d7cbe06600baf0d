-- What a page builder holds, before and after one more record, and the page that it makes.
use Rattle.std.proofs.Common.{◌≡◌, ℕ, ◌+◌, ◌*◌, ◌≤◌, Bool, List, ◌++◌, length, drop, sym, refl, ap, ◌∙◌, append_assoc, arith, length-append}
use borrow.Rule.Slice.PartMut.{put_mid}
use Rattle.buckets.specs.Blocks.{size, bodies, pairs}
use Rattle.buckets.specs.Builds.{over}
use Rattle.buckets.proofs.Held.{load_is}
use Rattle.buckets.proofs.Built.{put_is}
use Rattle.pages.specs.Pages.{used, page_bytes}
use Rattle.pages.specs.Gathered.{gathered, page_head, pairs_by}
use Rattle.pages.specs.declared.builder.PageBuilder.{PageBuilder}
use Rattle.pages.proofs.Cuts.{length_cut, bodies-cut, size-cut, pairs-cut, over-over, length-pairs_by}

module _ (p : PageBuilder) where
  abbrev pub lens_of : List ℕ
  lens_of = p.lens.items

  abbrev pub bytes_of : List ℕ
  bytes_of = p.bytes.items

  pub length-gathered : length (gathered p) ≡ length lens_of
  unfolding gathered
  length-gathered = length_cut lens_of bytes_of

  pub bodies-gathered : bodies (gathered p) ≡ bytes_of
  unfolding gathered
  bodies-gathered = bodies-cut lens_of bytes_of p.summed

  pub pairs-gathered : (from : ℕ) → pairs from (gathered p) ≡ pairs_by from lens_of
  unfolding gathered
  pairs-gathered from = pairs-cut from lens_of bytes_of p.summed

  size-gathered : size (gathered p) ≡ length bytes_of
  unfolding gathered
  size-gathered = size-cut lens_of bytes_of p.summed

  pub used-gathered : used (gathered p) ≡ 4 + 4 * length lens_of + length bytes_of
  used-gathered = let a = load_is (gathered p) in let b = size-gathered in let c = length-gathered in omega arith

  -- what is gathered fits
  pub gathered_fits : used (gathered p) ≤ p.size
  gathered_fits = let a = used-gathered in let b = p.fits in omega arith

  -- head, pairs and bytes, written one after another
  pub page_written : (end : Bool) (b : List ℕ) → length b ≡ p.size → over (4 + 4 * length lens_of) bytes_of (over 4 (pairs_by (4 + 4 * length lens_of) lens_of) (over 0 (page_head (length lens_of) end) b)) ≡ page_bytes (gathered p) end b
  unfolding page_bytes
  page_written end b e =
      let head = page_head (length lens_of) end in
      let start = 4 + 4 * length lens_of in
      let ps = pairs_by start lens_of in
      let pl = length-pairs_by start lens_of in
      let fits = p.fits in
      let l1 : length (head ++ ps) ≡ start = omega arith in
      let l2 : length ((head ++ ps) ++ bytes_of) ≡ used (gathered p) = omega (arith, length-append (head ++ ps) bytes_of, used-gathered) in
      let e1 = over-over 0 4 head ps b refl (omega arith) in
      let e2 = over-over 0 start (head ++ ps) bytes_of b (omega arith) (omega arith) in
      let rest = drop (used (gathered p)) b in
      let z : 0 + length ((head ++ ps) ++ bytes_of) ≡ used (gathered p) = omega arith in
      let e3 : over 0 ((head ++ ps) ++ bytes_of) b ≡ head ++ (ps ++ (bytes_of ++ rest)) =
      ap (λ n. ((head ++ ps) ++ bytes_of) ++ drop n b) z ∙ simp append_assoc
      in
      let n = length-gathered in
      let q : pairs (4 + 4 * length (gathered p)) (gathered p) ≡ ps = pairs-gathered (4 + 4 * length (gathered p)) ∙ ap (λ k. pairs_by (4 + 4 * k) lens_of) n in
      let m = bodies-gathered in
      let e4 : page_bytes (gathered p) end b ≡ head ++ (ps ++ (bytes_of ++ rest)) = rw (q, m, n) in
      ap (over start bytes_of) e1 ∙ e2 ∙ e3 ∙ sym e4

  -- the same, by what each write left
  pub finished : (end : Bool) (b : List ℕ) → length b ≡ p.size → (at k : ℕ) (head lens bytes mid : List ℕ) → at ≡ 4 + 4 * length lens_of → head ≡ page_head (length lens_of) end → lens ≡ lens_of → bytes ≡ bytes_of → k ≡ length bytes_of → mid ≡ over 4 (pairs_by at lens) (head ++ drop 4 b) → put_mid at k mid bytes ≡ page_bytes (gathered p) end b
  finished end b same at k head lens bytes mid ea eh el eb ek em =
      put_is at k mid bytes (ek ∙ ap length (sym eb)) ∙ rw (em, eb, el, eh, ea) (page_written end b same)
