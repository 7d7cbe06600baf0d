-- One record more in a block that is being built.
use Rattle.std.proofs.Common.{◌≡◌, ℕ, zero, suc, ◌+◌, ◌-◌, ◌*◌, ◌<◌, ◌≤◌, List, [], ◌∷◌, ◌++◌, length, get_or, take, drop, replicate, sym, refl, ap, ◌∙◌, append_assoc, arith, length-append}
use borrow.Rule.Slice.PartMut.{put_mid}
use lib.ListN.{length-replicate}
use Rattle.std.proofs.lemmas.List.{append-nil, take_at, drop_at, drop-drop, take_more, take_all, length-take-le, replicate-append-replicate}
use Rattle.records.specs.Records.{load}
use Rattle.buckets.specs.declared.prefix.Prefix.{Prefix}
use Rattle.buckets.specs.Blocks.{size, bodies, pairs, heading, bucket_bytes}
use Rattle.buckets.specs.Builds.{over, pair, start_of, partly}
use Rattle.buckets.proofs.Held.{load_is, length_pairs, length_bodies, size_take, drop_past}

-- what a part of a block that was written to leaves
pub put_is : (at k : ℕ) (block bytes : List ℕ) → k ≡ length bytes → put_mid at k block bytes ≡ over at bytes block
put_is at k block bytes e = let d = drop-drop (length bytes) at block in cc

over_at : (p old new t : List ℕ) (at : ℕ) → length p ≡ at → length old ≡ length new → over at new (p ++ (old ++ t)) ≡ p ++ (new ++ t)
over_at p old new t at e f =
    let back : drop (at + length new) (p ++ (old ++ t)) ≡ t = drop_past p (old ++ t) (at + length new) (length new) (omega arith) ∙ drop_at old t (length new) f in
    let front = take_at p (old ++ t) at e in
    cc

-- a pair and then its record, over the zeros that stand for them
twice : (h i z b q item t : List ℕ) (z4 zl : List ℕ) (p at : ℕ) → length (h ++ i) ≡ p → length z4 ≡ length q → length ((h ++ i) ++ (q ++ (z ++ b))) ≡ at → length zl ≡ length item → over at item (over p q (h ++ (i ++ ((z4 ++ z) ++ (b ++ (zl ++ t)))))) ≡ h ++ ((i ++ q) ++ (z ++ ((b ++ item) ++ t)))
twice h i z b q item t z4 zl p at e f g k =
    let e1 : h ++ (i ++ ((z4 ++ z) ++ (b ++ (zl ++ t)))) ≡ (h ++ i) ++ (z4 ++ (z ++ (b ++ (zl ++ t)))) = simp append_assoc in
    let e2 = over_at (h ++ i) z4 q (z ++ (b ++ (zl ++ t))) p e f in
    let e3 : (h ++ i) ++ (q ++ (z ++ (b ++ (zl ++ t)))) ≡ ((h ++ i) ++ (q ++ (z ++ b))) ++ (zl ++ t) = simp append_assoc in
    let e4 = over_at ((h ++ i) ++ (q ++ (z ++ b))) zl item t at g k in
    let e5 : ((h ++ i) ++ (q ++ (z ++ b))) ++ (item ++ t) ≡ h ++ ((i ++ q) ++ (z ++ ((b ++ item) ++ t))) = simp append_assoc in
    ap (over at item) (ap (over p q) e1 ∙ e2 ∙ e3) ∙ e4 ∙ e5

pairs_push : (from : ℕ) (rs : List (List ℕ)) (r : List ℕ) → pairs from (rs ++ r ∷ []) ≡ pairs from rs ++ pair (from + size rs) (length r)
pairs_push from [] r = let e : from + 0 ≡ from = omega arith in rw e
pairs_push from (x ∷ rs) r =
    let h = pairs_push (from + length x) rs r in
    let e : from + (length x + size rs) ≡ from + length x + size rs = omega arith in
    rw (e, h)

bodies_push : (rs : List (List ℕ)) (r : List ℕ) → bodies (rs ++ r ∷ []) ≡ bodies rs ++ r
bodies_push [] r = append-nil r
bodies_push (x ∷ rs) r = rw (bodies_push rs r, append_assoc)

size_push : (rs : List (List ℕ)) (r : List ℕ) → size (rs ++ r ∷ []) ≡ size rs + length r
size_push [] r = omega arith
size_push (x ∷ rs) r = let h = size_push rs r in omega arith

pub size_front : (rs : List (List ℕ)) (k : ℕ) → size (take k rs) ≤ size rs
size_front [] zero = omega arith
size_front [] (suc k) = omega arith
size_front (r ∷ rs) zero = omega arith
size_front (r ∷ rs) (suc k) = let h = size_front rs k in omega arith

pub size_more : (rs : List (List ℕ)) (k : ℕ) → k < length rs → size (take (k + 1) rs) ≡ size (take k rs) + length (get_or rs k [])
size_more rs k l = ap size (take_more rs k [] l) ∙ size_push (take k rs) (get_or rs k [])

abbrev zeros : ℕ → List ℕ
zeros n = replicate n 0

module _ (head : List ℕ) (eight : length head ≡ 8) (rs : List (List ℕ)) (light : load rs ≤ 504) where
  abbrev shape : List ℕ → List ℕ → List ℕ → List ℕ → List ℕ
  shape i z d t = head ++ (i ++ (z ++ (d ++ t)))

  pub partly_more : (k : ℕ) → k < length rs → over (start_of rs k) (get_or rs k []) (over (8 + 4 * k) (pair (start_of rs k) (length (get_or rs k []))) (partly head rs k)) ≡ partly head rs (k + 1)
  unfolding partly
  partly_more k l =
      let n = length rs in
      let from = 8 + 4 * n in
      let front = take k rs in
      let item = get_or rs k [] in
      let i = pairs from front in
      let d = bodies front in
      let q = pair (start_of rs k) (length item) in
      let z = zeros (4 * (n - (k + 1))) in
      let t = zeros (504 - (4 * n + size front + length item)) in
      let w = load_is rs in
      let il : length i ≡ 4 * k = length_pairs from front ∙ ap (λ m. 4 * m) (length-take-le k rs (omega arith)) in
      let dl = length_bodies front in
      let sl = size_take rs k l in
      let z4 : zeros 4 ++ z ≡ zeros (4 * (n - k)) = replicate-append-replicate 4 (4 * (n - (k + 1))) 0 ∙ ap zeros (omega arith) in
      let zl : zeros (length item) ++ t ≡ zeros (504 - (4 * n + size front)) = replicate-append-replicate (length item) (504 - (4 * n + size front + length item)) 0 ∙ ap zeros (omega arith) in
      let was : partly head rs k ≡ shape i (zeros 4 ++ z) d (zeros (length item) ++ t) = ap (λ x. shape i x d (zeros (504 - (4 * n + size front)))) (sym z4) ∙ ap (λ x. shape i (zeros 4 ++ z) d x) (sym zl) in
      let pl : length (head ++ i) ≡ 8 + 4 * k = omega (arith, length-append head i) in
      let al : length ((head ++ i) ++ (q ++ (z ++ d))) ≡ start_of rs k = simp (length-append, length-replicate) (omega arith) in
      let step = twice (head) i z d q item t (zeros 4) (zeros (length item)) (8 + 4 * k) (start_of rs k) pl refl al (length-replicate (length item) 0) in
      let more = take_more rs k [] l in
      let ix : pairs from (take (k + 1) rs) ≡ i ++ q = ap (pairs from) more ∙ pairs_push from front item in
      let bx : bodies (take (k + 1) rs) ≡ d ++ item = ap bodies more ∙ bodies_push front item in
      let sx : size (take (k + 1) rs) ≡ size front + length item = ap size more ∙ size_push front item in
      let tx : zeros (504 - (4 * n + size (take (k + 1) rs))) ≡ t = ap zeros (omega arith) in
      let is : partly head rs (k + 1) ≡ shape (i ++ q) z (d ++ item) t = cc in
      ap (λ x. over (start_of rs k) item (over (8 + 4 * k) q x)) was ∙ step ∙ sym is

  -- the same, as two writes to parts of a block
  pub partly_put : (k at a b len : ℕ) (block bytes item : List ℕ) → k < length rs → block ≡ partly head rs k → at ≡ start_of rs k → item ≡ get_or rs k [] → len ≡ length item → bytes ≡ pair at len → a ≡ 4 → b ≡ len → put_mid at b (put_mid (8 + 4 * k) a block bytes) item ≡ partly head rs (k + 1)
  partly_put k at a b len block bytes item l is e f m g four long =
      let one = put_is (8 + 4 * k) a block bytes (omega (arith, ap length g)) in
      let two = put_is at b (put_mid (8 + 4 * k) a block bytes) item (omega arith) in
      let more = partly_more k l in
      cc

  pub partly_none : head ++ zeros 504 ≡ partly head rs 0
  unfolding partly
  partly_none =
      let n = length rs in
      let w = load_is rs in
      let e : 4 * (n - 0) ≡ 4 * n = omega arith in
      let f : 4 * n + 0 ≡ 4 * n = omega arith in
      let m : 4 * n + (504 - 4 * n) ≡ 504 = omega arith in
      rw (e, f) (ap (λ x. head ++ x) (sym (replicate-append-replicate (4 * n) (504 - 4 * n) 0 ∙ ap zeros m)))

  pub length-partly : (k : ℕ) → k ≤ length rs → length (partly head rs k) ≡ 512
  unfolding partly
  length-partly k l =
      let e = size_front rs k in
      let w = load_is rs in
      let il = length_pairs (8 + 4 * length rs) (take k rs) ∙ ap (λ m. 4 * m) (length-take-le k rs l) in
      simp (length-append, length-replicate) (omega (arith, length_bodies (take k rs)))

  pub start_more : (k : ℕ) → k < length rs → start_of rs k + length (get_or rs k []) ≡ start_of rs (k + 1)
  start_more k l = let e = size_more rs k l in omega arith

-- the heading comes last
pub headed : (prefix : Prefix) (rs : List (List ℕ)) → load rs ≤ 504 → over 0 (heading prefix (length rs)) (partly (zeros 8) rs (length rs)) ≡ bucket_bytes prefix rs
unfolding partly bucket_bytes
headed prefix rs light =
    let e = take_all (length rs) rs (omega arith) in
    let z : 4 * (length rs - length rs) ≡ 0 = omega arith in
    let w : 504 - (4 * length rs + size rs) ≡ 504 - load rs = omega (arith, load_is rs) in
    over_at [] (zeros 8) (heading prefix (length rs)) _ 0 refl refl ∙ rw (e, z, w)
