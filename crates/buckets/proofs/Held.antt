-- What a bucket block holds at each place, and that its records are read back.
use Rattle.std.proofs.Common.{◌≡◌, ℕ, zero, suc, ◌+◌, ◌-◌, ◌*◌, ◌<◌, ◌≤◌, List, [], ◌∷◌, ◌++◌, map, length, get_or, take, drop, replicate, Option, Some, unwrap_or, refl, ap, ◌∙◌, append_assoc, arith, length-append}
use lib.ListN.{length-replicate}
use Rattle.std.specs.List.{range_with_len}
use Rattle.std.proofs.lemmas.List.FromFn.{length-map-range_with_len, get_or-map-range_with_len}
use Rattle.std.proofs.lemmas.List.{get_or-append-add, take_at, drop-drop, drop_at, same_lists, get_or_default}
use Rattle.std.proofs.lemmas.Bool.Decides.{nat_tests}
use Rattle.words.specs.BigEndian.{be16}
use Rattle.records.specs.Records.{load}
use Rattle.records.specs.Items.{offset_at, length_at, item_at, bucket_item, record_count, records_in}
use Rattle.records.proofs.Itemized.{item_is}
use Rattle.buckets.specs.declared.prefix.Prefix.{Prefix}
use Rattle.buckets.specs.Blocks.{size, bodies, pairs, heading, bucket_bytes}

pub load_is : (rs : List (List ℕ)) → load rs ≡ 4 * length rs + size rs
load_is [] = refl
load_is (r ∷ rs) = let h = load_is rs in omega arith

pub length_pairs : (from : ℕ) (rs : List (List ℕ)) → length (pairs from rs) ≡ 4 * length rs
length_pairs from [] = refl
length_pairs from (r ∷ rs) = let h = length_pairs (from + length r) rs in omega arith

pub length_bodies : (rs : List (List ℕ)) → length (bodies rs) ≡ size rs
length_bodies [] = refl
length_bodies (r ∷ rs) = let h = length_bodies rs in simp length-append (omega arith)

pub size_take : (rs : List (List ℕ)) (i : ℕ) → i < length rs → size (take i rs) + length (get_or rs i []) ≤ size rs
size_take [] i l = elim l [ ]
size_take (r ∷ rs) zero l = omega arith
size_take (r ∷ rs) (suc i) l = let h = size_take rs i (omega arith) in omega arith

pub pairs_offset : (from : ℕ) (rs : List (List ℕ)) (i : ℕ) (t : List ℕ) → i < length rs → from + size rs < 65536 → be16 (pairs from rs ++ t) (4 * i) ≡ from + size (take i rs)
pairs_offset from [] i t l s = elim l [ ]
pairs_offset from (r ∷ rs) zero t l s = omega arith
pairs_offset from (r ∷ rs) (suc i) t l s =
    let e : 4 * suc i ≡ suc (suc (suc (suc (4 * i)))) = omega arith in
    let f : 4 * suc i + 1 ≡ suc (suc (suc (suc (4 * i + 1)))) = omega arith in
    let h = pairs_offset (from + length r) rs i t (omega arith) (omega arith) in
    rw (f, e) (omega arith)

pub pairs-length : (from : ℕ) (rs : List (List ℕ)) (i : ℕ) (t : List ℕ) → i < length rs → size rs < 65536 → be16 (pairs from rs ++ t) (4 * i + 2) ≡ length (get_or rs i [])
pairs-length from [] i t l s = elim l [ ]
pairs-length from (r ∷ rs) zero t l s = omega arith
pairs-length from (r ∷ rs) (suc i) t l s =
    let e : 4 * suc i + 2 ≡ suc (suc (suc (suc (4 * i + 2)))) = omega arith in
    let f : 4 * suc i + 2 + 1 ≡ suc (suc (suc (suc (4 * i + 2 + 1)))) = omega arith in
    let h = pairs-length (from + length r) rs i t (omega arith) (omega arith) in
    rw (f, e) h

pub body_at : (rs : List (List ℕ)) (i : ℕ) (t : List ℕ) → i < length rs → take (length (get_or rs i [])) (drop (size (take i rs)) (bodies rs ++ t)) ≡ get_or rs i []
body_at [] i t l = elim l [ ]
body_at (r ∷ rs) zero t l = rw append_assoc (take_at r (bodies rs ++ t) (length r) refl)
body_at (r ∷ rs) (suc i) t l =
    let h = body_at rs i t (omega arith) in
    rw (← drop-drop (size (take i rs)) (length r) ((r ++ bodies rs) ++ t), append_assoc, drop_at r (bodies rs ++ t) (length r) refl) h

pub be16_past : (h x : List ℕ) (m n : ℕ) → length h + n ≡ m → be16 (h ++ x) m ≡ be16 x n
be16_past h x m n e =
    let f : m + 1 ≡ length h + (n + 1) = omega arith in
    rw (f, ← e, get_or-append-add h x n 0, get_or-append-add h x (n + 1) 0)

pub drop_past : (h x : List ℕ) (m n : ℕ) → length h + n ≡ m → drop m (h ++ x) ≡ drop n x
drop_past h x m n e = rw (← e, ← drop-drop n (length h) (h ++ x), drop_at h x (length h) refl)

-- records laid behind a head, which is how a bucket block and a page hold them
module _ (head tail : List ℕ) (start : ℕ) (long : length head ≡ start) (rs : List (List ℕ)) (small : start + 4 * length rs + size rs < 65536) where
  abbrev block : List ℕ
  block = head ++ (pairs (start + 4 * length rs) rs ++ (bodies rs ++ tail))

  offset_is : (i : ℕ) → i < length rs → offset_at block start i ≡ start + 4 * length rs + size (take i rs)
  offset_is i l = be16_past head _ (start + 4 * i) (4 * i) (omega arith) ∙ pairs_offset (start + 4 * length rs) rs i _ l small

  length_is : (i : ℕ) → i < length rs → length_at block start i ≡ length (get_or rs i [])
  length_is i l = be16_past head _ (start + 4 * i + 2) (4 * i + 2) (omega arith) ∙ pairs-length (start + 4 * length rs) rs i _ l (omega arith)

  record_is : (i : ℕ) → i < length rs → take (length (get_or rs i [])) (drop (start + 4 * length rs + size (take i rs)) block) ≡ get_or rs i []
  record_is i l =
      let k = size (take i rs) in
      let e =
      drop_past head _ (start + 4 * length rs + k) (4 * length rs + k) (omega arith)
      ∙ drop_past (pairs (start + 4 * length rs) rs) _ (4 * length rs + k) k (omega (arith, length_pairs (start + 4 * length rs) rs))
      in
      ap (take (length (get_or rs i []))) e ∙ body_at rs i _ l

  -- each is read back
  pub laid_back : (count i : ℕ) → be16 block count ≡ length rs → i < length rs → item_at count start block i ≡ Some (get_or rs i [])
  laid_back count i c l =
      let n : start + (4 * length rs + size rs) ≤ length block = simp length-append (omega (arith, length_pairs (start + 4 * length rs) rs, length_bodies rs)) in
      let o = offset_is i l in
      let m = length_is i l in
      let s = size_take rs i l in
      item_is count start block i (omega arith) (omega arith) (omega arith) ∙ rw (m, o, record_is i l)

-- a list whose items are told one after another
pub told_back : (item : ℕ → Option (List ℕ)) (count : ℕ) (rs : List (List ℕ)) → count ≡ length rs → ((i : ℕ) → i < length rs → item i ≡ Some (get_or rs i [])) → map (λ n. unwrap_or (item n) []) (range_with_len 0 count) ≡ rs
told_back item count rs c each =
    let f : ℕ → List ℕ = λ n. unwrap_or (item n) [] in
    same_lists (map f (range_with_len 0 count)) rs (length-map-range_with_len f 0 count ∙ c)
    (λ k d l.
    let n = length-map-range_with_len f 0 count in
    let m : k < length rs = omega arith in
    get_or-map-range_with_len f 0 count k k d (omega arith) (omega arith) ∙ ap (λ o. unwrap_or {T = List ℕ} o []) (each k m) ∙ get_or_default rs k [] d m)

module _ (prefix : Prefix) (rs : List (List ℕ)) (light : load rs ≤ 504) where
  pub length-bucket : length (bucket_bytes prefix rs) ≡ 512
  unfolding bucket_bytes
  length-bucket = simp (length-append, length-replicate) (omega (arith, load_is rs, length_pairs (8 + 4 * length rs) rs, length_bodies rs))

  count_at : be16 (bucket_bytes prefix rs) 2 ≡ length rs
  unfolding bucket_bytes
  count_at = let l = load_is rs in omega arith

  -- each record is read back
  pub item_back : (i : ℕ) → i < length rs → bucket_item (bucket_bytes prefix rs) i ≡ Some (get_or rs i [])
  unfolding bucket_bytes
  item_back i l = laid_back (heading prefix (length rs)) (replicate (504 - load rs) 0) 8 refl rs (omega (arith, load_is rs)) 2 i count_at l

  count_back : record_count (bucket_bytes prefix rs) ≡ length rs
  count_back = let n = length-bucket in let c = count_at in grind (arith, nat_tests)

  -- and so are all
  pub records_back : records_in (bucket_bytes prefix rs) ≡ rs
  unfolding records_in
  records_back = told_back (bucket_item (bucket_bytes prefix rs)) (record_count (bucket_bytes prefix rs)) rs count_back item_back
