-- What one step of a split comes to: a light prefix is a bucket, a heavy one is split into its halves.
use Rattle.std.proofs.Common.{◌≡◌, ℕ, suc, ◌+◌, ◌-◌, ◌*◌, ◌/◌, ◌^◌, ◌<◌, ◌≤◌, true, false, eqb, leb, List, [], ◌∷◌, ◌++◌, map, length, get_or, take, drop, sum_by, Less, sym, ap, ◌∙◌, subst, Option, Some, None, Result, Ok, Err, MatchOption, OnOk, OnErr, mul_assoc, mul_comm, add-mul, arith, length-append}
use Rattle.std.specs.List.{AllByRecursion}
use Rattle.std.specs.Result.{result_ok}
use Rattle.std.proofs.lemmas.Nat.{pow-add, pow_pos, mul-le, div_below}
use Rattle.std.proofs.lemmas.List.Edits.{length-between, get_or-between}
use Rattle.std.proofs.ByRecursion.{All-weaker, kept_by_passes}
use Rattle.std.proofs.lemmas.List.{append_assoc, map-append, take-take, drop-drop, drop-take}
use Rattle.std.proofs.lemmas.Bool.{eqb-true, leb-true, leb-false}
use Rattle.std.proofs.lemmas.Bool.Decides.{nat_tests}
use Rattle.kinds.specs.Kinds.{Kind, position}
use Rattle.records.specs.Records.{is_record, key_of, load}
use Rattle.records.specs.Searches.{Sorted}
use Rattle.records.proofs.Rising.{Rising, Before, sorted_rising}
use Rattle.buckets.specs.Blocks.{bucket_bytes}
use Rattle.shape.specs.Shapes.{under, prefix_of, is_light, buckets, Held}
use Rattle.shape.specs.Buckets.{leaves}
use Rattle.shape.specs.Keyed.{by_key}
use Rattle.shape.proofs.Halves.{held_light, held_here, held_low, held_high, held_both}
use Rattle.shape.proofs.Rooms.{half_of, under-under}
use Rattle.shape.proofs.Leaves.{first_within, leaves_light, leaves_heavy, length-leaves}
use Rattle.shape.proofs.Cuts.{Up, cut_low, cut_high}
use Rattle.index.specs.Stored.{prefix_at}
use Rattle.index.proofs.Reading.{load-sum, sorted_under}
use Rattle.arrayvec.specs.ArrayVec.{array_vec_len, Extends}
use Rattle.layout.specs.declared.part.Part.{Part}
use Rattle.layout.specs.Laid.{Buckets, Halves, span, leaf_block, LaidBehind, Unlaid}

-- the first slot of a prefix, at the top of 32 bits
pub top_is : (k p : ℕ) → p * 2 ^ (25 + k) ≡ 33554432 * (p * 2 ^ k)
top_is k p = ap (λ n. p * n) (pow-add 2 25 k) ∙ sym (mul_assoc p (2 ^ 25) (2 ^ k)) ∙ ap (λ n. n * 2 ^ k) (mul_comm p (2 ^ 25)) ∙ mul_assoc (2 ^ 25) p (2 ^ k)

pub first_small : (k p : ℕ) → (p + 1) * 2 ^ k ≤ 128 → p * 2 ^ k < 128
first_small k p h =
    let d : (p + 1) * 2 ^ k ≡ p * 2 ^ k + 2 ^ k = add-mul p 1 (2 ^ k) ∙ omega arith in
    omega (arith, d, pow_pos k)

pub top_small : (k p : ℕ) → (p + 1) * 2 ^ k ≤ 128 → p * 2 ^ (25 + k) < 2 ^ 32
top_small k p h = omega (arith, top_is k p, first_small k p h)

-- the prefix of a slot is one of those with at most 7 bits
pub slot_prefix : (s k : ℕ) → s < 128 → k ≤ 7 → (s / 2 ^ k + 1) * 2 ^ k ≤ 128
slot_prefix s k l h =
    let z : (7 - k) + k ≡ 7 = omega arith in
    let e : 2 ^ (7 - k) * 2 ^ k ≡ 128 = sym (pow-add 2 (7 - k) k) ∙ ap (λ j. 2 ^ j) z in
    let d = div_below s (2 ^ k) (2 ^ (7 - k)) (pow_pos k) (omega arith) in
    omega (arith, e, mul-le (s / 2 ^ k + 1) (2 ^ k) (2 ^ (7 - k)) (2 ^ k) (omega arith) (omega arith))

-- a push that was tried
pub pushed : {E : Type 0} (P Q : Type 0) (r : Result (Unit {0}) E) (o : Option (Unit {0})) → o ≡ result_ok r → OnOk r P → OnErr r Q → MatchOption o Q (λ _. P)
pushed P Q (Ok x) o e p q = rw e p
pushed P Q (Err x) o e p q = rw e q

pub either : {X : Type 0} (o : Option X) {P P' : Type 0} {Q Q' : X → Type 0} → MatchOption o P Q → (P → P') → ((x : X) → Q x → Q' x) → MatchOption o P' Q'
either None h f g = f h
either (Some x) h f g = g x h

-- sorted records stand in rising hash
pub rising_up : (kind : Kind) (rs : List (List ℕ)) → Rising kind rs → Up (by_key kind) rs
rising_up kind [] u = tt
rising_up kind (r ∷ rs) u =
    (All-weaker (Before kind r) (λ q. kind.hash (key_of r) ≤ kind.hash (key_of q)) (λ q e. low (key_of r) (key_of q) e) rs u.2, rising_up kind rs u.3)
  where
    low : (a b : List ℕ) → position kind a b ≡ Less → kind.hash a ≤ kind.hash b
    low a b e = grind (arith, nat_tests)

module _ (kind : Kind) (ys : List (List ℕ)) where
  light_is : (k p : ℕ) (xs : List (List ℕ)) → xs ≡ under (by_key kind) k p ys → leb (load xs) 504 ≡ is_light (by_key kind) k p ys
  light_is k p xs e = ap (λ n. leb n 504) (load-sum xs) ∙ ap (λ zs. leb (sum_by (by_key kind).weight zs) 504) e

  -- a light prefix is one bucket
  module _ (k p : ℕ) (xs : List (List ℕ)) (e : xs ≡ under (by_key kind) k p ys) (light : leb (load xs) 504 ≡ true) (old : Buckets) where
    is : is_light (by_key kind) k p ys ≡ true
    is = sym (light_is k p xs e) ∙ light

    few : buckets (by_key kind) k p ys ≡ 1
    few = sym (length-leaves (by_key kind) k p ys) ∙ ap length (leaves_light (by_key kind) k p ys is)

    pub leaf_behind : (block : List ℕ) (new : Buckets) → block ≡ bucket_bytes (prefix_at k p) xs → Extends old (block ∷ []) new → LaidBehind kind ys k p old new
    leaf_behind block new bytes more = record {
      held = held_light (by_key kind) ys k p (leb-true _ _ is);
      blocks = more ∙ ap (λ b. old.items ++ b ∷ []) (bytes ∙ ap (bucket_bytes (prefix_at k p)) e) ∙ ap (λ ls. old.items ++ map (leaf_block kind ys) ls) (sym (leaves_light (by_key kind) k p ys is));
      longer = omega (arith, few, ap length more, length-append old.items (block ∷ []));
    }

    pub leaf_unlaid : array_vec_len old ≡ 8 → Unlaid kind ys k p old
    leaf_unlaid full room h = omega (arith, few)

  pub dead_end : (p : ℕ) (xs : List (List ℕ)) (old : Buckets) → xs ≡ under (by_key kind) 0 p ys → leb (load xs) 504 ≡ false → Unlaid kind ys 0 p old
  dead_end p xs old e f room h = omega (arith, leb-false _ _ (sym (light_is 0 p xs e) ∙ f), held_here (by_key kind) ys p h)

  module _ {part lo hi : Part} (hv : Halves part lo hi) where
    abbrev K : ℕ
    K = part.room

    abbrev P : ℕ
    P = part.prefix

    abbrev k : ℕ
    k = lo.room

    abbrev q : ℕ
    q = lo.prefix

    abbrev k' : ℕ
    k' = hi.room

    abbrev q' : ℕ
    q' = hi.prefix

    -- a heavy prefix is split into its halves
    module _ {xs : List (List ℕ)} (e : xs ≡ under (by_key kind) K P ys) where
      above : suc k ≡ K
      above = omega arith

      pub as_heavy : xs ≡ under (by_key kind) (suc k) P ys
      as_heavy = subst (λ j. xs ≡ under (by_key kind) j P ys) (sym above) e

      module _ (f : leb (load xs) 504 ≡ false) where
        abbrev Splits : ℕ → ℕ → ℕ → ℕ → Type 0
        Splits K q k' q' =
            (leaves (by_key kind) K P ys ≡ leaves (by_key kind) k q ys ++ leaves (by_key kind) k' q' ys)
            × (Held (by_key kind) K P ys → Held (by_key kind) k q ys × Held (by_key kind) k' q' ys)
            × (Held (by_key kind) k q ys → Held (by_key kind) k' q' ys → Held (by_key kind) K P ys)

        splits : Splits K q k' q'
        splits =
            let same : k ≡ k' = omega arith in
            subst (λ j. Splits j q k' q') above (subst (λ n. Splits (suc k) n k' q') (sym hv.low_prefix) (subst (λ j. Splits (suc k) (2 * P) j q') same (subst (Splits (suc k) (2 * P) k) (sym hv.high_prefix)
            (leaves_heavy (by_key kind) k P ys (sym (light_is (suc k) P xs as_heavy) ∙ f), λ h. (held_low (by_key kind) ys k P h, held_high (by_key kind) ys k P h), λ l h. held_both (by_key kind) ys k P l h))))

        two : buckets (by_key kind) K P ys ≡ buckets (by_key kind) k q ys + buckets (by_key kind) k' q' ys
        two =
            let A = leaves (by_key kind) k q ys in
            let B = leaves (by_key kind) k' q' ys in
            omega (arith, length-leaves (by_key kind) K P ys, ap length splits.0, length-append A B, length-leaves (by_key kind) k q ys, length-leaves (by_key kind) k' q' ys)

        pub low_unlaid : (old : Buckets) → Unlaid kind ys k q old → Unlaid kind ys K P old
        low_unlaid old none room h = none (omega (arith, two)) (splits.1 h).0

        module _ (old mid : Buckets) (low : LaidBehind kind ys k q old mid) where
          pub high_unlaid : Unlaid kind ys k' q' mid → Unlaid kind ys K P old
          high_unlaid none room h = none (omega (arith, two, low.longer)) (splits.1 h).1

          pub both_behind : (new : Buckets) → LaidBehind kind ys k' q' mid new → LaidBehind kind ys K P old new
          both_behind new high =
              let A = leaves (by_key kind) k q ys in
              let B = leaves (by_key kind) k' q' ys in
              record {
                held = splits.2 low.held high.held;
                blocks = high.blocks ∙ ap (λ zs. zs ++ map (leaf_block kind ys) B) low.blocks ∙ append_assoc old.items (map (leaf_block kind ys) A) (map (leaf_block kind ys) B)
                    ∙ ap (λ zs. old.items ++ zs) (sym (map-append (leaf_block kind ys) A B) ∙ ap (map (leaf_block kind ys)) (sym splits.0));
                longer = omega (arith, high.longer, low.longer, two);
              }

    -- the records of a heavy prefix, cut where the low half ends
    module _ (s : Sorted kind ys) (rs : List (List ℕ)) (from to middle : ℕ) (e₀ : span from to rs ≡ under (by_key kind) K P ys)
        (a : from ≤ middle) (b : middle ≤ to) (c : to ≤ length rs)
        (low₀ : (i : ℕ) → from ≤ i → i < middle → is_record (get_or rs i []) ≡ true → prefix_of k (kind.hash (key_of (get_or rs i []))) ≡ q)
        (next₀ : middle < to → is_record (get_or rs middle []) ≡ true → prefix_of k (kind.hash (key_of (get_or rs middle []))) ≡ q → ⊥) where
      e : span from to rs ≡ under (by_key kind) (suc k) P ys
      e = as_heavy e₀

      low : (i : ℕ) → from ≤ i → i < middle → is_record (get_or rs i []) ≡ true → prefix_of k (kind.hash (key_of (get_or rs i []))) ≡ 2 * P
      low i l m r = low₀ i l m r ∙ hv.low_prefix

      next : middle < to → is_record (get_or rs middle []) ≡ true → prefix_of k (kind.hash (key_of (get_or rs middle []))) ≡ 2 * P → ⊥
      next l r h = next₀ l r (h ∙ sym hv.low_prefix)

      run-sorted : Sorted kind (span from to rs)
      run-sorted = subst (Sorted kind) (sym e) (sorted_under kind (suc k) P ys s)

      at : (i : ℕ) → i < to - from → get_or (span from to rs) i [] ≡ get_or rs (from + i) []
      at i l = get_or-between rs from to i [] (omega arith)

      whole : (i : ℕ) → i < to - from → is_record (get_or rs (from + i) []) ≡ true
      whole i l = subst (λ r. is_record r ≡ true) (at i l) (run-sorted.whole i (omega (arith, length-between rs from to c)))

      low-at : (i : ℕ) → i < middle - from → prefix_of k (kind.hash (key_of (get_or (span from to rs) i []))) ≡ 2 * P
      low-at i l = subst (λ r. prefix_of k (kind.hash (key_of r)) ≡ 2 * P) (sym (at i (omega arith))) (low (from + i) (omega arith) (omega arith) (whole i (omega arith)))

      next-at : middle - from < length (span from to rs) → prefix_of k (kind.hash (key_of (get_or (span from to rs) (middle - from) []))) ≡ 2 * P → ⊥
      next-at l z =
          let h : middle - from < to - from = omega (arith, length-between rs from to c) in
          let w : from + (middle - from) ≡ middle = omega arith in
          next (omega arith) (subst (λ j. is_record (get_or rs j []) ≡ true) w (whole (middle - from) h)) (subst (λ j. prefix_of k (kind.hash (key_of (get_or rs j []))) ≡ 2 * P) w (subst (λ r. prefix_of k (kind.hash (key_of r)) ≡ 2 * P) (at (middle - from) h) z))

      inside : AllByRecursion (λ r. prefix_of (suc k) (kind.hash (key_of r)) ≡ P) (span from to rs)
      unfolding under
      inside = subst (AllByRecursion (λ r. prefix_of (suc k) (kind.hash (key_of r)) ≡ P)) (sym e)
          (All-weaker (λ r. eqb (prefix_of (suc k) (kind.hash (key_of r))) P ≡ true) (λ r. prefix_of (suc k) (kind.hash (key_of r)) ≡ P) (λ r t. eqb-true _ _ t) _ (kept_by_passes (λ r. eqb (prefix_of (suc k) (kind.hash (key_of r))) P) ys))

      half : (q : ℕ) → q / 2 ≡ P → under (by_key kind) k q (span from to rs) ≡ under (by_key kind) k q ys
      half q h =
          let z = first_within k q in
          let w : q * 2 ^ k / 2 ^ suc k ≡ P = half_of k (q * 2 ^ k) ∙ ap (λ j. j / 2) z ∙ h in
          ap (under (by_key kind) k q) e ∙ subst (λ j. under (by_key kind) k j (under (by_key kind) (suc k) P ys) ≡ under (by_key kind) k j ys) z (under-under (by_key kind) k (suc k) (q * 2 ^ k) P ys (omega arith) w)

      pub low_half : span from middle rs ≡ under (by_key kind) k q ys
      low_half =
          let cut = cut_low (by_key kind) k P (span from to rs) [] (rising_up kind _ (sorted_rising kind _ run-sorted)) inside (middle - from) (omega (arith, length-between rs from to c)) low-at next-at in
          sym (take-take (middle - from) (to - from) (drop from rs) (omega arith)) ∙ cut ∙ half (2 * P) (omega arith) ∙ ap (λ n. under (by_key kind) k n ys) (sym hv.low_prefix)

      pub high_half : span middle to rs ≡ under (by_key kind) k' q' ys
      high_half =
          let cut = cut_high (by_key kind) k P (span from to rs) [] (rising_up kind _ (sorted_rising kind _ run-sorted)) inside (middle - from) (omega (arith, length-between rs from to c)) low-at next-at in
          let w : to - from ≡ (middle - from) + (to - middle) = omega arith in
          let v : from + (middle - from) ≡ middle = omega arith in
          let back : span middle to rs ≡ drop (middle - from) (span from to rs) =
          sym (ap (λ j. drop (middle - from) (take j (drop from rs))) w ∙ drop-take (middle - from) (to - middle) (drop from rs) ∙ ap (take (to - middle)) (drop-drop (middle - from) from rs) ∙ ap (λ j. take (to - middle) (drop j rs)) v) in
          let same : k ≡ k' = omega arith in
          back ∙ cut ∙ half (2 * P + 1) (omega arith) ∙ ap (λ n. under (by_key kind) k n ys) (sym hv.high_prefix) ∙ ap (λ j. under (by_key kind) j q' ys) same
