-- Naming buckets in their slots, one after another.
use Rattle.std.proofs.Common.{◌≡◌, ℕ, zero, suc, ◌+◌, ◌-◌, ◌*◌, ◌/◌, ◌%◌, ◌^◌, ◌<◌, ◌≤◌, true, false, List, length, get_or, replicate, sym, refl, ap, ◌∙◌, subst, ⊎_elim, mul_assoc, mul_comm, add-mul, add-one, arith}
use Rattle.std.specs.List.{AllByRecursion}
use Rattle.std.proofs.lemmas.Nat.{pow-add, pow_pos, mul-le, div-add-mod', mod_below, div_below, le-div}
use Rattle.std.proofs.ByRecursion.{All-append, All-weaker}
use Rattle.std.proofs.lemmas.List.{get_or-take, get_or-drop, get_or-replicate, length-replicate}
use Rattle.std.proofs.lemmas.List.Edits.{get_or-between}
use Rattle.std.proofs.lemmas.Slice.{take-put_mid_below, between-put_mid, drop-put_mid}
use borrow.Rule.Slice.PartMut.{put_mid}
use Rattle.std.proofs.lemmas.Bool.{cases_eq, cases_lt, cases_Bool, cond-true, cond-false, and_from, and_left, and_right, le-leb, lt-leb, lt-ltb, le-ltb}
use Rattle.kinds.specs.Kinds.{Kind}
use Rattle.buckets.specs.declared.prefix.Prefix.{Prefix}
use Rattle.buckets.specs.Blocks.{bucket_bytes}
use Rattle.shape.specs.Shapes.{Measure, under, is_light}
use Rattle.shape.specs.Buckets.{Leaf, first_slot, leaves}
use Rattle.shape.specs.Keyed.{by_key}
use Rattle.shape.proofs.Leaves.{leaf, leaves_zero, leaves_light, leaves_heavy, place_is}
use Rattle.index.specs.Stored.{prefix_at}
use Rattle.layout.specs.Laid.{leaf_block}
use Rattle.layout.proofs.Splits.{top_is, top_small}
use Rattle.changes.specs.Relaying.{filled_at, first_in, room_in, is_run, Named, Unnamed}

-- a list whose elements from one place up to another were filled
pub filled : (xs ys : List ℕ) (from to v n : ℕ) → from ≤ to → to ≤ length xs → n ≡ to - from → ys ≡ replicate n v → (s : ℕ) → get_or (put_mid from (to - from) xs ys) s 0 ≡ filled_at from to v xs s
filled xs ys from to v n a b z e s = ⊎_elim
    (λ (l : s < from).
    sym (get_or-take from P s 0 l) ∙ ap (λ zs. get_or zs s 0) (take-put_mid_below from (to - from) xs ys from (omega arith) (omega arith)) ∙ get_or-take from xs s 0 l
    ∙ sym (cond-false _ _ _ (and_left _ _ (lt-leb _ _ l))))
    (λ (l : from ≤ s). ⊎_elim
    (λ (m : s < to).
    let at : from + (s - from) ≡ s = omega arith in
    ap (λ i. get_or P i 0) (sym at) ∙ sym (get_or-between P from to (s - from) 0 (omega arith)) ∙ ap (λ zs. get_or zs (s - from) 0) (between-put_mid from (to - from) xs ys to (omega arith) long ∙ e)
    ∙ get_or-replicate n (s - from) v 0 (omega arith) ∙ sym (cond-true _ _ _ (and_from _ _ (le-leb _ _ l) (lt-ltb _ _ m))))
    (λ (m : to ≤ s).
    let at : to + (s - to) ≡ s = omega arith in
    ap (λ i. get_or P i 0) (sym at) ∙ sym (get_or-drop to P (s - to) 0) ∙ ap (λ zs. get_or zs (s - to) 0) (drop-put_mid from (to - from) xs ys to (omega arith) (omega arith) long) ∙ get_or-drop to xs (s - to) 0
    ∙ ap (λ i. get_or xs i 0) at ∙ sym (cond-false _ _ _ (and_right _ _ (le-ltb _ _ m))))
    (cases_lt s to))
    (cases_lt s from)
  where
    P : List ℕ
    P = put_mid from (to - from) xs ys

    long : length ys ≡ to - from
    long = ap length e ∙ length-replicate n v ∙ z

-- a bucket's slots are those from its first one on
module _ (k p : ℕ) where
  pub in_run : (s : ℕ) → s / 2 ^ k ≡ p → (p * 2 ^ k ≤ s) × (s < p * 2 ^ k + 2 ^ k)
  in_run s e =
      let f : s / 2 ^ k * 2 ^ k ≡ p * 2 ^ k = ap (λ n. n * 2 ^ k) e in
      (omega (arith, f, div-add-mod' s (2 ^ k)), omega (arith, f, div-add-mod' s (2 ^ k), mod_below s (2 ^ k) (pow_pos k)))

  pub run_in : (s : ℕ) → p * 2 ^ k ≤ s → s < p * 2 ^ k + 2 ^ k → s / 2 ^ k ≡ p
  run_in s a b =
      let lo = le-div p s (2 ^ k) (pow_pos k) a in
      let e : (p + 1) * 2 ^ k ≡ p * 2 ^ k + 2 ^ k = add-mul p 1 (2 ^ k) ∙ omega arith in
      let hi = div_below s (2 ^ k) (p + 1) (pow_pos k) (omega arith) in
      omega arith

  pub filled_on : (v : ℕ) (xs : List ℕ) (s : ℕ) → s / 2 ^ k ≡ p → filled_at (p * 2 ^ k) (p * 2 ^ k + 2 ^ k) v xs s ≡ v
  filled_on v xs s e = let b = in_run s e in cond-true _ _ _ (and_from _ _ (le-leb _ _ b.0) (lt-ltb _ _ b.1))

  pub filled_off : (v : ℕ) (xs : List ℕ) (s : ℕ) → (s / 2 ^ k ≡ p → ⊥) → filled_at (p * 2 ^ k) (p * 2 ^ k + 2 ^ k) v xs s ≡ get_or xs s 0
  filled_off v xs s ne = ⊎_elim
      (λ (a : s < p * 2 ^ k). cond-false _ _ _ (and_left _ _ (lt-leb _ _ a)))
      (λ (a : p * 2 ^ k ≤ s). ⊎_elim
      (λ (b : s < p * 2 ^ k + 2 ^ k). absurd (ne (run_in s a b)))
      (λ (b : p * 2 ^ k + 2 ^ k ≤ s). cond-false _ _ _ (and_right _ _ (le-ltb _ _ b)))
      (cases_lt s (p * 2 ^ k + 2 ^ k)))
      (cases_lt s (p * 2 ^ k))

double : (k p : ℕ) → ((2 * p + 1) * 2 ^ k ≤ (p + 1) * 2 ^ suc k) × ((2 * p + 1 + 1) * 2 ^ k ≤ (p + 1) * 2 ^ suc k)
double k p =
    let e : 2 ^ suc k ≡ 2 * 2 ^ k = ap (λ j. 2 ^ j) (sym (add-one k)) ∙ pow-add 2 k 1 ∙ mul_comm (2 ^ k) 2 in
    let f : (p + 1) * 2 ^ suc k ≡ (p + 1) * 2 * 2 ^ k = ap (λ n. (p + 1) * n) e ∙ sym (mul_assoc (p + 1) 2 (2 ^ k)) in
    let w : (p + 1) * 2 ≡ 2 * p + 1 + 1 = omega arith in
    let g : (p + 1) * 2 * 2 ^ k ≡ (2 * p + 1 + 1) * 2 ^ k = ap (λ n. n * 2 ^ k) w in
    (omega (arith, f, g, mul-le (2 * p + 1) (2 ^ k) (2 * p + 1 + 1) (2 ^ k) (omega arith) (omega arith)), omega (arith, f, g))

module _ {X : Type 0} (m : Measure X) (rs : List X) where
  abbrev Within : ℕ → ℕ → Leaf → Type 0
  Within k p x = (x.room ≤ k) × ((x.prefix + 1) * 2 ^ x.room ≤ (p + 1) * 2 ^ k)

  pub leaves_within : (k p : ℕ) → AllByRecursion (Within k p) (leaves m k p rs)
  leaves_within zero p = subst (AllByRecursion (Within zero p)) (sym (leaves_zero m p rs)) ((omega arith, omega arith), tt)
  leaves_within (suc k) p = ⊎_elim
      (λ (t : is_light m (suc k) p rs ≡ true). subst (AllByRecursion (Within (suc k) p)) (sym (leaves_light m (suc k) p rs t)) ((omega arith, omega arith), tt))
      (λ (f : is_light m (suc k) p rs ≡ false).
      let d = double k p in
      subst (AllByRecursion (Within (suc k) p)) (sym (leaves_heavy m k p rs f))
      (All-append (Within (suc k) p) _ _
      (All-weaker (Within k (2 * p)) (Within (suc k) p) (λ x h. (omega (arith, h.0), omega (arith, h.1, d.0))) _ (leaves_within k (2 * p)))
      (All-weaker (Within k (2 * p + 1)) (Within (suc k) p) (λ x h. (omega (arith, h.0), omega (arith, h.1, d.1))) _ (leaves_within k (2 * p + 1)))))
      (cases_Bool (is_light m (suc k) p rs))

-- what a bucket's block says of its run
bits_of : (prefix : Prefix) (rs : List (List ℕ)) → get_or (bucket_bytes prefix rs) 1 0 ≡ prefix.bits
unfolding bucket_bytes
bits_of prefix rs = refl

top_of : (prefix : Prefix) (rs : List (List ℕ)) → get_or (bucket_bytes prefix rs) 4 0 ≡ prefix.top / 16777216 % 256
unfolding bucket_bytes
top_of prefix rs = refl

module _ (kind : Kind) (new : List (List ℕ)) (x : Leaf) (deep : x.room ≤ 7) (small : (x.prefix + 1) * 2 ^ x.room ≤ 128) where
  pub leaf_room : room_in (leaf_block kind new x) ≡ x.room
  leaf_room = omega (arith, bits_of (prefix_at x.room x.prefix) (under (by_key kind) x.room x.prefix new))

  pub leaf_first : first_in (leaf_block kind new x) ≡ first_slot x
  leaf_first = omega (arith, top_of (prefix_at x.room x.prefix) (under (by_key kind) x.room x.prefix new), top_is x.room x.prefix, top_small x.room x.prefix small)

  pub leaf-run : is_run (leaf_block kind new x) ≡ true
  leaf-run =
      let bits = bits_of (prefix_at x.room x.prefix) (under (by_key kind) x.room x.prefix new) in
      let e : (x.prefix + 1) * 2 ^ x.room ≡ x.prefix * 2 ^ x.room + 2 ^ x.room = add-mul x.prefix 1 (2 ^ x.room) ∙ omega arith in
      let block = leaf_block kind new x in
      let low : get_or block 1 0 ≤ 7 = omega (arith, bits) in
      let high : first_in block + 2 ^ room_in block ≤ 128 = omega (arith, leaf_first, ap (λ n. 2 ^ n) leaf_room, e, small) in
      and_from _ _ (le-leb _ _ low) (le-leb _ _ high)

-- one bucket more is named
module _ (kind : Kind) (new : List (List ℕ)) (k p i : ℕ) (numbers slots rooms slots₁ rooms₁ slots₂ rooms₂ : List ℕ)
    (l : i < length (leaves (by_key kind) k p new)) (number : ℕ) (is : number ≡ get_or numbers i 0)
    (s-filled : (s : ℕ) → get_or slots₂ s 0 ≡ filled_at (first_slot (get_or (leaves (by_key kind) k p new) i (leaf 0 0))) (first_slot (get_or (leaves (by_key kind) k p new) i (leaf 0 0)) + 2 ^ (get_or (leaves (by_key kind) k p new) i (leaf 0 0)).room) number slots₁ s)
    (r-filled : (s : ℕ) → get_or rooms₂ s 0 ≡ filled_at (first_slot (get_or (leaves (by_key kind) k p new) i (leaf 0 0))) (first_slot (get_or (leaves (by_key kind) k p new) i (leaf 0 0)) + 2 ^ (get_or (leaves (by_key kind) k p new) i (leaf 0 0)).room) (get_or (leaves (by_key kind) k p new) i (leaf 0 0)).room rooms₁ s) where
  same_leaf : (j s : ℕ) → j < length (leaves (by_key kind) k p new)
      → s / 2 ^ (get_or (leaves (by_key kind) k p new) j (leaf 0 0)).room ≡ (get_or (leaves (by_key kind) k p new) j (leaf 0 0)).prefix
      → s / 2 ^ (get_or (leaves (by_key kind) k p new) i (leaf 0 0)).room ≡ (get_or (leaves (by_key kind) k p new) i (leaf 0 0)).prefix → j ≡ i
  same_leaf j s lj ej ei = sym (place_is (by_key kind) k p new j s (leaf 0 0) lj ej).1 ∙ (place_is (by_key kind) k p new i s (leaf 0 0) l ei).1

  pub named_more : Named (leaves (by_key kind) k p new) i numbers slots₁ rooms₁ → Named (leaves (by_key kind) k p new) (i + 1) numbers slots₂ rooms₂
  named_more h j s lj bj ls e = ⊎_elim
      (λ (z : j ≡ i).
      let x = get_or (leaves (by_key kind) k p new) i (leaf 0 0) in
      let ei : s / 2 ^ x.room ≡ x.prefix = subst (λ n. s / 2 ^ (get_or (leaves (by_key kind) k p new) n (leaf 0 0)).room ≡ (get_or (leaves (by_key kind) k p new) n (leaf 0 0)).prefix) z e in (
        s-filled s ∙ filled_on x.room x.prefix number slots₁ s ei ∙ is ∙ ap (λ n. get_or numbers n 0) (sym z),
        r-filled s ∙ filled_on x.room x.prefix x.room rooms₁ s ei ∙ ap (λ n. (get_or (leaves (by_key kind) k p new) n (leaf 0 0)).room) (sym z),
      ))
      (λ (ne : j ≡ i → ⊥).
      let x = get_or (leaves (by_key kind) k p new) i (leaf 0 0) in
      let off : s / 2 ^ x.room ≡ x.prefix → ⊥ = λ ei. ne (same_leaf j s bj e ei) in
      let lt : j < i = ⊎_elim (λ (a : j < i). a) (λ (a : i ≤ j). absurd (ne (omega arith))) (cases_lt j i) in
      let w = h j s lt bj ls e in
      (s-filled s ∙ filled_off x.room x.prefix number slots₁ s off ∙ w.0, r-filled s ∙ filled_off x.room x.prefix x.room rooms₁ s off ∙ w.1))
      (cases_eq j i)

  pub unnamed_more : Unnamed (leaves (by_key kind) k p new) i slots rooms slots₁ rooms₁ → Unnamed (leaves (by_key kind) k p new) (i + 1) slots rooms slots₂ rooms₂
  unnamed_more h s ls none =
      let x = get_or (leaves (by_key kind) k p new) i (leaf 0 0) in
      let off = none i (omega arith) l in
      let w = h s ls (λ j lj bj. none j (omega arith) bj) in
      (s-filled s ∙ filled_off x.room x.prefix number slots₁ s off ∙ w.0, r-filled s ∙ filled_off x.room x.prefix x.room rooms₁ s off ∙ w.1)
