-- A prefix and its two halves.
use Rattle.std.proofs.Common.{◌≡◌, ℕ, zero, suc, ◌+◌, ◌-◌, ◌*◌, ◌/◌, ◌^◌, ◌<◌, ◌≤◌, max, true, false, List, sym, refl, ap, ◌∙◌, subst, ⊎_elim, mul_assoc, add-one, arith}
use Rattle.std.proofs.lemmas.Nat.{shr-shr, pow-add, pow_pos, mul-le}
use Rattle.std.proofs.lemmas.Bool.{cases_eq, cond_both}
use Rattle.shape.specs.Shapes.{Measure, prefix_of, load, is_light, Held, buckets, depth}
use Rattle.shape.proofs.Loads.{load_longer}

pub prefix_far : (k h : ℕ) → prefix_of k h ≡ prefix_of 0 h / 2 ^ k
unfolding prefix_of
prefix_far k h = sym (shr-shr h 25 k)

module _ {X : Type 0} (m : Measure X) (rs : List X) where
  pub held_light : (k p : ℕ) → load m k p rs ≤ 504 → Held m k p rs
  held_light k p l q e = omega (arith, load_longer m 0 q k p (λ h z. prefix_far k h ∙ ap (λ n. n / 2 ^ k) z ∙ e) rs)

  pub held_here : (p : ℕ) → Held m 0 p rs → load m 0 p rs ≤ 504
  held_here p h = h p (omega arith)

  pub held_both : (k p : ℕ) → Held m k (2 * p) rs → Held m k (2 * p + 1) rs → Held m (suc k) p rs
  held_both k p low high q e =
      let s : q / 2 ^ k / 2 ≡ p = shr-shr q k 1 ∙ ap (λ j. q / 2 ^ j) (add-one k) ∙ e in
      ⊎_elim (λ z. low q z) (λ z. high q (omega arith)) (cases_eq (q / 2 ^ k) (2 * p))

  held_half : (k p b : ℕ) → b < 2 → Held m (suc k) p rs → Held m k (2 * p + b) rs
  held_half k p b l h q e =
      let s : q / 2 ^ suc k ≡ q / 2 ^ k / 2 = ap (λ j. q / 2 ^ j) (sym (add-one k)) ∙ sym (shr-shr q k 1) in
      h q (s ∙ omega arith)

  pub held_low : (k p : ℕ) → Held m (suc k) p rs → Held m k (2 * p) rs
  held_low k p h q e = held_half k p 0 (omega arith) h q (omega arith)

  pub held_high : (k p : ℕ) → Held m (suc k) p rs → Held m k (2 * p + 1) rs
  held_high k p h q e = held_half k p 1 (omega arith) h q e

  pub buckets_le : (k p : ℕ) → buckets m k p rs ≤ 2 ^ k
  unfolding buckets
  buckets_le zero p = omega arith
  buckets_le (suc k) p =
      let e : 2 ^ suc k ≡ 2 ^ k * 2 = ap (λ j. 2 ^ j) (sym (add-one k)) ∙ pow-add 2 k 1 in
      cond_both (is_light m (suc k) p rs) 1 (buckets m k (2 * p) rs + buckets m k (2 * p + 1) rs) (λ n. n ≤ 2 ^ suc k)
      (λ _. omega (arith, e, pow_pos k)) (λ _. omega (arith, e, buckets_le k (2 * p), buckets_le k (2 * p + 1)))

  pub depth_le : (k p : ℕ) → depth m k p rs ≤ k
  unfolding depth
  depth_le zero p = omega arith
  depth_le (suc k) p =
      cond_both (is_light m (suc k) p rs) 0 (1 + max (depth m k (2 * p) rs) (depth m k (2 * p + 1) rs)) (λ n. n ≤ suc k)
      (λ _. omega arith) (λ _. omega (arith, depth_le k (2 * p), depth_le k (2 * p + 1)))

  pub one_bucket : (k p : ℕ) → is_light m k p rs ≡ true → (1 ≡ buckets m k p rs) × (0 ≡ depth m k p rs)
  unfolding buckets depth
  one_bucket zero p t = (refl, refl)
  one_bucket (suc k) p t = rw t (refl, refl)

-- what is to be known of a heavy prefix p that leaves some bits, and of its halves, which leave k
pub record Node {X : Type 0} (m : Measure X) (rs : List X) (b k p : ℕ) : Type 0 where
  pub low : Held m b p rs → Held m k (2 * p) rs
  pub high : Held m b p rs → Held m k (2 * p + 1) rs
  pub both : Held m k (2 * p) rs → Held m k (2 * p + 1) rs → Held m b p rs
  pub count : buckets m k (2 * p) rs + buckets m k (2 * p + 1) rs ≡ buckets m b p rs
  pub deep : 1 + max (depth m k (2 * p) rs) (depth m k (2 * p + 1) rs) ≡ depth m b p rs

node_suc : {X : Type 0} (m : Measure X) (rs : List X) (k p : ℕ) → is_light m (suc k) p rs ≡ false → Node m rs (suc k) k p
unfolding buckets depth
node_suc m rs k p f = record {
  low = held_low m rs k p;
  high = held_high m rs k p;
  both = held_both m rs k p;
  count = rw f;
  deep = rw f;
}

pub node : {X : Type 0} (m : Measure X) (rs : List X) (b p : ℕ) → (b ≡ 0 → ⊥) → is_light m b p rs ≡ false → Node m rs b (b - 1) p
node m rs zero p nz f = absurd (nz refl)
node m rs (suc k) p nz f = let z : k ≡ suc k - 1 = omega arith in subst (λ j. Node m rs (suc k) j p) z (node_suc m rs k p f)

pub small_halves : (p b : ℕ) → 0 < b → (p + 1) * 2 ^ b ≤ 128 → (p < 128) × ((2 * p + 1) * 2 ^ (b - 1) ≤ 128) × ((2 * p + 1 + 1) * 2 ^ (b - 1) ≤ 128)
small_halves p b l h =
    let A = 2 ^ (b - 1) in
    let z : b - 1 + 1 ≡ b = omega arith in
    let e : 2 ^ b ≡ A * 2 = sym (ap (λ j. 2 ^ j) z) ∙ pow-add 2 (b - 1) 1 in
    let f : (p + 1) * 2 ^ b ≡ (p + 1) * A * 2 = ap (λ x. (p + 1) * x) e ∙ sym (mul_assoc (p + 1) A 2) in
    let w : 2 * p + 1 + 1 ≡ 2 * (p + 1) = omega arith in
    let g : (2 * p + 1 + 1) * A ≡ 2 * ((p + 1) * A) = ap (λ x. x * A) w ∙ mul_assoc 2 (p + 1) A in
    let le = mul-le (2 * p + 1) A (2 * p + 1 + 1) A (omega arith) (omega arith) in
    (omega (arith, mul-le (p + 1) 1 (p + 1) (2 ^ b) (omega arith) (pow_pos b)), omega arith, omega arith)
