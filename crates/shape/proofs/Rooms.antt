-- The laws of rooms: which prefix of a slot is a bucket, and what a change at one slot leaves as it is.
use Rattle.std.proofs.Common.{◌≡◌, ℕ, zero, suc, ◌+◌, ◌-◌, ◌/◌, ◌^◌, ◌<◌, ◌≤◌, true, false, eqb, leb, List, sum_by, sym, refl, ap, ◌∙◌, subst, ⊎_elim, add-one, arith}
use Rattle.std.proofs.lemmas.Nat.{shr-shr}
use Rattle.std.proofs.lemmas.Bool.{cases_eq, cases_lt, cases_Bool, both_ways, eqb-true, eq-eqb, leb-true, le-leb}
use Rattle.records.proofs.Kept.{kept_kept}
use Rattle.shape.specs.Shapes.{Measure, prefix_of, under, load, is_light, Held}
use Rattle.shape.specs.Buckets.{room}
use Rattle.shape.proofs.Loads.{load_longer}
use Rattle.shape.proofs.Halves.{prefix_far}

pub half_of : (k s : ℕ) → s / 2 ^ suc k ≡ s / 2 ^ k / 2
half_of k s = ap (λ j. s / 2 ^ j) (sym (add-one k)) ∙ sym (shr-shr s k 1)

-- slots that share a prefix share the shorter ones
pub prefix_up : (j k s t : ℕ) → j ≤ k → s / 2 ^ j ≡ t / 2 ^ j → s / 2 ^ k ≡ t / 2 ^ k
prefix_up j k s t l e =
    let z : j + (k - j) ≡ k = omega arith in
    subst (λ n. s / 2 ^ n ≡ t / 2 ^ n) z (sym (shr-shr s j (k - j)) ∙ ap (λ n. n / 2 ^ (k - j)) e ∙ shr-shr t j (k - j))

-- a hash whose prefix is that of a slot has the slot's shorter prefixes too
pub hash_up : (j k s h : ℕ) → j ≤ k → prefix_of j h ≡ s / 2 ^ j → prefix_of k h ≡ s / 2 ^ k
hash_up j k s h l e = prefix_far k h ∙ prefix_up j k (prefix_of 0 h) s l (sym (prefix_far j h) ∙ e)

module _ {X : Type 0} (m : Measure X) where
  pub room_heavy : (k : ℕ) (rs : List X) (s : ℕ) → is_light m (suc k) (s / 2 ^ suc k) rs ≡ false → room m (suc k) rs s ≡ room m k rs s
  unfolding room
  room_heavy k rs s e = rw e

  pub room_takes : (k : ℕ) (rs : List X) (s : ℕ) → is_light m (suc k) (s / 2 ^ suc k) rs ≡ true → room m (suc k) rs s ≡ suc k
  unfolding room
  room_takes k rs s e = rw e

  pub room_zero : (rs : List X) (s : ℕ) → room m 0 rs s ≡ 0
  unfolding room
  room_zero rs s = refl

  pub room_le : (k : ℕ) (rs : List X) (s : ℕ) → room m k rs s ≤ k
  room_le zero rs s = omega (arith, room_zero rs s)
  room_le (suc k) rs s = ⊎_elim
      (λ e. omega (arith, room_takes k rs s e))
      (λ e. omega (arith, room_heavy k rs s e, room_le k rs s))
      (cases_Bool (is_light m (suc k) (s / 2 ^ suc k) rs))

  -- a bucket is light, and every shorter prefix is heavy
  pub room_light : (k : ℕ) (rs : List X) (s : ℕ) → 0 < room m k rs s → is_light m (room m k rs s) (s / 2 ^ room m k rs s) rs ≡ true
  room_light zero rs s l = absurd (omega (arith, room_zero rs s))
  room_light (suc k) rs s l = ⊎_elim
      (λ t. rw (room_takes k rs s t) t)
      (λ f. let e = room_heavy k rs s f in rw e (room_light k rs s (rw e at l)))
      (cases_Bool (is_light m (suc k) (s / 2 ^ suc k) rs))

  pub room_above : (k : ℕ) (rs : List X) (s j : ℕ) → room m k rs s < j → j ≤ k → is_light m j (s / 2 ^ j) rs ≡ false
  room_above zero rs s j l le = absurd (omega arith)
  room_above (suc k) rs s j l le = ⊎_elim
      (λ t. let e = room_takes k rs s t in absurd (omega arith))
      (λ f. let e = room_heavy k rs s f in
      ⊎_elim (λ z. rw z f) (λ ne. room_above k rs s j (rw e at l) (omega arith)) (cases_eq j (suc k)))
      (cases_Bool (is_light m (suc k) (s / 2 ^ suc k) rs))

  -- what is heavy above K along t is passed over
  pub room_skip : (K k : ℕ) (rs : List X) (s t : ℕ) → K ≤ k → ((j : ℕ) → K < j → j ≤ k → is_light m j (t / 2 ^ j) rs ≡ false) → s / 2 ^ K ≡ t / 2 ^ K → room m k rs s ≡ room m K rs s
  room_skip K zero rs s t le heavy e = let z : K ≡ zero = omega arith in rw z
  room_skip K (suc k) rs s t le heavy e = ⊎_elim
      (λ z. rw z)
      (λ ne. let f = heavy (suc k) (omega arith) (omega arith) in
      let up = prefix_up K (suc k) s t le e in
      room_heavy k rs s (rw up f) ∙ room_skip K k rs s t (omega arith) (λ j a b. heavy j a (omega arith)) e)
      (cases_eq K (suc k))

  pub room_unique : (K k : ℕ) (rs : List X) (s : ℕ) → K ≤ k → ((j : ℕ) → K < j → j ≤ k → is_light m j (s / 2 ^ j) rs ≡ false) → (0 < K → is_light m K (s / 2 ^ K) rs ≡ true) → room m k rs s ≡ K
  room_unique zero k rs s le heavy here = room_skip zero k rs s s le heavy refl ∙ room_zero rs s
  room_unique (suc K) k rs s le heavy here = room_skip (suc K) k rs s s le heavy refl ∙ room_takes K rs s (here (omega arith))

  -- the slots of one bucket have one room
  pub room_shared : (k : ℕ) (rs : List X) (s t : ℕ) → s / 2 ^ room m k rs t ≡ t / 2 ^ room m k rs t → room m k rs s ≡ room m k rs t
  room_shared k rs s t e =
      let K = room m k rs t in
      room_unique K k rs s (room_le k rs t)
      (λ j a b. rw (prefix_up K j s t (omega arith) e) (room_above k rs t j a b))
      (λ l. rw e (room_light k rs t l))

  -- a longer prefix is no heavier
  pub load_up : (j k s : ℕ) (rs : List X) → j ≤ k → load m j (s / 2 ^ j) rs ≤ load m k (s / 2 ^ k) rs
  load_up j k s rs l = load_longer m j (s / 2 ^ j) k (s / 2 ^ k) (λ h e. hash_up j k s h l e) rs

  pub light_down : (j k s : ℕ) (rs : List X) → j ≤ k → is_light m k (s / 2 ^ k) rs ≡ true → is_light m j (s / 2 ^ j) rs ≡ true
  light_down j k s rs le t = le-leb _ _ (omega (arith, load_up j k s rs le, leb-true _ _ t))

  pub heavy_up : (j k s : ℕ) (rs : List X) → j ≤ k → is_light m j (s / 2 ^ j) rs ≡ false → is_light m k (s / 2 ^ k) rs ≡ false
  heavy_up j k s rs le f = ⊎_elim
      (λ (t : is_light m k (s / 2 ^ k) rs ≡ true). absurd (both_ways _ f (light_down j k s rs le t)))
      (λ (z : is_light m k (s / 2 ^ k) rs ≡ false). z)
      (cases_Bool (is_light m k (s / 2 ^ k) rs))

  -- the bucket of a slot is light, where no prefix of 7 bits is too heavy
  pub room_held : (rs : List X) (s : ℕ) → Held m 7 0 rs → s / 2 ^ 7 ≡ 0 → load m (room m 7 rs s) (s / 2 ^ room m 7 rs s) rs ≤ 504
  room_held rs s held z = ⊎_elim
      (λ (l : 0 < room m 7 rs s). leb-true _ _ (room_light 7 rs s l))
      (λ (l : room m 7 rs s ≤ 0).
      let e : room m 7 rs s ≡ 0 = omega arith in
      let f : s / 2 ^ 0 ≡ s = omega arith in
      subst (λ n. load m n (s / 2 ^ n) rs ≤ 504) (sym e) (subst (λ p. load m 0 p rs ≤ 504) (sym f) (held s z)))
      (cases_lt 0 (room m 7 rs s))

  -- the records under a longer prefix of a prefix
  pub under-under : (j k s p : ℕ) (rs : List X) → j ≤ k → s / 2 ^ k ≡ p → under m j (s / 2 ^ j) (under m k p rs) ≡ under m j (s / 2 ^ j) rs
  unfolding under
  under-under j k s p rs l e =
      kept_kept (λ r. eqb (prefix_of j (m.hash r)) (s / 2 ^ j)) (λ r. eqb (prefix_of k (m.hash r)) p)
      (λ x t. eq-eqb _ _ (hash_up j k s (m.hash x) l (eqb-true _ _ t) ∙ e)) rs

  -- two lists that differ at the slot t alone
  module _ (t : ℕ) (rs rs' : List X) (same : (j p : ℕ) → (p ≡ t / 2 ^ j → ⊥) → under m j p rs ≡ under m j p rs') where
    pub light-off : (j p : ℕ) → (p ≡ t / 2 ^ j → ⊥) → is_light m j p rs ≡ is_light m j p rs'
    light-off j p ne = ap (λ xs. leb (sum_by m.weight xs) 504) (same j p ne)

    -- above K both are heavy along t: a bucket off t's prefix at K keeps its prefix
    room_off : (K k s : ℕ) → ((j : ℕ) → K < j → j ≤ k → (is_light m j (t / 2 ^ j) rs ≡ false) × (is_light m j (t / 2 ^ j) rs' ≡ false)) → (s / 2 ^ K ≡ t / 2 ^ K → ⊥) → room m k rs s ≡ room m k rs' s
    room_off K zero s heavy off = room_zero rs s ∙ sym (room_zero rs' s)
    room_off K (suc k) s heavy off =
        let rest = room_off K k s (λ j a b. heavy j a (omega arith)) off in
        ⊎_elim (on rest) (away rest) (cases_eq (s / 2 ^ suc k) (t / 2 ^ suc k))
      where
        on : room m k rs s ≡ room m k rs' s → s / 2 ^ suc k ≡ t / 2 ^ suc k → room m (suc k) rs s ≡ room m (suc k) rs' s
        on rest e = ⊎_elim
            (λ lt. room_heavy k rs s (rw e (heavy (suc k) lt (omega arith)).0) ∙ rest ∙ sym (room_heavy k rs' s (rw e (heavy (suc k) lt (omega arith)).1)))
            (λ le. absurd (off (prefix_up (suc k) K s t le e)))
            (cases_lt K (suc k))

        away : room m k rs s ≡ room m k rs' s → (s / 2 ^ suc k ≡ t / 2 ^ suc k → ⊥) → room m (suc k) rs s ≡ room m (suc k) rs' s
        away rest ne = ⊎_elim
            (λ y. room_takes k rs s y ∙ sym (room_takes k rs' s (sym (light-off (suc k) _ ne) ∙ y)))
            (λ f. room_heavy k rs s f ∙ rest ∙ sym (room_heavy k rs' s (sym (light-off (suc k) _ ne) ∙ f)))
            (cases_Bool (is_light m (suc k) (s / 2 ^ suc k) rs))

    -- K: a prefix of t above which both are heavy. Off it no bucket changes
    pub bucket-off : (K k s : ℕ) → ((j : ℕ) → K < j → j ≤ k → (is_light m j (t / 2 ^ j) rs ≡ false) × (is_light m j (t / 2 ^ j) rs' ≡ false)) → (s / 2 ^ K ≡ t / 2 ^ K → ⊥)
        → (room m k rs s ≡ room m k rs' s) × (under m (room m k rs s) (s / 2 ^ room m k rs s) rs ≡ under m (room m k rs s) (s / 2 ^ room m k rs s) rs')
    bucket-off K k s heavy off =
        let R = room m k rs s in
        let away : s / 2 ^ R ≡ t / 2 ^ R → ⊥ = λ z. ⊎_elim
        (λ (l : K < R). both_ways _ (heavy R l (room_le k rs s)).0 (subst (λ q. is_light m R q rs ≡ true) z (room_light k rs s (omega arith))))
        (λ (l : R ≤ K). off (prefix_up R K s t l z))
        (cases_lt K R) in
        (room_off K k s heavy off, same R (s / 2 ^ R) away)
