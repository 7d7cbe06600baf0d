-- The buckets as a list: which of them a slot has, how many there are, and what a change leaves of them.
use Rattle.std.proofs.Common.{◌≡◌, ℕ, zero, suc, ◌+◌, ◌-◌, ◌*◌, ◌/◌, ◌^◌, ◌<◌, ◌≤◌, true, false, cond, eqb, ◌⊎◌, List, [], ◌∷◌, ◌++◌, length, get_or, sum_by, sym, refl, ap, ◌∙◌, subst, inl, inr, ⊎_elim, append_assoc, add-mul, arith, length-append}
use Rattle.std.specs.List.{AllByRecursion}
use Rattle.std.proofs.lemmas.Nat.{pow_pos, le-div, div_below}
use Rattle.std.proofs.ByRecursion.{All-append, All-from_get_or, All-weaker}
use Rattle.std.proofs.lemmas.List.{append-nil, get_or_append_left, get_or-append-add}
use Rattle.std.proofs.lemmas.List.Sums.{sum_by-cons}
use Rattle.std.proofs.lemmas.Bool.{cases_eq, cases_lt, cases_Bool, cond-true, cond-false, eq-eqb, ne_eqb, leb-false}
use Rattle.std.proofs.lemmas.Bool.Decides.{nat_tests}
use Rattle.shape.specs.Shapes.{Measure, prefix_of, weight_under, under, load, is_light, buckets}
use Rattle.shape.specs.Buckets.{room, Leaf, first_slot, leaves}
use Rattle.shape.proofs.Loads.{load_parts}
use Rattle.shape.proofs.Rooms.{half_of, prefix_up, room_zero, room_heavy, room_takes, light-off}
use Rattle.shape.proofs.Halves.{prefix_far}

abbrev pub leaf : ℕ → ℕ → Leaf
leaf k p = record { room = k; prefix = p }

-- the first slot of a bucket has its prefix
pub first_within : (k p : ℕ) → p * 2 ^ k / 2 ^ k ≡ p
first_within k p =
    let lo = le-div p (p * 2 ^ k) (2 ^ k) (pow_pos k) (omega arith) in
    let hi = div_below (p * 2 ^ k) (2 ^ k) (p + 1) (pow_pos k) (omega (arith, pow_pos k, add-mul p 1 (2 ^ k))) in
    omega arith

module _ {X : Type 0} (m : Measure X) where
  pub leaves_zero : (p : ℕ) (rs : List X) → leaves m 0 p rs ≡ leaf 0 p ∷ []
  unfolding leaves
  leaves_zero p rs = refl

  pub leaves_light : (k p : ℕ) (rs : List X) → is_light m k p rs ≡ true → leaves m k p rs ≡ leaf k p ∷ []
  unfolding leaves
  leaves_light zero p rs t = refl
  leaves_light (suc k) p rs t = rw t

  pub leaves_heavy : (k p : ℕ) (rs : List X) → is_light m (suc k) p rs ≡ false → leaves m (suc k) p rs ≡ leaves m k (2 * p) rs ++ leaves m k (2 * p + 1) rs
  unfolding leaves
  leaves_heavy k p rs f = rw f

  pub length-leaves : (k p : ℕ) (rs : List X) → length (leaves m k p rs) ≡ buckets m k p rs
  unfolding buckets
  length-leaves zero p rs = ap length (leaves_zero p rs)
  length-leaves (suc k) p rs = ⊎_elim
      (λ t. ap length (leaves_light (suc k) p rs t) ∙ sym (cond-true _ _ _ t))
      (λ f. ap length (leaves_heavy k p rs f) ∙ length-append (leaves m k (2 * p) rs) (leaves m k (2 * p + 1) rs)
      ∙ ap (λ n. n + length (leaves m k (2 * p + 1) rs)) (length-leaves k (2 * p) rs)
      ∙ ap (λ n. buckets m k (2 * p) rs + n) (length-leaves k (2 * p + 1) rs) ∙ sym (cond-false _ _ _ f))
      (cases_Bool (is_light m (suc k) p rs))

  -- which bucket under p a slot has
  unfoldable pub place_of : ℕ → ℕ → List X → ℕ → ℕ
  place_of zero p rs s = 0
  place_of (suc k) p rs s =
      cond (is_light m (suc k) p rs) 0 (cond (eqb (s / 2 ^ k) (2 * p)) (place_of k (2 * p) rs s) (length (leaves m k (2 * p) rs) + place_of k (2 * p + 1) rs s))

  place_light : (k p : ℕ) (rs : List X) (s : ℕ) → is_light m (suc k) p rs ≡ true → place_of (suc k) p rs s ≡ 0
  unfolding place_of
  place_light k p rs s t = cond-true _ _ _ t

  place_low : (k p : ℕ) (rs : List X) (s : ℕ) → is_light m (suc k) p rs ≡ false → s / 2 ^ k ≡ 2 * p → place_of (suc k) p rs s ≡ place_of k (2 * p) rs s
  unfolding place_of
  place_low k p rs s f e = cond-false _ _ _ f ∙ cond-true _ _ _ (eq-eqb _ _ e)

  place_high : (k p : ℕ) (rs : List X) (s : ℕ) → is_light m (suc k) p rs ≡ false → s / 2 ^ k ≡ 2 * p + 1 → place_of (suc k) p rs s ≡ length (leaves m k (2 * p) rs) + place_of k (2 * p + 1) rs s
  unfolding place_of
  place_high k p rs s f e = cond-false _ _ _ f ∙ cond-false _ _ _ (ne_eqb (s / 2 ^ k) (2 * p) (λ (z : s / 2 ^ k ≡ 2 * p). omega arith))

  -- a slot under p is in one of its halves
  halves : (k p s : ℕ) → s / 2 ^ suc k ≡ p → (s / 2 ^ k ≡ 2 * p) ⊎ (s / 2 ^ k ≡ 2 * p + 1)
  halves k p s e = ⊎_elim (λ z. inl z) (λ ne. inr (omega (arith, half_of k s))) (cases_eq (s / 2 ^ k) (2 * p))

  abbrev At : ℕ → ℕ → List X → ℕ → Leaf → Type 0
  At k p rs s d = (place_of k p rs s < length (leaves m k p rs)) × (get_or (leaves m k p rs) (place_of k p rs s) d ≡ leaf (room m k rs s) (s / 2 ^ room m k rs s))

  pub leaf_at : (k p : ℕ) (rs : List X) (s : ℕ) (d : Leaf) → s / 2 ^ k ≡ p → At k p rs s d
  unfolding place_of
  leaf_at zero p rs s d e = (
    omega (arith, ap length (leaves_zero p rs)),
    ap (λ ls. get_or ls 0 d) (leaves_zero p rs) ∙ ap (leaf 0) (sym e) ∙ ap (λ n. leaf n (s / 2 ^ n)) (sym (room_zero m rs s)),
  )
  leaf_at (suc k) p rs s d e = ⊎_elim single (split (λ q h. leaf_at k q rs s d h)) (cases_Bool (is_light m (suc k) p rs))
    where
      single : is_light m (suc k) p rs ≡ true → At (suc k) p rs s d
      single t =
          let z = place_light k p rs s t in
          let r = room_takes m k rs s (subst (λ q. is_light m (suc k) q rs ≡ true) (sym e) t) in
          let ls = leaves_light (suc k) p rs t in (
            omega (arith, ap length ls, z),
            ap (λ n. get_or (leaves m (suc k) p rs) n d) z ∙ ap (λ xs. get_or xs 0 d) ls ∙ ap (leaf (suc k)) (sym e) ∙ ap (λ n. leaf n (s / 2 ^ n)) (sym r),
          )

      split : ((q : ℕ) → s / 2 ^ k ≡ q → At k q rs s d) → is_light m (suc k) p rs ≡ false → At (suc k) p rs s d
      split rec f =
          let A = leaves m k (2 * p) rs in
          let B = leaves m k (2 * p + 1) rs in
          let r = room_heavy m k rs s (subst (λ q. is_light m (suc k) q rs ≡ false) (sym e) f) in
          let ls = leaves_heavy k p rs f in
          let long = ap length ls ∙ length-append A B in
          ⊎_elim
          (λ (low : s / 2 ^ k ≡ 2 * p).
          let ih = rec (2 * p) low in
          let z = place_low k p rs s f low in (
            omega (arith, z, long, ih.0),
            ap (λ n. get_or (leaves m (suc k) p rs) n d) z ∙ ap (λ xs. get_or xs (place_of k (2 * p) rs s) d) ls
                ∙ get_or_append_left A B d (place_of k (2 * p) rs s) ih.0 ∙ ih.1 ∙ ap (λ n. leaf n (s / 2 ^ n)) (sym r),
          ))
          (λ (high : s / 2 ^ k ≡ 2 * p + 1).
          let ih = rec (2 * p + 1) high in
          let z = place_high k p rs s f high in (
            omega (arith, z, long, ih.0),
            ap (λ n. get_or (leaves m (suc k) p rs) n d) z ∙ ap (λ xs. get_or xs (length A + place_of k (2 * p + 1) rs s) d) ls
                ∙ get_or-append-add A B (place_of k (2 * p + 1) rs s) d ∙ ih.1 ∙ ap (λ n. leaf n (s / 2 ^ n)) (sym r),
          ))
          (halves k p s e)

  abbrev Of : ℕ → ℕ → List X → ℕ → ℕ → Type 0
  Of k p rs i s = (s / 2 ^ k ≡ p) × (place_of k p rs s ≡ i)

  -- a slot with the prefix of bucket i has that bucket
  pub place_is : (k p : ℕ) (rs : List X) (i s : ℕ) (d : Leaf) → i < length (leaves m k p rs) → s / 2 ^ (get_or (leaves m k p rs) i d).room ≡ (get_or (leaves m k p rs) i d).prefix → Of k p rs i s
  unfolding place_of
  place_is zero p rs i s d l e =
      let ls = leaves_zero p rs in
      let z : i ≡ 0 = omega (arith, ap length ls) in
      (subst (λ x. s / 2 ^ x.room ≡ x.prefix) (ap (λ n. get_or (leaves m 0 p rs) n d) z ∙ ap (λ xs. get_or xs 0 d) ls) e, sym z)
  place_is (suc k) p rs i s d l e = ⊎_elim single (split (λ q j b h. place_is k q rs j s d b h)) (cases_Bool (is_light m (suc k) p rs))
    where
      single : is_light m (suc k) p rs ≡ true → Of (suc k) p rs i s
      single t =
          let ls = leaves_light (suc k) p rs t in
          let z : i ≡ 0 = omega (arith, ap length ls) in
          (subst (λ x. s / 2 ^ x.room ≡ x.prefix) (ap (λ n. get_or (leaves m (suc k) p rs) n d) z ∙ ap (λ xs. get_or xs 0 d) ls) e, place_light k p rs s t ∙ sym z)

      split : ((q j : ℕ) → j < length (leaves m k q rs) → s / 2 ^ (get_or (leaves m k q rs) j d).room ≡ (get_or (leaves m k q rs) j d).prefix → Of k q rs j s) → is_light m (suc k) p rs ≡ false → Of (suc k) p rs i s
      split rec f =
          let A = leaves m k (2 * p) rs in
          let B = leaves m k (2 * p + 1) rs in
          let ls = leaves_heavy k p rs f in
          let long = ap length ls ∙ length-append A B in
          ⊎_elim
          (λ (low : i < length A).
          let at : get_or (leaves m (suc k) p rs) i d ≡ get_or A i d = ap (λ xs. get_or xs i d) ls ∙ get_or_append_left A B d i low in
          let ih = rec (2 * p) i low (subst (λ x. s / 2 ^ x.room ≡ x.prefix) at e) in
          (omega (arith, half_of k s, ih.0), place_low k p rs s f ih.0 ∙ ih.1))
          (λ (high : length A ≤ i).
          let j = i - length A in
          let z : i ≡ length A + j = omega arith in
          let at : get_or (leaves m (suc k) p rs) i d ≡ get_or B j d = ap (λ xs. get_or xs i d) ls ∙ ap (λ n. get_or (A ++ B) n d) z ∙ get_or-append-add A B j d in
          let ih = rec (2 * p + 1) j (omega (arith, long)) (subst (λ x. s / 2 ^ x.room ≡ x.prefix) at e) in
          (omega (arith, half_of k s, ih.0), place_high k p rs s f ih.0 ∙ ap (λ n. length A + n) ih.1 ∙ sym z))
          (cases_lt i (length A))

  -- the first slot of bucket i has that bucket
  pub first_is : (k p : ℕ) (rs : List X) (i : ℕ) (d : Leaf) → i < length (leaves m k p rs) → Of k p rs i (first_slot (get_or (leaves m k p rs) i d))
  first_is k p rs i d l = let x = get_or (leaves m k p rs) i d in place_is k p rs i (first_slot x) d l (first_within x.room x.prefix)

  pub firsts_inside : (k p : ℕ) (rs : List X) → AllByRecursion (λ x. first_slot x / 2 ^ k ≡ p) (leaves m k p rs)
  firsts_inside k p rs = All-from_get_or (λ x. first_slot x / 2 ^ k ≡ p) (leaves m k p rs) (leaf 0 0) (λ i l. (first_is k p rs i (leaf 0 0) l).0)

  -- what two halves weigh
  pub load_halves : (k p : ℕ) (rs : List X) → load m (suc k) p rs ≡ load m k (2 * p) rs + load m k (2 * p + 1) rs
  load_halves k p rs =
      load_parts m (suc k) p rs ∙ both rs ∙ ap (λ n. n + sum_by (weight_under m k (2 * p + 1)) rs) (sym (load_parts m k (2 * p) rs)) ∙ ap (λ n. load m k (2 * p) rs + n) (sym (load_parts m k (2 * p + 1) rs))
    where
      each : (x : X) → weight_under m (suc k) p x ≡ weight_under m k (2 * p) x + weight_under m k (2 * p + 1) x
      each x =
          let h = prefix_of k (m.hash x) in
          let e : prefix_of (suc k) (m.hash x) ≡ h / 2 = prefix_far (suc k) (m.hash x) ∙ half_of k (prefix_of 0 (m.hash x)) ∙ ap (λ n. n / 2) (sym (prefix_far k (m.hash x))) in
          grind (arith, nat_tests, e)

      both : (rs : List X) → sum_by (weight_under m (suc k) p) rs ≡ sum_by (weight_under m k (2 * p)) rs + sum_by (weight_under m k (2 * p + 1)) rs
      both [] = refl
      both (x ∷ xs) = omega (arith, sum_by-cons (weight_under m (suc k) p) x xs, sum_by-cons (weight_under m k (2 * p)) x xs, sum_by-cons (weight_under m k (2 * p + 1)) x xs, each x, both xs)

  -- records of twice a bucket's load at most take few buckets, since at most one half is heavy
  pub few_buckets : (k p : ℕ) (rs : List X) → load m k p rs ≤ 1008 → buckets m k p rs ≤ k + 1
  unfolding buckets
  few_buckets zero p rs l = omega arith
  few_buckets (suc k) p rs l = ⊎_elim
      (λ t. omega (arith, cond-true (is_light m (suc k) p rs) 1 (buckets m k (2 * p) rs + buckets m k (2 * p + 1) rs) t))
      (λ f.
      let c = cond-false (is_light m (suc k) p rs) 1 (buckets m k (2 * p) rs + buckets m k (2 * p + 1) rs) f in
      let s = load_halves k p rs in
      ⊎_elim
      (λ (t : is_light m k (2 * p) rs ≡ true). omega (arith, c, one k (2 * p) rs t, few_buckets k (2 * p + 1) rs (omega arith)))
      (λ (h : is_light m k (2 * p) rs ≡ false). let lh = leb-false _ _ h in
      ⊎_elim
      (λ (t : is_light m k (2 * p + 1) rs ≡ true). omega (arith, c, one k (2 * p + 1) rs t, few_buckets k (2 * p) rs (omega arith)))
      (λ (g : is_light m k (2 * p + 1) rs ≡ false). absurd (omega (arith, leb-false _ _ g)))
      (cases_Bool (is_light m k (2 * p + 1) rs)))
      (cases_Bool (is_light m k (2 * p) rs)))
      (cases_Bool (is_light m (suc k) p rs))
    where
      one : (k p : ℕ) (rs : List X) → is_light m k p rs ≡ true → buckets m k p rs ≡ 1
      one k p rs t = sym (length-leaves k p rs) ∙ ap length (leaves_light k p rs t)

  -- two lists that differ at the slot t alone
  module _ (t : ℕ) (rs rs' : List X) (same : (j p : ℕ) → (p ≡ t / 2 ^ j → ⊥) → under m j p rs ≡ under m j p rs') where
    leaves-off : (k p : ℕ) → (p ≡ t / 2 ^ k → ⊥) → leaves m k p rs ≡ leaves m k p rs'
    leaves-off zero p ne = leaves_zero p rs ∙ sym (leaves_zero p rs')
    leaves-off (suc k) p ne =
        let z = light-off m t rs rs' same (suc k) p ne in
        ⊎_elim
        (λ (y : is_light m (suc k) p rs ≡ true). leaves_light (suc k) p rs y ∙ sym (leaves_light (suc k) p rs' (sym z ∙ y)))
        (λ (f : is_light m (suc k) p rs ≡ false).
        leaves_heavy k p rs f ∙ ap (λ xs. xs ++ leaves m k (2 * p + 1) rs) (leaves-off k (2 * p) (λ e. ne (omega (arith, half_of k t))))
        ∙ ap (λ xs. leaves m k (2 * p) rs' ++ xs) (leaves-off k (2 * p + 1) (λ e. ne (omega (arith, half_of k t))))
        ∙ sym (leaves_heavy k p rs' (sym z ∙ f)))
        (cases_Bool (is_light m (suc k) p rs))

    -- the buckets of both lists are the same but for those under t's prefix at K
    pub record Around (K k : ℕ) : Type 0 where
      pub left : List Leaf
      pub right : List Leaf
      pub old : leaves m k (t / 2 ^ k) rs ≡ left ++ (leaves m K (t / 2 ^ K) rs ++ right)
      pub new : leaves m k (t / 2 ^ k) rs' ≡ left ++ (leaves m K (t / 2 ^ K) rs' ++ right)
      pub left-off : AllByRecursion (λ x. first_slot x / 2 ^ K ≡ t / 2 ^ K → ⊥) left
      pub right-off : AllByRecursion (λ x. first_slot x / 2 ^ K ≡ t / 2 ^ K → ⊥) right

    here : (n : ℕ) → Around n n
    here n = record { left = []; right = []; old = sym (append-nil _); new = sym (append-nil _); left-off = tt; right-off = tt }

    module _ (K k : ℕ) (le : K ≤ k) (a : Around K k)
        (old_heavy : is_light m (suc k) (t / 2 ^ suc k) rs ≡ false) (new-heavy : is_light m (suc k) (t / 2 ^ suc k) rs' ≡ false) where
      -- the buckets of the half without t
      beside : (q : ℕ) → (q ≡ t / 2 ^ k → ⊥) → (xs : List X) → AllByRecursion (λ x. first_slot x / 2 ^ K ≡ t / 2 ^ K → ⊥) (leaves m k q xs)
      beside q ne xs =
          All-weaker (λ x. first_slot x / 2 ^ k ≡ q) (λ x. first_slot x / 2 ^ K ≡ t / 2 ^ K → ⊥)
          (λ x e z. ne (sym e ∙ prefix_up K k (first_slot x) t le z)) (leaves m k q xs) (firsts_inside k q xs)

      grown-low : t / 2 ^ k ≡ 2 * (t / 2 ^ suc k) → Around K (suc k)
      grown-low e =
          let q = 2 * (t / 2 ^ suc k) + 1 in
          let ne : q ≡ t / 2 ^ k → ⊥ = λ z. omega arith in
          let more = λ (xs mid : List Leaf). append_assoc a.left (mid ++ a.right) xs ∙ ap (λ ys. a.left ++ ys) (append_assoc mid a.right xs) in
          record {
            left = a.left;
            right = a.right ++ leaves m k q rs;
            old = leaves_heavy k (t / 2 ^ suc k) rs old_heavy ∙ ap (λ n. leaves m k n rs ++ leaves m k q rs) (sym e) ∙ ap (λ ys. ys ++ leaves m k q rs) a.old ∙ more (leaves m k q rs) (leaves m K (t / 2 ^ K) rs);
            new = leaves_heavy k (t / 2 ^ suc k) rs' new-heavy ∙ ap (λ n. leaves m k n rs' ++ leaves m k q rs') (sym e) ∙ ap (λ ys. ys ++ leaves m k q rs') a.new ∙ ap (λ ys. (a.left ++ (leaves m K (t / 2 ^ K) rs' ++ a.right)) ++ ys) (sym (leaves-off k q ne)) ∙ more (leaves m k q rs) (leaves m K (t / 2 ^ K) rs');
            left-off = a.left-off;
            right-off = All-append (λ x. first_slot x / 2 ^ K ≡ t / 2 ^ K → ⊥) a.right (leaves m k q rs) a.right-off (beside q ne rs);
          }

      grown-high : t / 2 ^ k ≡ 2 * (t / 2 ^ suc k) + 1 → Around K (suc k)
      grown-high e =
          let q = 2 * (t / 2 ^ suc k) in
          let ne : q ≡ t / 2 ^ k → ⊥ = λ z. omega arith in
          record {
            left = leaves m k q rs ++ a.left;
            right = a.right;
            old = leaves_heavy k (t / 2 ^ suc k) rs old_heavy ∙ ap (λ n. leaves m k q rs ++ leaves m k n rs) (sym e) ∙ ap (λ ys. leaves m k q rs ++ ys) a.old ∙ sym (append_assoc (leaves m k q rs) a.left (leaves m K (t / 2 ^ K) rs ++ a.right));
            new = leaves_heavy k (t / 2 ^ suc k) rs' new-heavy ∙ ap (λ n. leaves m k q rs' ++ leaves m k n rs') (sym e) ∙ ap (λ ys. leaves m k q rs' ++ ys) a.new ∙ ap (λ ys. ys ++ (a.left ++ (leaves m K (t / 2 ^ K) rs' ++ a.right))) (sym (leaves-off k q ne)) ∙ sym (append_assoc (leaves m k q rs) a.left (leaves m K (t / 2 ^ K) rs' ++ a.right));
            left-off = All-append (λ x. first_slot x / 2 ^ K ≡ t / 2 ^ K → ⊥) (leaves m k q rs) a.left (beside q ne rs) a.left-off;
            right-off = a.right-off;
          }

    pub around : (K k : ℕ) → K ≤ k → ((j : ℕ) → K < j → j ≤ k → (is_light m j (t / 2 ^ j) rs ≡ false) × (is_light m j (t / 2 ^ j) rs' ≡ false)) → Around K k
    around K zero le heavy = let z : K ≡ 0 = omega arith in subst (λ n. Around n 0) (sym z) (here 0)
    around K (suc k) le heavy = ⊎_elim
        (λ (z : K ≡ suc k). subst (λ n. Around n (suc k)) (sym z) (here (suc k)))
        (λ (ne : K ≡ suc k → ⊥).
        let a = around K k (omega arith) (λ j b c. heavy j b (omega arith)) in
        let h = heavy (suc k) (omega arith) (omega arith) in
        ⊎_elim (grown-low K k (omega arith) a h.0 h.1) (grown-high K k (omega arith) a h.0 h.1) (halves k (t / 2 ^ suc k) t refl))
        (cases_eq K (suc k))
