-- Records by slot: those from a slot on, bucket by bucket.
use Rattle.std.proofs.Common.{◌≡◌, ℕ, ◌+◌, ◌-◌, ◌*◌, ◌/◌, ◌%◌, ◌^◌, ◌<◌, ◌≤◌, Bool, true, false, cond, eqb, leb, ◌⊎◌, List, [], ◌∷◌, ◌++◌, length, get_or, filter, Less, sym, refl, ap, ◌∙◌, subst, inl, inr, ⊎_elim, mul_assoc, add-mul, one-mul, div-mul-le_self, mul-div_cancel, arith}
use native.Mathlib.Nat.{lt-div-mul-add, div-eq_of_lt-le}
use Rattle.std.specs.Ordering.{is_lt}
use Rattle.std.specs.List.{AllByRecursion}
use Rattle.std.proofs.lemmas.Nat.{pow_pos, pow-add, shr-shr, shl-shr, div-add-mod', mod_below, div-mul-add}
use Rattle.std.proofs.ByRecursion.{All-from_get_or, All-weaker, kept_by_passes}
use Rattle.std.proofs.lemmas.Bool.{cases_lt, cases_Bool, le-leb, lt-leb, eq-eqb, eqb-true, cond-true, cond-false}
use Rattle.std.proofs.lemmas.Bool.Decides.{nat_tests}
use Rattle.kinds.specs.Kinds.{Kind, Bounded, position}
use Rattle.records.specs.Ordered.{after}
use Rattle.records.specs.Records.{key_of}
use Rattle.records.specs.Searches.{Sorted}
use Rattle.records.proofs.Kept.{kept_yes, kept_no, kept_none, kept_all, kept_comm}
use Rattle.records.proofs.Rising.{Before, Rising, sorted_rising, sorted_kept}
use Rattle.shape.specs.Shapes.{prefix_of, under}
use Rattle.shape.specs.Keyed.{by_key}
use Rattle.shape.proofs.Halves.{prefix_far}
use Rattle.pages.specs.Pages.{following}

-- no element is below one before it
abbrev Climbs : {X : Type 0} → (X → ℕ) → List X → Type 0
Climbs h [] = Unit {0}
Climbs h (x ∷ xs) = AllByRecursion (λ y. h x ≤ h y) xs × Climbs h xs

module _ {X : Type 0} (h : X → ℕ) (a b : ℕ) (q : X → Bool) (le : a ≤ b) (yes : (x : X) → a ≤ h x → h x < b → q x ≡ true) (low : (x : X) → h x < a → q x ≡ false) (high : (x : X) → b ≤ h x → q x ≡ false) where
  abbrev up_a : X → Bool
  up_a x = leb a (h x)

  abbrev up_b : X → Bool
  up_b x = leb b (h x)

  -- what stands from a on is what stands between, and then what stands from b on
  parts : (xs : List X) → Climbs h xs → filter up_a xs ≡ filter q xs ++ filter up_b xs
  parts [] c = refl
  parts (x ∷ xs) c =
      let ih = parts xs c.1 in
      ⊎_elim
      (λ (l : h x < a).
      let no : up_a x ≡ false = lt-leb a (h x) l in
      let nb : up_b x ≡ false = lt-leb b (h x) (omega arith) in
      kept_no up_a x xs no ∙ ih ∙ ap (λ ys. ys ++ filter up_b xs) (sym (kept_no q x xs (low x l))) ∙ ap (λ ys. filter q (x ∷ xs) ++ ys) (sym (kept_no up_b x xs nb)))
      (λ (l : a ≤ h x).
      let ya : up_a x ≡ true = le-leb a (h x) l in
      ⊎_elim
      (λ (m : h x < b).
      let nb : up_b x ≡ false = lt-leb b (h x) m in
      kept_yes up_a x xs ya ∙ ap (λ ys. x ∷ ys) ih ∙ ap (λ ys. ys ++ filter up_b xs) (sym (kept_yes q x xs (yes x l m))) ∙ ap (λ ys. filter q (x ∷ xs) ++ ys) (sym (kept_no up_b x xs nb)))
      (λ (m : b ≤ h x).
      let yb : up_b x ≡ true = le-leb b (h x) m in
      let nobody : filter q xs ≡ [] = kept_none q xs (All-weaker (λ y. h x ≤ h y) (λ y. q y ≡ false) (λ y k. high y (omega arith)) xs c.0) in
      kept_yes up_a x xs ya
      ∙ ap (λ ys. x ∷ ys) (ih ∙ ap (λ ys. ys ++ filter up_b xs) nobody)
      ∙ sym (kept_yes up_b x xs yb)
      ∙ ap (λ ys. ys ++ filter up_b (x ∷ xs)) (sym (kept_no q x xs (high x m) ∙ nobody)))
      (cases_lt (h x) b))
      (cases_lt (h x) a)

-- the slot of a record
abbrev pub slot_of : Kind → List ℕ → ℕ
slot_of kind r = prefix_of 0 (kind.hash (key_of r))

-- the records from a slot on
unfoldable pub from : Kind → ℕ → List (List ℕ) → List (List ℕ)
from kind s rs = filter (λ r. leb s (slot_of kind r)) rs

slot_is : (h : ℕ) → prefix_of 0 h ≡ h / 33554432
unfolding prefix_of
slot_is h = refl

hash_le : (kind : Kind) (a b : List ℕ) → position kind a b ≡ Less → kind.hash a ≤ kind.hash b
hash_le kind a b e = ⊎_elim
    (λ (l : kind.hash b < kind.hash a). grind (arith, nat_tests))
    (λ (l : kind.hash a ≤ kind.hash b). l)
    (cases_lt (kind.hash b) (kind.hash a))

slot_le : (kind : Kind) (a b : List ℕ) → position kind a b ≡ Less → prefix_of 0 (kind.hash a) ≤ prefix_of 0 (kind.hash b)
slot_le kind a b e = omega (arith, hash_le kind a b e, slot_is (kind.hash a), slot_is (kind.hash b))

rising_climbs : (kind : Kind) (rs : List (List ℕ)) → Rising kind rs → Climbs (slot_of kind) rs
rising_climbs kind [] u = tt
rising_climbs kind (r ∷ rs) u = (All-weaker (Before kind r) (λ q. slot_of kind r ≤ slot_of kind q) (λ q e. slot_le kind (key_of r) (key_of q) e) rs u.2, rising_climbs kind rs u.3)

-- a bucket, and the slots after it
pub from_part : (kind : Kind) (k p : ℕ) (rs : List (List ℕ)) → Sorted kind rs → from kind (p * 2 ^ k) rs ≡ under (by_key kind) k p rs ++ from kind ((p + 1) * 2 ^ k) rs
unfolding from under
from_part kind k p rs s =
    let w = 2 ^ k in
    let pos = pow_pos k in
    let next : (p + 1) * w ≡ p * w + w = add-mul p 1 w ∙ ap (λ n. p * w + n) (one-mul w) in
    let here : (x : List ℕ) → prefix_of k (kind.hash (key_of x)) ≡ slot_of kind x / w = λ x. prefix_far k (kind.hash (key_of x)) in
    parts (slot_of kind) (p * w) ((p + 1) * w) (λ r. eqb (prefix_of k (kind.hash (key_of r))) p) (omega arith)
    (λ x l m. eq-eqb _ _ (here x ∙ div-eq_of_lt-le w l m))
    (λ x l. off x (λ e. let d = div-mul-le_self (slot_of kind x) w in let f : slot_of kind x / w * w ≡ p * w = ap (λ n. n * w) (sym (here x) ∙ e) in omega arith))
    (λ x l. off x (λ e. let d = lt-div-mul-add {a = slot_of kind x} {b = w} pos in let f : slot_of kind x / w * w ≡ p * w = ap (λ n. n * w) (sym (here x) ∙ e) in omega arith))
    rs (rising_climbs kind rs (sorted_rising kind rs s))
  where
    off : (x : List ℕ) → (prefix_of k (kind.hash (key_of x)) ≡ p → ⊥) → eqb (prefix_of k (kind.hash (key_of x))) p ≡ false
    off x ne = ⊎_elim
        (λ (t : eqb (prefix_of k (kind.hash (key_of x))) p ≡ true). absurd (ne (eqb-true _ _ t)))
        (λ (f : eqb (prefix_of k (kind.hash (key_of x))) p ≡ false). f)
        (cases_Bool (eqb (prefix_of k (kind.hash (key_of x))) p))

-- past the last slot
pub from_none : (kind : Kind) (s : ℕ) (rs : List (List ℕ)) → Bounded kind → Sorted kind rs → 128 ≤ s → from kind s rs ≡ []
unfolding from
from_none kind s rs b sorted l = kept_none (λ r. leb s (slot_of kind r)) rs
    (All-from_get_or (λ r. leb s (slot_of kind r) ≡ false) rs []
    (λ i h.
    let n = b.narrow (key_of (get_or rs i [])) (sorted.keyed i h) in
    lt-leb s (slot_of kind (get_or rs i [])) (omega (arith, slot_is (kind.hash (key_of (get_or rs i [])))))))

-- the slot that a page starts at
abbrev pub start_slot : Kind → List ℕ → ℕ
start_slot kind bookmark = cond (eqb (length bookmark) 0) 0 (kind.hash bookmark / 2 ^ 25)

-- nothing that follows a bookmark stands before its slot
pub from_start : (kind : Kind) (bookmark : List ℕ) (rs : List (List ℕ)) (s : ℕ) → s ≤ start_slot kind bookmark → from kind s (following kind bookmark rs) ≡ following kind bookmark rs
unfolding from after
from_start kind bookmark rs s l = ⊎_elim
    (λ (t : eqb (length bookmark) 0 ≡ true).
    let z : s ≤ 0 = subst (λ n. s ≤ n) (cond-true _ _ _ t) l in
    kept_all up (following kind bookmark rs) (All-from_get_or (λ r. up r ≡ true) (following kind bookmark rs) [] (λ i h. le-leb s _ (omega arith))))
    (λ (f : eqb (length bookmark) 0 ≡ false).
    let z : s ≤ kind.hash bookmark / 33554432 = subst (λ n. s ≤ n) (cond-false _ _ _ f) l in
    let q = λ (r : List ℕ). is_lt (position kind bookmark (key_of r)) in
    let e : following kind bookmark rs ≡ filter q rs = cond-false _ _ _ f in
    ap (filter up) e
    ∙ kept_all up (filter q rs)
    (All-weaker (λ r. q r ≡ true) (λ r. up r ≡ true) (λ r t. le-leb s (slot_of kind r) (omega (arith, slot_le kind bookmark (key_of r) (grind arith), slot_is (kind.hash bookmark)))) (filter q rs) (kept_by_passes q rs))
    ∙ sym e)
    (cases_Bool (eqb (length bookmark) 0))
  where
    up : List ℕ → Bool
    up r = leb s (slot_of kind r)

-- what follows a bookmark in a bucket
pub under-following : (kind : Kind) (bookmark : List ℕ) (k p : ℕ) (rs : List (List ℕ)) → under (by_key kind) k p (following kind bookmark rs) ≡ following kind bookmark (under (by_key kind) k p rs)
unfolding under after
under-following kind bookmark k p rs = ⊎_elim
    (λ (t : eqb (length bookmark) 0 ≡ true). ap (filter q) (cond-true _ _ _ t) ∙ sym (cond-true _ _ _ t))
    (λ (f : eqb (length bookmark) 0 ≡ false). ap (filter q) (cond-false _ _ _ f) ∙ kept_comm q (λ r. is_lt (position kind bookmark (key_of r))) rs ∙ sym (cond-false _ _ _ f))
    (cases_Bool (eqb (length bookmark) 0))
  where
    q : List ℕ → Bool
    q r = eqb (prefix_of k (kind.hash (key_of r))) p

pub sorted_following : (kind : Kind) (bookmark : List ℕ) (rs : List (List ℕ)) → Sorted kind rs → Sorted kind (following kind bookmark rs)
unfolding after
sorted_following kind bookmark rs s = ⊎_elim
    (λ (t : eqb (length bookmark) 0 ≡ true). subst (Sorted kind) (sym (cond-true _ _ _ t)) s)
    (λ (f : eqb (length bookmark) 0 ≡ false). subst (Sorted kind) (sym (cond-false _ _ _ f)) (sorted_kept kind (λ r. is_lt (position kind bookmark (key_of r))) rs s))
    (cases_Bool (eqb (length bookmark) 0))

-- one more crosses a multiple, or has the same quotient
step_div : (p d : ℕ) → 0 < d → ((p + 1) / d ≡ p / d) ⊎ ((p + 1) / d * d ≡ p + 1)
step_div p d pos =
    let q = p / d in
    let r = p % d in
    let split = div-add-mod' p d in
    let small = mod_below p d pos in
    ⊎_elim
    (λ (l : r + 1 < d).
    let e : p + 1 ≡ q * d + (r + 1) = omega arith in
    inl (ap (λ n. n / d) e ∙ div-mul-add q d (r + 1) l))
    (λ (l : d ≤ r + 1).
    let next : (q + 1) * d ≡ q * d + d = add-mul q 1 d ∙ ap (λ n. q * d + n) (one-mul d) in
    let e : p + 1 ≡ (q + 1) * d = omega arith in
    inr (ap (λ n. n / d * d) e ∙ ap (λ n. n * d) (mul-div_cancel (q + 1) pos) ∙ sym e))
    (cases_lt (r + 1) d)

-- the slot after a bucket is the first of its own
pub aligned : (k j s : ℕ) → (s / 2 ^ j ≡ (s / 2 ^ k + 1) * 2 ^ k / 2 ^ j → k ≡ j) → (s / 2 ^ k + 1) * 2 ^ k / 2 ^ j * 2 ^ j ≡ (s / 2 ^ k + 1) * 2 ^ k
aligned k j s same = ⊎_elim
    (λ (l : k < j).
    let i = j - k in
    let z : k + i ≡ j = omega arith in
    let p = s / 2 ^ k in
    let t = (p + 1) * 2 ^ k in
    let d = 2 ^ i in
    let sj : s / 2 ^ j ≡ p / d = ap (λ n. s / 2 ^ n) (sym z) ∙ sym (shr-shr s k i) in
    let tj : t / 2 ^ j ≡ (p + 1) / d = ap (λ n. t / 2 ^ n) (sym z) ∙ sym (shr-shr t k i) ∙ ap (λ n. n / d) (shl-shr (p + 1) k) in
    let zi : i + k ≡ j = omega arith in
    let jd : 2 ^ j ≡ d * 2 ^ k = ap (λ n. 2 ^ n) (sym zi) ∙ pow-add 2 i k in
    ⊎_elim
    (λ (e : (p + 1) / d ≡ p / d). let b = same (sj ∙ sym e ∙ sym tj) in absurd (omega arith))
    (λ (e : (p + 1) / d * d ≡ p + 1). ap (λ n. n * 2 ^ j) tj ∙ ap (λ n. (p + 1) / d * n) jd ∙ sym (mul_assoc ((p + 1) / d) d (2 ^ k)) ∙ ap (λ n. n * 2 ^ k) e)
    (step_div p d (pow_pos i)))
    (λ (l : j ≤ k).
    let i = k - j in
    let z : i + j ≡ k = omega arith in
    let p = s / 2 ^ k in
    let t = (p + 1) * 2 ^ k in
    let e : t ≡ (p + 1) * 2 ^ i * 2 ^ j = ap (λ n. (p + 1) * n) (ap (λ n. 2 ^ n) (sym z) ∙ pow-add 2 i j) ∙ sym (mul_assoc (p + 1) (2 ^ i) (2 ^ j)) in
    ap (λ n. n / 2 ^ j * 2 ^ j) e ∙ ap (λ n. n * 2 ^ j) (shl-shr ((p + 1) * 2 ^ i) j) ∙ sym e)
    (cases_lt k j)
