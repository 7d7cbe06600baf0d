-- The way from an object to the root.
use Rattle.std.proofs.Common.{◌≡◌, ℕ, zero, suc, ◌<◌, ◌≤◌, true, false, not, eqb, List, length, is_some, Some, None, filter, Option, unwrap_or, sym, refl, ap, ◌∙◌, subst, ⊎_elim, arith}
use Rattle.std.specs.Option.{option_map}
use Rattle.std.proofs.lemmas.Bool.{cases_eq, eqb-false, or_parts}
use Rattle.model.specs.Trees.{Object, numbered, find, parent_of, climbed, is_above}
use Rattle.model.specs.Soundness.{Leads}
use Rattle.model.proofs.Finds.{by_test, never}
use Rattle.model.proofs.Numbers.{find_other, shorter}

-- nothing stands above the root, and nothing under number 0
pub record Grounded (os : List Object) : Type 0 where
  pub top : parent_of os 1 ≡ 0
  pub none : parent_of os 0 ≡ 0

pub stays_none : (os : List Object) → parent_of os 0 ≡ 0 → (d : ℕ) → climbed d os 0 ≡ 0
stays_none os h zero = refl
stays_none os h (suc d) = ap (climbed d os) h ∙ stays_none os h d

pub no_way : (os : List Object) → parent_of os 0 ≡ 0 → (d n : ℕ) → parent_of os n ≡ 0 → climbed (suc d) os n ≡ 1 → ⊥
no_way os h d n e w =
    let z : climbed d os (parent_of os n) ≡ 0 = ap (climbed d os) e ∙ stays_none os h d in omega arith

-- the number of steps is fixed
steps_fixed : (os : List Object) → Grounded os → (d e n : ℕ) → climbed d os n ≡ 1 → climbed e os n ≡ 1 → d ≡ e
steps_fixed os g zero zero n v w = refl
steps_fixed os g zero (suc e) n v w = absurd (no_way os g.none e n (ap (parent_of os) v ∙ g.top) w)
steps_fixed os g (suc d) zero n v w = absurd (no_way os g.none d n (ap (parent_of os) w ∙ g.top) v)
steps_fixed os g (suc d) (suc e) n v w = ap suc (steps_fixed os g d e (parent_of os n) v w)

parent_other : (m n : ℕ) → (m ≡ n → ⊥) → (os : List Object) → parent_of (filter (λ o. not (numbered n o)) os) m ≡ parent_of os m
parent_other m n h os = ap (λ (o : Option Object). unwrap_or (option_map (λ p. p.parent) o) 0) (find_other m n h os)

-- a way that is shorter than that of n does not lead through n
way_without : (os : List Object) → Grounded os → (e n : ℕ) → climbed e os n ≡ 1 → (d m : ℕ) → d < e → climbed d os m ≡ 1 → climbed d (filter (λ o. not (numbered n o)) os) m ≡ 1
way_without os g e n v zero m l w = w
way_without os g e n v (suc d) m l w =
    let apart : m ≡ n → ⊥ = λ z. let s = steps_fixed os g (suc d) e n (subst (λ (x : ℕ). climbed (suc d) os x ≡ 1) z w) v in omega arith in
    ap (climbed d (filter (λ o. not (numbered n o)) os)) (parent_other m n apart os) ∙ way_without os g e n v d (parent_of os m) (omega arith) w

-- no way has more steps than there are objects
pub steps_few : (d : ℕ) (os : List Object) → Grounded os → (n : ℕ) → climbed d os n ≡ 1 → d ≤ length os
steps_few zero os g n w = omega arith
steps_few (suc d) os g n w =
    let os' = filter (λ o. not (numbered n o)) os in
    let not_top : ◌≡◌ {A = ℕ} 1 n → ⊥ = λ z. no_way os g.none d n (ap (parent_of os) (sym z) ∙ g.top) w in
    let not_none : ◌≡◌ {A = ℕ} 0 n → ⊥ = λ z. no_way os g.none d n (ap (parent_of os) (sym z) ∙ g.none) w in
    let g' : Grounded os' = record { top = parent_other 1 n not_top os ∙ g.top; none = parent_other 0 n not_none os ∙ g.none } in
    let rest = steps_few d os' g' (parent_of os n) (way_without os g (suc d) n w d (parent_of os n) (omega arith) w) in
    let there : is_some (find (numbered n) os) ≡ true =
    by_test (is_some (find (numbered n) os)) (λ t. t) (λ t. absurd (no_way os g.none d n (missing (find (numbered n) os) t) w)) in
    let less = shorter n os there in
    omega arith
  where
    missing : (o : Option Object) → is_some o ≡ false → unwrap_or (option_map (λ p. p.parent) o) 0 ≡ 0
    missing None t = refl
    missing (Some p) t = never _ refl t

-- Ways in another list that has the parent of every number but x.
module _ (os os' : List Object) (x : ℕ) (same : (m : ℕ) → (m ≡ x → ⊥) → parent_of os' m ≡ parent_of os m) where
  -- where no way leads through x
  pub way_past : ((d : ℕ) → climbed d os x ≡ 1 → ⊥) → (d n : ℕ) → climbed d os n ≡ 1 → climbed d os' n ≡ 1
  way_past h zero n w = w
  way_past h (suc d) n w =
      let apart : n ≡ x → ⊥ = λ z. h (suc d) (subst (λ (m : ℕ). climbed (suc d) os m ≡ 1) z w) in
      ap (climbed d os') (same n apart) ∙ way_past h d (parent_of os n) w

  -- where x is no parent
  pub way_beside : ((m : ℕ) → parent_of os m ≡ x → ⊥) → (d n : ℕ) → (n ≡ x → ⊥) → climbed d os n ≡ 1 → climbed d os' n ≡ 1
  way_beside h zero n a w = w
  way_beside h (suc d) n a w = ap (climbed d os') (same n a) ∙ way_beside h d (parent_of os n) (h n) w

  -- where x is not above n
  pub way_below : (fuel d n : ℕ) → is_above fuel os x n ≡ false → d ≤ fuel → climbed d os n ≡ 1 → climbed d os' n ≡ 1
  way_below fuel zero n a l w = w
  way_below zero (suc d) n a l w = absurd (omega arith)
  way_below (suc fuel) (suc d) n a l w =
      let parts = or_parts (eqb n x) (is_above fuel os x (parent_of os n)) a in
      ap (climbed d os') (same n (eqb-false n x parts.0)) ∙ way_below fuel d (parent_of os n) parts.1 (omega arith) w

  -- where x has a new parent, from which a way leads to the root
  pub way_turned : (g : ℕ) → parent_of os' x ≡ g → Leads os' g → (d n : ℕ) → climbed d os n ≡ 1 → Leads os' n
  way_turned g p q zero n w = (0, w)
  way_turned g p q (suc d) n w =
      ⊎_elim
      (λ (z : n ≡ x). (suc q.0, ap (climbed q.0 os') (ap (parent_of os') z ∙ p) ∙ q.1))
      (λ (z : n ≡ x → ⊥). let r = way_turned g p q d (parent_of os n) w in (suc r.0, ap (climbed r.0 os') (same n z) ∙ r.1))
      (cases_eq n x)
