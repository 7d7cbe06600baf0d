-- What follows for a sound tree.
use Rattle.std.proofs.Common.{◌≡◌, ℕ, ◌<◌, ◌≤◌, true, false, ◌⊎◌, List, [], ◌∷◌, is_some, Some, None, Option, unwrap_or, sym, refl, ap, ◌∙◌, subst, ⊎_elim, arith}
use Rattle.std.specs.Option.{option_map}
use Rattle.std.specs.List.{AllByRecursion}
use Rattle.std.proofs.ByRecursion.{All-weaker}
use Rattle.std.proofs.lemmas.Bool.{eqb-true, eqb-false, ne_eqb, and_parts, or_parts, not-false}
use Rattle.kinds.specs.Kinds.{Kind}
use Rattle.model.specs.Trees.{Object, Tree, numbered, folder_numbered, child_of, stands_as, find, has_folder, looked_up, number_at, parent_of, root}
use Rattle.model.specs.Names.{is_bad_name}
use Rattle.model.specs.Soundness.{Leads, Placed, Sound}
use Rattle.model.proofs.Finds.{never, found_passes, found_all, some_is}
use Rattle.model.proofs.Numbers.{falling_below, by_number}
use Rattle.model.proofs.Climbs.{Grounded}
use Rattle.model.proofs.Entries.{Children}

-- a good name is lawful
pub lawful_name : (k : Kind) (n : List ℕ) → is_bad_name k n ≡ false → k.lawful n ≡ true
unfolding is_bad_name
lawful_name k n e = not-false _ (or_parts _ _ e).0

none_numbered : (n : ℕ) (os : List Object) → AllByRecursion (λ o. o.number ≡ n → ⊥) os → find (numbered n) os ≡ None
none_numbered n [] h = refl
none_numbered n (o ∷ os) h = rw (ne_eqb o.number n h.0) (none_numbered n os h.1)

pub parent_none : (n : ℕ) (os : List Object) → AllByRecursion (λ o. o.number ≡ n → ⊥) os → parent_of os n ≡ 0
parent_none n os h = ap (λ (o : Option Object). unwrap_or (option_map (λ p. p.parent) o) 0) (none_numbered n os h)

-- the number under which a lookup found an object
pub record FoundAs (os : List Object) (f x : ℕ) : Type 0 where
  pub object : Object
  pub number : object.number ≡ x
  pub mine : object.parent ≡ f
  pub there : find (numbered x) os ≡ Some object
  pub other : x ≡ 1 → ⊥
  pub some : 1 ≤ x

module _ (k : Kind) (count : ℕ) (t : Tree) (s : Sound k count t) where
  pub registered : AllByRecursion (λ o. find (numbered o.number) t.objects ≡ Some o) t.objects
  registered = by_number t.next t.objects s.falling

  pub past_root : 1 < t.next
  past_root = found_all (numbered 1) (λ o. o.number < t.next) t.objects root (falling_below t.next t.objects s.falling) s.rooted

  pub grounded : Grounded t.objects
  grounded = record {
    top = ap (λ (o : Option Object). unwrap_or (option_map (λ p. p.parent) o) 0) s.rooted;
    none = parent_none 0 t.objects (All-weaker (λ o. 1 ≤ o.number) (λ o. o.number ≡ 0 → ⊥) (λ o h e. omega arith) t.objects s.positive);
  }

  -- a folder that is there
  pub folder_some : (f : ℕ) → has_folder f t ≡ true → (1 ≤ f) × Leads t.objects f
  folder_some f h =
      let o = some_is (find (folder_numbered f) t.objects) h in
      let e : o.0.number ≡ f = eqb-true _ _ (and_parts _ _ (found_passes (folder_numbered f) t.objects o.0 o.1)).0 in
      let p : 1 ≤ o.0.number = found_all (folder_numbered f) (λ p. 1 ≤ p.number) t.objects o.0 s.positive o.1 in
      let w : Leads t.objects o.0.number = found_all (folder_numbered f) (λ p. Leads t.objects p.number) t.objects o.0 s.leads o.1 in
      (omega arith, subst (Leads t.objects) e w)

  child_lawful : (f : ℕ) → 1 ≤ f → (o : Object) → (o ≡ root) ⊎ Placed k t.objects o → child_of f o ≡ true → k.lawful o.name ≡ true
  child_lawful f p o h e =
      ⊎_elim (λ (r : o ≡ root). let z : o.parent ≡ f = eqb-true _ _ e in let y : o.parent ≡ 0 = ap (λ (q : Object). q.parent) r in absurd (omega arith)) (λ (q : Placed k t.objects o). lawful_name k o.name q.named) h

  pub children : (f : ℕ) → 1 ≤ f → Children k f t.objects
  children f p = All-weaker _ _ (child_lawful f p) t.objects s.placed

  pub found_as : (f : ℕ) (n : List ℕ) → 1 ≤ f → is_some (looked_up k t f n) ≡ true → FoundAs t.objects f (number_at k t f n)
  found_as f n p h =
      let o = some_is (looked_up k t f n) h in
      let x = o.0.number in
      let mine : o.0.parent ≡ f = eqb-true _ _ (and_parts _ _ (found_passes (stands_as k f n) t.objects o.0 o.1)).0 in
      let here : find (numbered x) t.objects ≡ Some o.0 = found_all (stands_as k f n) (λ p. find (numbered p.number) t.objects ≡ Some p) t.objects o.0 registered o.1 in
      let low : 1 ≤ x = found_all (stands_as k f n) (λ p. 1 ≤ p.number) t.objects o.0 s.positive o.1 in
      let not-one : x ≡ 1 → ⊥ = λ e.
      let one : find (numbered 1) t.objects ≡ Some o.0 = subst (λ (m : ℕ). find (numbered m) t.objects ≡ Some o.0) e here in
      let r : Some o.0 ≡ Some root = sym one ∙ s.rooted in
      let q : o.0 ≡ root = cc in
      let z : o.0.parent ≡ 0 = ap (λ (p : Object). p.parent) q in
      omega arith
      in
      subst (FoundAs t.objects f) (sym (ap (λ (v : Option Object). unwrap_or (option_map (λ q. q.number) v) 0) o.1))
      (record { object = o.0; number = refl; mine = mine; there = here; other = not-one; some = low })

  -- an object that is no folder is no parent
  pub barren : (x : ℕ) → 1 ≤ x → has_folder x t ≡ false → AllByRecursion (λ o. child_of x o ≡ false) t.objects
  barren x p h = All-weaker _ _ (λ o q. ⊎_elim
      (λ (r : o ≡ root). ne_eqb o.parent x (λ e. let z : o.parent ≡ 0 = ap (λ (y : Object). y.parent) r in omega arith))
      (λ (y : Placed k t.objects o). ne_eqb o.parent x (λ e. never _ (subst (λ (m : ℕ). has_folder m t ≡ true) e y.parent) h)) q) t.objects s.placed

  pub no_parent : (x : ℕ) → 1 ≤ x → AllByRecursion (λ o. child_of x o ≡ false) t.objects → (m : ℕ) → parent_of t.objects m ≡ x → ⊥
  no_parent x p h m e = go (find (numbered m) t.objects) refl e
    where
      go : (v : Option Object) → find (numbered m) t.objects ≡ v → unwrap_or (option_map (λ q. q.parent) v) 0 ≡ x → ⊥
      go None f z = omega arith
      go (Some o) f z = eqb-false o.parent x (found_all (numbered m) (λ q. child_of x q ≡ false) t.objects o h f) z
