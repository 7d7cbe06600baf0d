-- A sound tree is sound after a rename.
use Rattle.std.proofs.Common.{◌≡◌, ℕ, ◌<◌, ◌≤◌, true, false, cond, not, ◌&&◌, eqb, ◌⊎◌, List, [], ◌∷◌, map, length, is_some, Some, None, Option, Ordering, unwrap_or, sym, refl, ap, ◌∙◌, subst, inl, inr, ⊎_elim, arith}
use Rattle.std.specs.Option.{option_map}
use Rattle.std.specs.Ordering.{is_eq}
use Rattle.std.specs.List.{AllByRecursion}
use Rattle.std.proofs.ByRecursion.{All-weaker, All-map}
use Rattle.std.proofs.lemmas.Bool.{eqb-true, eq-eqb, ne_eqb, and_cases}
use Rattle.kinds.specs.Kinds.{Kind, TotalOrder, turned}
use Rattle.model.specs.Trees.{Object, Tree, numbered, folder_numbered, child_of, is_alike, stands_as, find, has_folder, parent_of, is_above, root, placed_at, renamed}
use Rattle.model.specs.Names.{is_bad_name}
use Rattle.model.specs.Reasons.{is_bad_kind, is_taken, is_own_branch}
use Rattle.model.specs.Indexes.{HeldTree, blocks_in_use}
use Rattle.model.specs.Soundness.{KeepsLaws, Falling, Leads, clash, Apart, Placed, Sound}
use Rattle.model.proofs.Finds.{by_test, never, found_passes, none_passes}
use Rattle.model.proofs.Numbers.{falling_below, find-map}
use Rattle.model.proofs.Climbs.{steps_few, way_beside, way_below, way_turned}
use Rattle.model.proofs.Facts.{FoundAs, lawful_name, grounded, folder_some, children, barren, no_parent}

alike_turned : (ab ba : Ordering) → ba ≡ turned ab → is_eq ab ≡ false → is_eq ba ≡ false
alike_turned ab ba m e = grind arith

-- the change of one object
abbrev pub moved : ℕ → ℕ → List ℕ → Object → Object
moved x g m o = cond (numbered x o) (placed_at g m o) o

module _ (x g : ℕ) (m : List ℕ) where
  pub number-moved : (o : Object) → (moved x g m o).number ≡ o.number
  number-moved o = by_test (numbered x o) (λ e. rw e) (λ e. rw e)

  kind_moved : (o : Object) → (moved x g m o).kind ≡ o.kind
  kind_moved o = by_test (numbered x o) (λ e. rw e) (λ e. rw e)

  falling_moved : (n : ℕ) (os : List Object) → Falling n os → Falling n (map (moved x g m) os)
  falling_moved n [] f = tt
  falling_moved n (o ∷ os) f = rw (number-moved o) (f.0, falling_moved o.number os f.1)

  pub all_moved : (P Q : Object → Type 0) → ((o : Object) → P o → Q (moved x g m o)) → (os : List Object) → AllByRecursion P os → AllByRecursion Q (map (moved x g m) os)
  all_moved P Q h os a = All-map Q (moved x g m) os (All-weaker P _ h os a)

  pub find-numbered : (n : ℕ) (os : List Object) → find (numbered n) (map (moved x g m) os) ≡ option_map (moved x g m) (find (numbered n) os)
  find-numbered n os = find-map (numbered n) (moved x g m) (λ o. rw (number-moved o)) os

  find_folder : (n : ℕ) (os : List Object) → find (folder_numbered n) (map (moved x g m) os) ≡ option_map (moved x g m) (find (folder_numbered n) os)
  find_folder n os = find-map (folder_numbered n) (moved x g m) (λ o. rw (number-moved o, kind_moved o)) os

  some_mapped : (v : Option Object) → is_some (option_map (moved x g m) v) ≡ is_some v
  some_mapped None = refl
  some_mapped (Some o) = refl

  folder_moved : (n : ℕ) (os : List Object) → is_some (find (folder_numbered n) os) ≡ true → is_some (find (folder_numbered n) (map (moved x g m) os)) ≡ true
  folder_moved n os h = ap is_some (find_folder n os) ∙ some_mapped _ ∙ h

  -- other objects are as they were
  pub find_others : (n : ℕ) (os : List Object) → (n ≡ x → ⊥) → find (numbered n) (map (moved x g m) os) ≡ find (numbered n) os
  find_others n os h = find-numbered n os ∙ go (find (numbered n) os) refl
    where
      go : (v : Option Object) → find (numbered n) os ≡ v → option_map (moved x g m) v ≡ v
      go None e = refl
      go (Some o) e =
          let z : o.number ≡ n = eqb-true _ _ (found_passes (numbered n) os o e) in
          rw (ne_eqb o.number x (λ y. h (sym z ∙ y)))

  parent_others : (os : List Object) (n : ℕ) → (n ≡ x → ⊥) → parent_of (map (moved x g m) os) n ≡ parent_of os n
  parent_others os n h = ap (λ (o : Option Object). unwrap_or (option_map (λ p. p.parent) o) 0) (find_others n os h)

  parent_moved : (os : List Object) (o : Object) → find (numbered x) os ≡ Some o → parent_of (map (moved x g m) os) x ≡ g
  parent_moved os o e =
      let z : numbered x o ≡ true = found_passes (numbered x) os o e in
      ap (λ (v : Option Object). unwrap_or (option_map (λ p. p.parent) v) 0) (find-numbered x os ∙ ap (option_map (moved x g m)) e) ∙ rw z

  module _ (k : Kind) (t : TotalOrder k.lawful k.order) (w : k.lawful m ≡ true) where
    abbrev Free : Object → Type 0
    Free p = (not (numbered x p) && stands_as k g m p) ≡ false

    abbrev Child : Object → Type 0
    Child o = child_of g o ≡ true → k.lawful o.name ≡ true

    clash-moved : (o p : Object) → p.number < o.number → Free o → Free p → Child o → clash k p o ≡ false → clash k (moved x g m p) (moved x g m o) ≡ false
    clash-moved o p l a b c h =
        by_test (numbered x o)
        (λ (e : numbered x o ≡ true).
        let z : o.number ≡ x = eqb-true _ _ e in
        let d : numbered x p ≡ false = ne_eqb p.number x (λ y. omega arith) in
        rw (e, d) (rw d at b))
        (λ (e : numbered x o ≡ false).
        by_test (numbered x p)
        (λ (d : numbered x p ≡ true).
        rw (e, d) (by_test (eqb g o.parent)
        (λ (u : eqb g o.parent ≡ true).
        let v : child_of g o ≡ true = eq-eqb o.parent g (sym (eqb-true _ _ u)) in
        let unlike : is_alike k m o.name ≡ false = rw (e, v) at a in
        rw u (alike_turned (k.order m o.name) (k.order o.name m) (t.mirrored m o.name w (c v)) unlike))
        (λ (u : eqb g o.parent ≡ false). rw u)))
        (λ (d : numbered x p ≡ false). rw (e, d) h))

    apart-moved : (n : ℕ) (os : List Object) → Falling n os → AllByRecursion Free os → AllByRecursion Child os → Apart k os → Apart k (map (moved x g m) os)
    apart-moved n [] f a c h = tt
    apart-moved n (o ∷ os) f a c h =
        (go os (falling_below o.number os f.1) a.1 h.0, apart-moved o.number os f.1 a.1 c.1 h.1)
      where
        go : (ps : List Object) → AllByRecursion (λ p. p.number < o.number) ps → AllByRecursion Free ps → AllByRecursion (λ p. clash k p o ≡ false) ps → AllByRecursion (λ p. clash k p (moved x g m o) ≡ false) (map (moved x g m) ps)
        go [] b q r = tt
        go (p ∷ ps) b q r = (clash-moved o p b.0 a.0 q.0 c.0 r.0, go ps b.1 q.1 r.1)

module _ (k : Kind) (l : KeepsLaws k) (count : ℕ) (t : Tree) (s : Sound k count t) (f x g : ℕ) (m : List ℕ) (was : FoundAs t.objects f x) (good : is_bad_name k m ≡ false) (there : has_folder g t ≡ true)
    (free : is_taken k t x g m ≡ false) (own : is_own_branch t x g ≡ false) (held : HeldTree k (renamed t x g m)) (room : blocks_in_use k (renamed t x g m) ≤ count) where
  same : (n : ℕ) → (n ≡ x → ⊥) → parent_of (renamed t x g m).objects n ≡ parent_of t.objects n
  same = parent_others x g m t.objects

  -- the way from the target does not lead through the object
  target_leads : Leads (renamed t x g m).objects g
  target_leads =
      let w = (folder_some k count t s g there).1 in
      ⊎_elim
      (λ (h : has_folder x t ≡ false).
      let leaf = barren k count t s x was.some h in
      let apart : g ≡ x → ⊥ = λ z. never _ there (subst (λ (n : ℕ). has_folder n t ≡ false) (sym z) h) in
      (w.0, way_beside t.objects (renamed t x g m).objects x same (no_parent k count t s x was.some leaf) w.0 g apart w.1))
      (λ (h : is_above (length t.objects) t.objects x g ≡ false).
      (w.0, way_below t.objects (renamed t x g m).objects x same (length t.objects) w.0 g h (steps_few w.0 t.objects (grounded k count t s) g w.1) w.1))
      (and_cases _ _ own)

  still : (n : ℕ) → Leads t.objects n → Leads (renamed t x g m).objects n
  still n w = way_turned t.objects (renamed t x g m).objects x same g (parent_moved x g m t.objects was.object was.there) target_leads w.0 n w.1

  placed_moved : (o : Object) → (o ≡ root) ⊎ Placed k t.objects o → (moved x g m o ≡ root) ⊎ Placed k (renamed t x g m).objects (moved x g m o)
  placed_moved o h =
      by_test (numbered x o)
      (λ e. rw e (inr (record { named = good; parent = folder_moved x g m g t.objects there })))
      (λ e. rw e (⊎_elim (λ (r : o ≡ root). inl r) (λ (q : Placed k t.objects o). inr (record { named = q.named; parent = folder_moved x g m o.parent t.objects q.parent })) h))

  pub sound_renamed : Sound k count (renamed t x g m)
  sound_renamed = record {
    next = s.next;
    falling = falling_moved x g m t.next t.objects s.falling;
    positive = all_moved x g m _ (λ o. 1 ≤ o.number) (λ o h. rw (number-moved x g m o) h) t.objects s.positive;
    rooted = find_others x g m 1 t.objects (λ e. was.other (sym e)) ∙ s.rooted;
    placed = all_moved x g m _ _ placed_moved t.objects s.placed;
    kinds = all_moved x g m _ (λ o. is_bad_kind o.kind ≡ false) (λ o h. rw (kind_moved x g m o) h) t.objects s.kinds;
    leads = all_moved x g m _ (λ o. Leads (renamed t x g m).objects o.number) (λ o h. rw (number-moved x g m o) (still o.number h)) t.objects s.leads;
    apart = apart-moved x g m k l.ordered (lawful_name k m good) t.next t.objects s.falling
        (none_passes (λ o. not (numbered x o) && stands_as k g m o) t.objects free)
        (children k count t s g (folder_some k count t s g there).0) s.apart;
    held = held;
    room = room;
  }
