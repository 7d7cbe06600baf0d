-- A sound tree is sound after a create and after a remove.
use Rattle.std.proofs.Common.{◌≡◌, ℕ, zero, suc, ◌<◌, ◌≤◌, Bool, true, false, not, ◌⊎◌, List, [], ◌∷◌, is_some, filter, Option, unwrap_or, sym, refl, ap, ◌∙◌, inl, inr, ⊎_elim, arith}
use Rattle.std.specs.Option.{option_map}
use Rattle.std.specs.List.{AllByRecursion}
use Rattle.std.proofs.ByRecursion.{All-weaker, all_kept_by}
use Rattle.std.proofs.lemmas.Bool.{eqb-true, eqb-false, eq-eqb, ne_eqb, and_parts, not-true}
use Rattle.kinds.specs.Kinds.{Kind}
use Rattle.model.specs.Trees.{Object, Tree, numbered, folder_numbered, child_of, find, has_folder, looked_up, stands_as, parent_of, climbed, root, created, removed}
use Rattle.model.specs.Names.{is_bad_name}
use Rattle.model.specs.Reasons.{is_bad_kind}
use Rattle.model.specs.Indexes.{HeldTree, blocks_in_use}
use Rattle.model.specs.Soundness.{KeepsLaws, Leads, Placed, Sound}
use Rattle.model.proofs.Finds.{by_test, none_passes}
use Rattle.model.proofs.Numbers.{falling_kept, falling_below, find_kept, find_other}
use Rattle.model.proofs.Climbs.{no_way, way_past, way_beside}
use Rattle.model.proofs.Entries.{Children}
use Rattle.model.proofs.Space.{apart_kept, held-fewer, blocks-fewer}
use Rattle.model.proofs.Facts.{past_root, grounded, folder_some, children, parent_none, no_parent}

some_more : (test : Object → Bool) (o : Object) (os : List Object) → is_some (find test os) ≡ true → is_some (find test (o ∷ os)) ≡ true
some_more test o os h = by_test (test o) (λ e. rw e) (λ e. rw e h)

all_passing : (P Q : Object → Type 0) (q : Object → Bool) → ((o : Object) → q o ≡ true → P o → Q o) → (os : List Object) → AllByRecursion P os → AllByRecursion Q (filter q os)
all_passing P Q q h [] a = tt
all_passing P Q q h (o ∷ os) a =
    by_test (q o) (λ t. rw t (h o t a.0, all_passing P Q q h os a.1)) (λ t. rw t (all_passing P Q q h os a.1))

module _ (k : Kind) (l : KeepsLaws k) (count : ℕ) (t : Tree) (s : Sound k count t) where
  module _ (f : ℕ) (n : List ℕ) (kind : ℕ) (good : is_bad_name k n ≡ false) (fair : is_bad_kind kind ≡ false) (there : has_folder f t ≡ true) (free : is_some (looked_up k t f n) ≡ false) (more : t.next < 4294967295)
      (held : HeldTree k (created t f n kind)) (room : blocks_in_use k (created t f n kind) ≤ count) where
    same : (m : ℕ) → (m ≡ t.next → ⊥) → parent_of (created t f n kind).objects m ≡ parent_of t.objects m
    same m h = rw (ne_eqb t.next m (λ e. h (sym e)))

    below : AllByRecursion (λ o. o.number < t.next) t.objects
    below = falling_below t.next t.objects s.falling

    stuck : (d : ℕ) → climbed d t.objects t.next ≡ 1 → ⊥
    stuck zero e = let p = past_root k count t s in omega arith
    stuck (suc d) e =
        no_way t.objects (grounded k count t s).none d t.next (parent_none t.next t.objects (All-weaker (λ o. o.number < t.next) (λ o. o.number ≡ t.next → ⊥) (λ o b z. omega arith) t.objects below)) e

    still : (m : ℕ) → Leads t.objects m → Leads (created t f n kind).objects m
    still m w = (w.0, way_past t.objects (created t f n kind).objects t.next same stuck w.0 m w.1)

    entered : Leads (created t f n kind).objects t.next
    entered =
        let w = still f (folder_some k count t s f there).1 in
        let e : parent_of (created t f n kind).objects t.next ≡ f = rw (eq-eqb t.next t.next refl) in
        (suc w.0, ap (climbed w.0 (created t f n kind).objects) e ∙ w.1)

    pub sound-created : Sound k count (created t f n kind)
    sound-created =
        let p = past_root k count t s in
        record {
          next = omega arith;
          falling = (omega arith, s.falling);
          positive = (omega arith, s.positive);
          rooted = rw (ne_eqb t.next 1 (λ e. omega arith)) s.rooted;
          placed = (
            inr (record { named = good; parent = some_more (folder_numbered f) _ t.objects there }),
            All-weaker _ _ (λ o h. ⊎_elim (λ (r : o ≡ root). inl r) (λ (q : Placed k t.objects o). inr (record { named = q.named; parent = some_more (folder_numbered o.parent) _ t.objects q.parent })) h) t.objects s.placed,
          );
          kinds = (fair, s.kinds);
          leads = (entered, All-weaker _ _ (λ o w. still o.number w) t.objects s.leads);
          apart = (none_passes (stands_as k f n) t.objects free, s.apart);
          held = held;
          room = room;
        }

  module _ (x : ℕ) (some : 1 ≤ x) (other : x ≡ 1 → ⊥) (leaf : AllByRecursion (λ o. child_of x o ≡ false) t.objects) where
    same-parent : (m : ℕ) → (m ≡ x → ⊥) → parent_of (removed t x).objects m ≡ parent_of t.objects m
    same-parent m h = ap (λ (o : Option Object). unwrap_or (option_map (λ p. p.parent) o) 0) (find_other m x h t.objects)

    way-left : (n : ℕ) → (n ≡ x → ⊥) → Leads t.objects n → Leads (removed t x).objects n
    way-left n h w =
        (w.0, way_beside t.objects (removed t x).objects x same-parent (no_parent k count t s x some leaf) w.0 n h w.1)

    folder-left : (p : ℕ) → (p ≡ x → ⊥) → find (folder_numbered p) (removed t x).objects ≡ find (folder_numbered p) t.objects
    folder-left p h = find_kept (folder_numbered p) (numbered x) (λ o e. ne_eqb o.number x (λ z. h (sym (eqb-true o.number p (and_parts _ _ e).0) ∙ z))) t.objects

    placed-left : (o : Object) → child_of x o ≡ false → (o ≡ root) ⊎ Placed k t.objects o → (o ≡ root) ⊎ Placed k (removed t x).objects o
    placed-left o c h =
        ⊎_elim (λ (r : o ≡ root). inl r) (λ (q : Placed k t.objects o). inr (record { named = q.named; parent = ap is_some (folder-left o.parent (eqb-false o.parent x c)) ∙ q.parent })) h

    both_left : (ps : List Object) → AllByRecursion (λ o. child_of x o ≡ false) ps → AllByRecursion (λ o. (o ≡ root) ⊎ Placed k t.objects o) ps → AllByRecursion (λ o. (o ≡ root) ⊎ Placed k (removed t x).objects o) ps
    both_left [] c h = tt
    both_left (o ∷ ps) c h = (placed-left o c.0 h.0, both_left ps c.1 h.1)

    all-children : AllByRecursion (λ o. Children k o.number t.objects) t.objects
    all-children = All-weaker (λ o. 1 ≤ o.number) _ (λ o h. children k count t s o.number h) t.objects s.positive

    pub sound-removed : Sound k count (removed t x)
    sound-removed =
        let fewer = blocks-fewer k l.ordered t.next s.next t.objects (λ o. not (numbered x o)) s.falling s.apart all-children in
        let room = s.room in
        record {
          next = s.next;
          falling = falling_kept (λ o. not (numbered x o)) t.next t.objects s.falling;
          positive = all_kept_by _ _ t.objects s.positive;
          rooted = find_other 1 x (λ e. other (sym e)) t.objects ∙ s.rooted;
          placed = all_kept_by _ _ t.objects (both_left t.objects leaf s.placed);
          kinds = all_kept_by _ _ t.objects s.kinds;
          leads = all_passing _ _ (λ o. not (numbered x o)) (λ o q w. way-left o.number (eqb-false o.number x (not-true _ q)) w) t.objects s.leads;
          apart = apart_kept k _ t.objects s.apart;
          held = held-fewer k l.ordered t.next s.next t.objects (λ o. not (numbered x o)) s.falling s.apart all-children s.held;
          room = omega arith;
        }
