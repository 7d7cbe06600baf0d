-- How the indexes change with a rename.
use Rattle.std.proofs.Common.{◌≡◌, ℕ, ◌^◌, ◌<◌, true, false, not, ◌&&◌, List, [], ◌∷◌, map, Some, None, filter, sym, refl, ap, ◌∙◌, ⊎_elim}
use Rattle.std.specs.Option.{option_map}
use Rattle.std.specs.List.{AllByRecursion}
use Rattle.std.proofs.ByRecursion.{all_kept_by}
use Rattle.std.proofs.lemmas.Bool.{eq-eqb, ne_eqb, and_parts, cases_eq}
use Rattle.kinds.specs.Kinds.{Kind}
use Rattle.kinds.specs.Numbers.{number_of, register_numbers}
use Rattle.model.specs.Trees.{Object, numbered, child_of, is_alike, stands_as, find, placed_at}
use Rattle.model.specs.Indexes.{entry_of, line_of, indexed, folder_records, register_records}
use Rattle.model.specs.Soundness.{KeepsLaws}
use Rattle.model.proofs.Entries.{key_entry, Children}
use Rattle.model.proofs.Facts.{registered, children}
use Rattle.model.proofs.Finds.{by_test, never, none_passes, found_all}
use Rattle.model.proofs.Register.{register_laws, alike_line}
use Rattle.model.proofs.Renames.{moved, number-moved, all_moved, find-numbered, find_others}
use Rattle.listings.specs.Changes.{RenameMoves}
use Rattle.listings.specs.Indexes.{named}
use Rattle.listings.proofs.Places.{equal_alike}
use Rattle.listings.proofs.Rises.{Good, alike_both}
use Rattle.listings.proofs.Indexed.{good_indexed, rising_indexed, find-indexed}
use Rattle.listings.proofs.Removals.{same_records}
use Rattle.listings.proofs.Shown.{entries, good_entries, find-entries}
use Rattle.listings.proofs.Tells.{good_lines, find_lines}
use Rattle.listings.proofs.Altered.{small}

-- indexes of lists that have the same records under every key
same_index : (k : Kind) (l : KeepsLaws k) (rs ss : List (List ℕ)) → Good k rs → Good k ss → ((n : List ℕ) → k.lawful n ≡ true → find (named k n) rs ≡ find (named k n) ss) → indexed k rs ≡ indexed k ss
same_index k l rs ss g d h =
    same_records k l [] [] (indexed k rs) (indexed k ss) (good_indexed k l rs g) (good_indexed k l ss d) (rising_indexed k l rs g) (rising_indexed k l ss d)
    (λ n w. find-indexed k l n rs w g ∙ h n w ∙ sym (find-indexed k l n ss w d))

-- folders but the target
others_moved : (x g : ℕ) (m : List ℕ) (h : ℕ) → (h ≡ g → ⊥) → (os : List Object) → filter (child_of h) (map (moved x g m) os) ≡ filter (child_of h) (filter (λ o. not (numbered x o)) os)
others_moved x g m h a [] = refl
others_moved x g m h a (o ∷ os) =
    let rest = others_moved x g m h a os in
    by_test (numbered x o)
    (λ e. rw e (rw (ne_eqb g h (λ z. a (sym z))) rest))
    (λ e. rw e (by_test (child_of h o) (λ t. rw t (ap (λ ps. o ∷ ps) rest)) (λ t. rw t rest)))

module _ (k : Kind) (l : KeepsLaws k) (x g : ℕ) (m : List ℕ) (w : k.lawful m ≡ true) where
  abbrev Free : Object → Type 0
  Free p = (not (numbered x p) && stands_as k g m p) ≡ false

  -- the target has the object under its new name
  find_new : (o : Object) (n : List ℕ) (os : List Object) → k.lawful n ≡ true → is_alike k n m ≡ true → Children k g os → AllByRecursion Free os → find (numbered x) os ≡ Some o → find (stands_as k g n) (map (moved x g m) os) ≡ Some (placed_at g m o)
  find_new o n [] v a c h e = let z : None ≡ Some o = e in absurd (cc)
  find_new o n (p ∷ ps) v a c h e =
      by_test (numbered x p)
      (λ t. let z : Some p ≡ Some o = rw t at e in let same : p ≡ o = cc in rw t (rw (eq-eqb g g refl, a) (ap (λ (q : Object). Some (placed_at g m q)) same)))
      (λ t. rw t (by_test (stands_as k g n p)
      (λ u.
      let parts = and_parts (child_of g p) (is_alike k n p.name) u in
      let alike : is_alike k m p.name ≡ true = equal_alike k l m p.name (alike_both k l n m p.name v w (c.0 parts.0) a parts.1) in
      let no : stands_as k g m p ≡ false = rw t at h.0 in
      never _ (rw parts.0 alike) no)
      (λ u. rw u (find_new o n ps v a c.1 h.1 (rw t at e)))))

  -- and the other objects as before
  find_old : (n : List ℕ) (os : List Object) → is_alike k n m ≡ false → find (stands_as k g n) (map (moved x g m) os) ≡ find (stands_as k g n) (filter (λ o. not (numbered x o)) os)
  find_old n [] a = refl
  find_old n (p ∷ ps) a =
      let rest = find_old n ps a in
      by_test (numbered x p)
      (λ t. rw t (rw (eq-eqb g g refl, a) rest))
      (λ t. rw t (by_test (stands_as k g n p) (λ u. rw u) (λ u. rw u rest)))

  children_moved : (os : List Object) → Children k g os → Children k g (map (moved x g m) os)
  children_moved [] c = tt
  children_moved (p ∷ ps) c = (by_test (numbered x p) (λ t. rw t (λ _. w)) (λ t. rw t c.0), children_moved ps c.1)

  target_moved : (o : Object) (os : List Object) → Children k g os → AllByRecursion Free os → find (numbered x) os ≡ Some o
      → indexed k (entries k l g (map (moved x g m) os)) ≡ indexed k (entry_of (placed_at g m o) ∷ entries k l g (filter (λ p. not (numbered x p)) os))
  target_moved o os c h e =
      let os' = map (moved x g m) os in
      let left = filter (λ p. not (numbered x p)) os in
      same_index k l (entries k l g os') (entry_of (placed_at g m o) ∷ entries k l g left)
      (good_entries k l g os' (children_moved os c)) (ap k.lawful (key_entry (placed_at g m o)) ∙ w, good_entries k l g left (all_kept_by _ _ os c))
      (λ n v. find-entries k l g n os' ∙ by_test (is_alike k n m)
      (λ a. ap (option_map entry_of) (find_new o n os v a c h e) ∙ sym (rw (key_entry (placed_at g m o), a)))
      (λ a. ap (option_map entry_of) (find_old n os a) ∙ sym (find-entries k l g n left) ∙ sym (rw (key_entry (placed_at g m o), a))))

-- the register's record is replaced
lines_moved : (x g : ℕ) (m : List ℕ) (o : Object) (os : List Object) → o.number ≡ x → AllByRecursion (λ p. p.number < 2 ^ 32) os → find (numbered x) os ≡ Some o
    → indexed register_numbers (map line_of (map (moved x g m) os)) ≡ indexed register_numbers (line_of (placed_at g m o) ∷ map line_of os)
lines_moved x g m o os num low e =
    let os' = map (moved x g m) os in
    let new = placed_at g m o in
    let low' = all_moved x g m (λ p. p.number < 2 ^ 32) (λ p. p.number < 2 ^ 32) (λ p h. rw (number-moved x g m p) h) os low in
    let few : o.number < 2 ^ 32 = found_all (numbered x) (λ p. p.number < 2 ^ 32) os o low e in
    same_index register_numbers register_laws (map line_of os') (line_of new ∷ map line_of os) (good_lines os') (refl, good_lines os)
    (λ key v. find_lines key os' low' ∙ ⊎_elim
    (λ (z : number_of key ≡ x).
    let front : find (named register_numbers key) (line_of new ∷ map line_of os) ≡ Some (line_of new) = rw (alike_line key new few, z, eq-eqb o.number x num) in
    let changed : option_map line_of (Some (moved x g m o)) ≡ Some (line_of new) = rw (eq-eqb o.number x num) in
    ap (λ n. option_map line_of (find (numbered n) os')) z
    ∙ ap (option_map line_of) (find-numbered x g m x os ∙ ap (option_map (moved x g m)) e)
    ∙ changed
    ∙ sym front)
    (λ (z : number_of key ≡ x → ⊥).
    ap (option_map line_of) (find_others x g m (number_of key) os z)
    ∙ sym (find_lines key os low)
    ∙ sym (rw (alike_line key new few, ne_eqb o.number (number_of key) (λ y. z (sym y ∙ num)))))
    (cases_eq (number_of key) x))

pub rename_moves : RenameMoves
unfolding folder_records register_records
rename_moves k l count t s f n o g m pf pg w e free = record {
  there = target_moved k l o.number g m w o t.objects (children k count t s g pg) (none_passes (λ p. not (numbered o.number p) && stands_as k g m p) t.objects free) there;
  others = λ h a. ap (λ os. indexed k (map entry_of os)) (others_moved o.number g m h a t.objects);
  register = lines_moved o.number g m o t.objects refl (small k l count t s) there;
}
  where
    there : find (numbered o.number) t.objects ≡ Some o
    there = found_all (stands_as k f n) (λ q. find (numbered q.number) t.objects ≡ Some q) t.objects o (registered k count t s) e
