-- How the indexes change with the tree.
use Rattle.std.proofs.Common.{◌≡◌, ℕ, ◌^◌, ◌<◌, ◌≤◌, true, false, not, List, [], ◌∷◌, map, Some, filter, sym, refl, ap, ◌∙◌, subst, arith}
use Rattle.std.specs.List.{AllByRecursion}
use Rattle.std.proofs.ByRecursion.{All-weaker}
use Rattle.std.proofs.lemmas.Bool.{eqb-true, eq-eqb, ne_eqb, and_parts}
use Rattle.words.specs.BigEndian.{bytes32}
use Rattle.kinds.specs.Kinds.{Kind}
use Rattle.kinds.specs.Numbers.{register_numbers}
use Rattle.records.specs.Records.{key_of}
use Rattle.model.specs.Trees.{Object, Tree, numbered, child_of, is_alike, stands_as, find, looked_up}
use Rattle.model.specs.Indexes.{entry_of, line_of, indexed, folder_records, register_records}
use Rattle.model.specs.Soundness.{KeepsLaws, clash, Apart, Sound}
use Rattle.model.proofs.Entries.{key_entry, Children}
use Rattle.model.proofs.Facts.{registered, children}
use Rattle.model.proofs.Finds.{by_test, never, found_passes, found_all}
use Rattle.model.proofs.Numbers.{falling_below}
use Rattle.model.proofs.Register.{register_laws, alike_line, number_back}
use Rattle.listings.specs.Changes.{TakesOut, CreatePuts, RemoveTakes}
use Rattle.listings.specs.Indexes.{named}
use Rattle.listings.proofs.Places.{equal_alike}
use Rattle.listings.proofs.Rises.{alike_both}
use Rattle.listings.proofs.Removals.{indexed-without}
use Rattle.listings.proofs.Shown.{good_entries}
use Rattle.listings.proofs.Tells.{good_lines}

pub create_puts : CreatePuts
unfolding folder_records register_records
create_puts k t f n kind = record {
  here = rw (eq-eqb f f refl);
  others = λ g h. rw (ne_eqb f g (λ e. h (sym e)));
  register = refl;
}

module _ (k : Kind) (l : KeepsLaws k) (f : ℕ) (n : List ℕ) (w : k.lawful n ≡ true) where
  -- only one object stands under a name
  one_stands : (os : List Object) (o : Object) → Children k f os → Apart k os → find (stands_as k f n) os ≡ Some o → AllByRecursion (λ p. stands_as k f n p ≡ true → p.number ≡ o.number) os
  one_stands [] o c a e = tt
  one_stands (q ∷ os) o c a e =
      by_test (stands_as k f n q)
      (λ t. let z : Some q ≡ Some o = rw t at e in let same : q ≡ o = cc in
      ((λ _. ap (λ (p : Object). p.number) same), go t os c.1 a.0))
      (λ t. ((λ u. never _ u t), one_stands os o c.1 a.1 (rw t at e)))
    where
      go : stands_as k f n q ≡ true → (ps : List Object) → Children k f ps → AllByRecursion (λ p. clash k p q ≡ false) ps → AllByRecursion (λ p. stands_as k f n p ≡ true → p.number ≡ o.number) ps
      go t [] d h = tt
      go t (p ∷ ps) d h = (
        (λ u.
            let tq = and_parts (child_of f q) (is_alike k n q.name) t in
            let tp = and_parts (child_of f p) (is_alike k n p.name) u in
            let one : p.parent ≡ q.parent = eqb-true _ _ tp.0 ∙ sym (eqb-true _ _ tq.0) in
            let alike : is_alike k q.name p.name ≡ true = equal_alike k l q.name p.name (alike_both k l n q.name p.name w (c.0 tq.0) (d.0 tp.0) tq.1 tp.1) in
            let unlike : is_alike k q.name p.name ≡ false = rw (eq-eqb p.parent q.parent one) at h.0 in
            never _ alike unlike),
        go t ps d.1 h.1,
      )

  entries-removed : (x : ℕ) (os : List Object) → AllByRecursion (λ p. child_of f p ≡ true → numbered x p ≡ is_alike k n p.name) os
      → map entry_of (filter (child_of f) (filter (λ p. not (numbered x p)) os)) ≡ filter (λ r. not (named k n r)) (map entry_of (filter (child_of f) os))
  entries-removed x [] h = refl
  entries-removed x (p ∷ ps) h =
      let rest = entries-removed x ps h.1 in
      by_test (child_of f p)
      (λ t. rw t (rw (key_entry p) (by_test (is_alike k n p.name)
      (λ a. rw (h.0 t ∙ a, a) rest)
      (λ a. rw (h.0 t ∙ a, a) (rw t (ap (λ rs. entry_of p ∷ rs) rest))))))
      (λ t. rw t (by_test (numbered x p) (λ a. rw a rest) (λ a. rw (a, t) rest)))

others_removed : (x g : ℕ) (os : List Object) → AllByRecursion (λ p. numbered x p ≡ true → child_of g p ≡ false) os → filter (child_of g) (filter (λ p. not (numbered x p)) os) ≡ filter (child_of g) os
others_removed x g [] h = refl
others_removed x g (p ∷ ps) h =
    let rest = others_removed x g ps h.1 in
    by_test (numbered x p)
    (λ a. rw (a, h.0 a) rest)
    (λ a. rw a (by_test (child_of g p) (λ t. rw t (ap (λ os. p ∷ os) rest)) (λ t. rw t rest)))

lines_removed : (x : ℕ) (os : List Object) → x < 2 ^ 32 → AllByRecursion (λ o. o.number < 2 ^ 32) os → map line_of (filter (λ p. not (numbered x p)) os) ≡ filter (λ r. not (named register_numbers (bytes32 x) r)) (map line_of os)
lines_removed x [] l h = refl
lines_removed x (p ∷ ps) l h =
    let same : is_alike register_numbers (bytes32 x) (key_of (line_of p)) ≡ numbered x p = alike_line (bytes32 x) p h.0 ∙ ap (λ m. numbered m p) (number_back x l) in
    let rest = lines_removed x ps l h.1 in
    rw same (by_test (numbered x p) (λ a. rw a rest) (λ a. rw a (ap (λ rs. line_of p ∷ rs) rest)))

module _ (k : Kind) (l : KeepsLaws k) (count : ℕ) (t : Tree) (s : Sound k count t) where
  pub small : AllByRecursion (λ o. o.number < 2 ^ 32) t.objects
  small = let below = s.next in All-weaker (λ o. o.number < t.next) (λ o. o.number < 2 ^ 32) (λ o p. omega arith) t.objects (falling_below t.next t.objects s.falling)

  -- an object is known by its number
  pub same_object : (o : Object) → find (numbered o.number) t.objects ≡ Some o → AllByRecursion (λ p. numbered o.number p ≡ true → p ≡ o) t.objects
  same_object o e = All-weaker _ _ (λ p r u. let z : Some p ≡ Some o = sym (subst (λ (m : ℕ). find (numbered m) t.objects ≡ Some p) (eqb-true _ _ u) r) ∙ e in cc) t.objects (registered k count t s)

  module _ (f : ℕ) (n : List ℕ) (o : Object) (p : 1 ≤ f) (w : k.lawful n ≡ true) (e : looked_up k t f n ≡ Some o) where
    pub here : find (numbered o.number) t.objects ≡ Some o
    here = found_all (stands_as k f n) (λ q. find (numbered q.number) t.objects ≡ Some q) t.objects o (registered k count t s) e

    pub stands : stands_as k f n o ≡ true
    stands = found_passes (stands_as k f n) t.objects o e

    both : (os : List Object) → AllByRecursion (λ q. stands_as k f n q ≡ true → q.number ≡ o.number) os → AllByRecursion (λ q. numbered o.number q ≡ true → q ≡ o) os
        → AllByRecursion (λ q. child_of f q ≡ true → numbered o.number q ≡ is_alike k n q.name) os
    both [] a b = tt
    both (q ∷ qs) a b = (
      (λ c. by_test (is_alike k n q.name)
          (λ u. let z : stands_as k f n q ≡ true = rw c u in eq-eqb q.number o.number (a.0 z) ∙ sym u)
          (λ u. by_test (numbered o.number q)
          (λ v. let same : q ≡ o = b.0 v in never _ (and_parts _ _ (subst (λ (r : Object). stands_as k f n r ≡ true) (sym same) stands)).1 u)
          (λ v. v ∙ sym u))),
      both qs a.1 b.1,
    )

    pub takes_out : TakesOut k t f n o
    unfolding folder_records register_records
    takes_out =
        let mine : o.parent ≡ f = eqb-true _ _ (and_parts _ _ stands).0 in
        let only = same_object o here in
        record {
          here = ap (indexed k) (entries-removed k l f n w o.number t.objects (both t.objects (one_stands k l f n w t.objects o (children k count t s f p) s.apart e) only))
              ∙ indexed-without k l n (map entry_of (filter (child_of f) t.objects)) w (good_entries k l f t.objects (children k count t s f p));
          others = λ g h. ap (λ os. indexed k (map entry_of os)) (others_removed o.number g t.objects
              (All-weaker _ _ (λ q r u. let same : q ≡ o = r u in ne_eqb q.parent g (λ z. h (sym z ∙ ap (λ (y : Object). y.parent) same ∙ mine))) t.objects only));
          register = ap (indexed register_numbers) (lines_removed o.number t.objects (found_all (stands_as k f n) (λ q. q.number < 2 ^ 32) t.objects o small e) small)
              ∙ indexed-without register_numbers register_laws (bytes32 o.number) (map line_of t.objects) refl (good_lines t.objects);
        }

pub remove_takes : RemoveTakes
remove_takes k l count t s f n o p w e = takes_out k l count t s f n o p w e
