-- What a page of a folder shows.
use Rattle.std.proofs.Common.{◌≡◌, ℕ, suc, ◌-◌, ◌^◌, ◌<◌, ◌≤◌, Bool, true, false, cond, eqb, leb, ◌⊎◌, List, [], ◌∷◌, ◌++◌, map, length, is_some, Some, None, filter, Option, sym, refl, ap, ◌∙◌, subst, inl, inr, ⊎_elim, arith}
use lib.Dec.{eqb-suc-suc, eqb-zero-suc}
use Rattle.std.specs.Option.{option_map}
use Rattle.std.specs.List.{AllByRecursion}
use Rattle.std.proofs.ByRecursion.{all_kept_by}
use Rattle.std.proofs.lemmas.List.{drop_at}
use Rattle.std.proofs.lemmas.Bool.{eqb-true, and_parts, ne_eqb, leb-true}
use Rattle.words.specs.BigEndian.{bytes32}
use Rattle.words.proofs.Overwritten.{value32}
use Rattle.kinds.specs.Kinds.{Kind}
use Rattle.records.specs.Records.{key_of, weight, load}
use Rattle.records.specs.Ordered.{after}
use Rattle.pages.specs.Pages.{following, fitting}
use Rattle.model.specs.Trees.{Object, is_alike, find, child_of, numbered, stands_as}
use Rattle.model.specs.Indexes.{entry_of, told, indexed, folder_records}
use Rattle.model.specs.Soundness.{KeepsLaws}
use Rattle.model.proofs.Entries.{key_entry, Children}
use Rattle.model.proofs.Finds.{by_test, never, found_passes, found_all}
use Rattle.listings.specs.Indexes.{named}
use Rattle.listings.specs.Listings.{is_after, Rising, last_name, times}
use Rattle.listings.proofs.Rises.{Good, Mark, is_mark, after_le, alike_le, rising_kept, found_after, times_none, finds_all}
use Rattle.listings.proofs.Indexed.{good_indexed, rising_indexed, find-indexed}

module _ (k : Kind) (l : KeepsLaws k) where
  -- those after a bookmark
  abbrev later : List ℕ → List (List ℕ) → List (List ℕ)
  later b rs = filter (λ r. is_after k b (key_of r)) rs

  kept_any : (rs : List (List ℕ)) → rs ≡ filter (λ r. true) rs
  kept_any [] = refl
  kept_any (r ∷ rs) = ap (λ ss. r ∷ ss) (kept_any rs)

  following_is : (b : List ℕ) (rs : List (List ℕ)) → following k b rs ≡ later b rs
  unfolding after
  following_is [] rs = kept_any rs
  following_is (x ∷ xs) rs = rw (ne_eqb (suc (length xs)) 0 (λ e. omega arith))

  rising_later : (b c : List ℕ) (rs : List (List ℕ)) → Mark k c → Good k rs → Rising k c rs → Rising k b (later b rs)
  rising_later b c [] h g r = tt
  rising_later b c (o ∷ os) h g r =
      by_test (is_after k b (key_of o))
      (λ e. rw e (e, rising_kept k l (λ r. is_after k b (key_of r)) (key_of o) os (is_mark k l (key_of o) g.0) g.1 r.1))
      (λ e. rw e (rising_later b (key_of o) os (is_mark k l (key_of o) g.0) g.1 r.1))

  find-later : (b n : List ℕ) (rs : List (List ℕ)) → Mark k b → k.lawful n ≡ true → Good k rs → is_after k b n ≡ true → find (named k n) (later b rs) ≡ find (named k n) rs
  find-later b n [] h w g a = refl
  find-later b n (o ∷ os) h w g a =
      by_test (is_after k b (key_of o))
      (λ e. rw e (ap (λ (r : Option (List ℕ)). cond (named k n o) (Some o) r) (find-later b n os h w g.1 a)))
      (λ e. rw e (by_test (named k n o)
      (λ s. never _ (after_le k l b n (key_of o) h w g.0 a (alike_le k l n (key_of o) w g.0 s)) e)
      (λ s. rw s (find-later b n os h w g.1 a))))

  -- as many of the first as fit
  all-fitting : (P : List ℕ → Type 0) (room : ℕ) (rs : List (List ℕ)) → AllByRecursion P rs → AllByRecursion P (fitting room rs)
  all-fitting P room [] g = tt
  all-fitting P room (o ∷ os) g =
      by_test (leb (weight o) room) (λ e. rw e (g.0, all-fitting P (room - weight o) os g.1)) (λ e. rw e tt)

  rising_fitting : (b : List ℕ) (room : ℕ) (rs : List (List ℕ)) → Rising k b rs → Rising k b (fitting room rs)
  rising_fitting b room [] g = tt
  rising_fitting b room (o ∷ os) g =
      by_test (leb (weight o) room) (λ e. rw e (g.0, rising_fitting (key_of o) (room - weight o) os g.1)) (λ e. rw e tt)

  pub load-fitting : (room : ℕ) (rs : List (List ℕ)) → load (fitting room rs) ≤ room
  load-fitting room [] = omega arith
  load-fitting room (o ∷ os) =
      by_test (leb (weight o) room)
      (λ e. rw e (let h = load-fitting (room - weight o) os in let w = leb-true (weight o) room e in omega arith)) (λ e. rw e (omega arith))

  -- a name that is there is shown, or comes after all that is shown, and then something is left over
  find-fitting : (b n : List ℕ) (room : ℕ) (rs : List (List ℕ)) → k.lawful n ≡ true → Good k rs → Rising k b rs → is_after k b n ≡ true → is_some (find (named k n) rs) ≡ true
      → (is_some (find (named k n) (fitting room rs)) ≡ true) ⊎ ((is_after k (last_name b (fitting room rs)) n ≡ true) × (eqb (length (fitting room rs)) (length rs) ≡ false))
  find-fitting b n room [] w g r a e = never _ e refl
  find-fitting b n room (o ∷ os) w g r a e =
      by_test (leb (weight o) room)
      (λ f. rw f (by_test (named k n o) (λ s. rw s (inl refl))
      (λ s. rw s
      (⊎_elim inl (λ h. inr (h.0, eqb-suc-suc _ _ ∙ h.1))
      (find-fitting (key_of o) n (room - weight o) os w g.1 r.1
      (found_after k l (key_of o) n os (is_mark k l (key_of o) g.0) w g.1 r.1 (rw s at e)) (rw s at e))))))
      (λ f. rw f (inr (a, eqb-zero-suc _)))

  -- a name that is not there is not shown
  none_later : (b n : List ℕ) (rs : List (List ℕ)) → is_some (find (named k n) rs) ≡ false → is_some (find (named k n) (later b rs)) ≡ false
  none_later b n [] e = refl
  none_later b n (o ∷ os) e =
      by_test (named k n o) (λ s. never _ refl (rw s at e))
      (λ s. by_test (is_after k b (key_of o)) (λ a. rw (a, s) (none_later b n os (rw s at e))) (λ a. rw a (none_later b n os (rw s at e))))

  none_fitting : (n : List ℕ) (room : ℕ) (rs : List (List ℕ)) → is_some (find (named k n) rs) ≡ false → is_some (find (named k n) (fitting room rs)) ≡ false
  none_fitting n room [] e = refl
  none_fitting n room (o ∷ os) e =
      by_test (named k n o) (λ s. never _ refl (rw s at e))
      (λ s. by_test (leb (weight o) room) (λ a. rw (a, s) (none_fitting n (room - weight o) os (rw s at e))) (λ a. rw a))

  -- the records of a folder and its objects
  abbrev pub entries : ℕ → List Object → List (List ℕ)
  entries f os = map entry_of (filter (child_of f) os)

  pub good_entries : (f : ℕ) (os : List Object) → Children k f os → Good k (entries f os)
  good_entries f [] c = tt
  good_entries f (o ∷ os) c =
      by_test (child_of f o)
      (λ e. rw e (ap k.lawful (key_entry o) ∙ c.0 e, good_entries f os c.1)) (λ e. rw e (good_entries f os c.1))

  pub find-entries : (f : ℕ) (n : List ℕ) (os : List Object) → find (named k n) (entries f os) ≡ option_map entry_of (find (stands_as k f n) os)
  find-entries f n [] = refl
  find-entries f n (o ∷ os) =
      by_test (child_of f o)
      (λ e. rw (e, key_entry o) (by_test (is_alike k n o.name) (λ a. rw a) (λ a. rw a (find-entries f n os))))
      (λ e. rw e (find-entries f n os))

  -- what is known of a page
  pub record Showing (os : List Object) (f : ℕ) (b : List ℕ) (listed : List (List ℕ)) (end : Bool) : Type 0 where
    pub lawful : Good k listed
    pub rising : Rising k b listed
    pub there : (n : List ℕ) → k.lawful n ≡ true → is_some (find (stands_as k f n) os) ≡ true → is_after k b n ≡ true
        → (is_some (find (named k n) listed) ≡ true) ⊎ ((is_after k (last_name b listed) n ≡ true) × (end ≡ false))
    pub absent : (n : List ℕ) → k.lawful n ≡ true → is_some (find (stands_as k f n) os) ≡ false → times k n listed ≡ 0
    pub held : AllByRecursion (λ r. (find (stands_as k f (key_of r)) os ≡ Some (told f r)) × (find (numbered (told f r).number) os ≡ Some (told f r))) listed

  told_back : (f : ℕ) (o : Object) → o.parent ≡ f → o.number < 2 ^ 32 → told f (entry_of o) ≡ o
  told_back f o p h =
      let tail : List ℕ = bytes32 o.number ++ o.kind ∷ [] in
      let rest = drop_at o.name tail (length o.name) refl in
      let v = value32 o.number h in
      rw (key_entry o, rest, v, ← p)

  mapped_is : (found : Option Object) (r : List ℕ) → option_map entry_of found ≡ Some r → (o : Object) × ((found ≡ Some o) × (entry_of o ≡ r))
  mapped_is None r e = absurd (cc)
  mapped_is (Some o) r e = (o, (refl, cc))

  module _ (os : List Object) (f : ℕ) (c : Children k f os) (small : AllByRecursion (λ o. o.number < 2 ^ 32) os) (reg : AllByRecursion (λ o. find (numbered o.number) os ≡ Some o) os) where
    good : Good k (indexed k (entries f os))
    good = good_indexed k l (entries f os) (good_entries f os c)

    rises : Rising k [] (indexed k (entries f os))
    rises = rising_indexed k l (entries f os) (good_entries f os c)

    find-index : (n : List ℕ) → k.lawful n ≡ true → find (named k n) (indexed k (entries f os)) ≡ option_map entry_of (find (stands_as k f n) os)
    find-index n w = find-indexed k l n (entries f os) w (good_entries f os c) ∙ find-entries f n os

    some_mapped : (found : Option Object) → is_some (option_map entry_of found) ≡ is_some found
    some_mapped None = refl
    some_mapped (Some o) = refl

    there-is : (n : List ℕ) (v : Bool) → k.lawful n ≡ true → is_some (find (stands_as k f n) os) ≡ v → is_some (find (named k n) (indexed k (entries f os))) ≡ v
    there-is n v w e = ap is_some (find-index n w) ∙ some_mapped _ ∙ e

    abbrev Tells : List ℕ → Type 0
    Tells r = (find (stands_as k f (key_of r)) os ≡ Some (told f r)) × (find (numbered (told f r).number) os ≡ Some (told f r))

    tells : (r : List ℕ) → k.lawful (key_of r) ≡ true → find (named k (key_of r)) (indexed k (entries f os)) ≡ Some r → Tells r
    tells r w e =
        let m = mapped_is (find (stands_as k f (key_of r)) os) r (sym (find-index (key_of r) w) ∙ e) in
        let o = m.0 in
        let mine = eqb-true o.parent f (and_parts _ _ (found_passes (stands_as k f (key_of r)) os o m.1.0)).0 in
        let low = found_all (stands_as k f (key_of r)) _ os o small m.1.0 in
        let here = found_all (stands_as k f (key_of r)) _ os o reg m.1.0 in
        let same : told f r ≡ o = ap (told f) (sym m.1.1) ∙ told_back f o mine low in
        (m.1.0 ∙ ap Some (sym same), subst (λ (p : Object). find (numbered p.number) os ≡ Some p) (sym same) here)

    all_tell : (rs : List (List ℕ)) → Good k rs → AllByRecursion (λ r. find (named k (key_of r)) (indexed k (entries f os)) ≡ Some r) rs → AllByRecursion Tells rs
    all_tell [] g h = tt
    all_tell (r ∷ rs) g h = (tells r g.0 h.0, all_tell rs g.1 h.1)

    showing-later : (b : List ℕ) (room : ℕ) → Mark k b
        → Showing os f b (fitting room (later b (indexed k (entries f os)))) (eqb (length (fitting room (later b (indexed k (entries f os))))) (length (later b (indexed k (entries f os)))))
    showing-later b room m =
        let test : List ℕ → Bool = λ r. is_after k b (key_of r) in
        let ix = indexed k (entries f os) in
        let ga = all_kept_by test (λ r. k.lawful (key_of r) ≡ true) ix good in
        let ra = rising_later b [] ix tt good rises in
        record {
          lawful = all-fitting _ room (later b ix) ga;
          rising = rising_fitting b room (later b ix) ra;
          there = λ n w e a. find-fitting b n room (later b ix) w ga ra a (ap is_some (find-later b n ix m w good a) ∙ there-is n true w e);
          absent = λ n w e. times_none k l n _ (none_fitting n room (later b ix) (none_later b n ix (there-is n false w e)));
          held = all-fitting Tells room (later b ix) (all_kept_by test Tells ix (all_tell ix good (finds_all k l [] ix good rises)));
        }

    pub showing : (b : List ℕ) (room : ℕ) → Mark k b
        → Showing os f b (fitting room (following k b (folder_records k os f))) (eqb (length (fitting room (following k b (folder_records k os f)))) (length (following k b (folder_records k os f))))
    unfolding folder_records
    showing b room m =
        let P : List (List ℕ) → Type 0 = λ rs. Showing os f b (fitting room rs) (eqb (length (fitting room rs)) (length rs)) in
        subst P (sym (following_is b (indexed k (entries f os)))) (showing-later b room m)
