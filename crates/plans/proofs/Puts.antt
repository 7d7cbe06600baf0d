-- Put and removal over all records, and over those under a prefix.
use Rattle.std.proofs.Common.{◌≡◌, ℕ, suc, ◌+◌, ◌<◌, ◌≤◌, Bool, true, false, eqb, ◌≢◌, ◌⊎◌, List, [], ◌∷◌, ◌++◌, length, take, drop, filter, Less, Equal, Greater, sym, refl, ap, ◌∙◌, inl, inr, ⊎_elim, arith, length-append}
use Rattle.std.specs.List.{insert, remove, AllByRecursion}
use Rattle.std.specs.Ordering.{is_lt, is_eq}
use Rattle.std.proofs.lemmas.List.Elements.{filter-append}
use Rattle.std.proofs.ByRecursion.{All-weaker, kept_by_passes}
use Rattle.std.proofs.lemmas.List.{take_at, drop_at, length-take-le}
use Rattle.std.proofs.lemmas.Bool.{cases_Bool, eqb-true, eq-eqb, ne_eqb}
use Rattle.std.proofs.lemmas.Bool.Decides.{nat_tests}
use Rattle.kinds.specs.Kinds.{Kind, TotalOrder, AlikeHash, position}
use Rattle.kinds.proofs.Positions.{less_onward, position-total, alike-position}
use Rattle.records.specs.Records.{is_record, key_of}
use Rattle.records.specs.Searches.{key_at, Sorted, Goes}
use Rattle.records.specs.Ordered.{before, after, put, without, alike}
use Rattle.records.proofs.Kept.{kept_yes, kept_no, kept_comm}
use Rattle.records.proofs.Rising.{Before, Rising, rising_sorted, sorted_rising, rising_kept, rising_append, parted, before-place, after-new, after-found}
use Rattle.shape.specs.Shapes.{under, prefix_of}
use Rattle.shape.specs.Keyed.{by_key}

module _ (kind : Kind) (o : TotalOrder kind.lawful kind.order) (key : List ℕ) (lk : kind.lawful key ≡ true) where
  lawful_all : (rs : List (List ℕ)) → Rising kind rs → AllByRecursion (λ r. kind.lawful (key_of r) ≡ true) rs
  lawful_all [] u = tt
  lawful_all (r ∷ rs) u = (u.1, lawful_all rs u.3)

  befores : (rs : List (List ℕ)) → AllByRecursion (λ r. position kind (key_of r) key ≡ Less) (before kind key rs)
  unfolding before
  befores rs = All-weaker (λ r. is_lt (position kind (key_of r) key) ≡ true) (λ r. position kind (key_of r) key ≡ Less) (λ r t. grind arith) _ (kept_by_passes (λ r. is_lt (position kind (key_of r) key)) rs)

  afters : (rs : List (List ℕ)) → AllByRecursion (λ r. position kind key (key_of r) ≡ Less) (after kind key rs)
  unfolding after
  afters rs = All-weaker (λ r. is_lt (position kind key (key_of r)) ≡ true) (λ r. position kind key (key_of r) ≡ Less) (λ r t. grind arith) _ (kept_by_passes (λ r. is_lt (position kind key (key_of r))) rs)

  rising_before : (rs : List (List ℕ)) → Rising kind rs → Rising kind (before kind key rs)
  unfolding before
  rising_before rs u = rising_kept kind (λ r. is_lt (position kind (key_of r) key)) rs u

  rising_after : (rs : List (List ℕ)) → Rising kind rs → Rising kind (after kind key rs)
  unfolding after
  rising_after rs u = rising_kept kind (λ r. is_lt (position kind key (key_of r))) rs u

  -- what is before the key is before what is after it
  across : (xs ys : List (List ℕ)) → AllByRecursion (λ r. position kind (key_of r) key ≡ Less) xs → AllByRecursion (λ r. kind.lawful (key_of r) ≡ true) xs → AllByRecursion (λ r. position kind key (key_of r) ≡ Less) ys → AllByRecursion (λ r. kind.lawful (key_of r) ≡ true) ys → AllByRecursion (λ x. AllByRecursion (Before kind x) ys) xs
  across [] ys a la b lb = tt
  across (x ∷ xs) ys a la b lb = (each ys b lb, across xs ys a.1 la.1 b lb)
    where
      each : (ys : List (List ℕ)) → AllByRecursion (λ r. position kind key (key_of r) ≡ Less) ys → AllByRecursion (λ r. kind.lawful (key_of r) ≡ true) ys → AllByRecursion (Before kind x) ys
      each [] b lb = tt
      each (y ∷ ys) b lb = (less_onward (position-total kind o) (key_of x) key (key_of y) la.0 lk lb.0 a.0 (let e = b.0 in grind arith), each ys b.1 lb.1)

  pub sorted_without : (rs : List (List ℕ)) → Sorted kind rs → Sorted kind (without kind key rs)
  unfolding without
  sorted_without rs s =
      let u = sorted_rising kind rs s in
      let a = rising_before rs u in
      let b = rising_after rs u in
      rising_sorted kind _ (rising_append kind _ _ a b (across _ _ (befores rs) (lawful_all _ a) (afters rs) (lawful_all _ b)))

  -- records under a prefix, before and after the key
  module _ (j p : ℕ) (rs : List (List ℕ)) where
    under-before : under (by_key kind) j p (before kind key rs) ≡ before kind key (under (by_key kind) j p rs)
    unfolding under before
    under-before = kept_comm (λ r. eqb (prefix_of j (kind.hash (key_of r))) p) (λ r. is_lt (position kind (key_of r) key)) rs

    under-after : under (by_key kind) j p (after kind key rs) ≡ after kind key (under (by_key kind) j p rs)
    unfolding under after
    under-after = kept_comm (λ r. eqb (prefix_of j (kind.hash (key_of r))) p) (λ r. is_lt (position kind key (key_of r))) rs

    pub under-append : (xs ys : List (List ℕ)) → under (by_key kind) j p (xs ++ ys) ≡ under (by_key kind) j p xs ++ under (by_key kind) j p ys
    unfolding under
    under-append xs ys = filter-append (λ r. eqb (prefix_of j (kind.hash (key_of r))) p) xs ys

    pub under-without : under (by_key kind) j p (without kind key rs) ≡ without kind key (under (by_key kind) j p rs)
    unfolding without
    under-without = under-append (before kind key rs) (after kind key rs) ∙ ap (λ xs. xs ++ under (by_key kind) j p (after kind key rs)) under-before ∙ ap (λ xs. before kind key (under (by_key kind) j p rs) ++ xs) under-after

    -- under another prefix than the key's, no record has the key
    pub without-off : Sorted kind rs → (p ≡ prefix_of j (kind.hash key) → ⊥) → without kind key (under (by_key kind) j p rs) ≡ under (by_key kind) j p rs
    unfolding without under
    without-off s ne =
        let q = λ (r : List ℕ). eqb (prefix_of j (kind.hash (key_of r))) p in
        let far : AllByRecursion (λ r. position kind (key_of r) key ≢ Equal) (filter q rs)
        = All-weaker (λ r. q r ≡ true) (λ r. position kind (key_of r) key ≢ Equal) (λ r t z. ne (sym (eqb-true _ _ t) ∙ ap (prefix_of j) (same (key_of r) z))) _ (kept_by_passes q rs) in
        sym (parted kind o key lk (filter q rs) (rising_kept kind q rs (sorted_rising kind rs s)) far)
      where
        same : (a : List ℕ) → position kind a key ≡ Equal → kind.hash a ≡ kind.hash key
        same a z = grind (arith, nat_tests)

module _ (kind : Kind) (o : TotalOrder kind.lawful kind.order) (r : List ℕ) (ir : is_record r ≡ true) (lk : kind.lawful (key_of r) ≡ true) where
  pub sorted_put : (rs : List (List ℕ)) → Sorted kind rs → Sorted kind (put kind r rs)
  unfolding put
  sorted_put rs s =
      let key = key_of r in
      let u = sorted_rising kind rs s in
      let a = rising_before kind o key lk rs u in
      let b = rising_after kind o key lk rs u in
      let la = lawful_all kind o key lk _ a in
      let lb = lawful_all kind o key lk _ b in
      let next : Rising kind (r ∷ after kind key rs) = (ir, lk, afters kind o key lk rs, b) in
      rising_sorted kind _ (rising_append kind _ _ a next (both _ _ (befores kind o key lk rs) (across kind o key lk _ _ (befores kind o key lk rs) la (afters kind o key lk rs) lb)))
    where
      both : (xs ys : List (List ℕ)) → AllByRecursion (λ q. position kind (key_of q) (key_of r) ≡ Less) xs → AllByRecursion (λ x. AllByRecursion (Before kind x) ys) xs → AllByRecursion (λ x. AllByRecursion (Before kind x) (r ∷ ys)) xs
      both [] ys h g = tt
      both (x ∷ xs) ys h g = ((h.0, g.0), both xs ys h.1 g.1)

  module _ (j p : ℕ) (rs : List (List ℕ)) where
    pub under-put-on : prefix_of j (kind.hash (key_of r)) ≡ p → under (by_key kind) j p (put kind r rs) ≡ put kind r (under (by_key kind) j p rs)
    unfolding put under
    under-put-on e =
        let key = key_of r in
        let q = λ (x : List ℕ). eqb (prefix_of j (kind.hash (key_of x))) p in
        filter-append q (before kind key rs) (r ∷ after kind key rs)
        ∙ ap (λ xs. filter q (before kind key rs) ++ xs) (kept_yes q r (after kind key rs) (eq-eqb _ _ e))
        ∙ ap (λ xs. xs ++ r ∷ filter q (after kind key rs)) (under-before kind o key lk j p rs)
        ∙ ap (λ xs. before kind key (filter q rs) ++ r ∷ xs) (under-after kind o key lk j p rs)

    pub under-put-off : Sorted kind rs → (p ≡ prefix_of j (kind.hash (key_of r)) → ⊥) → under (by_key kind) j p (put kind r rs) ≡ under (by_key kind) j p rs
    unfolding put under without
    under-put-off s ne =
        let key = key_of r in
        let q = λ (x : List ℕ). eqb (prefix_of j (kind.hash (key_of x))) p in
        filter-append q (before kind key rs) (r ∷ after kind key rs)
        ∙ ap (λ xs. filter q (before kind key rs) ++ xs) (kept_no q r (after kind key rs) (ne_eqb _ _ (λ e. ne (sym e))))
        ∙ sym (filter-append q (before kind key rs) (after kind key rs))
        ∙ under-without kind o key lk j p rs ∙ without-off kind o key lk j p rs s ne

-- put and removal at the place of the key among sorted records
module _ (kind : Kind) (o : TotalOrder kind.lawful kind.order) (level : AlikeHash kind) (key : List ℕ) (lk : kind.lawful key ≡ true)
    (xs : List (List ℕ)) (s : Sorted kind xs) (n : ℕ) (within : n ≤ length xs) (g : Goes kind xs key n) where
  found_position : n < length xs → kind.order (key_at xs n) key ≡ Equal → position kind (key_at xs n) key ≡ Equal
  found_position l e = alike-position kind level (key_at xs n) key (s.keyed n l) lk e

  new_position : (n < length xs → kind.order (key_at xs n) key ≢ Equal) → n < length xs → position kind (key_at xs n) key ≢ Equal
  new_position new l z = new l (let e = z in grind (arith, nat_tests))

  pub without_found : n < length xs → kind.order (key_at xs n) key ≡ Equal → without kind key xs ≡ remove xs n
  unfolding without
  without_found l e =
      ap (λ ys. ys ++ after kind key xs) (before-place kind o key lk xs s n within g)
      ∙ ap (λ ys. take n xs ++ ys) (after-found kind o key lk xs s n within g l (found_position l e))

  pub put_new : (r : List ℕ) → key_of r ≡ key → (n < length xs → kind.order (key_at xs n) key ≢ Equal) → put kind r xs ≡ insert xs n r
  unfolding put
  put_new r k new =
      ap (λ a. before kind a xs ++ r ∷ after kind a xs) k
      ∙ ap (λ ys. ys ++ r ∷ after kind key xs) (before-place kind o key lk xs s n within g)
      ∙ ap (λ ys. take n xs ++ r ∷ ys) (after-new kind o key lk xs s n within g (new_position new))

  pub put-over : (r : List ℕ) → key_of r ≡ key → n < length xs → kind.order (key_at xs n) key ≡ Equal → put kind r xs ≡ insert (remove xs n) n r
  unfolding put
  put-over r k l e =
      let front = length-take-le n xs within in
      ap (λ a. before kind a xs ++ r ∷ after kind a xs) k
      ∙ ap (λ ys. ys ++ r ∷ after kind key xs) (before-place kind o key lk xs s n within g)
      ∙ ap (λ ys. take n xs ++ r ∷ ys) (after-found kind o key lk xs s n within g l (found_position l e))
      ∙ sym (ap (λ ys. ys ++ r ∷ drop n (remove xs n)) (take_at (take n xs) (drop (suc n) xs) n front)
      ∙ ap (λ ys. take n xs ++ r ∷ ys) (drop_at (take n xs) (drop (suc n) xs) n front))

-- of three tests, one passes each element
abbrev OneOf : Bool → Bool → Bool → Type 0
OneOf b a c = ((b ≡ true) × (a ≡ false) × (c ≡ false)) ⊎ (((b ≡ false) × (a ≡ true) × (c ≡ false)) ⊎ ((b ≡ false) × (a ≡ false) × (c ≡ true)))

three : {X : Type 0} (b a c : X → Bool) (xs : List X) → AllByRecursion (λ x. OneOf (b x) (a x) (c x)) xs → length (filter b xs) + length (filter a xs) + length (filter c xs) ≡ length xs
three b a c [] h = refl
three b a c (x ∷ xs) h =
    let ih = three b a c xs h.1 in
    ⊎_elim
    (λ t. omega (arith, ih, ap length (kept_yes b x xs t.0), ap length (kept_no a x xs t.1), ap length (kept_no c x xs t.2)))
    (⊎_elim
    (λ t. omega (arith, ih, ap length (kept_no b x xs t.0), ap length (kept_yes a x xs t.1), ap length (kept_no c x xs t.2)))
    (λ t. omega (arith, ih, ap length (kept_no b x xs t.0), ap length (kept_no a x xs t.1), ap length (kept_yes c x xs t.2))))
    h.0

-- how many records there are then
module _ (kind : Kind) (o : TotalOrder kind.lawful kind.order) (level : AlikeHash kind) (key : List ℕ) (lk : kind.lawful key ≡ true) where
  one_of : (r : List ℕ) → kind.lawful (key_of r) ≡ true → OneOf (is_lt (position kind (key_of r) key)) (is_eq (kind.order (key_of r) key)) (is_lt (position kind key (key_of r)))
  one_of r lr =
      let m = (position-total kind o).mirrored (key_of r) key lr lk in
      let h = level (key_of r) key lr lk in
      ⊎_elim
      (λ (t : is_lt (position kind (key_of r) key) ≡ true).
      let e : position kind (key_of r) key ≡ Less = grind arith in
      let ne : is_eq (kind.order (key_of r) key) ≡ false = grind (arith, nat_tests) in
      inl (t, ne, grind arith))
      (λ (f : is_lt (position kind (key_of r) key) ≡ false). ⊎_elim
      (λ (t : is_eq (kind.order (key_of r) key) ≡ true).
      let e : kind.order (key_of r) key ≡ Equal = grind arith in
      let p = alike-position kind level (key_of r) key lr lk e in
      inr (inl (f, t, grind arith)))
      (λ (z : is_eq (kind.order (key_of r) key) ≡ false).
      let w : position kind (key_of r) key ≡ Equal → kind.order (key_of r) key ≡ Equal = λ p. grind (arith, nat_tests) in
      let e : position kind (key_of r) key ≡ Greater = grind arith in
      inr (inr (f, z, grind arith)))
      (cases_Bool (is_eq (kind.order (key_of r) key))))
      (cases_Bool (is_lt (position kind (key_of r) key)))

  parts : (rs : List (List ℕ)) → Rising kind rs → length (before kind key rs) + length (alike kind key rs) + length (after kind key rs) ≡ length rs
  unfolding before alike after
  parts rs u =
      three (λ r. is_lt (position kind (key_of r) key)) (λ r. is_eq (kind.order (key_of r) key)) (λ r. is_lt (position kind key (key_of r))) rs
      (All-weaker (λ r. kind.lawful (key_of r) ≡ true) (λ r. OneOf (is_lt (position kind (key_of r) key)) (is_eq (kind.order (key_of r) key)) (is_lt (position kind key (key_of r)))) one_of rs (lawful_all kind o key lk rs u))

  pub length_without : (rs : List (List ℕ)) → Sorted kind rs → length (without kind key rs) + length (alike kind key rs) ≡ length rs
  unfolding without
  length_without rs s = omega (arith, length-append (before kind key rs) (after kind key rs), parts rs (sorted_rising kind rs s))

  pub length-put : (r : List ℕ) → key_of r ≡ key → (rs : List (List ℕ)) → Sorted kind rs → length (put kind r rs) + length (alike kind key rs) ≡ length rs + 1
  unfolding put
  length-put r k rs s =
      let e = ap (λ a. length (before kind a rs ++ r ∷ after kind a rs)) k in
      omega (arith, e, length-append (before kind key rs) (r ∷ after kind key rs), parts rs (sorted_rising kind rs s))
