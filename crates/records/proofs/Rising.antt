-- Sorted records from the first on, and what put and removal come to at a place among them.
use Rattle.std.proofs.Common.{◌≡◌, ℕ, zero, suc, ◌<◌, ◌≤◌, Bool, true, false, ◌≢◌, List, [], ◌∷◌, ◌++◌, length, get_or, take, drop, filter, Less, Equal, Greater, sym, refl, subst, ⊎_elim, arith}
use Rattle.std.specs.List.{AllByRecursion}
use Rattle.std.specs.Ordering.{is_lt}
use Rattle.std.proofs.ByRecursion.{All-append, All-get_or, All-from_get_or, all_kept_by}
use Rattle.std.proofs.lemmas.Bool.{cases_lt, cases_Bool}
use Rattle.kinds.specs.Kinds.{Kind, TotalOrder, position}
use Rattle.kinds.proofs.Positions.{less_onward, position-total}
use Rattle.records.specs.Records.{is_record, key_of}
use Rattle.records.specs.Searches.{key_at, Sorted, Goes}
use Rattle.records.specs.Ordered.{before, after}
use Rattle.records.proofs.Halved.{none_past}
use Rattle.records.proofs.Kept.{kept_yes, kept_no, kept_none, kept_front, kept_back}

abbrev pub Before : Kind → List ℕ → List ℕ → Type 0
Before kind r q = position kind (key_of r) (key_of q) ≡ Less

-- each is a record with a lawful key, and before all that follow
abbrev pub Rising : Kind → List (List ℕ) → Type 0
Rising kind [] = Unit {0}
Rising kind (r ∷ rs) = (is_record r ≡ true) × (kind.lawful (key_of r) ≡ true) × AllByRecursion (Before kind r) rs × Rising kind rs

module _ (kind : Kind) where
  pub rising_sorted : (rs : List (List ℕ)) → Rising kind rs → Sorted kind rs
  rising_sorted rs u = record { whole = whole rs u; keyed = keyed rs u; rising = rises rs u }
    where
      whole : (rs : List (List ℕ)) → Rising kind rs → (n : ℕ) → n < length rs → is_record (get_or rs n []) ≡ true
      whole [] u n l = absurd (omega arith)
      whole (r ∷ rs) u zero l = u.0
      whole (r ∷ rs) u (suc n) l = whole rs u.3 n (omega arith)

      keyed : (rs : List (List ℕ)) → Rising kind rs → (n : ℕ) → n < length rs → kind.lawful (key_at rs n) ≡ true
      keyed [] u n l = absurd (omega arith)
      keyed (r ∷ rs) u zero l = u.1
      keyed (r ∷ rs) u (suc n) l = keyed rs u.3 n (omega arith)

      rises : (rs : List (List ℕ)) → Rising kind rs → (m n : ℕ) → m < n → n < length rs → position kind (key_at rs m) (key_at rs n) ≡ Less
      rises [] u m n h l = absurd (omega arith)
      rises (r ∷ rs) u zero zero h l = absurd (omega arith)
      rises (r ∷ rs) u zero (suc n) h l = All-get_or (Before kind r) rs n [] (omega arith) u.2
      rises (r ∷ rs) u (suc m) zero h l = absurd (omega arith)
      rises (r ∷ rs) u (suc m) (suc n) h l = rises rs u.3 m n (omega arith) (omega arith)

  tail_sorted : (r : List ℕ) (rs : List (List ℕ)) → Sorted kind (r ∷ rs) → Sorted kind rs
  tail_sorted r rs s = record {
    whole = λ n l. s.whole (suc n) (omega arith);
    keyed = λ n l. s.keyed (suc n) (omega arith);
    rising = λ m n h l. s.rising (suc m) (suc n) (omega arith) (omega arith);
  }

  pub sorted_rising : (rs : List (List ℕ)) → Sorted kind rs → Rising kind rs
  sorted_rising [] s = tt
  sorted_rising (r ∷ rs) s =
      (s.whole 0 (omega arith), s.keyed 0 (omega arith), All-from_get_or (Before kind r) rs [] (λ i l. s.rising 0 (suc i) (omega arith) (omega arith)), sorted_rising rs (tail_sorted r rs s))

  pub rising_kept : (p : List ℕ → Bool) (rs : List (List ℕ)) → Rising kind rs → Rising kind (filter p rs)
  rising_kept p [] u = tt
  rising_kept p (r ∷ rs) u =
      let more = rising_kept p rs u.3 in
      ⊎_elim
      (λ (t : p r ≡ true). subst (Rising kind) (sym (kept_yes p r rs t)) (u.0, u.1, all_kept_by p (Before kind r) rs u.2, more))
      (λ (f : p r ≡ false). subst (Rising kind) (sym (kept_no p r rs f)) more)
      (cases_Bool (p r))

  pub sorted_kept : (p : List ℕ → Bool) (rs : List (List ℕ)) → Sorted kind rs → Sorted kind (filter p rs)
  sorted_kept p rs s = rising_sorted (filter p rs) (rising_kept p rs (sorted_rising rs s))

  pub rising_append : (xs ys : List (List ℕ)) → Rising kind xs → Rising kind ys → AllByRecursion (λ x. AllByRecursion (Before kind x) ys) xs → Rising kind (xs ++ ys)
  rising_append [] ys u v h = v
  rising_append (x ∷ xs) ys u v h = (u.0, u.1, All-append (Before kind x) xs ys u.2 h.0, rising_append xs ys u.3 v h.1)

module _ (kind : Kind) (o : TotalOrder kind.lawful kind.order) (key : List ℕ) (lk : kind.lawful key ≡ true) where
  -- how a key stands to a record, seen from either side
  pub other_side : (r : List ℕ) → kind.lawful (key_of r) ≡ true → is_lt (position kind key (key_of r)) ≡ true → position kind (key_of r) key ≡ Greater
  other_side r lr e = let m = (position-total kind o).mirrored (key_of r) key lr lk in grind arith

  after_lt : (r : List ℕ) → kind.lawful (key_of r) ≡ true → position kind (key_of r) key ≡ Greater → is_lt (position kind key (key_of r)) ≡ true
  after_lt r lr e = let m = (position-total kind o).mirrored (key_of r) key lr lk in grind arith

  not_after : (r : List ℕ) → kind.lawful (key_of r) ≡ true → position kind (key_of r) key ≢ Greater → is_lt (position kind key (key_of r)) ≡ false
  not_after r lr e = let m = (position-total kind o).mirrored (key_of r) key lr lk in grind arith

  -- records with no alike key are those before it and those after it
  pub parted : (rs : List (List ℕ)) → Rising kind rs → AllByRecursion (λ r. position kind (key_of r) key ≢ Equal) rs → rs ≡ before kind key rs ++ after kind key rs
  unfolding before after
  parted [] u none = refl
  parted (r ∷ rs) u none =
      let p = λ (q : List ℕ). is_lt (position kind (key_of q) key) in
      let a = λ (q : List ℕ). is_lt (position kind key (key_of q)) in
      let ih = parted rs u.3 none.1 in
      ⊎_elim
      (λ (t : p r ≡ true). let no : a r ≡ false = not_after r u.1 (grind arith) in grind arith)
      (λ (f : p r ≡ false).
      let n0 = none.0 in
      let yes : a r ≡ true = after_lt r u.1 (grind arith) in
      let nobody : filter p rs ≡ [] = kept_none p rs (past r rs u.1 u.3 u.2 (grind arith)) in
      grind arith)
      (cases_Bool (p r))
    where
      past : (r : List ℕ) (qs : List (List ℕ)) → kind.lawful (key_of r) ≡ true → Rising kind qs → AllByRecursion (Before kind r) qs → position kind (key_of r) key ≢ Less → AllByRecursion (λ q. is_lt (position kind (key_of q) key) ≡ false) qs
      past r [] lr v h ne = tt
      past r (q ∷ qs) lr v h ne =
          let on = less_onward (position-total kind o) (key_of r) (key_of q) key lr v.1 lk h.0 in
          (grind arith, past r qs lr v.3 h.1 ne)

  module _ (rs : List (List ℕ)) (s : Sorted kind rs) (n : ℕ) (within : n ≤ length rs) (g : Goes kind rs key n) where
    pub before-place : before kind key rs ≡ take n rs
    unfolding before
    before-place = kept_front (λ r. is_lt (position kind (key_of r) key)) rs n [] within (λ i h. let e = g.before i h in grind arith) (λ i h l. let e = g.after i h l in grind arith)

    greater : (i : ℕ) → n < i → i < length rs → position kind (key_at rs i) key ≡ Greater
    greater i h l = let a = none_past kind o rs s key lk n g i h l in let b = g.after i (omega arith) l in grind arith

    no-after : (i : ℕ) → i < n → is_lt (position kind key (key_at rs i)) ≡ false
    no-after i h = let e = g.before i h in not_after (get_or rs i []) (s.keyed i (omega arith)) (grind arith)

    -- the key is not there
    pub after-new : (n < length rs → position kind (key_at rs n) key ≢ Equal) → after kind key rs ≡ drop n rs
    unfolding after
    after-new new = kept_back (λ r. is_lt (position kind key (key_of r))) rs n [] within no-after (λ i h l. after_lt (get_or rs i []) (s.keyed i l) (later i h l))
      where
        later : (i : ℕ) → n ≤ i → i < length rs → position kind (key_at rs i) key ≡ Greater
        later i h l = ⊎_elim (λ (k : n < i). greater i k l) (λ (k : i ≤ n). let e : i ≡ n = omega arith in rw e (let a = g.after n (omega arith) (omega arith) in let b = new (omega arith) in grind arith)) (cases_lt n i)

    -- the key is at its place
    pub after-found : n < length rs → position kind (key_at rs n) key ≡ Equal → after kind key rs ≡ drop (suc n) rs
    unfolding after
    after-found ln found = kept_back (λ r. is_lt (position kind key (key_of r))) rs (suc n) [] (omega arith) upto (λ i h l. after_lt (get_or rs i []) (s.keyed i l) (greater i (omega arith) l))
      where
        upto : (i : ℕ) → i < suc n → is_lt (position kind key (key_at rs i)) ≡ false
        upto i h = ⊎_elim (λ (k : i < n). no-after i k) (λ (k : n ≤ i). let e : i ≡ n = omega arith in rw e (not_after (get_or rs n []) (s.keyed n ln) (grind arith))) (cases_lt i n)
