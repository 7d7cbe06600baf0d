-- A bucket and the one beside it.
use Rattle.std.proofs.Common.{◌≡◌, ℕ, zero, suc, ◌+◌, ◌-◌, ◌*◌, ◌/◌, ◌%◌, ◌^◌, ◌<◌, ◌≤◌, Bool, true, false, cond, eqb, leb, List, [], ◌∷◌, ◌++◌, get_or, Some, None, sym, refl, ap, ◌∙◌, subst, ⊎_elim, arith}
use Rattle.std.proofs.lemmas.Nat.{div-add-mod'}
use Rattle.std.proofs.lemmas.List.{map-append}
use Rattle.std.proofs.lemmas.Bool.{cases_lt, cases_eq, cases_Bool, both_ways, eqb-true, eqb-false, eq-eqb, cond-true, cond-false, leb-true}
use Rattle.kinds.specs.Kinds.{Kind}
use Rattle.records.specs.Items.{records_in}
use Rattle.records.specs.Records.{load}
use Rattle.records.proofs.Rising.{sorted_rising}
use Rattle.buckets.specs.declared.prefix.Prefix.{Prefix}
use Rattle.buckets.specs.Blocks.{bucket_bytes}
use Rattle.buckets.proofs.Held.{records_back}
use Rattle.shape.specs.Shapes.{under, is_light}
use Rattle.shape.specs.Buckets.{leaves, first_slot}
use Rattle.shape.specs.Keyed.{by_key}
use Rattle.shape.proofs.Rooms.{half_of, room_light, room_above, light-off, light_down, heavy_up}
use Rattle.shape.proofs.Leaves.{leaf, first_within, leaves_zero, leaves_light, leaves_heavy}
use Rattle.shape.proofs.Cuts.{under_halves}
use Rattle.index.specs.Stored.{Blocks, block, slots, room_at, prefix_at, Stored, BucketIn, pointers, times}
use Rattle.index.proofs.Reading.{load-sum}
use Rattle.layout.proofs.Splits.{rising_up}
use Rattle.plans.specs.Merging.{in_order, Under, Joins}
use Rattle.plans.proofs.Choosing.{some_told, none_told}
use Rattle.plans.proofs.Places.{number_is, bits_is, room_is, holds-is}

pub times-append : (b : ℕ) (xs ys : List ℕ) → times b (xs ++ ys) ≡ times b xs + times b ys
times-append b [] ys = omega arith
times-append b (x ∷ xs) ys = omega (arith, times-append b xs ys)

pub first_below : (k s : ℕ) → s / 2 ^ k * 2 ^ k ≤ s
first_below k s = omega (arith, div-add-mod' s (2 ^ k))

module _ {kind : Kind} {blocks : Blocks} {head : ℕ} {old : List (List ℕ)} (st : Stored kind blocks head old) where
  -- slots of one bucket have one pointer
  pub run_pointer : (s t : ℕ) → s < 128 → t < 128 → t / 2 ^ room_at kind old s ≡ s / 2 ^ room_at kind old s → get_or (slots (block blocks head)) t 0 ≡ get_or (slots (block blocks head)) s 0
  run_pointer s t ls lt e = eqb-true _ _ (st.runs s ls t lt ∙ eq-eqb _ _ e)

  -- a bucket is named by the pointer of its first slot
  pub bucket-leaves : (s k : ℕ) → s < 128 → room_at kind old s ≡ k → pointers (block blocks head) (leaves (by_key kind) k (s / 2 ^ k) old) ≡ get_or (slots (block blocks head)) s 0 ∷ []
  bucket-leaves s k l e =
      ap (pointers (block blocks head)) (one k (s / 2 ^ k) (λ h. subst (λ n. is_light (by_key kind) n (s / 2 ^ n) old ≡ true) e (room_light (by_key kind) 7 old s (omega (arith, e)))))
      ∙ ap (λ x. x ∷ []) (subst (λ n. get_or (slots (block blocks head)) (s / 2 ^ n * 2 ^ n) 0 ≡ get_or (slots (block blocks head)) s 0) e
      (run_pointer s (s / 2 ^ room_at kind old s * 2 ^ room_at kind old s) l (omega (arith, first_below (room_at kind old s) s)) (first_within (room_at kind old s) (s / 2 ^ room_at kind old s))))
    where
      one : (k p : ℕ) → (0 < k → is_light (by_key kind) k p old ≡ true) → leaves (by_key kind) k p old ≡ leaf k p ∷ []
      one zero p h = leaves_zero (by_key kind) p old
      one (suc k) p h = leaves_light (by_key kind) (suc k) p old (h (omega arith))

module _ {kind : Kind} {blocks : Blocks} {head : ℕ} {header : List ℕ} {old new : List (List ℕ)} {s k : ℕ} {bytes : List ℕ} (u : Under kind blocks head header old new s k bytes) (deep : k < 7)
    (t : ℕ) (inside : t < 128) (apart : t / 2 ^ k ≡ s / 2 ^ k → ⊥) (near : t / 2 ^ k / 2 ≡ s / 2 ^ k / 2) where
  above : t / 2 ^ suc k ≡ s / 2 ^ suc k
  above = half_of k t ∙ near ∙ sym (half_of k s)

  old_heavy : is_light (by_key kind) (suc k) (s / 2 ^ suc k) old ≡ false
  old_heavy = room_above (by_key kind) 7 old s (suc k) (omega (arith, u.above)) (omega arith)

  beside_le : room_at kind old t ≤ k
  beside_le = ⊎_elim
      (λ (l : k < room_at kind old t).
      let R = room_at kind old t in
      let light = light_down (by_key kind) (suc k) R t old (omega arith) (room_light (by_key kind) 7 old t (omega arith)) in
      absurd (both_ways _ old_heavy (subst (λ p. is_light (by_key kind) (suc k) p old ≡ true) above light)))
      (λ (l : room_at kind old t ≤ k). l)
      (cases_lt k (room_at kind old t))

  -- the bucket beside is split further: then the two together are heavy
  pub beside_split : (room_at kind old t ≡ k → ⊥) → is_light (by_key kind) (suc k) (s / 2 ^ suc k) new ≡ false
  beside_split ne =
      let l : room_at kind old t < k = ⊎_elim (λ (x : room_at kind old t < k). x) (λ (x : k ≤ room_at kind old t). absurd (ne (omega (arith, beside_le)))) (cases_lt (room_at kind old t) k) in
      let f = room_above (by_key kind) 7 old t k l (omega arith) in
      let g : is_light (by_key kind) k (t / 2 ^ k) new ≡ false = sym (light-off (by_key kind) s old new u.differ k (t / 2 ^ k) apart) ∙ f in
      subst (λ p. is_light (by_key kind) (suc k) p new ≡ false) above (heavy_up (by_key kind) k (suc k) t new (omega arith) g)

  own_records : records_in bytes ≡ under (by_key kind) k (s / 2 ^ k) new
  own_records =
      let xs = under (by_key kind) k (s / 2 ^ k) new in
      ap records_in u.holds ∙ records_back (prefix_at k (s / 2 ^ k)) xs (omega (arith, load-sum xs, leb-true _ _ u.light))

  module _ {number : ℕ} {beside : List ℕ} (b : BucketIn blocks header (t * 33554432) number beside) where
    small : t * 33554432 < 2 ^ 32
    small = omega arith

    slot_is : t * 33554432 / 2 ^ 25 ≡ t
    slot_is = omega arith

    pub beside-room : 7 - get_or beside 1 0 ≡ room_at kind old t
    beside-room = room_is u.stored small u.read b ∙ ap (room_at kind old) slot_is

    pub beside-bits : get_or beside 1 0 ≡ 7 - room_at kind old t
    beside-bits = bits_is u.stored small u.read b ∙ ap (λ n. 7 - room_at kind old n) slot_is

    pub beside-number : number ≡ get_or (slots header) t 0
    beside-number = number_is u.stored small u.read b ∙ ap (λ n. get_or (slots (block blocks head)) n 0) slot_is ∙ ap (λ h. get_or (slots h) t 0) (sym u.read)

    module _ (one : room_at kind old t ≡ k) where
      beside-records : records_in beside ≡ under (by_key kind) k (t / 2 ^ k) new
      beside-records =
          holds-is u.stored small u.read b k (sym one ∙ ap (room_at kind old) (sym slot_is))
          ∙ ap (λ n. under (by_key kind) k (n / 2 ^ k) old) slot_is ∙ u.differ k (t / 2 ^ k) apart

      joined-low : s / 2 ^ k % 2 ≡ 0 → records_in bytes ++ records_in beside ≡ under (by_key kind) (suc k) (s / 2 ^ suc k) new
      joined-low e =
          let P = s / 2 ^ suc k in
          let sl : s / 2 ^ k ≡ 2 * P = omega (arith, half_of k s) in
          let tl : t / 2 ^ k ≡ 2 * P + 1 = omega (arith, half_of k s, near, apart) in
          ap (λ xs. xs ++ records_in beside) own_records ∙ ap (λ xs. under (by_key kind) k (s / 2 ^ k) new ++ xs) beside-records
          ∙ ap (λ n. under (by_key kind) k n new ++ under (by_key kind) k (t / 2 ^ k) new) sl ∙ ap (λ n. under (by_key kind) k (2 * P) new ++ under (by_key kind) k n new) tl
          ∙ sym (under_halves (by_key kind) k P new (rising_up kind new (sorted_rising kind new u.sorted)))

      joined-high : (s / 2 ^ k % 2 ≡ 0 → ⊥) → records_in beside ++ records_in bytes ≡ under (by_key kind) (suc k) (s / 2 ^ suc k) new
      joined-high ne =
          let P = s / 2 ^ suc k in
          let sl : s / 2 ^ k ≡ 2 * P + 1 = omega (arith, half_of k s, ne) in
          let tl : t / 2 ^ k ≡ 2 * P = omega (arith, half_of k s, near, apart) in
          ap (λ xs. xs ++ records_in bytes) beside-records ∙ ap (λ xs. under (by_key kind) k (t / 2 ^ k) new ++ xs) own_records
          ∙ ap (λ n. under (by_key kind) k n new ++ under (by_key kind) k (s / 2 ^ k) new) tl ∙ ap (λ n. under (by_key kind) k (2 * P) new ++ under (by_key kind) k n new) sl
          ∙ sym (under_halves (by_key kind) k P new (rising_up kind new (sorted_rising kind new u.sorted)))

      pub joined : (is_low : Bool) → is_low ≡ eqb (s / 2 ^ k % 2) 0 → in_order is_low (records_in bytes) (records_in beside) ≡ under (by_key kind) (suc k) (s / 2 ^ suc k) new
      joined is_low e = ⊎_elim
          (λ (y : is_low ≡ true). cond-true is_low _ _ y ∙ joined-low (eqb-true _ _ (sym e ∙ y)))
          (λ (f : is_low ≡ false). cond-false is_low _ _ f ∙ joined-high (eqb-false _ _ (sym e ∙ f)))
          (cases_Bool is_low)

      pub named : (x : ℕ) → times x (pointers header (leaves (by_key kind) (suc k) (s / 2 ^ suc k) old)) ≡ cond (eqb x number) 1 0 + times x (pointers header (leaves (by_key kind) k (s / 2 ^ k) old))
      named x =
          let P = s / 2 ^ suc k in
          let A = leaves (by_key kind) k (2 * P) old in
          let B = leaves (by_key kind) k (2 * P + 1) old in
          let at = pointers header in
          let beside-one : times x (at (leaves (by_key kind) k (t / 2 ^ k) old)) ≡ cond (eqb x number) 1 0
          = ap (λ h. times x (pointers h (leaves (by_key kind) k (t / 2 ^ k) old))) u.read ∙ ap (times x) (bucket-leaves u.stored t k inside one)
          ∙ ap (λ n. cond (eqb x n) 1 0 + 0) (ap (λ h. get_or (slots h) t 0) (sym u.read) ∙ sym beside-number) ∙ omega arith in
          let whole : times x (at (leaves (by_key kind) (suc k) P old)) ≡ times x (at A) + times x (at B)
          = ap (λ ls. times x (at ls)) (leaves_heavy (by_key kind) k P old old_heavy) ∙ ap (times x) (map-append (λ l. get_or (slots header) (first_slot l) 0) A B) ∙ times-append x (at A) (at B) in
          ⊎_elim
          (λ (e : s / 2 ^ k ≡ 2 * P).
          let tl : t / 2 ^ k ≡ 2 * P + 1 = omega (arith, half_of k s, near, apart) in
          omega (arith, whole, beside-one, ap (λ n. times x (at (leaves (by_key kind) k n old))) e, ap (λ n. times x (at (leaves (by_key kind) k n old))) tl))
          (λ (ne : s / 2 ^ k ≡ 2 * P → ⊥).
          let sl : s / 2 ^ k ≡ 2 * P + 1 = omega (arith, half_of k s, ne) in
          let tl : t / 2 ^ k ≡ 2 * P = omega (arith, half_of k s, near, apart) in
          omega (arith, whole, beside-one, ap (λ n. times x (at (leaves (by_key kind) k n old))) sl, ap (λ n. times x (at (leaves (by_key kind) k n old))) tl))
          (cases_eq (s / 2 ^ k) (2 * P))

      module _ (xs : List (List ℕ)) (x-is : xs ≡ in_order (eqb (s / 2 ^ k % 2) 0) (records_in bytes) (records_in beside)) where
        light-is : is_light (by_key kind) (suc k) (s / 2 ^ suc k) new ≡ leb (load xs) 504
        light-is = ap (λ n. leb n 504) (sym (load-sum (under (by_key kind) (suc k) (s / 2 ^ suc k) new))) ∙ ap (λ ys. leb (load ys) 504) (sym (x-is ∙ joined _ refl))

        -- the two together are light: their block is that of the shorter prefix
        pub joins : (prefix : Prefix) (block : List ℕ) → prefix ≡ prefix_at (suc k) (s / 2 ^ suc k) → Some block ≡ cond (leb (load xs) 504) (Some (bucket_bytes prefix xs)) None → Joins kind header old new s k (record { number = number; block = block })
        joins prefix block p e =
            let told = some_told (leb (load xs) 504) block (bucket_bytes prefix xs) e in
            record {
              light = light-is ∙ told.0;
              bytes = told.1 ∙ ap (λ q. bucket_bytes q xs) p ∙ ap (bucket_bytes (prefix_at (suc k) (s / 2 ^ suc k))) (x-is ∙ joined _ refl);
              named = named;
            }

        pub heavy_two : (prefix : Prefix) → None ≡ cond (leb (load xs) 504) (Some (bucket_bytes prefix xs)) None → is_light (by_key kind) (suc k) (s / 2 ^ suc k) new ≡ false
        heavy_two prefix e = light-is ∙ none_told (leb (load xs) 504) (bucket_bytes prefix xs) e
