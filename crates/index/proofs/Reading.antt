-- What a stored index tells: its header is lawful, its pointers lead to its buckets, and these hold its records.
use Rattle.std.proofs.Common.{◌≡◌, ℕ, ◌+◌, ◌/◌, ◌^◌, ◌<◌, ◌≤◌, true, eqb, List, [], ◌∷◌, length, get_or, Option, Some, None, Ok, sum_by, Equal, sym, refl, ap, ◌∙◌, subst, arith}
use Rattle.std.specs.Ordering.{is_eq}
use Rattle.std.specs.Option.{option_map}
use Rattle.std.proofs.lemmas.List.FromFn.{length-map-range_with_len, get_or-map-range_with_len}
use Rattle.std.proofs.lemmas.Nat.{div_below}
use Rattle.std.proofs.ByRecursion.{All-from_get_or}
use Rattle.std.proofs.lemmas.List.Sums.{sum_by-cons}
use Rattle.std.proofs.lemmas.Bool.{eq-eqb, cond-true, and_from, le-leb}
use Rattle.kinds.specs.Kinds.{Kind, AlikeHash, Bounded, TotalOrder}
use Rattle.records.specs.Records.{key_of, weight, load}
use Rattle.records.specs.Items.{records_in}
use Rattle.records.specs.Searches.{key_at, Sorted}
use Rattle.records.specs.Searches.{Finds as Among}
use Rattle.records.proofs.Alike.{alike-found, alike-absent}
use Rattle.records.specs.Ordered.{alike}
use Rattle.records.proofs.Kept.{kept_within}
use Rattle.records.proofs.Rising.{sorted_kept}
use Rattle.buckets.proofs.Held.{records_back}
use Rattle.header.specs.Headers.{Lawful, RunAt, slot_in, pointer_in}
use Rattle.header.proofs.Blocks.{deepest_small}
use Rattle.shape.specs.Shapes.{under, prefix_of}
use Rattle.shape.specs.Keyed.{by_key}
use Rattle.shape.proofs.Rooms.{room_le, room_held}
use Rattle.shape.proofs.Halves.{prefix_far}
use Rattle.index.specs.Searching.{Finds}
use Rattle.index.specs.Stored.{Blocks, block, prefix_at, room_at, rooms, slots, Stored, BucketIn}

pub length-slots : (header : List ℕ) → length (slots header) ≡ 128
unfolding slots
length-slots header = length-map-range_with_len (slot_in header (get_or header 1 0)) 0 128

pub get_or-slots : (header : List ℕ) (s : ℕ) → s < 128 → get_or (slots header) s 0 ≡ slot_in header (get_or header 1 0) s
unfolding slots
get_or-slots header s l = get_or-map-range_with_len (slot_in header (get_or header 1 0)) 0 128 s s 0 l (omega arith)

-- what records weigh, by either name
pub load-sum : (rs : List (List ℕ)) → load rs ≡ sum_by weight rs
load-sum [] = refl
load-sum (r ∷ rs) = ap (λ n. weight r + n) (load-sum rs) ∙ sym (sum_by-cons weight r rs)

pub slot_small : (s : ℕ) → s < 128 → s / 2 ^ 7 ≡ 0
slot_small s l = let h = div_below s (2 ^ 7) 1 (omega arith) (omega arith) in omega arith

pub slot_of : (h : ℕ) → prefix_of 0 h ≡ h / 2 ^ 25
unfolding prefix_of
slot_of h = refl

pub slot_below : (h : ℕ) → h < 2 ^ 32 → h / 2 ^ 25 < 128
slot_below h l = div_below h (2 ^ 25) 128 (omega arith) (omega arith)

module _ (kind : Kind) where
  pub length-rooms : (rs : List (List ℕ)) → length (rooms kind rs) ≡ 128
  unfolding rooms
  length-rooms rs = length-map-range_with_len (room_at kind rs) 0 128

  pub get_or-rooms : (rs : List (List ℕ)) (s : ℕ) → s < 128 → get_or (rooms kind rs) s 0 ≡ room_at kind rs s
  unfolding rooms
  get_or-rooms rs s l = get_or-map-range_with_len (room_at kind rs) 0 128 s s 0 l (omega arith)

  -- an alike key has the same hash, so the record is under the key's prefix
  pub alike-under : AlikeHash kind → (key : List ℕ) → kind.lawful key ≡ true → (k : ℕ) (rs : List (List ℕ)) → Sorted kind rs → alike kind key (under (by_key kind) k (prefix_of k (kind.hash key)) rs) ≡ alike kind key rs
  unfolding alike under
  alike-under level key lk k rs s =
      kept_within (λ r. is_eq (kind.order (key_of r) key)) (λ r. eqb (prefix_of k (kind.hash (key_of r))) (prefix_of k (kind.hash key))) rs
      (All-from_get_or (λ r. is_eq (kind.order (key_of r) key) ≡ true → eqb (prefix_of k (kind.hash (key_of r))) (prefix_of k (kind.hash key)) ≡ true) rs []
      (λ i l t. let e : kind.order (key_at rs i) key ≡ Equal = grind arith in eq-eqb _ _ (ap (prefix_of k) (level (key_at rs i) key (s.keyed i l) lk e))))

  pub sorted_under : (k p : ℕ) (rs : List (List ℕ)) → Sorted kind rs → Sorted kind (under (by_key kind) k p rs)
  unfolding under
  sorted_under k p rs s = sorted_kept kind (λ r. eqb (prefix_of k (kind.hash (key_of r))) p) rs s

  module _ (blocks : Blocks) (head : ℕ) (rs : List (List ℕ)) (st : Stored kind blocks head rs) where
    pub header-lawful : Lawful (length rs) (slots (block blocks head)) (rooms kind rs)
    header-lawful = record {
      count_fits = st.countable;
      slots_long = length-slots (block blocks head);
      rooms_long = length-rooms rs;
      small = λ s l. omega (arith, get_or-rooms rs s l, room_le (by_key kind) 7 rs s);
      runs = λ s l. subst (λ k. RunAt (slots (block blocks head)) k s) (sym (get_or-rooms rs s l)) (st.runs s l);
    }

    pub bucket-light : (s : ℕ) → s < 128 → load (under (by_key kind) (room_at kind rs s) (s / 2 ^ room_at kind rs s) rs) ≤ 504
    bucket-light s l = omega (arith, load-sum (under (by_key kind) (room_at kind rs s) (s / 2 ^ room_at kind rs s) rs), room_held (by_key kind) rs s st.held (slot_small s l))

    -- the block that a slot's pointer names holds the records of its bucket
    pub bucket_records : (s : ℕ) → s < 128 → records_in (block blocks (get_or (slots (block blocks head)) s 0)) ≡ under (by_key kind) (room_at kind rs s) (s / 2 ^ room_at kind rs s) rs
    bucket_records s l =
        let k = room_at kind rs s in
        ap records_in (st.leads s l) ∙ records_back (prefix_at k (s / 2 ^ k)) (under (by_key kind) k (s / 2 ^ k) rs) (bucket-light s l)

    pub pointer-told : (hash : ℕ) → hash < 2 ^ 32 → pointer_in (block blocks head) hash ≡ Some (get_or (slots (block blocks head)) (hash / 2 ^ 25) 0)
    pointer-told hash l =
        let header = block blocks head in
        let deep : get_or header 1 0 ≤ 7 = omega (arith, st.header.bytes 1 (omega arith), deepest_small (rooms kind rs)) in
        let long : 512 ≤ length header = omega (arith, st.header.long) in
        cond-true _ _ _ (and_from _ _ (le-leb _ _ deep) (le-leb _ _ long)) ∙ ap Some (sym (get_or-slots header (hash / 2 ^ 25) (slot_below hash l)))

    -- what is read as the bucket of a hash is the bucket of its slot
    module _ (hash : ℕ) (l : hash < 2 ^ 32) (number : ℕ) (bytes : List ℕ) (b : BucketIn blocks (block blocks head) hash number bytes) where
      pub number-told : number ≡ get_or (slots (block blocks head)) (hash / 2 ^ 25) 0
      number-told = let p = pointer-told hash l in let q = b.named in cc

      pub records-told : records_in bytes ≡ under (by_key kind) (room_at kind rs (hash / 2 ^ 25)) (prefix_of (room_at kind rs (hash / 2 ^ 25)) hash) rs
      records-told =
          let s = hash / 2 ^ 25 in
          let k = room_at kind rs s in
          ap records_in b.bytes ∙ ap (λ n. records_in (block blocks n)) number-told ∙ bucket_records s (slot_below hash l)
          ∙ ap (λ p. under (by_key kind) k p rs) (ap (λ n. n / 2 ^ k) (sym (slot_of hash)) ∙ sym (prefix_far k hash))

    -- where a pointer leads into the device, there is a bucket to read
    pub bucket-there : (hash : ℕ) → hash < 2 ^ 32 → ((n : ℕ) → n < length blocks → pointer_in (block blocks head) hash ≡ Some n → ⊥) → ⊥
    bucket-there hash l none = none (get_or (slots (block blocks head)) (hash / 2 ^ 25) 0) (st.within (hash / 2 ^ 25) (slot_below hash l)) (pointer-told hash l)

    -- a search for a lawful key in the bucket of its hash is one among all records
    module _ (level : AlikeHash kind) (bounded : Bounded kind) (key : List ℕ) (lk : kind.lawful key ≡ true) (header : List ℕ) (same : header ≡ block blocks head)
        (number : ℕ) (bytes : List ℕ) (b : BucketIn blocks header (kind.hash key) number bytes) where
      here : BucketIn blocks (block blocks head) (kind.hash key) number bytes
      here = subst (λ h. BucketIn blocks h (kind.hash key) number bytes) same b

      pub told-sorted : Sorted kind (records_in bytes)
      told-sorted = subst (Sorted kind) (sym (records-told (kind.hash key) (bounded.narrow key lk) number bytes here)) (sorted_under _ _ rs st.sorted)

      pub told-alike : alike kind key (records_in bytes) ≡ alike kind key rs
      told-alike = ap (alike kind key) (records-told (kind.hash key) (bounded.narrow key lk) number bytes here) ∙ alike-under level key lk (room_at kind rs (kind.hash key / 2 ^ 25)) rs st.sorted

      -- what it finds there is what there is
      pub finds-told : TotalOrder kind.lawful kind.order → (r : Option ℕ) → Among kind (records_in bytes) key r → Finds kind rs key (Ok (option_map (λ place. record { block = bytes; place = place }) r))
      finds-told ordered (Some n) f = sym told-alike ∙ alike-found kind ordered level key lk _ told-sorted n f.0 f.3
      finds-told ordered None f = sym told-alike ∙ alike-absent kind ordered level key lk _ told-sorted (f told-sorted lk)
