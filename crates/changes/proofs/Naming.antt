-- Slots that name the buckets of the new records: they are a lawful header's.
use Rattle.std.proofs.Common.{◌≡◌, ℕ, zero, suc, ◌+◌, ◌*◌, ◌/◌, ◌^◌, ◌<◌, ◌≤◌, true, cond, eqb, List, [], ◌∷◌, length, get_or, sym, refl, ap, ◌∙◌, subst, ⊎_elim, arith}
use Rattle.std.proofs.ByRecursion.{All-get_or}
use Rattle.std.proofs.lemmas.List.{get_or-map, length-map, ext_get_or}
use Rattle.std.proofs.lemmas.Bool.{cases_eq, cases_lt, both_ways, eq-eqb, ne_eqb, eqb-true}
use Rattle.arrayvec.specs.ArrayVec.{array_vec_len}
use Rattle.kinds.specs.Kinds.{Kind}
use Rattle.buckets.specs.Blocks.{bucket_bytes}
use Rattle.header.specs.Headers.{Lawful, RunAt, Encodes, deepest, together}
use Rattle.header.proofs.Blocks.{slots_read, deep_read}
use Rattle.shape.specs.Shapes.{is_light}
use Rattle.shape.specs.Buckets.{Leaf, room, leaves, first_slot}
use Rattle.shape.specs.Keyed.{by_key}
use Rattle.shape.proofs.Rooms.{prefix_up, room_le, room_light, room_skip, bucket-off}
use Rattle.shape.proofs.Leaves.{leaf, place_of, leaf_at, place_is, first_within, length-leaves}
use Rattle.index.specs.Stored.{Blocks, block, slots, rooms, room_at, bucket_for, bucket_at, prefix_at, Stored, pointers, home, times}
use Rattle.index.proofs.Reading.{length-slots, get_or-slots, length-rooms, get_or-rooms, slot_small}
use Rattle.layout.proofs.Splits.{slot_prefix, first_small}
use Rattle.plans.specs.declared.plan.Plan.{Plan}
use Rattle.plans.proofs.Merges.{run_pointer}
use Rattle.changes.specs.Making.{Pending}
use Rattle.changes.specs.Relaying.{Relaid, Lays}
use Rattle.changes.proofs.Relays.{leaves_within}

-- a list names each of its numbers
pub times_at : (xs : List ℕ) (i : ℕ) → i < length xs → 1 ≤ times (get_or xs i 0) xs
times_at [] i l = absurd (omega arith)
times_at (x ∷ xs) zero l = let e = eq-eqb x x refl in omega (arith, ap (λ b. cond {A = ℕ} b 1 0) e)
times_at (x ∷ xs) (suc i) l = omega (arith, times_at xs i (omega arith))

-- a list that names a number twice
pub times_twice : (xs : List ℕ) (i j : ℕ) → i < j → j < length xs → get_or xs i 0 ≡ get_or xs j 0 → 2 ≤ times (get_or xs j 0) xs
times_twice [] i j l b e = absurd (omega arith)
times_twice (x ∷ xs) zero zero l b e = absurd (omega arith)
times_twice (x ∷ xs) zero (suc j) l b e = let t = eq-eqb (get_or xs j 0) x (sym e) in omega (arith, ap (λ b. cond {A = ℕ} b 1 0) t, times_at xs j (omega arith))
times_twice (x ∷ xs) (suc i) zero l b e = absurd (omega arith)
times_twice (x ∷ xs) (suc i) (suc j) l b e = omega (arith, times_twice xs i j (omega arith) (omega arith) e)

module _ {kind : Kind} {blocks : Blocks} {head : ℕ} {old : List (List ℕ)} (st : Stored kind blocks head old) where
  first_inside : (i : ℕ) → i < length (leaves (by_key kind) 7 0 old) → first_slot (get_or (leaves (by_key kind) 7 0 old) i (leaf 0 0)) < 128
  first_inside i l =
      let x = get_or (leaves (by_key kind) 7 0 old) i (leaf 0 0) in
      first_small x.room x.prefix (All-get_or (λ x. (x.room ≤ 7) × ((x.prefix + 1) * 2 ^ x.room ≤ (0 + 1) * 2 ^ 7)) (leaves (by_key kind) 7 0 old) i (leaf 0 0) l (leaves_within (by_key kind) old 7 0)).1

  -- each pointer names a block of the index
  pub pointer_home : (s : ℕ) → s < 128 → 1 ≤ times (get_or (slots (block blocks head)) s 0) (home kind blocks head old)
  pointer_home s l =
      let ls = leaves (by_key kind) 7 0 old in
      let S = slots (block blocks head) in
      let at = leaf_at (by_key kind) 7 0 old s (leaf 0 0) (slot_small s l) in
      let i = place_of (by_key kind) 7 0 old s in
      let x = get_or ls i (leaf 0 0) in
      let near : first_slot x / 2 ^ room_at kind old s ≡ s / 2 ^ room_at kind old s
      = subst (λ y. first_slot y / 2 ^ room_at kind old s ≡ s / 2 ^ room_at kind old s) (sym at.1) (first_within (room_at kind old s) (s / 2 ^ room_at kind old s)) in
      let same : get_or (pointers (block blocks head) ls) i 0 ≡ get_or S s 0
      = get_or-map (λ y. get_or S (first_slot y) 0) ls i (leaf 0 0) 0 at.0 ∙ run_pointer st s (first_slot x) l (first_inside i at.0) near in
      let one = times_at (pointers (block blocks head) ls) i (omega (arith, at.0, length-map ls (λ y. get_or S (first_slot y) 0))) in
      omega (arith, subst (λ b. 1 ≤ times b (pointers (block blocks head) ls)) same one)

module _ {kind : Kind} {blocks : Blocks} {head : ℕ} {old new : List (List ℕ)} {plan : Plan} {spare : List ℕ} (due : Pending kind blocks head old new plan spare) where
  abbrev K : ℕ
  K = plan.room

  abbrev p : ℕ
  p = plan.slot / 2 ^ plan.room

  abbrev S : List ℕ
  S = slots (block blocks head)

  abbrev ns : List ℕ
  ns = plan.number ∷ spare

  abbrev L : List Leaf
  L = leaves (by_key kind) plan.room (plan.slot / 2 ^ plan.room) new

  pub long_new : array_vec_len plan.laid ≡ length L
  long_new = due.planned.laid.long ∙ sym (length-leaves (by_key kind) K p new)

  pub some_laid : 1 ≤ array_vec_len plan.laid
  some_laid = omega (arith, (leaf_at (by_key kind) K p new plan.slot (leaf 0 0) refl).0, long_new)

  pub lays : Lays kind new K p ns plan.laid.items
  lays = record {
    deep = due.planned.deep;
    small = slot_prefix plan.slot plan.room due.planned.slot due.planned.deep;
    laid = due.planned.laid.blocks;
    enough = omega arith;
  }

  pub old_room : room_at kind old plan.slot ≤ K
  old_room = ⊎_elim
      (λ (l : K < room_at kind old plan.slot).
      absurd (both_ways _ (due.planned.heavy (room_at kind old plan.slot) l (room_le (by_key kind) 7 old plan.slot)).0 (room_light (by_key kind) 7 old plan.slot (omega arith))))
      (λ (l : room_at kind old plan.slot ≤ K). l)
      (cases_lt K (room_at kind old plan.slot))

  -- a slot under the prefix: its room is that of its new bucket
  pub room_on : (s : ℕ) → s / 2 ^ K ≡ p → room_at kind new s ≡ room (by_key kind) K new s
  room_on s e = room_skip (by_key kind) K 7 new s plan.slot due.planned.deep (λ j a b. (due.planned.heavy j a b).1) e

  -- a slot elsewhere keeps its bucket
  pub room_off : (s : ℕ) → (s / 2 ^ K ≡ p → ⊥) → room_at kind old s ≡ room_at kind new s
  room_off s ne = (bucket-off (by_key kind) plan.slot old new due.planned.differ K 7 s due.planned.heavy ne).0

  pub bucket_same : (s : ℕ) → (s / 2 ^ K ≡ p → ⊥) → bucket_for kind old s ≡ bucket_for kind new s
  bucket_same s ne =
      let b = bucket-off (by_key kind) plan.slot old new due.planned.differ K 7 s due.planned.heavy ne in
      let R = room_at kind old s in
      ap (bucket_bytes (prefix_at R (s / 2 ^ R))) b.1 ∙ ap (λ n. bucket_at kind new n (s / 2 ^ n)) b.0

  module _ {slots' rooms' : List ℕ} (rl : Relaid kind new K p ns S (rooms kind old) slots' rooms') where
    pub pointer-on : (s : ℕ) → s < 128 → s / 2 ^ K ≡ p → get_or slots' s 0 ≡ get_or ns (place_of (by_key kind) K p new s) 0
    pointer-on s l e =
        let at = leaf_at (by_key kind) K p new s (leaf 0 0) e in
        (rl.on (place_of (by_key kind) K p new s) s at.0 at.0 l (ap (λ x. s / 2 ^ x.room) at.1 ∙ sym (ap (λ x. x.prefix) at.1))).0

    rooms-on : (s : ℕ) → s < 128 → s / 2 ^ K ≡ p → get_or rooms' s 0 ≡ room_at kind new s
    rooms-on s l e =
        let at = leaf_at (by_key kind) K p new s (leaf 0 0) e in
        (rl.on (place_of (by_key kind) K p new s) s at.0 at.0 l (ap (λ x. s / 2 ^ x.room) at.1 ∙ sym (ap (λ x. x.prefix) at.1))).1
        ∙ ap (λ x. x.room) at.1 ∙ sym (room_on s e)

    pub rooms-each : (s : ℕ) → s < 128 → get_or rooms' s 0 ≡ room_at kind new s
    rooms-each s l = ⊎_elim
        (λ (e : s / 2 ^ K ≡ p). rooms-on s l e)
        (λ (ne : s / 2 ^ K ≡ p → ⊥). (rl.off s l ne).1 ∙ get_or-rooms kind old s l ∙ room_off s ne)
        (cases_eq (s / 2 ^ K) p)

    pub rooms-are : length rooms' ≡ 128 → rooms' ≡ rooms kind new
    rooms-are long = ext_get_or 0 rooms' (rooms kind new) (long ∙ sym (length-rooms kind new)) (λ s l. let m : s < 128 = omega (arith, long) in rooms-each s m ∙ sym (get_or-rooms kind new s m))

    -- the new blocks are all different
    pub apart : (i j : ℕ) → i < j → j < array_vec_len plan.laid → get_or ns i 0 ≡ get_or ns j 0 → ⊥
    apart i zero l b e = absurd (omega arith)
    apart zero (suc j) l b e =
        let n = pointer_home due.stored plan.slot due.planned.slot in
        let m = times_at spare j (omega arith) in
        let z : get_or S plan.slot 0 ≡ get_or spare j 0 = sym due.planned.number ∙ e in
        omega (arith, m, subst (λ x. 1 ≤ times x (home kind blocks head old)) z n, due.spared.apart (get_or spare j 0))
    apart (suc i) (suc j) l b e = omega (arith, times_twice spare i j (omega arith) (omega arith) e, due.spared.apart (get_or spare j 0))

    -- none is the bucket of a slot elsewhere
    pub elsewhere : (i t : ℕ) → i < array_vec_len plan.laid → t < 128 → (t / 2 ^ K ≡ p → ⊥) → get_or ns i 0 ≡ get_or S t 0 → ⊥
    elsewhere zero t l lt ne e =
        let z : get_or S t 0 ≡ get_or S plan.slot 0 = sym e ∙ due.planned.number in
        let r = due.stored.runs plan.slot due.planned.slot t lt in
        ne (prefix_up (room_at kind old plan.slot) K t plan.slot old_room (eqb-true _ _ (sym r ∙ eq-eqb _ _ z)))
    elsewhere (suc i) t l lt ne e =
        let m = times_at spare i (omega arith) in
        let n = pointer_home due.stored t lt in
        omega (arith, m, subst (λ x. 1 ≤ times x (home kind blocks head old)) (sym e) n, due.spared.apart (get_or spare i 0))

    pub place-small : (s : ℕ) → s / 2 ^ K ≡ p → place_of (by_key kind) K p new s < array_vec_len plan.laid
    place-small s e = omega (arith, (leaf_at (by_key kind) K p new s (leaf 0 0) e).0, long_new)

    pub leaf-of : (s : ℕ) → s / 2 ^ K ≡ p → get_or L (place_of (by_key kind) K p new s) (leaf 0 0) ≡ leaf (room_at kind new s) (s / 2 ^ room_at kind new s)
    leaf-of s e = (leaf_at (by_key kind) K p new s (leaf 0 0) e).1 ∙ ap (λ n. leaf n (s / 2 ^ n)) (sym (room_on s e))

    run-both : (s t : ℕ) → s < 128 → t < 128 → s / 2 ^ K ≡ p → t / 2 ^ K ≡ p → eqb (get_or slots' t 0) (get_or slots' s 0) ≡ together (room_at kind new s) s t
    run-both s t ls lt es et =
        let i = place_of (by_key kind) K p new s in
        let j = place_of (by_key kind) K p new t in
        let R = room_at kind new s in
        let ps = pointer-on s ls es in
        let pt = pointer-on t lt et in
        ⊎_elim
        (λ (e : t / 2 ^ R ≡ s / 2 ^ R).
        let in_leaf : t / 2 ^ (get_or L i (leaf 0 0)).room ≡ (get_or L i (leaf 0 0)).prefix = subst (λ x. t / 2 ^ x.room ≡ x.prefix) (sym (leaf-of s es)) e in
        let same : j ≡ i = (place_is (by_key kind) K p new i t (leaf 0 0) (leaf_at (by_key kind) K p new s (leaf 0 0) es).0 in_leaf).1 in
        eq-eqb _ _ (pt ∙ ap (λ n. get_or ns n 0) same ∙ sym ps) ∙ sym (eq-eqb _ _ e))
        (λ (ne : t / 2 ^ R ≡ s / 2 ^ R → ⊥).
        let differ : j ≡ i → ⊥ = λ z. ne (
        let w : leaf (room_at kind new t) (t / 2 ^ room_at kind new t) ≡ leaf R (s / 2 ^ R) = sym (leaf-of t et) ∙ ap (λ n. get_or L n (leaf 0 0)) z ∙ leaf-of s es in
        ap (λ n. t / 2 ^ n) (sym (ap (λ x. x.room) w)) ∙ ap (λ x. x.prefix) w) in
        ne_eqb _ _ (λ z. let q = sym pt ∙ z ∙ ps in ⊎_elim (λ (l : j < i). apart j i l (place-small s es) q) (λ (l : i ≤ j). apart i j (omega-lt i j l differ) (place-small t et) (sym q)) (cases_lt j i))
        ∙ sym (ne_eqb _ _ ne))
        (cases_eq (t / 2 ^ R) (s / 2 ^ R))
      where
        omega-lt : (i j : ℕ) → i ≤ j → (j ≡ i → ⊥) → i < j
        omega-lt i j l ne = ⊎_elim (λ (h : i < j). h) (λ (h : j ≤ i). absurd (ne (omega arith))) (cases_lt i j)

    run_out : (s t : ℕ) → s < 128 → t < 128 → s / 2 ^ K ≡ p → (t / 2 ^ K ≡ p → ⊥) → eqb (get_or slots' t 0) (get_or slots' s 0) ≡ together (room_at kind new s) s t
    run_out s t ls lt es nt =
        let R = room_at kind new s in
        let le : R ≤ K = omega (arith, room_on s es, room_le (by_key kind) K new s) in
        ne_eqb _ _ (λ z. elsewhere (place_of (by_key kind) K p new s) t (place-small s es) lt nt (sym (pointer-on s ls es) ∙ sym z ∙ (rl.off t lt nt).0))
        ∙ sym (ne_eqb _ _ (λ z. nt (prefix_up R K t s le z ∙ es)))

    run-back : (s t : ℕ) → s < 128 → t < 128 → (s / 2 ^ K ≡ p → ⊥) → t / 2 ^ K ≡ p → eqb (get_or slots' t 0) (get_or slots' s 0) ≡ together (room_at kind new s) s t
    run-back s t ls lt nsn et =
        let R = room_at kind new s in
        let far : t / 2 ^ R ≡ s / 2 ^ R → ⊥ = λ z. ⊎_elim
        (λ (l : K < R).
        let up : s / 2 ^ R ≡ plan.slot / 2 ^ R = sym z ∙ prefix_up K R t plan.slot (omega arith) et in
        both_ways _ (due.planned.heavy R l (room_le (by_key kind) 7 new s)).1 (subst (λ q. is_light (by_key kind) R q new ≡ true) up (room_light (by_key kind) 7 new s (omega arith))))
        (λ (l : R ≤ K). nsn (prefix_up R K s t l (sym z) ∙ et))
        (cases_lt K R) in
        ne_eqb _ _ (λ z. elsewhere (place_of (by_key kind) K p new t) s (place-small t et) ls nsn (sym (pointer-on t lt et) ∙ z ∙ (rl.off s ls nsn).0))
        ∙ sym (ne_eqb _ _ far)

    pub runs-new : (s : ℕ) → s < 128 → RunAt slots' (room_at kind new s) s
    runs-new s ls t lt = ⊎_elim
        (λ (es : s / 2 ^ K ≡ p). ⊎_elim (λ (et : t / 2 ^ K ≡ p). run-both s t ls lt es et) (λ (nt : t / 2 ^ K ≡ p → ⊥). run_out s t ls lt es nt) (cases_eq (t / 2 ^ K) p))
        (λ (en : s / 2 ^ K ≡ p → ⊥). ⊎_elim
        (λ (et : t / 2 ^ K ≡ p). run-back s t ls lt en et)
        (λ (nt : t / 2 ^ K ≡ p → ⊥).
        ap (λ n. eqb n (get_or slots' s 0)) (rl.off t lt nt).0 ∙ ap (λ n. eqb (get_or S t 0) n) (rl.off s ls en).0 ∙ due.stored.runs s ls t lt ∙ ap (λ n. together n s t) (room_off s en))
        (cases_eq (t / 2 ^ K) p))
        (cases_eq (s / 2 ^ K) p)

    pub lawful-new : length slots' ≡ 128 → length new < 2 ^ 32 → Lawful (length new) slots' (rooms kind new)
    lawful-new long few = record {
      count_fits = few;
      slots_long = long;
      rooms_long = length-rooms kind new;
      small = λ s l. omega (arith, get_or-rooms kind new s l, room_le (by_key kind) 7 new s);
      runs = λ s l. subst (λ k. RunAt slots' k s) (sym (get_or-rooms kind new s l)) (runs-new s l);
    }

    -- what a block of these slots tells
    pub slots-told : (after : List ℕ) → Lawful (length new) slots' (rooms kind new) → Encodes (length new) (deepest (rooms kind new)) slots' after → slots after ≡ slots'
    slots-told after law enc =
        slots_read (length new) slots' (rooms kind new) after law enc (get_or after 1 0) (slots after) (deep_read (length new) slots' (rooms kind new) after law enc) (length-slots after) (get_or-slots after)
