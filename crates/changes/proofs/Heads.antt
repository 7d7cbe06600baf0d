-- The header block after a plan.
use Rattle.std.proofs.Common.{◌≡◌, ℕ, zero, suc, ◌+◌, ◌*◌, ◌/◌, ◌^◌, ◌<◌, true, false, List, ◌∷◌, length, get_or, sym, refl, ap, ◌∙◌, subst, ⊎_elim, arith, length-append}
use Rattle.std.proofs.lemmas.List.{ext_get_or}
use Rattle.std.proofs.lemmas.Bool.{cases_eq, cases_Bool}
use Rattle.arrayvec.specs.ArrayVec.{array_vec_len}
use Rattle.kinds.specs.Kinds.{Kind}
use Rattle.header.specs.Headers.{Lawful, Encodes, deepest}
use Rattle.shape.specs.Shapes.{Measure, is_light}
use Rattle.shape.specs.Buckets.{room, leaves}
use Rattle.shape.specs.Keyed.{by_key}
use Rattle.shape.proofs.Rooms.{room_zero, room_takes, room_shared}
use Rattle.shape.proofs.Leaves.{leaf, leaf_at, place_is, first_within, leaves_heavy}
use Rattle.index.specs.Stored.{Blocks, block, slots, rooms, room_at}
use Rattle.index.proofs.Reading.{length-slots, length-rooms, get_or-rooms}
use Rattle.plans.specs.declared.plan.Plan.{Plan}
use Rattle.plans.proofs.Merges.{run_pointer}
use Rattle.changes.specs.Relaying.{Relaid}
use Rattle.changes.specs.Making.{Pending, Headed}
use Rattle.changes.proofs.Naming.{long_new, room_on, room_off, rooms-are, lawful-new, slots-told}

-- a prefix with one bucket is that bucket's
one_room : {X : Type 0} (m : Measure X) (k p : ℕ) (rs : List X) (s : ℕ) → length (leaves m k p rs) ≡ 1 → s / 2 ^ k ≡ p → room m k rs s ≡ k
one_room m zero p rs s l e = room_zero m rs s
one_room m (suc k) p rs s l e = ⊎_elim
    (λ (t : is_light m (suc k) p rs ≡ true). room_takes m k rs s (subst (λ q. is_light m (suc k) q rs ≡ true) (sym e) t))
    (λ (f : is_light m (suc k) p rs ≡ false).
    let a = (leaf_at m k (2 * p) rs (2 * p * 2 ^ k) (leaf 0 0) (first_within k (2 * p))).0 in
    let b = (leaf_at m k (2 * p + 1) rs ((2 * p + 1) * 2 ^ k) (leaf 0 0) (first_within k (2 * p + 1))).0 in
    absurd (omega (arith, a, b, l, ap length (leaves_heavy m k p rs f), length-append (leaves m k (2 * p) rs) (leaves m k (2 * p + 1) rs))))
    (cases_Bool (is_light m (suc k) p rs))

module _ {kind : Kind} {blocks : Blocks} {head : ℕ} {old new : List (List ℕ)} {plan : Plan} {spare : List ℕ} (due : Pending kind blocks head old new plan spare) where
  -- slots that were named anew, in a block
  pub headed : (slots' rooms' after : List ℕ) (count : ℕ) → Relaid kind new plan.room (plan.slot / 2 ^ plan.room) (plan.number ∷ spare) (slots (block blocks head)) (rooms kind old) slots' rooms'
      → length slots' ≡ 128 → length rooms' ≡ 128 → count ≡ length new → Encodes count (deepest rooms') slots' after → Headed kind (block blocks head) old new plan spare after
  headed slots' rooms' after count rl sl rlen c enc =
      let are = rooms-are due rl rlen in
      let law = lawful-new due rl sl due.planned.countable in
      let enc' : Encodes (length new) (deepest (rooms kind new)) slots' after = subst (λ r. Encodes (length new) (deepest r) slots' after) are (subst (λ n. Encodes n (deepest rooms') slots' after) c enc) in
      let told = slots-told due rl after law enc' in
      record {
        bytes = subst (λ xs. Encodes (length new) (deepest (rooms kind new)) xs after) (sym told) enc';
        relaid = subst (λ xs. Relaid kind new plan.room (plan.slot / 2 ^ plan.room) (plan.number ∷ spare) (slots (block blocks head)) (rooms kind old) xs (rooms kind new)) (sym told)
            (subst (Relaid kind new plan.room (plan.slot / 2 ^ plan.room) (plan.number ∷ spare) (slots (block blocks head)) (rooms kind old) slots') are rl);
      }

  pub lawful_parts : (slots' rooms' : List ℕ) → Relaid kind new plan.room (plan.slot / 2 ^ plan.room) (plan.number ∷ spare) (slots (block blocks head)) (rooms kind old) slots' rooms'
      → length slots' ≡ 128 → length rooms' ≡ 128 → Lawful plan.count slots' rooms'
  lawful_parts slots' rooms' rl sl rlen =
      let are = rooms-are due rl rlen in
      subst (λ n. Lawful n slots' rooms') (sym due.planned.counted) (subst (Lawful (length new) slots') (sym are) (lawful-new due rl sl due.planned.countable))

  -- one bucket in place of one with the same prefix: no slot is named anew
  module _ (one : array_vec_len plan.laid ≡ 1) (same : plan.room ≡ plan.start) where
    long : length (leaves (by_key kind) plan.room (plan.slot / 2 ^ plan.room) new) ≡ 1
    long = sym (long_new due) ∙ one

    start : room_at kind old plan.slot ≡ plan.room
    start = sym due.planned.start ∙ sym same

    near : (s : ℕ) → s / 2 ^ plan.room ≡ plan.slot / 2 ^ plan.room → s / 2 ^ room_at kind old plan.slot ≡ plan.slot / 2 ^ room_at kind old plan.slot
    near s e = subst (λ n. s / 2 ^ n ≡ plan.slot / 2 ^ n) (sym start) e

    room-new : (s : ℕ) → s / 2 ^ plan.room ≡ plan.slot / 2 ^ plan.room → room_at kind new s ≡ plan.room
    room-new s e = room_on due s e ∙ one_room (by_key kind) plan.room (plan.slot / 2 ^ plan.room) new s long e

    room-same : (s : ℕ) → room_at kind new s ≡ room_at kind old s
    room-same s = ⊎_elim
        (λ (e : s / 2 ^ plan.room ≡ plan.slot / 2 ^ plan.room). room-new s e ∙ sym start ∙ sym (room_shared (by_key kind) 7 old s plan.slot (near s e)))
        (λ (ne : s / 2 ^ plan.room ≡ plan.slot / 2 ^ plan.room → ⊥). sym (room_off due s ne))
        (cases_eq (s / 2 ^ plan.room) (plan.slot / 2 ^ plan.room))

    rooms_same : rooms kind new ≡ rooms kind old
    rooms_same = ext_get_or 0 (rooms kind new) (rooms kind old) (length-rooms kind new ∙ sym (length-rooms kind old))
        (λ s l. let m : s < 128 = omega (arith, l, length-rooms kind new) in get_or-rooms kind new s m ∙ room-same s ∙ sym (get_or-rooms kind old s m))

    relaid-same : Relaid kind new plan.room (plan.slot / 2 ^ plan.room) (plan.number ∷ spare) (slots (block blocks head)) (rooms kind old) (slots (block blocks head)) (rooms kind old)
    relaid-same = record {
      on = λ i s li bi ls e.
          let K = plan.room in
          let P = plan.slot / 2 ^ plan.room in
          let z : i ≡ 0 = omega (arith, bi, long) in
          let pi = place_is (by_key kind) K P new i s (leaf 0 0) bi e in
          let at = leaf_at (by_key kind) K P new s (leaf 0 0) pi.0 in
          let lf : get_or (leaves (by_key kind) K P new) i (leaf 0 0) ≡ leaf (room (by_key kind) K new s) (s / 2 ^ room (by_key kind) K new s) = ap (λ n. get_or (leaves (by_key kind) K P new) n (leaf 0 0)) (sym pi.1) ∙ at.1 in (
            run_pointer due.stored plan.slot s due.planned.slot ls (near s pi.0) ∙ sym due.planned.number ∙ ap (λ n. get_or (plan.number ∷ spare) n 0) (sym z),
            get_or-rooms kind old s ls ∙ sym (room-same s) ∙ room_on due s pi.0 ∙ sym (ap (λ x. x.room) lf),
          );
      off = λ s l ne. (refl, refl);
    }

    pub headed-same : (after : List ℕ) → Encodes plan.count (deepest (rooms kind old)) (slots (block blocks head)) after → Headed kind (block blocks head) old new plan spare after
    headed-same after enc = headed (slots (block blocks head)) (rooms kind old) after plan.count relaid-same (length-slots (block blocks head)) (length-rooms kind old) due.planned.counted enc
