-- What a change of one bucket's records comes to for all.
use Rattle.std.proofs.Common.{◌≡◌, ℕ, ◌/◌, ◌^◌, ◌<◌, ◌≤◌, true, false, List, [], ◌∷◌, map, length, get_or, sum_by, sym, ap, ◌∙◌, subst, ⊎_elim, arith}
use Rattle.std.proofs.lemmas.Bool.{cases_eq, le-leb, lt-leb, leb-true}
use Rattle.kinds.specs.Kinds.{Kind, Bounded}
use Rattle.records.specs.Records.{load, weight}
use Rattle.shape.specs.Shapes.{is_light, Held}
use Rattle.shape.specs.Buckets.{leaves}
use Rattle.shape.specs.Keyed.{by_key}
use Rattle.shape.proofs.Halves.{held_light}
use Rattle.shape.proofs.Rooms.{prefix_up, room_le, room_above, heavy_up}
use Rattle.shape.proofs.Leaves.{leaves_light, length-leaves}
use Rattle.index.specs.Stored.{Blocks, block, slots, bucket_at, pointers, times}
use Rattle.index.proofs.Reading.{load-sum, slot_small}
use Rattle.layout.specs.Laid.{Buckets, leaf_block, LaidOut}
use Rattle.plans.specs.declared.located.Located.{Located}
use Rattle.plans.specs.declared.merge.Merge.{Merge}
use Rattle.plans.specs.declared.numbers.Numbers.{Numbers}
use Rattle.plans.specs.Planned.{numbers_of, Differ, HeavyAbove, Planned}
use Rattle.plans.specs.Merging.{Under, Merged}
use Rattle.plans.specs.Editing.{Edited}
use Rattle.plans.proofs.Counts.{few_records}
use Rattle.plans.proofs.Merges.{bucket-leaves}

-- records that can be held under one prefix of a slot, and elsewhere are as before, can be held
pub held_new : (kind : Kind) (s K : ℕ) (old new : List (List ℕ)) → Held (by_key kind) 7 0 old → Differ kind s old new → Held (by_key kind) K (s / 2 ^ K) new → Held (by_key kind) 7 0 new
held_new kind s K old new before differ here q e = ⊎_elim
    (λ (z : q / 2 ^ K ≡ s / 2 ^ K). here q z)
    (λ (ne : q / 2 ^ K ≡ s / 2 ^ K → ⊥).
    let off : q ≡ s / 2 ^ 0 → ⊥ = λ z. let w : s / 2 ^ 0 ≡ s = omega arith in ne (ap (λ n. n / 2 ^ K) (z ∙ w)) in
    subst (λ xs. sum_by weight xs ≤ 504) (differ 0 q off) (before q e))
    (cases_eq (q / 2 ^ K) (s / 2 ^ K))

-- one light bucket, laid out alone
pub laid_one : (kind : Kind) (new : List (List ℕ)) (k p : ℕ) (laid : Buckets) → is_light (by_key kind) k p new ≡ true → laid.items ≡ bucket_at kind new k p ∷ [] → LaidOut kind new k p laid
laid_one kind new k p laid light blocks =
    let one = leaves_light (by_key kind) k p new light in
    record {
      held = held_light (by_key kind) new k p (leb-true _ _ light);
      blocks = blocks ∙ ap (map (leaf_block kind new)) (sym one);
      long = ap length blocks ∙ sym (sym (length-leaves (by_key kind) k p new) ∙ ap length one);
    }

module _ {kind : Kind} {blocks : Blocks} {head : ℕ} {old new : List (List ℕ)} {at : Located} {changed : List (List ℕ)} {count : ℕ} (e : Edited kind blocks head old new at changed count) (bounded : Bounded kind) where
  changed_light : load changed ≤ 504 → is_light (by_key kind) at.branch.room (at.branch.slot / 2 ^ at.branch.room) new ≡ true
  changed_light l = le-leb _ _ (omega (arith, load-sum changed, ap (sum_by weight) e.there))

  pub edited_under : (bytes : List ℕ) → load changed ≤ 504 → bytes ≡ bucket_at kind new at.branch.room (at.branch.slot / 2 ^ at.branch.room) → Under kind blocks head at.header old new at.branch.slot at.branch.room bytes
  edited_under bytes l b = record {
    stored = e.stored;
    read = e.read;
    sorted = e.sorted;
    slot = e.slot;
    differ = e.differ;
    above = omega (arith, e.room);
    light = changed_light l;
    holds = b;
  }

  -- the buckets under a prefix of the slot, laid out in place of those that were there
  planned : (K : ℕ) (given : Numbers) (laid : Buckets) → K ≤ 7 → HeavyAbove kind at.branch.slot K old new → LaidOut kind new K (at.branch.slot / 2 ^ K) laid
      → ((b : ℕ) → times b (get_or (slots (block blocks head)) at.branch.slot 0 ∷ numbers_of given) ≡ times b (pointers (block blocks head) (leaves (by_key kind) K (at.branch.slot / 2 ^ K) old)))
      → Planned kind (block blocks head) old new (record { header = at.header; slot = at.branch.slot; room = K; start = at.branch.room; number = at.number; given = given; laid = laid; count = count })
  planned K given laid deep heavy lay names =
      let held = held_new kind at.branch.slot K old new e.stored.held e.differ lay.held in
      record {
        read = e.read;
        slot = e.slot;
        deep = deep;
        start = e.room;
        sorted = e.sorted;
        held = held;
        counted = e.counted;
        countable = omega (arith, few_records kind bounded new e.sorted held);
        differ = e.differ;
        heavy = heavy;
        number = e.number;
        laid = lay;
        given = λ b. ap (λ n. times b (n ∷ numbers_of given)) e.number ∙ names b;
      }

  pub planned_light : (merge : Merge) (laid : Buckets) → Merged kind at.header old new at.branch.slot merge → laid.items ≡ merge.block ∷ []
      → Planned kind (block blocks head) old new (record { header = at.header; slot = at.branch.slot; room = merge.room; start = at.branch.room; number = at.number; given = merge.given; laid = laid; count = count })
  planned_light merge laid g one =
      let K = merge.room in
      let s = at.branch.slot in
      planned K merge.given laid g.deep g.heavy (laid_one kind new K (s / 2 ^ K) laid g.light (one ∙ ap (λ x. x ∷ []) g.bytes))
      (λ b. subst (λ h. times b (get_or (slots h) s 0 ∷ numbers_of merge.given) ≡ times b (pointers h (leaves (by_key kind) K (s / 2 ^ K) old))) e.read (g.given b))

  -- a bucket that is too heavy, split
  pub planned_split : (given : Numbers) (laid : Buckets) → (numbers_of given) ≡ [] → LaidOut kind new at.branch.room (at.branch.slot / 2 ^ at.branch.room) laid → 504 < load changed
      → Planned kind (block blocks head) old new (record { header = at.header; slot = at.branch.slot; room = at.branch.room; start = at.branch.room; number = at.number; given = given; laid = laid; count = count })
  planned_split given laid none lay h =
      let K = at.branch.room in
      let s = at.branch.slot in
      let heavy : is_light (by_key kind) K (s / 2 ^ K) new ≡ false = lt-leb _ _ (omega (arith, load-sum changed, ap (sum_by weight) e.there)) in
      planned K given laid (omega (arith, e.room, room_le (by_key kind) 7 old s))
      (λ j l b. (room_above (by_key kind) 7 old s j (omega (arith, e.room)) b, heavy_up (by_key kind) K j s new (omega arith) heavy)) lay
      (λ b. ap (λ xs. times b (get_or (slots (block blocks head)) s 0 ∷ xs)) none ∙ ap (times b) (sym (bucket-leaves e.stored s K e.slot (sym e.room))))

  -- where it cannot be split, the records cannot be held
  pub not_held : (Held (by_key kind) at.branch.room (at.branch.slot / 2 ^ at.branch.room) new → ⊥) → Held (by_key kind) 7 0 new → ⊥
  not_held none h = none (λ q z. h q (slot-near q z))
    where
      slot-near : (q : ℕ) → q / 2 ^ at.branch.room ≡ at.branch.slot / 2 ^ at.branch.room → q / 2 ^ 7 ≡ 0
      slot-near q z = prefix_up at.branch.room 7 q at.branch.slot (omega (arith, e.room, room_le (by_key kind) 7 old at.branch.slot)) z ∙ slot_small at.branch.slot e.slot
