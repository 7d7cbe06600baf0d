-- A plan that was written: the blocks store the new records.
use Rattle.std.proofs.Common.{◌≡◌, ℕ, zero, suc, ◌+◌, ◌-◌, ◌*◌, ◌/◌, ◌^◌, ◌<◌, ◌≤◌, cond, eqb, List, [], ◌∷◌, ◌++◌, map, length, get_or, take, drop, set, sym, refl, ap, ◌∙◌, subst, ⊎_elim, arith, length-set}
use Rattle.std.specs.List.{AllByRecursion}
use Rattle.std.proofs.ByRecursion.{All-get_or}
use Rattle.std.proofs.lemmas.List.{get_or-set_same, get_or-set_other, get_or-map, length-map, length-take, get_or-take, map-append, take-append-drop, ext_get_or}
use Rattle.std.proofs.lemmas.Bool.{cases_eq, eq-eqb}
use Rattle.arrayvec.specs.ArrayVec.{array_vec_len}
use Rattle.kinds.specs.Kinds.{Kind}
use Rattle.header.specs.Headers.{RunAt, Encodes, deepest}
use Rattle.shape.specs.Buckets.{Leaf, leaves, first_slot}
use Rattle.shape.specs.Keyed.{by_key}
use Rattle.shape.proofs.Leaves.{leaf, place_of, first_within, around}
use Rattle.index.specs.Stored.{Blocks, block, slots, rooms, room_at, bucket_for, Stored, pointers, home, times}
use Rattle.index.proofs.Reading.{slot_small}
use Rattle.layout.proofs.Splits.{first_small}
use Rattle.layout.specs.Laid.{leaf_block}
use Rattle.plans.specs.declared.plan.Plan.{Plan}
use Rattle.plans.specs.Planned.{numbers_of, Planned, Spare, Changed}
use Rattle.plans.proofs.Merges.{times-append}
use Rattle.changes.specs.Making.{Pending, Headed, written}
use Rattle.changes.proofs.Relays.{leaves_within}
use Rattle.changes.proofs.Writes.{length-written, written_at, written_off}
use Rattle.changes.proofs.Naming.{times_at, pointer_home, long_new, some_laid, apart, bucket_same, pointer-on, elsewhere, place-small, leaf-of, runs-new}

-- the first ones of spare blocks are spare
spare_taken : (kind : Kind) (blocks : Blocks) (head : ℕ) (old : List (List ℕ)) (spare : List ℕ) (n : ℕ) → Spare kind blocks head old spare → Spare kind blocks head old (take n spare)
spare_taken kind blocks head old spare n sp = record {
  apart = λ b. omega (arith, sp.apart b, ap (times b) (take-append-drop n spare), times-append b (take n spare) (drop n spare));
  there = λ i l.
      let short = length-take n spare in
      let same : get_or (take n spare) i 0 ≡ get_or spare i 0 = get_or-take n spare i 0 (omega arith) in
      omega (arith, same, sp.there i (omega arith));
}

pub pending_taken : (kind : Kind) (blocks : Blocks) (head : ℕ) (old new : List (List ℕ)) (plan : Plan) (spare : List ℕ) → Stored kind blocks head old → Planned kind (block blocks head) old new plan → Spare kind blocks head old spare
    → array_vec_len plan.laid - 1 ≤ length spare → Pending kind blocks head old new plan (take (array_vec_len plan.laid - 1) spare)
pending_taken kind blocks head old new plan spare st pl sp l = record {
  stored = st;
  planned = pl;
  spared = spare_taken kind blocks head old spare (array_vec_len plan.laid - 1) sp;
  enough = omega (arith, l, length-take (array_vec_len plan.laid - 1) spare);
}

-- blocks after a header and some buckets were written
pub record Wrote (before after : Blocks) (head : ℕ) (header ns : List ℕ) (bs : List (List ℕ)) : Type 0 where
  pub long : length after ≡ length before
  pub top : block after head ≡ header
  pub at : (i : ℕ) → i < length bs → block after (get_or ns i 0) ≡ get_or bs i []
  pub off : (b : ℕ) → (b ≡ head → ⊥) → ((i : ℕ) → i < length bs → b ≡ get_or ns i 0 → ⊥) → block after b ≡ block before b

all_left : {X : Type 0} (P : X → Type 0) (xs ys : List X) → AllByRecursion P (xs ++ ys) → AllByRecursion P xs
all_left P [] ys h = tt
all_left P (x ∷ xs) ys h = (h.0, all_left P xs ys h.1)

all_right : {X : Type 0} (P : X → Type 0) (xs ys : List X) → AllByRecursion P (xs ++ ys) → AllByRecursion P ys
all_right P [] ys h = h
all_right P (x ∷ xs) ys h = all_right P xs ys h.1

module _ {kind : Kind} {before : Blocks} {head : ℕ} {old new : List (List ℕ)} {plan : Plan} {spare : List ℕ} (due : Pending kind before head old new plan spare) where
  pub there : (i : ℕ) → i < array_vec_len plan.laid → get_or (plan.number ∷ spare) i 0 < length before
  there zero l = subst (λ n. n < length before) (sym due.planned.number) (due.stored.within plan.slot due.planned.slot)
  there (suc i) l = due.spared.there i (omega arith)

  pub not_head : (i : ℕ) → i < array_vec_len plan.laid → get_or (plan.number ∷ spare) i 0 ≡ head → ⊥
  not_head zero l e = due.stored.beside plan.slot due.planned.slot (sym due.planned.number ∙ e)
  not_head (suc i) l e =
      let m = times_at spare i (omega arith) in
      let h = eq-eqb head head refl in
      omega (arith, subst (λ x. 1 ≤ times x spare) e m, ap (λ b. cond {A = ℕ} b 1 0) h, due.spared.apart head)

  -- the blocks after buckets and header were written
  module _ (header : List ℕ) (hd : Headed kind (block before head) old new plan spare header) where
    distinct : (i j : ℕ) → i < j → j < length plan.laid.items → get_or (plan.number ∷ spare) i 0 ≡ get_or (plan.number ∷ spare) j 0 → ⊥
    distinct i j l b e = apart due hd.relaid i j l (omega (arith, b)) e

    all_there : (i : ℕ) → i < length plan.laid.items → get_or (plan.number ∷ spare) i 0 < length before
    all_there i l = there i (omega arith)

    none-head : (i : ℕ) → i < length plan.laid.items → get_or (plan.number ∷ spare) i 0 ≡ head → ⊥
    none-head i l e = not_head i (omega arith) e

    ns-long : length plan.laid.items ≤ length (plan.number ∷ spare)
    ns-long = omega arith

    -- the header block is another
    pub wrote-both : (after : Blocks) → after ≡ set (written before (plan.number ∷ spare) plan.laid.items) head header → Wrote before after head header (plan.number ∷ spare) plan.laid.items
    wrote-both after e =
        let ns = plan.number ∷ spare in
        let bs = plan.laid.items in
        let mid = written before ns bs in
        let long = length-written before ns bs in
        record {
          long = ap length e ∙ length-set mid head header ∙ long;
          top = ap (λ d. block d head) e ∙ get_or-set_same mid head header [] (omega (arith, long, due.stored.inside));
          at = λ i l. ap (λ d. block d (get_or ns i 0)) e ∙ get_or-set_other mid head (get_or ns i 0) header [] (none-head i l) ∙ written_at before ns bs ns-long distinct all_there i l;
          off = λ b nh none. ap (λ d. block d b) e ∙ get_or-set_other mid head b header [] nh ∙ written_off before ns bs b none;
        }

    -- the header block is the same
    pub wrote-buckets : (after : Blocks) → after ≡ written before (plan.number ∷ spare) plan.laid.items → header ≡ block before head → Wrote before after head header (plan.number ∷ spare) plan.laid.items
    wrote-buckets after e same =
        let ns = plan.number ∷ spare in
        let bs = plan.laid.items in
        record {
          long = ap length e ∙ length-written before ns bs;
          top = ap (λ d. block d head) e ∙ written_off before ns bs head (λ i l z. none-head i l (sym z)) ∙ sym same;
          at = λ i l. ap (λ d. block d (get_or ns i 0)) e ∙ written_at before ns bs ns-long distinct all_there i l;
          off = λ b nh none. ap (λ d. block d b) e ∙ written_off before ns bs b none;
        }

module _ {kind : Kind} {before after : Blocks} {head : ℕ} {old new : List (List ℕ)} {plan : Plan} {spare header : List ℕ} (due : Pending kind before head old new plan spare)
    (hd : Headed kind (block before head) old new plan spare header)
    (w : Wrote before after head header (plan.number ∷ spare) plan.laid.items) where
  abbrev K : ℕ
  K = plan.room

  abbrev p : ℕ
  p = plan.slot / 2 ^ plan.room

  abbrev ns : List ℕ
  ns = plan.number ∷ spare

  abbrev L : List Leaf
  L = leaves (by_key kind) plan.room (plan.slot / 2 ^ plan.room) new

  abbrev S' : List ℕ
  S' = slots header

  on : (s : ℕ) → s < 128 → s / 2 ^ K ≡ p → get_or S' s 0 ≡ get_or ns (place_of (by_key kind) K p new s) 0
  on = pointer-on due hd.relaid

  small : (s : ℕ) → s / 2 ^ K ≡ p → place_of (by_key kind) K p new s < array_vec_len plan.laid
  small = place-small due hd.relaid

  off : (s : ℕ) → s < 128 → (s / 2 ^ K ≡ p → ⊥) → get_or S' s 0 ≡ get_or (slots (block before head)) s 0
  off s l ne = (hd.relaid.off s l ne).0

  within : (s : ℕ) → s < 128 → get_or S' s 0 < length after
  within s l = ⊎_elim
      (λ (e : s / 2 ^ K ≡ p). subst (λ n. n < length after) (sym (on s l e)) (omega (arith, there due (place_of (by_key kind) K p new s) (small s e), w.long)))
      (λ (ne : s / 2 ^ K ≡ p → ⊥). subst (λ n. n < length after) (sym (off s l ne)) (omega (arith, due.stored.within s l, w.long)))
      (cases_eq (s / 2 ^ K) p)

  leads : (s : ℕ) → s < 128 → block after (get_or S' s 0) ≡ bucket_for kind new s
  leads s l = ⊎_elim
      (λ (e : s / 2 ^ K ≡ p).
      let i = place_of (by_key kind) K p new s in
      let li : i < length plan.laid.items = omega (arith, small s e) in
      let m : i < length L = omega (arith, small s e, (long_new due)) in
      ap (block after) (on s l e) ∙ w.at i li ∙ ap (λ bs. get_or bs i []) due.planned.laid.blocks ∙ get_or-map (leaf_block kind new) L i (leaf 0 0) [] m
      ∙ ap (leaf_block kind new) (leaf-of due hd.relaid s e))
      (λ (ne : s / 2 ^ K ≡ p → ⊥).
      ap (block after) (off s l ne)
      ∙ w.off (get_or (slots (block before head)) s 0) (due.stored.beside s l)
      (λ i li z. elsewhere due hd.relaid i s (omega (arith, li)) l ne (sym z))
      ∙ due.stored.leads s l ∙ bucket_same due s ne)
      (cases_eq (s / 2 ^ K) p)

  beside : (s : ℕ) → s < 128 → get_or S' s 0 ≡ head → ⊥
  beside s l z = ⊎_elim
      (λ (e : s / 2 ^ K ≡ p). not_head due (place_of (by_key kind) K p new s) (small s e) (sym (on s l e) ∙ z))
      (λ (ne : s / 2 ^ K ≡ p → ⊥). due.stored.beside s l (sym (off s l ne) ∙ z))
      (cases_eq (s / 2 ^ K) p)

  pub stored_new : Stored kind after head new
  stored_new =
      let h = w.top in
      record {
        sorted = due.planned.sorted;
        held = due.planned.held;
        countable = due.planned.countable;
        inside = omega (arith, due.stored.inside, w.long);
        header = subst (λ x. Encodes (length new) (deepest (rooms kind new)) (slots x) x) (sym h) hd.bytes;
        within = subst (λ x. (s : ℕ) → s < 128 → get_or (slots x) s 0 < length after) (sym h) within;
        leads = subst (λ x. (s : ℕ) → s < 128 → block after (get_or (slots x) s 0) ≡ bucket_for kind new s) (sym h) leads;
        runs = subst (λ x. (s : ℕ) → s < 128 → RunAt (slots x) (room_at kind new s) s) (sym h) (runs-new due hd.relaid);
        beside = subst (λ x. (s : ℕ) → s < 128 → get_or (slots x) s 0 ≡ head → ⊥) (sym h) beside;
      }

  -- which blocks the index has then
  abbrev Small : Leaf → Type 0
  Small x = (x.room ≤ 7) × ((x.prefix + 1) * 2 ^ x.room ≤ (0 + 1) * 2 ^ 7)

  same_pointers : (xs : List Leaf) → AllByRecursion Small xs → AllByRecursion (λ x. first_slot x / 2 ^ K ≡ p → ⊥) xs → pointers header xs ≡ pointers (block before head) xs
  same_pointers [] a b = refl
  same_pointers (x ∷ xs) a b = ap (λ n. n ∷ pointers header xs) (off (first_slot x) (first_small x.room x.prefix a.0.1) b.0) ∙ ap (λ ys. get_or (slots (block before head)) (first_slot x) 0 ∷ ys) (same_pointers xs a.1 b.1)

  new_pointers : AllByRecursion Small L → pointers header L ≡ take (array_vec_len plan.laid) ns
  new_pointers sm =
      let ll = long_new due in
      let f = λ (x : Leaf). get_or (slots header) (first_slot x) 0 in
      let long : length (pointers header L) ≡ length (take (array_vec_len plan.laid) ns) = length-map L f ∙ sym ll ∙ omega (arith, length-take (array_vec_len plan.laid) ns, due.enough) in
      ext_get_or 0 (pointers header L) (take (array_vec_len plan.laid) ns) long
      (λ i l.
      let m : i < length L = omega (arith, l, length-map L f) in
      let x = get_or L i (leaf 0 0) in
      let sx = first_small x.room x.prefix (All-get_or Small L i (leaf 0 0) m sm).1 in
      get_or-map f L i (leaf 0 0) 0 m ∙ (hd.relaid.on i (first_slot x) m m sx (first_within x.room x.prefix)).0 ∙ sym (get_or-take (array_vec_len plan.laid) ns i 0 (omega (arith, m, ll))))

  count_parts : (x : ℕ) (h : List ℕ) (A M B : List Leaf) → times x (pointers h (A ++ (M ++ B))) ≡ times x (pointers h A) + (times x (pointers h M) + times x (pointers h B))
  count_parts x h A M B =
      let f = λ (y : Leaf). get_or (slots h) (first_slot y) 0 in
      ap (times x) (map-append f A (M ++ B) ∙ ap (λ ys. map f A ++ ys) (map-append f M B)) ∙ times-append x (map f A) (map f M ++ map f B) ∙ ap (λ n. times x (map f A) + n) (times-append x (map f M) (map f B))

  times_first : (x n : ℕ) → 1 ≤ n → times x (take n ns) ≡ cond (eqb x plan.number) 1 0 + times x (take (n - 1) spare)
  times_first x zero l = absurd (omega arith)
  times_first x (suc n) l = let e : suc n - 1 ≡ n = omega arith in ap (λ m. cond (eqb x plan.number) 1 0 + times x (take m spare)) (sym e)

  pub passed : (b : ℕ) → times b (home kind after head new) + times b (numbers_of plan.given) ≡ times b (home kind before head old) + times b (take (array_vec_len plan.laid - 1) spare)
  passed b =
      let ar = around (by_key kind) plan.slot old new due.planned.differ K 7 due.planned.deep due.planned.heavy in
      let z = slot_small plan.slot due.planned.slot in
      let olds : leaves (by_key kind) 7 0 old ≡ ar.left ++ (leaves (by_key kind) K p old ++ ar.right) = ap (λ n. leaves (by_key kind) 7 n old) (sym z) ∙ ar.old in
      let news : leaves (by_key kind) 7 0 new ≡ ar.left ++ (L ++ ar.right) = ap (λ n. leaves (by_key kind) 7 n new) (sym z) ∙ ar.new in
      let all = subst (AllByRecursion Small) news (leaves_within (by_key kind) new 7 0) in
      let sl = all_left Small ar.left (L ++ ar.right) all in
      let sm = all_left Small L ar.right (all_right Small ar.left (L ++ ar.right) all) in
      let sr = all_right Small L ar.right (all_right Small ar.left (L ++ ar.right) all) in
      let after-head : times b (home kind after head new) ≡ times b (head ∷ pointers header (leaves (by_key kind) 7 0 new)) = ap (λ h. times b (head ∷ pointers h (leaves (by_key kind) 7 0 new))) w.top in
      omega (
        arith,
        after-head,
        ap (λ ls. times b (pointers header ls)) news,
        ap (λ ls. times b (pointers (block before head) ls)) olds,
        count_parts b header ar.left L ar.right,
        count_parts b (block before head) ar.left (leaves (by_key kind) K p old) ar.right,
        ap (times b) (same_pointers ar.left sl ar.left-off),
        ap (times b) (same_pointers ar.right sr ar.right-off),
        ap (times b) (new_pointers sm),
        times_first b (array_vec_len plan.laid) (some_laid due),
        due.planned.given b,
      )

  pub changed : Changed kind before after head old new (take (array_vec_len plan.laid - 1) spare) (numbers_of plan.given)
  changed = record {
    stored = stored_new;
    passed = passed;
    kept = λ b none. w.off b (λ e. head-not b none e) (λ i l e. taken_not b none i (omega arith) e);
    count = w.long;
  }
    where
      head-not : (b : ℕ) → times b (home kind before head old) + times b (take (array_vec_len plan.laid - 1) spare) ≡ 0 → b ≡ head → ⊥
      head-not b none e = let h = eq-eqb b head e in omega (arith, none, ap (λ t. cond {A = ℕ} t 1 0) h)

      taken_not : (b : ℕ) → times b (home kind before head old) + times b (take (array_vec_len plan.laid - 1) spare) ≡ 0 → (i : ℕ) → i < array_vec_len plan.laid → b ≡ get_or ns i 0 → ⊥
      taken_not b none zero l e =
          let n = pointer_home due.stored plan.slot due.planned.slot in
          omega (arith, none, subst (λ x. 1 ≤ times x (home kind before head old)) (sym (e ∙ due.planned.number)) n)
      taken_not b none (suc i) l e =
          let m = times_at (take (array_vec_len plan.laid - 1) spare) i (omega (arith, length-take (array_vec_len plan.laid - 1) spare, due.enough, l)) in
          let same : get_or (take (array_vec_len plan.laid - 1) spare) i 0 ≡ b = get_or-take (array_vec_len plan.laid - 1) spare i 0 (omega arith) ∙ sym e in
          omega (arith, none, subst (λ x. 1 ≤ times x (take (array_vec_len plan.laid - 1) spare)) same m)
