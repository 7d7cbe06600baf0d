-- What indexes and blocks a tree needs: decided by a test, and no more after a removal.
use Rattle.std.proofs.Common.{◌≡◌, ℕ, ◌^◌, ◌<◌, ◌≤◌, Bool, List, [], ◌∷◌, map, Decides, sum_by, filter, refl, ◌∙◌, arith}
use Rattle.std.specs.List.{AllByRecursion}
use Rattle.std.proofs.ByRecursion.{all_kept_by, Decides-by_and}
use Rattle.std.proofs.lemmas.List.Sums.{sum_by-cons}
use Rattle.std.proofs.lemmas.Bool.Decides.{Decides-and, Decides-like}
use Rattle.kinds.specs.Kinds.{Kind, TotalOrder}
use Rattle.kinds.specs.Numbers.{register_numbers}
use Rattle.shape.specs.Shapes.{load, weight_under}
use Rattle.shape.specs.Holding.{is_held}
use Rattle.shape.specs.Keyed.{by_key}
use Rattle.shape.proofs.Loads.{load_parts}
use Rattle.shape.proofs.Lighter.{decides_held, held_less, buckets_less}
use Rattle.model.specs.Trees.{Object, Tree, is_folder, child_of}
use Rattle.model.specs.Indexes.{entry_of, line_of, indexed, folder_records, register_records, index_blocks, blocks_in_use, HeldIndex, HeldTree, every, is_held_tree}
use Rattle.model.specs.Soundness.{Falling, Apart}
use Rattle.model.proofs.Finds.{by_test}
use Rattle.model.proofs.Numbers.{falling_kept}
use Rattle.model.proofs.Indexing.{Separated, sum-indexed}
use Rattle.model.proofs.Entries.{Children, lines_separated, entries_separated}

-- the test tells whether every index can be held
pub decides_held_tree : (k : Kind) (t : Tree) → Decides (is_held_tree k t) (HeldTree k t)
unfolding is_held_tree
decides_held_tree k t =
    Decides-like _ (λ h. record { register = h.0; folders = h.1 }) (λ h. (h.register, h.folders))
    (Decides-and _ _ (decides_held (by_key register_numbers) (register_records t.objects) 7 0)
    (Decides-by_and (λ o. is_held (by_key k) 7 0 (folder_records k t.objects o.number)) (λ o. HeldIndex k (folder_records k t.objects o.number))
    (every (λ o. is_held (by_key k) 7 0 (folder_records k t.objects o.number))) (λ o. decides_held (by_key k) (folder_records k t.objects o.number) 7 0)
    refl (λ _ _. refl) (filter is_folder t.objects)))

-- an index weighs what was put into it
load-indexed : (kind : Kind) (k p : ℕ) (rs : List (List ℕ)) → Separated kind rs → load (by_key kind) k p (indexed kind rs) ≡ sum_by (weight_under (by_key kind) k p) rs
load-indexed kind k p rs s = load_parts (by_key kind) k p (indexed kind rs) ∙ sum-indexed kind (weight_under (by_key kind) k p) rs s

-- sums over fewer objects
sum_fewer : {X : Type 0} (g : X → ℕ) (e : Object → X) (i q : Object → Bool) (os : List Object) → sum_by g (map e (filter i (filter q os))) ≤ sum_by g (map e (filter i os))
sum_fewer g e i q [] = omega arith
sum_fewer g e i q (o ∷ os) =
    let h = sum_fewer g e i q os in
    let more = sum_by-cons g (e o) (map e (filter i os)) in
    let less = sum_by-cons g (e o) (map e (filter i (filter q os))) in
    by_test (q o)
    (λ t. rw t (by_test (i o) (λ u. rw u (omega arith)) (λ u. rw u h)))
    (λ t. rw t (by_test (i o) (λ u. rw u (omega arith)) (λ u. rw u h)))

sum_lines : (g : List ℕ → ℕ) (q : Object → Bool) (os : List Object) → sum_by g (map line_of (filter q os)) ≤ sum_by g (map line_of os)
sum_lines g q [] = omega arith
sum_lines g q (o ∷ os) =
    let h = sum_lines g q os in
    let more = sum_by-cons g (line_of o) (map line_of os) in
    let less = sum_by-cons g (line_of o) (map line_of (filter q os)) in
    by_test (q o) (λ t. rw t (omega arith)) (λ t. rw t (omega arith))

sums_fewer : (f g : Object → ℕ) (i q : Object → Bool) (os : List Object) → AllByRecursion (λ o. f o ≤ g o) os → sum_by f (filter i (filter q os)) ≤ sum_by g (filter i os)
sums_fewer f g i q [] l = omega arith
sums_fewer f g i q (o ∷ os) l =
    let h = sums_fewer f g i q os l.1 in
    let here = l.0 in
    let more = sum_by-cons g o (filter i os) in
    let less = sum_by-cons f o (filter i (filter q os)) in
    by_test (q o)
    (λ t. rw t (by_test (i o) (λ u. rw u (omega arith)) (λ u. rw u h)))
    (λ t. rw t (by_test (i o) (λ u. rw u (omega arith)) (λ u. rw u h)))

all_fewer : (P Q : Object → Type 0) (i q : Object → Bool) (os : List Object) → AllByRecursion (λ o. P o → Q o) os → AllByRecursion P (filter i os) → AllByRecursion Q (filter i (filter q os))
all_fewer P Q i q [] h a = tt
all_fewer P Q i q (o ∷ os) h a =
    by_test (i o)
    (λ u. let b : AllByRecursion P (o ∷ filter i os) = rw u at a in by_test (q o) (λ t. rw (t, u) (h.0 b.0, all_fewer P Q i q os h.1 b.1)) (λ t. rw t (all_fewer P Q i q os h.1 b.1)))
    (λ u. let b : AllByRecursion P (filter i os) = rw u at a in by_test (q o) (λ t. rw (t, u) (all_fewer P Q i q os h.1 b)) (λ t. rw t (all_fewer P Q i q os h.1 b)))

pub apart_kept : (k : Kind) (q : Object → Bool) (os : List Object) → Apart k os → Apart k (filter q os)
apart_kept k q [] a = tt
apart_kept k q (o ∷ os) a = by_test (q o) (λ t. rw t (all_kept_by q _ os a.0, apart_kept k q os a.1)) (λ t. rw t (apart_kept k q os a.1))

module _ (kind : Kind) (t : TotalOrder kind.lawful kind.order) (next : ℕ) (small : next < 2 ^ 32) (os : List Object) (q : Object → Bool) (falling : Falling next os) (apart : Apart kind os) where
  less_register : (k p : ℕ) → load (by_key register_numbers) k p (register_records (filter q os)) ≤ load (by_key register_numbers) k p (register_records os)
  unfolding register_records
  less_register k p =
      omega (
        arith,
        load-indexed register_numbers k p (map line_of os) (lines_separated next os small falling),
        load-indexed register_numbers k p (map line_of (filter q os)) (lines_separated next (filter q os) small (falling_kept q next os falling)),
        sum_lines (weight_under (by_key register_numbers) k p) q os,
      )

  less_folder : (f : ℕ) → Children kind f os → (k p : ℕ) → load (by_key kind) k p (folder_records kind (filter q os) f) ≤ load (by_key kind) k p (folder_records kind os f)
  unfolding folder_records
  less_folder f c k p =
      omega (
        arith,
        load-indexed kind k p (map entry_of (filter (child_of f) os)) (entries_separated kind t f os c apart),
        load-indexed kind k p (map entry_of (filter (child_of f) (filter q os))) (entries_separated kind t f (filter q os) (all_kept_by q _ os c) (apart_kept kind q os apart)),
        sum_fewer (weight_under (by_key kind) k p) entry_of (child_of f) q os,
      )

  abbrev before : Tree
  before = record { next = next; objects = os }

  abbrev after : Tree
  after = record { next = next; objects = filter q os }

  module _ (lawful : AllByRecursion (λ o. Children kind o.number os) os) where
    each-folder : (P : Object → Type 0) → ((o : Object) → Children kind o.number os → P o) → (ps : List Object) → AllByRecursion (λ o. Children kind o.number os) ps → AllByRecursion P ps
    each-folder P h [] c = tt
    each-folder P h (o ∷ ps) c = (h o c.0, each-folder P h ps c.1)

    -- fewer objects are held where more were
    pub held-fewer : HeldTree kind before → HeldTree kind after
    held-fewer h = record {
      register = held_less (by_key register_numbers) (register_records (filter q os)) (register_records os) less_register 7 0 h.register;
      folders = all_fewer _ _ is_folder q os
          (each-folder _ (λ o c. held_less (by_key kind) (folder_records kind (filter q os) o.number) (folder_records kind os o.number) (less_folder o.number c) 7 0) os lawful)
          h.folders;
    }

    -- and use no more blocks
    pub blocks-fewer : blocks_in_use kind after ≤ blocks_in_use kind before
    unfolding blocks_in_use
    blocks-fewer =
        let reg = buckets_less (by_key register_numbers) (register_records (filter q os)) (register_records os) less_register 7 0 in
        let fold = sums_fewer (λ o. index_blocks kind (folder_records kind (filter q os) o.number)) (λ o. index_blocks kind (folder_records kind os o.number)) is_folder q os
        (each-folder _ (λ o c. let b = buckets_less (by_key kind) (folder_records kind (filter q os) o.number) (folder_records kind os o.number) (less_folder o.number c) 7 0 in omega arith) os lawful) in
        omega arith
