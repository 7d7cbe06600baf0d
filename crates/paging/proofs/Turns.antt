-- One bucket on the way through an index.
use Rattle.std.proofs.Common.{◌≡◌, ℕ, ◌+◌, ◌*◌, ◌/◌, ◌^◌, ◌<◌, ◌≤◌, true, false, List, ◌++◌, get_or, sym, ap, ◌∙◌, subst, div-mul-le_self, arith}
use Rattle.std.proofs.lemmas.Bool.{both_ways}
use Rattle.kinds.specs.Kinds.{Kind, Bounded}
use Rattle.records.specs.Items.{records_in}
use Rattle.records.specs.Searches.{Sorted}
use Rattle.shape.specs.Keyed.{by_key}
use Rattle.shape.proofs.Rooms.{room_shared}
use Rattle.pages.specs.Pages.{following, used}
use Rattle.index.specs.Stored.{Blocks, Stored, room_at, bucket_for}
use Rattle.pages.specs.Takes.{Took}
use Rattle.paging.specs.Unread.{Unreadable}
use Rattle.paging.proofs.Led.{bucket_here, bucket_records, bucket_sorted, bucket-room}
use Rattle.paging.proofs.Slots.{from, start_slot, from_part, from_none, from_start, under-following, sorted_following, aligned}
use Rattle.pages.proofs.Taken.{Taking, taking_none, taking-all, taking-part, taking-end}

-- the first slot of the bucket of a slot
abbrev pub first_of : Kind → List (List ℕ) → ℕ → ℕ
first_of kind rs s = s / 2 ^ room_at kind rs s * 2 ^ room_at kind rs s

-- what follows a bookmark from the slot s on is yet to be taken, and no record of the bucket of s was
pub record Walking (kind : Kind) (bookmark : List ℕ) (rs : List (List ℕ)) (size : ℕ) (was is : List (List ℕ)) (s : ℕ) : Type 0 where
  pub first : from kind (first_of kind rs s) (following kind bookmark rs) ≡ from kind s (following kind bookmark rs)
  pub taking : Taking size was (following kind bookmark rs) is (from kind s (following kind bookmark rs))

module _ (kind : Kind) (bookmark : List ℕ) (rs : List (List ℕ)) (size : ℕ) (was : List (List ℕ)) where
  pub walking_none : (s : ℕ) → s ≡ start_slot kind bookmark → Walking kind bookmark rs size was was s
  walking_none s e =
      let k = 2 ^ room_at kind rs s in
      let here = from_start kind bookmark rs s (omega arith) in
      record {
        first = from_start kind bookmark rs (first_of kind rs s) (omega (arith, div-mul-le_self s k)) ∙ sym here;
        taking = subst (λ rest. Taking size was (following kind bookmark rs) was rest) (sym here) (taking_none size was (following kind bookmark rs));
      }

  pub walking_all : (is : List (List ℕ)) (s : ℕ) → Bounded kind → Sorted kind rs → 128 ≤ s → Walking kind bookmark rs size was is s → Took size was (following kind bookmark rs) is true
  walking_all is s b sorted l w =
      let none = from_none kind s (following kind bookmark rs) b (sorted_following kind bookmark rs sorted) l in
      taking-all size was (following kind bookmark rs) is (subst (λ rest. Taking size was (following kind bookmark rs) is rest) none w.taking)

module _ (kind : Kind) (blocks : Blocks) (head : ℕ) (rs : List (List ℕ)) (st : Stored kind blocks head rs) (s : ℕ) (l : s < 128) (block : List ℕ) (is_bucket : block ≡ bucket_for kind rs s) where
  abbrev pub next_slot : ℕ
  next_slot = (s / 2 ^ room_at kind rs s + 1) * 2 ^ room_at kind rs s

  abbrev bucket : List (List ℕ)
  bucket = bucket_here kind blocks head rs st s l

  records_are : records_in block ≡ bucket
  records_are = ap records_in is_bucket ∙ bucket_records kind blocks head rs st s l

  pub block_sorted : Sorted kind (records_in block)
  block_sorted = subst (Sorted kind) (sym records_are) (bucket_sorted kind blocks head rs st s l)

  pub room_of : (get_or block 0 0 ≡ 3) × (get_or block 1 0 + room_at kind rs s ≡ 7)
  room_of = subst (λ (b : List ℕ). (get_or b 0 0 ≡ 3) × (get_or b 1 0 + room_at kind rs s ≡ 7)) (sym is_bucket) (bucket-room kind blocks head rs st s l)

  -- each record of a bucket is read
  pub readable : Unreadable (records_in block) → ⊥
  readable u = both_ways _ u.2 (block_sorted.whole u.0 u.1)

  module _ (bookmark : List ℕ) (size : ℕ) (was is next items : List (List ℕ)) (fits : used is ≤ size) (w : Walking kind bookmark rs size was is s) (items-are : items ≡ following kind bookmark (records_in block)) where
    abbrev all : List (List ℕ)
    all = following kind bookmark rs

    rest-parts : from kind s all ≡ items ++ from kind next_slot all
    rest-parts =
        let k = room_at kind rs s in
        let p = s / 2 ^ k in
        sym w.first
        ∙ from_part kind k p all (sorted_following kind bookmark rs st.sorted)
        ∙ ap (λ xs. xs ++ from kind next_slot all) (under-following kind bookmark k p rs ∙ ap (following kind bookmark) (sym records_are) ∙ sym items-are)

    taking-here : Taking size was all is (items ++ from kind next_slot all)
    taking-here = subst (λ rest. Taking size was all is rest) rest-parts w.taking

    -- the whole bucket is taken
    pub walking-more : Took size is items next true → Walking kind bookmark rs size was next next_slot
    walking-more took = record {
      first = ap (λ n. from kind n all) (aligned (room_at kind rs s) (room_at kind rs next_slot) s (λ e. room_shared (by_key kind) 7 rs s next_slot e));
      taking = taking-part size was all is items (from kind next_slot all) next taking-here fits took;
    }

    -- or not
    pub walking-stop : Took size is items next false → Took size was all next false
    walking-stop took = taking-end size was all is items (from kind next_slot all) next taking-here fits took
