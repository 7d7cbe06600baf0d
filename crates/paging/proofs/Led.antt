-- What the bucket block of a slot tells.
use Rattle.std.proofs.Common.{◌≡◌, ℕ, ◌+◌, ◌*◌, ◌/◌, ◌%◌, ◌^◌, ◌<◌, List, get_or, Ok, Err, Result, refl, ap, ◌∙◌, subst, arith}
use Rattle.kinds.specs.Kinds.{Kind}
use Rattle.records.specs.Items.{records_in}
use Rattle.records.specs.Searches.{Sorted}
use Rattle.buckets.specs.Blocks.{bucket_bytes}
use Rattle.buckets.specs.declared.prefix.Prefix.{Prefix}
use Rattle.buckets.proofs.Held.{records_back}
use Rattle.shape.specs.Shapes.{under}
use Rattle.shape.specs.Keyed.{by_key}
use Rattle.shape.proofs.Rooms.{room_le}
use Rattle.index.specs.Stored.{Blocks, Stored, BucketIn, block, prefix_at, room_at, bucket_for, slots}
use Rattle.index.proofs.Reading.{bucket-light, sorted_under, number-told}

pub ok_same : {X E : Type 0} {x y : X} → ◌≡◌ {A = Result X E} (Ok x) (Ok y) → x ≡ y
ok_same e = cc

pub ok_err : {X E : Type 0} {x : X} {e : E} → ◌≡◌ {A = Result X E} (Err e) (Ok x) → ⊥
ok_err e = cc

bucket_tag : (prefix : Prefix) (rs : List (List ℕ)) → get_or (bucket_bytes prefix rs) 0 0 ≡ 3
unfolding bucket_bytes
bucket_tag prefix rs = refl

bucket_bits : (prefix : Prefix) (rs : List (List ℕ)) → get_or (bucket_bytes prefix rs) 1 0 ≡ prefix.bits
unfolding bucket_bytes
bucket_bits prefix rs = refl

-- the hash that a slot begins leads back to it
pub slot_back : (s : ℕ) → s < 128 → (s * 2 ^ 25 % 2 ^ 32 < 2 ^ 32) × (s * 2 ^ 25 % 2 ^ 32 / 2 ^ 25 ≡ s)
slot_back s l = (omega arith, omega arith)

module _ (kind : Kind) (blocks : Blocks) (head : ℕ) (rs : List (List ℕ)) (st : Stored kind blocks head rs) (s : ℕ) (l : s < 128) where
  abbrev pub room_here : ℕ
  room_here = room_at kind rs s

  abbrev pub bucket_here : List (List ℕ)
  bucket_here = under (by_key kind) room_here (s / 2 ^ room_here) rs

  pub bucket_records : records_in (bucket_for kind rs s) ≡ bucket_here
  bucket_records = records_back (prefix_at room_here (s / 2 ^ room_here)) bucket_here (bucket-light kind blocks head rs st s l)

  pub bucket_sorted : Sorted kind bucket_here
  bucket_sorted = sorted_under kind room_here (s / 2 ^ room_here) rs st.sorted

  pub bucket-room : (get_or (bucket_for kind rs s) 0 0 ≡ 3) × (get_or (bucket_for kind rs s) 1 0 + room_here ≡ 7)
  bucket-room =
      let prefix = prefix_at room_here (s / 2 ^ room_here) in
      (bucket_tag prefix bucket_here, omega (arith, bucket_bits prefix bucket_here, room_le (by_key kind) 7 rs s))

  -- what is read for the slot is its bucket
  pub bucket_read : (header : List ℕ) (number : ℕ) (bytes : List ℕ) → header ≡ block blocks head → BucketIn blocks header (s * 2 ^ 25 % 2 ^ 32) number bytes → bytes ≡ bucket_for kind rs s
  bucket_read header number bytes e b =
      let hash = s * 2 ^ 25 % 2 ^ 32 in
      let here = subst (λ h. BucketIn blocks h hash number bytes) e b in
      let n = number-told kind blocks head rs st hash (slot_back s l).0 number bytes here in
      b.bytes ∙ ap (block blocks) n ∙ ap (λ i. block blocks (get_or (slots (block blocks head)) i 0)) (slot_back s l).1 ∙ st.leads s l
