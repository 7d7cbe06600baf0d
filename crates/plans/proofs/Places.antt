-- What is read of the bucket of a key.
use Rattle.std.proofs.Common.{◌≡◌, ℕ, ◌-◌, ◌/◌, ◌^◌, ◌<◌, List, get_or, sym, refl, ap, ◌∙◌, subst, arith}
use Rattle.kinds.specs.Kinds.{Kind}
use Rattle.records.specs.Items.{records_in}
use Rattle.records.specs.Searches.{Sorted}
use Rattle.buckets.specs.declared.prefix.Prefix.{Prefix}
use Rattle.buckets.specs.Blocks.{bucket_bytes}
use Rattle.shape.specs.Shapes.{under, prefix_of}
use Rattle.shape.specs.Keyed.{by_key}
use Rattle.shape.proofs.Halves.{prefix_far}
use Rattle.shape.proofs.Rooms.{room_le}
use Rattle.index.specs.Stored.{Blocks, block, slots, room_at, prefix_at, Stored, BucketIn}
use Rattle.index.proofs.Reading.{slot_of, slot_below, number-told, records-told, sorted_under}

bits_in : (prefix : Prefix) (rs : List (List ℕ)) → get_or (bucket_bytes prefix rs) 1 0 ≡ prefix.bits
unfolding bucket_bytes
bits_in prefix rs = refl

pub slot_prefix_of : (k h : ℕ) → prefix_of k h ≡ h / 2 ^ 25 / 2 ^ k
slot_prefix_of k h = prefix_far k h ∙ ap (λ n. n / 2 ^ k) (slot_of h)

module _ {kind : Kind} {blocks : Blocks} {head : ℕ} {rs : List (List ℕ)} (st : Stored kind blocks head rs) where
  pub bits_told : (s : ℕ) → s < 128 → get_or (block blocks (get_or (slots (block blocks head)) s 0)) 1 0 ≡ 7 - room_at kind rs s
  bits_told s l = ap (λ b. get_or b 1 0) (st.leads s l) ∙ bits_in (prefix_at (room_at kind rs s) (s / 2 ^ room_at kind rs s)) (under (by_key kind) (room_at kind rs s) (s / 2 ^ room_at kind rs s) rs)

  module _ {hash : ℕ} (l : hash < 2 ^ 32) {header : List ℕ} (same : header ≡ block blocks head) {number : ℕ} {bytes : List ℕ} (b : BucketIn blocks header hash number bytes) where
    at_head : BucketIn blocks (block blocks head) hash number bytes
    at_head = subst (λ h. BucketIn blocks h hash number bytes) same b

    pub number_is : number ≡ get_or (slots (block blocks head)) (hash / 2 ^ 25) 0
    number_is = number-told kind blocks head rs st hash l number bytes at_head

    pub bits_is : get_or bytes 1 0 ≡ 7 - room_at kind rs (hash / 2 ^ 25)
    bits_is = ap (λ x. get_or x 1 0) (b.bytes ∙ ap (block blocks) number_is) ∙ bits_told (hash / 2 ^ 25) (slot_below hash l)

    pub room_is : 7 - get_or bytes 1 0 ≡ room_at kind rs (hash / 2 ^ 25)
    room_is = omega (arith, bits_is, room_le (by_key kind) 7 rs (hash / 2 ^ 25))

    pub holds-is : (k : ℕ) → k ≡ room_at kind rs (hash / 2 ^ 25) → records_in bytes ≡ under (by_key kind) k (hash / 2 ^ 25 / 2 ^ k) rs
    holds-is k e =
        subst (λ n. records_in bytes ≡ under (by_key kind) n (hash / 2 ^ 25 / 2 ^ n) rs) (sym e)
        (records-told kind blocks head rs st hash l number bytes at_head ∙ ap (λ p. under (by_key kind) (room_at kind rs (hash / 2 ^ 25)) p rs) (slot_prefix_of (room_at kind rs (hash / 2 ^ 25)) hash))

    pub holds-sorted : Sorted kind (records_in bytes)
    holds-sorted = subst (Sorted kind) (sym (records-told kind blocks head rs st hash l number bytes at_head)) (sorted_under kind _ _ rs st.sorted)
