-- Merging step by step.
use Rattle.std.proofs.Common.{◌≡◌, ℕ, suc, ◌/◌, ◌^◌, ◌<◌, ◌≤◌, false, List, [], ◌∷◌, ◌++◌, get_or, sym, ap, ◌∙◌, arith}
use Rattle.kinds.specs.Kinds.{Kind}
use Rattle.shape.specs.Shapes.{is_light}
use Rattle.shape.specs.Buckets.{leaves}
use Rattle.shape.specs.Keyed.{by_key}
use Rattle.shape.proofs.Rooms.{room_above, heavy_up}
use Rattle.index.specs.declared.blocks.Bucket.{Bucket}
use Rattle.index.specs.Stored.{Blocks, slots, room_at, pointers, times}
use Rattle.plans.specs.declared.merge.Merge.{Merge}
use Rattle.plans.specs.Planned.{numbers_of}
use Rattle.plans.specs.Merging.{Under, Joins, Reached, Merged}
use Rattle.plans.proofs.Merges.{times-append, bucket-leaves}

module _ {kind : Kind} {blocks : Blocks} {head : ℕ} {header : List ℕ} {old new : List (List ℕ)} {s : ℕ} where
  pub reached_start : {k : ℕ} {bytes : List ℕ} → Under kind blocks head header old new s k bytes → room_at kind old s ≡ k → Reached kind blocks head header old new s k bytes []
  reached_start {k} u e = record {
    under = u;
    names = λ b. sym (ap (λ h. times b (pointers h (leaves (by_key kind) k (s / 2 ^ k) old))) u.read ∙ ap (times b) (bucket-leaves u.stored s k u.slot e) ∙ ap (λ h. times b (get_or (slots h) s 0 ∷ [])) (sym u.read));
  }

  pub reached_more : {k : ℕ} {bytes given : List ℕ} {beside : Bucket} → Reached kind blocks head header old new s k bytes given → Joins kind header old new s k beside
      → Reached kind blocks head header old new s (suc k) beside.block (given ++ beside.number ∷ [])
  reached_more {given = given} {beside = beside} r j = record {
    under = record {
      stored = r.under.stored;
      read = r.under.read;
      sorted = r.under.sorted;
      slot = r.under.slot;
      differ = r.under.differ;
      above = omega (arith, r.under.above);
      light = j.light;
      holds = j.bytes;
    };
    names = λ b. omega (arith, times-append b (get_or (slots header) s 0 ∷ given) (beside.number ∷ []), r.names b, j.named b);
  }

  pub merged_end : (merge : Merge) → merge.room ≤ 7 → Reached kind blocks head header old new s merge.room merge.block (numbers_of merge.given)
      → (merge.room < 7 → is_light (by_key kind) (suc merge.room) (s / 2 ^ suc merge.room) new ≡ false) → Merged kind header old new s merge
  merged_end merge deep r next = record {
    deep = deep;
    light = r.under.light;
    heavy = λ j l b. (room_above (by_key kind) 7 old s j (omega (arith, r.under.above)) b, heavy_up (by_key kind) (suc merge.room) j s new (omega arith) (next (omega arith)));
    bytes = r.under.holds;
    given = r.names;
  }
