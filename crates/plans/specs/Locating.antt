-- Where a key stands in an index that blocks store.
use Rattle.std.specs.Prelude.{◌≡◌, ℕ, ◌/◌, ◌^◌, List, length, slice_index}
use Rattle.kinds.specs.Kinds.{Kind}
use Rattle.records.specs.Items.{records_in}
use Rattle.records.specs.Searches.{PlacedAt}
use Rattle.shape.specs.Shapes.{under}
use Rattle.shape.specs.Keyed.{by_key}
use Rattle.index.specs.Stored.{Blocks, block, slots, room_at}
use Rattle.plans.specs.declared.located.Located.{Located}

pub record LocatedIn (kind : Kind) (blocks : Blocks) (head : ℕ) (records : List (List ℕ)) (key : List ℕ) (at : Located) : Type 0 where
  pub header : at.header ≡ block blocks head
  pub count : at.count ≡ length records
  pub slot : at.branch.slot ≡ kind.hash key / 2 ^ 25
  pub room : at.branch.room ≡ room_at kind records at.branch.slot
  pub number : at.number ≡ slice_index (slots (block blocks head)) at.branch.slot
  pub holds : records_in at.block ≡ under (by_key kind) at.branch.room (at.branch.slot / 2 ^ at.branch.room) records
  pub placed : PlacedAt kind (records_in at.block) key at.place
