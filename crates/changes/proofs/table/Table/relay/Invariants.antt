use Rattle.std.proofs.Common.{ℕ, List, length}
use Rattle.kinds.specs.Kinds.{Kind}
use Rattle.shape.specs.Buckets.{leaves}
use Rattle.shape.specs.Keyed.{by_key}
use Rattle.changes.specs.Relaying.{Named, Unnamed, Lays}
use Rattle.changes.proofs.table.Table.relay.Given as goal

abbrev pub invariant-loop-number : goal.invariant-loop-number
invariant-loop-number l =
    (kind : Kind) (new : List (List ℕ)) (k p : ℕ) → Lays kind new k p l.numbers l.blocks
    → Named (leaves (by_key kind) k p new) (length l.yielded) l.numbers l.self.slots l.self.rooms
    × Unnamed (leaves (by_key kind) k p new) (length l.yielded) l.initial.self.slots l.initial.self.rooms l.self.slots l.self.rooms
