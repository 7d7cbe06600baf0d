use Rattle.std.proofs.Common.{◌≡◌, ℕ, ◌-◌, ◌≤◌, List}
use Rattle.kinds.specs.Kinds.{Kind}
use Rattle.index.specs.Stored.{room_at}
use Rattle.plans.specs.Planned.{numbers_of}
use Rattle.plans.specs.Merging.{Under, Reached}
use Rattle.plans.proofs.merging.climb.Given as goal

abbrev pub invariant-loop-branch : goal.invariant-loop-branch
invariant-loop-branch g l =
    (l.given.len ≤ l.branch.room) × (l.branch.slot ≡ l.fn.start.slot)
    × ((kind : Kind) (head : ℕ) (old new : List (List ℕ)) → Under kind (g.D.Device.contents l.device) head l.header old new l.fn.start.slot l.fn.start.room l.initial.block → room_at kind old l.fn.start.slot ≡ l.fn.start.room
    → Reached kind (g.D.Device.contents l.device) head l.header old new l.fn.start.slot l.branch.room l.block (numbers_of l.given))

abbrev pub decreases-loop-branch : goal.decreases-loop-branch
decreases-loop-branch g l = 7 - l.branch.room
