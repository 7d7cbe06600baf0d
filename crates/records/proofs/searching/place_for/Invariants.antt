use Rattle.std.proofs.Common.{◌≡◌, ◌-◌, ◌≤◌, true, length}
use Rattle.records.specs.Items.{records_in}
use Rattle.records.specs.Searches.{Sorted}
use Rattle.records.proofs.Halved.{Between}
use Rattle.records.proofs.searching.place_for.Given as goal

abbrev pub invariant-loop-low : goal.invariant-loop-low
invariant-loop-low g l =
    (l.low ≤ l.high)
    × (l.high ≤ length (records_in l.block))
    × (Sorted g.K.KeyKind.kind (records_in l.block) → g.K.KeyKind.kind.lawful l.key ≡ true → Between g.K.KeyKind.kind (records_in l.block) l.key l.low l.high)

abbrev pub decreases-loop-low : goal.decreases-loop-low
decreases-loop-low g l = l.high - l.low
