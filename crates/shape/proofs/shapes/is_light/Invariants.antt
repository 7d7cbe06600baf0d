use Rattle.std.proofs.Common.{◌≡◌, ◌≤◌, take}
use Rattle.shape.specs.Shapes.{load}
use Rattle.shape.specs.Rows.{row_measure}
use Rattle.shape.proofs.shapes.is_light.Given as goal

abbrev pub invariant-loop-row : goal.invariant-loop-row
invariant-loop-row l = (l.load ≤ 504) × (l.load ≡ load row_measure l.room l.prefix (take l.row-index l.rows))
