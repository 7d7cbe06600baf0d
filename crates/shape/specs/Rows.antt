-- The shape of rows.
use Rattle.std.specs.Prelude.{◌≡◌, ℕ, List}
use Rattle.shape.specs.Shapes.{Measure, Held, buckets, depth}
use Rattle.shape.specs.declared.row.Row.{Row}
use Rattle.shape.specs.declared.shapes.Shape.{Shape}

abbrev pub row_measure : Measure Row
row_measure = record { hash = λ r. r.hash; weight = λ r. r.weight }

-- the rows can be held, and these are their buckets under the prefix
pub record ShapeOf (k p : ℕ) (rows : List Row) (shape : Shape) : Type 0 where
  pub held : Held row_measure k p rows
  pub buckets : shape.buckets ≡ buckets row_measure k p rows
  pub depth : shape.depth ≡ depth row_measure k p rows
