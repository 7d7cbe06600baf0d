-- The shape of records under a kind: by the hash of their key, and by their weight.
use Rattle.std.specs.Prelude.{ℕ, List}
use Rattle.kinds.specs.Kinds.{Kind}
use Rattle.records.specs.Records.{key_of, weight}
use Rattle.shape.specs.Shapes.{Measure}

abbrev pub by_key : Kind → Measure (List ℕ)
by_key kind = record { hash = λ r. kind.hash (key_of r); weight = weight }
