-- The test for records that can be held.
use Rattle.std.specs.Prelude.{ℕ, zero, suc, ◌+◌, ◌*◌, Bool, ◌&&◌, ◌||◌, List}
use Rattle.shape.specs.Shapes.{Measure, is_light}

-- a light prefix is held, a heavier one where both its halves are
unfoldable pub is_held : {X : Type 0} → Measure X → ℕ → ℕ → List X → Bool
is_held m zero p records = is_light m zero p records
is_held m (suc k) p records = is_light m (suc k) p records || (is_held m k (2 * p) records && is_held m k (2 * p + 1) records)
