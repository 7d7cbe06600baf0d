-- A window: some blocks of a device below, and what lies outside it.
use Rattle.std.specs.Prelude.{◌≡◌, ℕ, ◌+◌, ◌<◌, ◌≤◌, cond, List, [], length, take, drop, nat_le, slice_index_or}
use Rattle.window.specs.declared.span.Span.{Span}

-- the blocks of the span, or none where it reaches past the end
unfoldable pub view : List (List ℕ) → Span → List (List ℕ)
view blocks span = cond (nat_le (span.start + span.count) (length blocks)) (take span.count (drop span.start blocks)) []

-- as many blocks, and the same ones before the span and after it; where it reaches past the end, all the same
pub record SameOutside (span : Span) (blocks blocks' : List (List ℕ)) : Type 0 where
  pub len : length blocks ≡ length blocks'
  pub before : (b : ℕ) → b < span.start → slice_index_or blocks b [] ≡ slice_index_or blocks' b []
  pub beyond : (b : ℕ) → span.start + span.count ≤ b → slice_index_or blocks b [] ≡ slice_index_or blocks' b []
  pub all : length blocks < span.start + span.count → blocks ≡ blocks'
