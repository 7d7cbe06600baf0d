use Rattle.std.proofs.Common.{arith}
use Rattle.records.proofs.Halved.{raise_low, cut_high}
use Rattle.records.proofs.searching.place_for.Goals as goal

pub loop-low-preserved-then-is_before : goal.loop-low-preserved-then-is_before
loop-low-preserved-then-is_before g c = (
  omega arith,
  omega arith,
  λ s lk.
      let middle = c.midpoint-middle.result in
      let told = c.is_before.ensures (s.whole middle (omega arith)) in
      raise_low g.K.KeyKind.kind g.met.K.KeyKind.ordered _ s _ lk middle _ _ (omega arith) (grind arith) (c.loop-low.invariant.2 s lk),
)

pub loop-low-preserved : goal.loop-low-preserved
loop-low-preserved g c = (
  omega arith,
  omega arith,
  λ s lk.
      let middle = c.midpoint-middle.result in
      let told = c.is_before.ensures (s.whole middle (omega arith)) in
      cut_high g.K.KeyKind.kind g.met.K.KeyKind.ordered _ s _ lk middle _ _ (grind arith) (c.loop-low.invariant.2 s lk),
)
