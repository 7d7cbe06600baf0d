use Rattle.std.proofs.Common.{◌≡◌, vec_items}
use Rattle.copying.specs.Copies.{differing}
use Rattle.copying.proofs.copy.find_differing.Given as goal

abbrev pub invariant-loop-block : goal.invariant-loop-block
invariant-loop-block g l = vec_items l.found ≡ differing (g.S.Device.contents l.source) (g.T.Device.contents l.target) l.block
