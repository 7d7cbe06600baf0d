use Rattle.std.proofs.Common.{◌≡◌, ◌+◌, ◌≤◌, length, drop}
use Rattle.copying.specs.Copies.{laid}
use Rattle.copying.proofs.copy.write_all.Given as goal

abbrev pub invariant-loop-block : goal.invariant-loop-block
invariant-loop-block g l =
    let t = g.T.Device in
    let source = g.S.Device.contents l.source in
    (laid source (t.contents l.target) (drop l.block-index l.blocks) ≡ laid source (t.contents l.initial.target) l.blocks)
    × (length (t.contents l.target) ≡ length (t.contents l.initial.target))
    × (t.kept l.initial.target l.target)
    × (t.allowed l.initial.target ≤ t.allowed l.target + l.block-index)
    × (t.allowed l.target ≤ t.allowed l.initial.target)
    × (length l.buffer ≡ 512)
