use Rattle.std.specs.Prelude.{if◌then◌else◌, slice_set}
use Rattle.std.proofs.Common.{ℕ, List, sym, ap, ◌∙◌, subst, arith}
use Rattle.device.proofs.Overwritten.{served}
use Rattle.image.specs.Blocks.{image_blocks, SameBeyond}
use Rattle.image.proofs.Written.{overwritten, blocks_after, beyond_after}
use Rattle.image.proofs.ImageDevice.write.Goals as goal

pub returns-clause-sets : goal.returns-clause-sets
returns-clause-sets g c =
    let xs = g.B.Bytes.bytes c.args.self.now.bytes in
    let ys = c.args.source.now in
    let b = c.args.block in
    let s = c.in_ok-start.ensures.within in
    let o = c.overwrite.ensures in
    let w = served xs ys _ _ _ o.served o.sets (omega arith) in
    ap image_blocks (overwritten xs ys b s.0 s.3 _ _ _ w.1 s.1 s.3)
    ∙ blocks_after xs ys b s.0 s.3
    ∙ ap (λ ok. if ok then slice_set (image_blocks xs) b ys else image_blocks xs) (sym w.0)

pub returns-clause-keeps : goal.returns-clause-keeps
returns-clause-keeps g c =
    let xs = g.B.Bytes.bytes c.args.self.now.bytes in
    let ys = c.args.source.now in
    let b = c.args.block in
    let s = c.in_ok-start.ensures.within in
    let o = c.overwrite.ensures in
    let w = served xs ys _ _ _ o.served o.sets (omega arith) in
    (o.keeps, subst (λ (zs : List ℕ). SameBeyond xs zs) (sym (overwritten xs ys b s.0 s.3 _ _ _ w.1 s.1 s.3)) (beyond_after xs ys b s.0 s.3))
