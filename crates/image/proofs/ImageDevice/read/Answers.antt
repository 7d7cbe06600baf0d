use Rattle.std.proofs.Common.{◌≡◌, ◌+◌, ◌-◌, [], take, drop, sym, ap, ◌∙◌, arith}
use Rattle.image.specs.Lawful.{get_or-image_blocks}
use Rattle.image.proofs.ImageDevice.read.Goals as goal

pub returns-clause-after : goal.returns-clause-after
returns-clause-after g c =
    let xs = g.B.Bytes.bytes c.args.self.now.bytes in
    let at = c.in_ok-start.start in
    let s = c.in_ok-start.ensures.within in
    let n : (at + 512) - at ≡ 512 = omega arith in
    c.copy_from_slice.ensures.after
    ∙ ap (λ ys. take ((at + 512) - at) (drop at ys)) c.as_slice.ensures
    ∙ ap (λ m. take m (drop at xs)) n
    ∙ ap (λ k. take 512 (drop k xs)) s.1
    ∙ sym (get_or-image_blocks xs c.args.block [] s.0)
