use Rattle.std.proofs.Common.{◌<◌, refl, arith}
use Rattle.image.specs.Blocks.{whole_blocks}
use Rattle.image.specs.Lawful.{length-image_blocks}
use Rattle.image.proofs.Image.place.Goals as goal

pub returns-clause-within : goal.returns-clause-within
returns-clause-within g c =
    let xs = g.B.Bytes.bytes c.args.self.now.bytes in
    let l : c.args.block < whole_blocks xs = omega (arith, length-image_blocks xs) in
    (l, refl, omega arith, omega arith)
