use Rattle.std.proofs.Common.{length, ap, arith}
use Rattle.image.specs.Lawful.{length-image_blocks}
use Rattle.image.proofs.ImageDevice.count.Goals as goal

pub returns : goal.returns
returns g c = omega (arith, length-image_blocks (g.B.Bytes.bytes c.args.self.now.bytes), ap length c.as_slice.ensures)
