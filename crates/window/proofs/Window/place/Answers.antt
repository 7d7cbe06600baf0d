use Rattle.std.proofs.Common.{◌<◌, length, refl, arith}
use Rattle.window.specs.View.{view}
use Rattle.window.specs.Lawful.{in_view}
use Rattle.window.proofs.Window.place.Goals as goal

pub overflow_add-result : goal.overflow_add-result
overflow_add-result g c =
    let d = c.args.self.now.below in
    let w = c.args.self.now.span in
    let l : c.args.block < length (view (g.D.Device.contents d) w) = omega arith in
    let i = in_view (g.D.Device.contents d) w c.args.block l in
    omega (arith, g.D.Device.laws.countable d)

pub returns-clause-within : goal.returns-clause-within
returns-clause-within g c =
    let bs = g.D.Device.contents c.args.self.now.below in
    let w = c.args.self.now.span in
    let l : c.args.block < length (view bs w) = omega arith in
    let i = in_view bs w c.args.block l in
    (refl, l, omega arith)
