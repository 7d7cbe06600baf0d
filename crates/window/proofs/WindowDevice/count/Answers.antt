use Rattle.std.proofs.Common.{length, sym, ap, arith}
use Rattle.window.specs.Lawful.{length-view, view_out}
use Rattle.window.proofs.WindowDevice.count.Goals as goal

pub returns-then-end-from : goal.returns-then-end-from
returns-then-end-from g c = sym (length-view (g.D.Device.contents c.args.self.now.below) c.args.self.now.span (omega arith))

pub returns-else-end-from : goal.returns-else-end-from
returns-else-end-from g c = sym (ap length (view_out (g.D.Device.contents c.args.self.now.below) c.args.self.now.span (omega arith)))
