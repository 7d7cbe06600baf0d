use Rattle.std.proofs.Common.{◌≡◌, cond, set, is_ok, sym, ap, ◌∙◌, arith, rules}
use Rattle.std.proofs.lemmas.Bool.Decides.{nat_tests}
use Rattle.window.specs.View.{view, SameOutside}
use Rattle.window.proofs.Through.{through}
use Rattle.stacks.proofs.write_within.Goals as goal

pub returns-clause-sets : goal.returns-clause-sets
returns-clause-sets g c =
    let w = c.args.span in
    let bs = g.D.Device.contents c.args.device.now in
    let cs = g.D.Device.contents c.write.new.self.below.now in
    let b = c.args.block in
    let x = c.args.source.now in
    let r = is_ok c.write.result in
    let n = c.new-window.ensures in
    let a = c.write.ensures in
    let same_span : c.write.new.self.span ≡ w = sym a.keeps.0 ∙ n.blocks in
    let v : view cs w ≡ cond r (set (view bs w) b x) (view bs w) = simp (same_span, n.device, n.blocks) at a.sets in
    let o : SameOutside w bs cs = simp (n.device, n.blocks) at a.keeps.1.0 in
    ap g.D.Device.contents (search rules) ∙ through w bs cs b x r o (λ e. grind (arith, nat_tests)) v
