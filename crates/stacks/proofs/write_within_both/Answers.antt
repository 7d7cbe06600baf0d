use Rattle.std.proofs.Common.{◌≡◌, ◌+◌, ◌<◌, true, cond, length, set, is_ok, sym, ap, ◌∙◌, arith, rules}
use Rattle.std.proofs.lemmas.Bool.Decides.{nat_tests}
use Rattle.window.specs.View.{view, SameOutside}
use Rattle.window.specs.Lawful.{in_view}
use Rattle.window.proofs.Through.{through}
use Rattle.stacks.proofs.write_within_both.Goals as goal

pub returns-clause-sets : goal.returns-clause-sets
returns-clause-sets g c =
    let w = c.args.outer in
    let u = c.args.inner in
    let bs = g.D.Device.contents c.args.device.now in
    let cs = g.D.Device.contents c.write_within.new.device.below.now in
    let b = c.args.block in
    let x = c.args.source.now in
    let r = is_ok c.write_within.result in
    let n = c.new-window.ensures in
    let a = c.write_within.ensures in
    let same_span : c.write_within.new.device.span ≡ w = sym a.keeps.0 ∙ n.blocks in
    let v : view cs w ≡ cond r (set (view bs w) (u.start + b) x) (view bs w) = simp (same_span, n.device, n.blocks) at a.sets in
    let o : SameOutside w bs cs = simp (n.device, n.blocks) at a.keeps.1.0 in
    let s = simp (n.device, n.blocks) at a.served in
    let l : r ≡ true → u.start + b < length (view bs w) = λ e. let m : b < length (view (view bs w) u) = grind (arith, nat_tests) in let i = in_view (view bs w) u b m in omega arith in
    ap g.D.Device.contents (search rules) ∙ through w bs cs (u.start + b) x r o l v
