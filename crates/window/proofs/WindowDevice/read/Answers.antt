use Rattle.std.proofs.Common.{[], cond, is_ok, get_or, sym, ap, ◌∙◌, arith}
use Rattle.std.proofs.lemmas.Bool.Decides.{nat_tests}
use Rattle.window.specs.Lawful.{get_or-view}
use Rattle.window.proofs.WindowDevice.read.Goals as goal

pub returns-clause-served : goal.returns-clause-served
returns-clause-served g c = let p = c.in_ok-place.ensures.within in grind (arith, nat_tests)

pub returns-clause-after : goal.returns-clause-after
returns-clause-after g c =
    let bs = g.D.Device.contents c.args.self.now.below in
    let p = c.in_ok-place.ensures.within in
    c.read.ensures.after ∙ ap (λ x. cond (is_ok c.read.result) x c.args.buffer.now) (ap (λ k. get_or bs k []) (omega (arith, p.0)) ∙ sym (get_or-view bs c.args.self.now.span c.args.block [] p.1))
