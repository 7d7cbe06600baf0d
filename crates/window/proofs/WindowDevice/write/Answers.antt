use Rattle.std.proofs.Common.{refl, arith}
use Rattle.std.proofs.lemmas.Bool.Decides.{nat_tests}
use Rattle.window.proofs.Written.{view-after, outside_after}
use Rattle.window.proofs.WindowDevice.write.Goals as goal

pub returns-clause-served : goal.returns-clause-served
returns-clause-served g c = let p = c.in_ok-place.ensures.within in grind (arith, nat_tests)

pub returns-clause-sets : goal.returns-clause-sets
returns-clause-sets g c = let p = c.in_ok-place.ensures.within in view-after _ _ _ _ p.1 _ _ _ c.write.ensures.sets (omega (arith, p.0))

pub returns-clause-keeps : goal.returns-clause-keeps
returns-clause-keeps g c =
    let p = c.in_ok-place.ensures.within in
    (refl, (outside_after _ _ _ _ p.1 _ _ _ c.write.ensures.sets (omega (arith, p.0)), c.write.ensures.keeps))
