use Rattle.std.proofs.Common.{◌≡◌, take, false, sym, refl, subst, arith}
use Rattle.std.proofs.lemmas.Result.{err_from_is_err_and}
use Rattle.std.proofs.lemmas.Bool.{both_ways}
use Rattle.index.specs.declared.fault.Fault.TheVariants.{NoRoom}
use Rattle.plans.specs.Planned.{numbers_of, Changed}
use Rattle.changes.proofs.changing.apply.Goals as goal

pub returns-in_err-make-clause-ends : goal.returns-in_err-make-clause-ends
returns-in_err-make-clause-ends g c = λ kind old new st pl sp.
    let m = c.in_err-make.ensures.makes kind old new st pl sp in
    let few = c.taken-taken.ensures.few in
    let p = err_from_is_err_and c.from_residual.result c.from_residual.ensures.1 in
    let scarce = m.scarce refl in
    let none : c.in_err-make.field-0.0 ≡ NoRoom = cc in
    rw (p.1, p.2) (none, λ a b. both_ways false refl (m.served.1 (omega (arith, a, few), omega (arith, b, few))))

pub returns-clause-ends : goal.returns-clause-ends
returns-clause-ends g c = λ kind old new st pl sp.
    subst (λ n. Changed kind (g.D.Device.contents c.args.device.now) (g.D.Device.contents c.make.new.device) c.args.head old new (take n c.args.spare.now) (numbers_of c.args.plan.given)) (sym c.taken-taken.ensures.value) ((c.in_ok-make.ensures.makes kind old new st pl sp).changed refl)
