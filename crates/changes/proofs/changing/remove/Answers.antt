use Rattle.std.proofs.Common.{Ok, Err, sym, subst}
use Rattle.std.proofs.lemmas.Result.{err_from_is_err_and}
use Rattle.records.specs.Ordered.{without}
use Rattle.index.specs.Stored.{block}
use Rattle.plans.specs.Editing.{RemovalPlanned}
use Rattle.changes.specs.Changing.{RemovalEnds}
use Rattle.changes.proofs.changing.remove.Goals as goal

pub returns-in_err-change-clause-removes : goal.returns-in_err-change-clause-removes
returns-in_err-change-clause-removes g c = λ rs st sp lk.
    let kind = g.K.KeyKind.kind in
    let d = c.args.device.now in
    let key = c.args.key.now in
    let told = subst (λ o. RemovalPlanned kind (block (g.D.Device.contents d) c.args.head) rs key (Ok o)) c.in-Some.is (c.in_ok-plan.ensures.plans rs st lk) in
    let ends = c.in_err-change.ensures.ends kind rs (without kind key rs) st told.1 sp in
    let p = err_from_is_err_and c.from_residual-in_err-change.result c.from_residual-in_err-change.ensures.1 in
    rw (p.1, p.2) (subst (λ e. RemovalEnds kind (g.D.Device.contents d) (g.D.Device.contents c.apply.new.device) (g.D.Device.allowed d) c.args.head rs key c.args.spare.now (Err e)) (sym ends.0) ends.1)

pub returns-clause-removes : goal.returns-clause-removes
returns-clause-removes g c = λ rs st sp lk.
    let kind = g.K.KeyKind.kind in
    let told = subst (λ o. RemovalPlanned kind (block (g.D.Device.contents c.args.device.now) c.args.head) rs c.args.key.now (Ok o)) c.in-Some.is (c.in_ok-plan.ensures.plans rs st lk) in
    (told.0, c.in_ok-change.ensures.ends kind rs (without kind c.args.key.now rs) st told.1 sp)
