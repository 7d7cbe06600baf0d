use Rattle.std.proofs.Common.{[], ◌∷◌, ◌++◌, sym, ap, ◌∙◌}
use Rattle.plans.proofs.Plans.{edited_under, planned_light}
use Rattle.plans.proofs.planning.plan_light.Goals as goal

pub returns-in_err-merge : goal.returns-in_err-merge
returns-in_err-merge g c = λ kind head old new changed e bounded l b.
    absurd (c.in_err-merge.ensures kind head old new (edited_under e bounded c.args.bytes l b) (sym e.room))

pub returns : goal.returns
returns g c = λ kind head old new changed e bounded l b.
    let m = c.in_ok-merge.ensures kind head old new (edited_under e bounded c.args.bytes l b) (sym e.room) in
    planned_light e bounded c.in_ok-merge.merge c.push.new.self m (c.push.ensures.items ∙ ap (λ xs. xs ++ c.in_ok-merge.merge.block ∷ []) c.new-laid.ensures)
