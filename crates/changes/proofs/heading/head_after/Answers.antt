use Rattle.std.proofs.Common.{length, sym, ◌∙◌, subst}
use Rattle.header.specs.Headers.{Encodes, deepest}
use Rattle.index.specs.Stored.{block, slots, rooms}
use Rattle.changes.proofs.Heads.{headed-same}
use Rattle.changes.proofs.heading.head_after.Goals as goal

pub returns-then-plan : goal.returns-then-plan
returns-then-plan c = λ kind blocks head old new spare due e.
    let plan = c.args.plan.now in
    headed-same due (sym c.len.ensures.value ∙ c.if-len-eq1.true) c.if-plan.true c.recount.result
    (c.recount.ensures (length old) (deepest (rooms kind old)) (slots (block blocks head)) (subst (Encodes (length old) (deepest (rooms kind old)) (slots (block blocks head))) (sym due.planned.read) due.stored.header))
