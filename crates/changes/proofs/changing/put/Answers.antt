use Rattle.std.proofs.Common.{ℕ, List, Ok, Err, Result, sym, subst}
use Rattle.kinds.specs.Kinds.{Kind}
use Rattle.records.specs.Ordered.{put}
use Rattle.index.specs.declared.fault.Fault.{Fault}
use Rattle.index.specs.Stored.{Blocks}
use Rattle.changes.specs.declared.change.Change.{Change}
use Rattle.changes.specs.Changing.{ChangeEnds, PutEnds}
use Rattle.changes.proofs.changing.put.Goals as goal

ends_of : (kind : Kind) (before after : Blocks) (allowed head : ℕ) (rs : List (List ℕ)) (bytes spare : List ℕ) (r : Result Change Fault)
    → ChangeEnds kind before after allowed head rs (put kind bytes rs) spare r → PutEnds kind before after allowed head rs bytes spare r
ends_of kind before after allowed head rs bytes spare (Ok change) e = e
ends_of kind before after allowed head rs bytes spare (Err fault) e = subst (λ f. PutEnds kind before after allowed head rs bytes spare (Err f)) (sym e.0) e.1

pub returns-clause-puts : goal.returns-clause-puts
returns-clause-puts g c = λ rs st sp t. ends_of g.K.KeyKind.kind _ _ _ _ rs _ _ c.apply.result (c.apply.ensures.ends g.K.KeyKind.kind rs (put g.K.KeyKind.kind c.args.bytes.now rs) st (c.in_ok-plan.ensures.plans rs st t) sp)
