use Rattle.std.proofs.Common.{sym, ◌∙◌, arith}
use Rattle.std.proofs.lemmas.Bool.Decides.{nat_tests}
use Rattle.append_log.proofs.Heads.{told, no_blocks}
use Rattle.append_log.proofs.log.Log.head_for.Goals as goal

pub returns-in_err-head-clause-served : goal.returns-in_err-head-clause-served
returns-in_err-head-clause-served g c =
    let none = no_blocks (g.B.Bytes.bytes c.args.self.now.bytes) (sym c.in_err-head.ensures.ok_part ∙ c.args.self.now.checked) in
    let refused = c.from_residual.ensures.0 in
    grind (arith, nat_tests)

pub returns-then-block-from-clause-served : goal.returns-then-block-from-clause-served
returns-then-block-from-clause-served g c =
    let t = told (g.B.Bytes.bytes c.args.self.now.bytes) c.in_ok-head.head (sym c.in_ok-head.ensures.ok_part ∙ c.args.self.now.checked) in
    grind (arith, nat_tests)

pub returns-clause-served : goal.returns-clause-served
returns-clause-served g c =
    let t = told (g.B.Bytes.bytes c.args.self.now.bytes) c.in_ok-head.head (sym c.in_ok-head.ensures.ok_part ∙ c.args.self.now.checked) in
    grind (arith, nat_tests)
