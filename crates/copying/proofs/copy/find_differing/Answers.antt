use Rattle.std.proofs.Common.{◌≡◌, true, length, sym, ◌∙◌, arith}
use Rattle.std.proofs.lemmas.List.{append-nil}
use Rattle.std.proofs.lemmas.Result.{MatchResult-from_err}
use Rattle.copying.specs.Copies.{differs}
use Rattle.copying.proofs.Listed.{differing_more, differing_some}
use Rattle.copying.proofs.copy.find_differing.Goals as goal

pub returns-in_err-push : goal.returns-in_err-push
returns-in_err-push g c =
    let xs = g.S.Device.contents c.args.source.now in
    let ys = g.T.Device.contents c.args.target.now in
    let b = c.loop-block.block in
    let other : differs xs ys b ≡ true = sym c.is_other.ensures ∙ c.if-is_other.true in
    MatchResult-from_err c.from_residual.result _ _ c.from_residual.ensures.0 (λ _. differing_some xs ys (length xs) b (omega arith) other)

pub loop-block-preserved : goal.loop-block-preserved
loop-block-preserved g c =
    let more = differing_more (g.S.Device.contents c.args.source.now) (g.T.Device.contents c.args.target.now) c.loop-block.block in
    grind (arith, append-nil)
