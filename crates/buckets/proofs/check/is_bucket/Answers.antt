use Rattle.std.proofs.Common.{sym, ◌∙◌}
use Rattle.buckets.proofs.Checked.{bucket_from, rebuilt_from-bucket, fit_from-bucket}
use Rattle.buckets.proofs.check.is_bucket.Goals as goal
use Rattle.buckets.proofs.check.is_bucket.Goals.{then-is_proper, else-is_proper}

pub returns-then-is_rebuilt : goal.returns-then-is_rebuilt
returns-then-is_rebuilt g c =
    let kind = g.K.KeyKind.kind in
    elim c.if-is_proper.branch [
      | then-is_proper w ↦ (
        λ e. bucket_from kind g.met.K.KeyKind.ordered c.args.prefix c.args.block.now (sym c.is_proper.ensures ∙ w.if-is_proper.true) (w.is_rebuilt.ensures.0 (sym w.value-is ∙ c.if-is_rebuilt.true)) (c.all_fit.ensures.0 e),
        λ b. c.all_fit.ensures.1 (fit_from-bucket kind c.args.prefix c.args.block.now b),
      )
      | else-is_proper w ↦ absurd (cc)
    ]

pub returns-else-is_rebuilt : goal.returns-else-is_rebuilt
returns-else-is_rebuilt g c =
    elim c.if-is_proper.branch [
      | then-is_proper w ↦ (λ e. absurd (cc), λ b. w.value-is ∙ w.is_rebuilt.ensures.1 (rebuilt_from-bucket g.K.KeyKind.kind c.args.prefix c.args.block.now b))
      | else-is_proper w ↦ (λ e. absurd (cc), λ b. let proper = b.1.proper in absurd (cc))
    ]
