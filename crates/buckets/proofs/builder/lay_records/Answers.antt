use Rattle.std.proofs.Common.{ℕ, length, replicate, sym, refl, ap, ◌∙◌, arith}
use Rattle.buckets.proofs.Built.{partly_none, partly_put, start_more}
use Rattle.buckets.proofs.builder.lay_records.Goals as goal

pub loop-n-init : goal.loop-n-init
loop-n-init g c = (partly_none (replicate {A = ℕ} 8 0) refl (g.S.Source.records c.args.source.now) c.requires, omega arith)

pub loop-n-preserved : goal.loop-n-preserved
loop-n-preserved g c =
    let rs = g.S.Source.records c.args.source.now in
    let zeros = replicate {A = ℕ} 8 0 in
    let item = c.copy_from_slice-in-loop-n.ensures.after in
    let next = start_more zeros refl rs c.requires c.loop-n.n (omega arith) in (
      partly_put zeros refl rs c.requires c.loop-n.n c.loop-n.at _ _ _ c.loop-n.block _ _ (omega arith) c.loop-n.invariant.0 c.loop-n.invariant.1 (item ∙ c.record-record.ensures) (sym (ap length item)) (c.copy_from_slice.ensures.after ∙ c.pair_bytes.ensures) (omega arith) (omega arith),
      (cc),
    )
