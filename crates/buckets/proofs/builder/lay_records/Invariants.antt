use Rattle.std.proofs.Common.{◌≡◌, ℕ, replicate}
use Rattle.buckets.specs.Builds.{start_of, partly}
use Rattle.buckets.proofs.builder.lay_records.Given as goal

abbrev pub invariant-loop-n : goal.invariant-loop-n
invariant-loop-n g l = let rs = g.S.Source.records l.source in (l.block ≡ partly (replicate {A = ℕ} 8 0) rs l.n) × (l.at ≡ start_of rs l.n)
