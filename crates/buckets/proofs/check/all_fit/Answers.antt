use Rattle.std.proofs.Common.{◌≡◌, refl, rules}
use Rattle.std.proofs.iter.runs.Sources.{ranges}
use Rattle.buckets.proofs.check.all_fit.Goals as goal

pub returns : goal.returns
returns g c = (λ e n l. let p = c.all.ensures.runs.0 in let o : p.at n ≡ p.at n = refl in search (rules, ranges), λ fit. search (rules, ranges))
