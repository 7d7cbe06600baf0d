use Rattle.std.specs.Prelude.{true}
use Rattle.std.proofs.Common.{◌≡◌, ℕ, ◌+◌, ◌-◌, ◌<◌, [], get_or, refl, rules, arith}
use Rattle.std.proofs.iter.runs.Sources.{ranges}
use Rattle.records.specs.Records.{is_record, key_of}
use Rattle.shape.specs.Shapes.{prefix_of}
use Rattle.layout.proofs.splitting.cut.Goals as goal

pub returns-clause-low : goal.returns-clause-low
returns-clause-low g c =
    let rs = g.S.Source.records c.args.source.now in
    let p = c.find.ensures.runs.0 in
    let here : (k : ℕ) → c.args.from + k < c.unwrap_or.result → is_record (get_or rs (c.args.from + k) []) ≡ true → prefix_of c.args.low.room (g.K.KeyKind.kind.hash (key_of (get_or rs (c.args.from + k) []))) ≡ c.args.low.prefix
    = λ k l rec. let o : p.at k ≡ p.at k = refl in search (rules, ranges) in
    λ i lo hi rec. grind (arith, here (i - c.args.from))
