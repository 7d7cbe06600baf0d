use Rattle.std.proofs.Common.{◌≡◌, ◌-◌, ◌/◌, ◌^◌, length, sum_by, sym, ap, ◌∙◌, subst, arith}
use Rattle.std.proofs.lemmas.List.{take_all}
use Rattle.records.specs.Records.{weight}
use Rattle.shape.specs.Shapes.{under}
use Rattle.shape.specs.Keyed.{by_key}
use Rattle.shape.proofs.Leaves.{few_buckets}
use Rattle.index.proofs.Reading.{load-sum}
use Rattle.layout.specs.Laid.{span, Unlaid}
use Rattle.layout.proofs.splitting.lay_out.Goals as goal

pub returns-in_err-split : goal.returns-in_err-split
returns-in_err-split g c = λ ys s l h w e.
    let kind = g.K.KeyKind.kind in
    let rs = g.S.Source.records c.args.source.now in
    let part = c.part-part.result in
    let p = c.args.slot / 2 ^ c.args.room in
    let branch = c.in_ok-new.field-0 in
    let room : part.room ≡ c.args.room = c.part-part.ensures.0 ∙ c.in_ok-new.ensures.1 in
    let prefix : part.prefix ≡ p = c.part-part.ensures.1 ∙ ap (λ n. n / 2 ^ branch.room) c.in_ok-new.ensures.0 ∙ ap (λ k. c.args.slot / 2 ^ k) c.in_ok-new.ensures.1 in
    let all : span 0 c.count.result rs ≡ rs = take_all (c.count.result - 0) rs (omega arith) in
    let same : under (by_key kind) part.room part.prefix ys ≡ under (by_key kind) c.args.room p ys = ap (λ k. under (by_key kind) k part.prefix ys) room ∙ ap (λ q. under (by_key kind) c.args.room q ys) prefix in
    let none = subst (λ q. Unlaid kind ys c.args.room q c.new-laid.result) prefix (subst (λ k. Unlaid kind ys k part.prefix c.new-laid.result) room (c.in_err-split.ensures ys s (all ∙ e ∙ sym same))) in
    rw c.from_residual-in_err-split.ensures (none (omega (arith, ap length c.new-laid.ensures, few_buckets (by_key kind) c.args.room p ys (omega (arith, load-sum rs, ap (sum_by weight) e)))))
