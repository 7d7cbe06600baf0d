use Rattle.std.proofs.Common.{◌≡◌, ◌+◌, ◌*◌, ◌<◌, length, take, MatchOption, ap, subst, rules, arith}
use Rattle.std.proofs.lemmas.List.{take_all}
use Rattle.records.specs.Records.{load}
use Rattle.buckets.specs.Blocks.{size}
use Rattle.buckets.proofs.Held.{load_is, size_take}
use Rattle.buckets.proofs.Built.{size_more}
use Rattle.buckets.proofs.Tried.{tried}
use Rattle.buckets.proofs.builder.room_left.Goals as goal

pub returns : goal.returns
returns g c =
    let rs = g.S.Source.records c.args.source.now in
    let weighed : 4 * length rs + size (take c.count-2.result rs) ≡ load rs = omega (arith, load_is rs, ap size (take_all c.count-2.result rs (omega arith))) in
    subst (λ n. MatchOption c.try_fold.result (504 < load rs) (λ left. left + n ≡ 504)) weighed
    (tried _ _ _ c.count-2.result (λ n a. a + (4 * length rs + size (take n rs)) ≡ 504) (λ x a k v f' l h call on. let m = size_more rs x (omega arith) in search rules)
    c.in_ok-pairs.pairs (omega arith) c.try_fold.result (504 < load rs) (λ x a f' l h call. let m = size_take rs x (omega arith) in let w = load_is rs in search rules) _ c.try_fold.ensures.ran)
