use Rattle.std.proofs.Common.{◌≡◌, ◌+◌, ◌/◌, ◌^◌, ap, ◌∙◌, arith}
use Rattle.std.proofs.lemmas.Bool.{cond-true}
use Rattle.std.proofs.lemmas.Bool.Decides.{nat_tests}
use Rattle.records.specs.Records.{key_of}
use Rattle.shape.specs.Shapes.{prefix_of}
use Rattle.layout.proofs.part.Part.has.Goals as goal

pub returns : goal.returns
unfolding prefix_of
returns g c = λ t.
    let k = 25 + c.args.self.room in
    let e : c.from.result / 2 ^ k ≡ g.K.KeyKind.kind.hash (key_of c.args.bytes.now) / 2 ^ k = ap (λ h. h / 2 ^ k) (c.from.ensures ∙ c.hash_of.ensures ∙ cond-true _ _ _ t) in
    (λ z. grind (arith, nat_tests), λ z. grind (arith, nat_tests))
