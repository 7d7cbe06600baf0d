use Rattle.std.proofs.Common.{◌≡◌, ◌≤◌, true, sym, refl, ◌∙◌, arith}
use Rattle.std.proofs.lemmas.Slice.Eq.{slice_eq-Decides}
use Rattle.std.proofs.lemmas.Bool.Decides.{nat_tests, Decides-eqb}
use Rattle.records.specs.Items.{records_in}
use Rattle.records.specs.Records.{load}
use Rattle.buckets.specs.Blocks.{bucket_bytes}
use Rattle.buckets.proofs.check.is_rebuilt.Goals as goal

pub returns-in-Some : goal.returns-in-Some
returns-in-Some c =
    let block = c.args.block.now in
    let told = c.in-Some.ensures.bytes in
    let light : load (records_in block) ≤ 504 = grind (arith, nat_tests) in
    let built : c.in-Some.again ≡ bucket_bytes c.args.prefix (records_in block) = grind (arith, nat_tests) in
    let equal : c.eq.result ≡ true = cc in
    (λ e. (light, sym ((slice_eq-Decides Decides-eqb c.in-Some.again block c.eq.result c.eq.ensures).0 equal) ∙ built), λ h. refl)
