use Rattle.std.proofs.Common.{refl, lit<}
use Rattle.header.specs.Headers.{deepest}
use Rattle.header.proofs.RunsLaws.{runs_one, rooms_one}
use Rattle.header.proofs.header.Header.single.Goals as goal

pub invariant_of-result : goal.invariant_of-result
unfolding deepest
invariant_of-result c = record {
  counted = lit< tt;
  lawful = runs_one c.args.bucket;
  small = rooms_one;
  deep = refl;
}
