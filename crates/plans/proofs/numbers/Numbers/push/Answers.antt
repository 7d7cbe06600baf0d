use Rattle.std.proofs.Common.{refl, arith}
use Rattle.std.proofs.lemmas.List.{take_more_set}
use Rattle.std.proofs.lemmas.Bool.Decides.{nat_tests}
use Rattle.plans.proofs.numbers.Numbers.push.Goals as goal

pub returns : goal.returns
returns c =
    let s = c.args.self.now in
    record {
      fits = grind (arith, nat_tests);
      list = take_more_set s.list s.len c.args.number (omega arith);
      len = refl;
    }
