use Rattle.std.proofs.Common.{arith}
use Rattle.std.proofs.lemmas.Bool.Decides.{nat_tests}
use Rattle.header.proofs.Blocks.{count_byte}
use Rattle.header.proofs.codec.byte.Goals as goal

pub returns-in-2-to-5 : goal.returns-in-2-to-5
returns-in-2-to-5 c = grind (arith, nat_tests, c.to_be_bytes.ensures, count_byte c.args.count c.args.i (omega arith) (omega arith))
