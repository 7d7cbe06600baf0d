use Rattle.std.proofs.Common.{arith}
use Rattle.layout.proofs.Splits.{slot_prefix}
use Rattle.layout.proofs.branch.Branch.part.Goals as goal

pub invariant_of-result : goal.invariant_of-result
invariant_of-result c = record { deep = omega arith; inside = slot_prefix c.args.self.slot c.args.self.room (omega arith) (omega arith) }
