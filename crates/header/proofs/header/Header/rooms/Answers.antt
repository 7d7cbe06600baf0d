use Rattle.std.proofs.Common.{arith}
use Rattle.header.proofs.RunsLaws.{lawful_parts}
use Rattle.header.proofs.header.Header.rooms.Goals as goal

pub returns-clause-lawful : goal.returns-clause-lawful
returns-clause-lawful c =
    let header = c.args.self.now in
    lawful_parts header.count header.slots header.rooms header.counted (omega arith) (omega arith) header.small header.lawful
