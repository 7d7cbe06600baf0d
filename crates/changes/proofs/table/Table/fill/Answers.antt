use Rattle.std.proofs.Common.{ℕ, arith, length-take, length-drop}
use Rattle.changes.proofs.Relays.{filled}
use Rattle.changes.proofs.table.Table.fill.Goals as goal

pub returns-clause-slots : goal.returns-clause-slots
returns-clause-slots c = filled c.args.self.now.slots c.fill.new.self c.args.from c.args.to c.args.number _ c.requires.0 (omega arith) (omega (arith, length-take {A = ℕ}, length-drop {A = ℕ})) (c.fill.ensures.after (λ y h. h))

pub returns-clause-rooms : goal.returns-clause-rooms
returns-clause-rooms c = filled c.args.self.now.rooms c.fill-2.new.self c.args.from c.args.to c.args.room _ c.requires.0 (omega arith) (omega (arith, length-take {A = ℕ}, length-drop {A = ℕ})) (c.fill-2.ensures.after (λ y h. h))
