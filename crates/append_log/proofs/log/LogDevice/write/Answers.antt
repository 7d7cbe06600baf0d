use Rattle.std.proofs.Common.{arith}
use Rattle.append_log.proofs.Heads.{told}
use Rattle.append_log.proofs.Appending.{grown}
use Rattle.append_log.proofs.log.LogDevice.write.Goals as goal

pub overflow_cast-block : goal.overflow_cast-block
overflow_cast-block g c =
    let h = c.in_ok-used.ensures.head in
    let t = told (g.B.Bytes.bytes c.args.self.now.bytes) c.in_ok-used.field-0 h.0 in
    omega (arith, h.1, t.many)

pub invariant_of-self : goal.invariant_of-self
invariant_of-self g c =
    let h = c.in_ok-used.ensures.head in
    let w = grown (g.B.Bytes.bytes c.args.self.now.bytes) (g.B.Bytes.bytes c.put_record.new.bytes) c.args.source.now c.args.block c.in_ok-used.field-0 h.0 h.1 (omega arith) c.put_record.ensures.appends in
    record { checked = w.checked }

pub returns-clause-sets : goal.returns-clause-sets
returns-clause-sets g c =
    let h = c.in_ok-used.ensures.head in
    let w = grown (g.B.Bytes.bytes c.args.self.now.bytes) (g.B.Bytes.bytes c.put_record.new.bytes) c.args.source.now c.args.block c.in_ok-used.field-0 h.0 h.1 (omega arith) c.put_record.ensures.appends in
    w.sets

pub returns-clause-keeps : goal.returns-clause-keeps
returns-clause-keeps g c =
    let h = c.in_ok-used.ensures.head in
    let w = grown (g.B.Bytes.bytes c.args.self.now.bytes) (g.B.Bytes.bytes c.put_record.new.bytes) c.args.source.now c.args.block c.in_ok-used.field-0 h.0 h.1 (omega arith) c.put_record.ensures.appends in
    (c.put_record.ensures.keeps, w.keeps)

pub returns-clause-appends : goal.returns-clause-appends
returns-clause-appends g c =
    let h = c.in_ok-used.ensures.head in
    let w = grown (g.B.Bytes.bytes c.args.self.now.bytes) (g.B.Bytes.bytes c.put_record.new.bytes) c.args.source.now c.args.block c.in_ok-used.field-0 h.0 h.1 (omega arith) c.put_record.ensures.appends in
    w.appends
