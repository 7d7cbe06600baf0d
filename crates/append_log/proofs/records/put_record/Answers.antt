use Rattle.std.proofs.Common.{◌≡◌, length, ap, arith}
use Rattle.device.proofs.Overwritten.{served}
use Rattle.append_log.proofs.Appending.{appended_by}
use Rattle.append_log.proofs.records.put_record.Goals as goal

pub returns-clause-appends : goal.returns-clause-appends
returns-clause-appends g c =
    let xs = g.B.Bytes.bytes c.args.bytes.now in
    let two : length c.to_be_bytes.result ≡ 2 = ap length c.to_be_bytes.ensures in
    let four : length c.to_be_bytes-2.result ≡ 4 = ap length c.to_be_bytes-2.ensures in
    let o = c.overwrite.ensures in
    let p = c.overwrite-2.ensures in
    let q = c.overwrite-3.ensures in
    let at = c.start_of-start.ensures in
    let fits = c.requires.fits in
    let whole = c.requires.whole in
    let u = served _ _ _ _ _ o.served o.sets (omega arith) in
    let v = served _ _ _ _ _ p.served p.sets (omega (arith, u.2)) in
    let w = served _ _ _ _ _ q.served q.sets (omega (arith, u.2, v.2)) in
    appended_by xs c.args.source.now c.args.used c.args.block fits whole (omega arith) c.requires.countable _ _ _ _ _ _ at c.to_be_bytes.ensures c.to_be_bytes-2.ensures u.1 v.1 w.1

pub returns-clause-keeps : goal.returns-clause-keeps
returns-clause-keeps g c =
    let onward = g.B.Bytes.laws.onward in
    onward _ _ _ (onward _ _ _ c.overwrite.ensures.keeps c.overwrite-2.ensures.keeps) c.overwrite-3.ensures.keeps
