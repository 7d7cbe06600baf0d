use Rattle.std.proofs.Common.{◌<◌, [], length, sym, ap, ◌∙◌, arith}
use Rattle.append_log.specs.Records.{latest, log_blocks}
use Rattle.append_log.specs.Replayed.{get_or-log_blocks}
use Rattle.append_log.proofs.Heads.{told}
use Rattle.append_log.proofs.log.LogDevice.read.Goals as goal

pub read-requires-clause-fits : goal.read-requires-clause-fits
read-requires-clause-fits g c =
    let t = told (g.B.Bytes.bytes c.args.self.now.bytes) c.in_ok-head.head c.in_ok-head.ensures.head.0 in
    omega (arith, ap length c.as_slice.ensures)

pub returns-clause-after : goal.returns-clause-after
returns-clause-after g c =
    let xs = g.B.Bytes.bytes c.args.self.now.bytes in
    let b = c.args.block in
    let h = c.in_ok-head.ensures.head in
    let t = told xs c.in_ok-head.head h.0 in
    let l : b < length (log_blocks xs) = omega arith in
    c.read.ensures ∙ ap (λ ys. latest ys c.in_ok-head.head.used b) c.as_slice.ensures ∙ ap (λ n. latest xs n b) t.records ∙ sym (get_or-log_blocks xs b [] l)
