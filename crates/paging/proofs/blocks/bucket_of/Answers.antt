use Rattle.std.proofs.Common.{◌*◌, ◌%◌, ◌^◌, Ok, ap, ◌∙◌}
use Rattle.header.specs.Headers.{pointer_in}
use Rattle.index.proofs.Reading.{bucket-there}
use Rattle.paging.proofs.Led.{slot_back, bucket_read}
use Rattle.paging.proofs.blocks.bucket_of.Goals as goal

pub returns-in_err-read_bucket : goal.returns-in_err-read_bucket
returns-in_err-read_bucket g c = λ kind head rs st e.
    let hash = c.args.slot * 2 ^ 25 % 2 ^ 32 in
    let none = c.in_err-read_bucket.ensures.1 in
    absurd (bucket-there kind (g.D.Device.contents c.args.device.now) head rs st hash (slot_back c.args.slot c.requires).0 (λ n l p. none n l (ap (λ h. pointer_in h hash) e ∙ p)))

pub returns : goal.returns
returns g c = λ kind head rs st e. let x = c.in_ok-read_bucket in
    ap Ok (bucket_read kind (g.D.Device.contents c.args.device.now) head rs st c.args.slot c.requires c.args.header.now c.in_ok-read_bucket.field-0.number c.in_ok-read_bucket.field-0.block e c.in_ok-read_bucket.ensures)
