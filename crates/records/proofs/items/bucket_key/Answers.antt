use Rattle.records.proofs.Itemized.{record_told}
use Rattle.records.proofs.items.bucket_key.Goals as goal

pub returns : goal.returns
returns c =
    let told = record_told c.args.block.now c.args.n _ c.in_ok-bucket_record.ensures in
    let parts = c.in_ok-record.ensures in
    rw told.1 (told.0, parts.0, parts.1)
