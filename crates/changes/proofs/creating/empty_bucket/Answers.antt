use Rattle.std.proofs.Common.{◌≡◌, [], Some, refl}
use Rattle.records.specs.Items.{records_in}
use Rattle.buckets.specs.Blocks.{bucket_bytes}
use Rattle.index.specs.Stored.{prefix_at}
use Rattle.changes.proofs.creating.empty_bucket.Goals as goal

-- no bytes tell no records
no_records : records_in [] ≡ []
unfolding records_in
no_records = refl

pub returns : goal.returns
returns c =
    let some : c.build.result ≡ Some (bucket_bytes (prefix_at 7 0) []) = rw no_records at c.build.ensures.bytes in
    rw (c.ok_or.ensures.value, some) refl
