use Rattle.std.proofs.Common.{◌≡◌, ◌≤◌, ◌++◌, drop, Some, sym, ap, ◌∙◌, arith}
use Rattle.std.proofs.lemmas.Bool.{cond-true, le-leb}
use Rattle.records.specs.Records.{load}
use Rattle.records.specs.Items.{records_in}
use Rattle.buckets.specs.Blocks.{bucket_bytes}
use Rattle.buckets.proofs.Held.{load_is, records_back}
use Rattle.buckets.proofs.Built.{headed}
use Rattle.buckets.proofs.builder.build.Goals as goal

pub overflow_cast-count : goal.overflow_cast-count
overflow_cast-count g c = omega (arith, load_is (g.S.Source.records c.args.source.now), c.in_ok-room_left.ensures)

pub returns : goal.returns
returns g c =
    let rs = g.S.Source.records c.args.source.now in
    let left = c.in_ok-room_left.ensures in
    let light : load rs ≤ 504 = omega arith in
    let bytes = headed c.args.prefix rs light in
    let e : c.copy_from_slice.new.self ++ drop 8 c.lay_records-block.result ≡ bucket_bytes c.args.prefix rs = rw (c.copy_from_slice.ensures.after, c.heading_bytes.ensures, c.count.ensures, c.lay_records-block.ensures) bytes in
    record {
      bytes = ap Some e ∙ sym (cond-true _ _ _ (le-leb (load rs) 504 light));
      back = ap records_in e ∙ records_back c.args.prefix rs light;
    }
