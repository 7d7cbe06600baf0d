use Rattle.std.proofs.Common.{◌≡◌, ℕ, ◌<◌, get_or, sym, subst, arith, rules}
use borrow.Rule.Slice.PartMut.{put_mid}
use Rattle.words.specs.BigEndian.{bytes32}
use Rattle.header.specs.Headers.{recounted, Encodes}
use Rattle.header.proofs.Blocks.{recount_bytes, recount_encodes}
use Rattle.header.proofs.codec.set_count.Goals as goal

pub returns : goal.returns
returns c =
    let block = c.args.block.now in
    let count = c.args.count in
    let e : c.copy_from_slice.new.self ≡ bytes32 count = search rules in
    record {
      bytes = subst (λ ys. (i : ℕ) → i < 512 → get_or (put_mid 2 4 block ys) i 0 ≡ recounted block count i) (sym e) (recount_bytes block count (omega arith));
      told = λ old depth slots enc. subst (λ ys. Encodes count depth slots (put_mid 2 4 block ys)) (sym e) (recount_encodes block count old depth slots enc);
    }
