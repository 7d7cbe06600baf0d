use Rattle.std.proofs.Common.{◌≡◌, ℕ, ◌+◌, ◌-◌, ◌*◌, ◌<◌, ◌++◌, length, get_or, take, sum, sym, ap, ◌∙◌, arith}
use Rattle.std.proofs.lemmas.List.{take_more, length-take-le}
use Rattle.std.proofs.lemmas.List.Sums.{sum_by_more}
use Rattle.buckets.specs.Builds.{over, pair}
use Rattle.buckets.proofs.Built.{put_is}
use Rattle.pages.specs.Gathered.{pairs_by}
use Rattle.pages.proofs.Cuts.{over-over, pairs_by_push, length-pairs_by}
use Rattle.pages.proofs.gather.write_pairs.Goals as goal

pub loop-n-preserved : goal.loop-n-preserved
loop-n-preserved c =
    let lens = c.args.lens.now in
    let n = c.loop-n.n in
    let start = c.args.start in
    let buffer = c.args.buffer.now in
    let len = get_or lens n 0 in
    let front = pairs_by start (take n lens) in
    let l : n < length lens = omega arith in
    let k : length front ≡ 4 * n = length-pairs_by start (take n lens) ∙ ap (λ m. 4 * m) (length-take-le n lens (omega arith)) in
    let step = over-over 4 (4 + 4 * n) front (pair (start + sum (take n lens)) len) buffer (omega arith) (omega arith) in
    let more : pairs_by start (take (n + 1) lens) ≡ front ++ pair (start + sum (take n lens)) len = ap (pairs_by start) (take_more lens n 0 l) ∙ pairs_by_push start (take n lens) len in
    let total = sum_by_more (λ (x : ℕ). x) lens n 0 l in
    let written = c.copy_from_slice.ensures.after ∙ c.pair_bytes.ensures in
    let put = put_is (4 + 4 * n) (4 + 4 * n + 4 - (4 + 4 * n)) c.loop-n.buffer c.copy_from_slice.new.self (omega (arith, ap length written)) in
    let was = c.loop-n.invariant in
    (put ∙ rw (written, was.0, was.1) step ∙ ap (λ x. over 4 x buffer) (sym more), omega arith)
