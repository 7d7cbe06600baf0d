use Rattle.std.proofs.Common.{◌≡◌, ◌+◌, take, sum}
use Rattle.buckets.specs.Builds.{over}
use Rattle.pages.specs.Gathered.{pairs_by}
use Rattle.pages.proofs.gather.write_pairs.Given as goal

abbrev pub invariant-loop-n : goal.invariant-loop-n
invariant-loop-n l = (l.buffer ≡ over 4 (pairs_by l.start (take l.n l.lens)) l.initial.buffer) × (l.offset ≡ l.start + sum (take l.n l.lens))
