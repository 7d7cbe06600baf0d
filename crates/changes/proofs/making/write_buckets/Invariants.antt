use Rattle.std.proofs.Common.{◌≡◌, ◌+◌, ◌≤◌, length, drop}
use Rattle.changes.specs.Making.{written}
use Rattle.changes.proofs.making.write_buckets.Given as goal

abbrev pub invariant-loop-number : goal.invariant-loop-number
invariant-loop-number g l =
    (written (g.D.Device.contents l.device) (drop (length l.yielded) l.numbers) (drop (length l.yielded) l.blocks) ≡ written (g.D.Device.contents l.initial.device) l.numbers l.blocks)
    × (length (g.D.Device.contents l.device) ≡ length (g.D.Device.contents l.initial.device))
    × (g.D.Device.allowed l.initial.device ≤ g.D.Device.allowed l.device + length l.yielded)
    × (g.D.Device.allowed l.device ≤ g.D.Device.allowed l.initial.device)
    × g.D.Device.kept l.initial.device l.device
