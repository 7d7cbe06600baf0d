use Rattle.std.proofs.Common.{◌≤◌, rules}
use Rattle.header.specs.Headers.{IsRoom}
use Rattle.header.proofs.FromFn.{from_fn_each}
use Rattle.header.proofs.codec.read_rooms.Goals as goal

pub returns : goal.returns
returns c = record {
  small = λ i l. from_fn_each (λ i x. x ≤ 7) c.from_fn.ensures.items (λ i y q called. search rules) i 0 l;
  only = λ i l. from_fn_each (IsRoom c.args.slots.now) c.from_fn.ensures.items (λ i y q called. search rules) i 0 l;
}
