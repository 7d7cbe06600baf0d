use Rattle.std.proofs.Common.{◌≡◌, rules}
use Rattle.header.specs.Headers.{slot_in}
use Rattle.header.proofs.FromFn.{from_fn_each}
use Rattle.header.proofs.codec.read_slots.Goals as goal

pub returns : goal.returns
returns c = λ i l. from_fn_each (λ i x. x ≡ slot_in c.args.block.now c.args.deep i) c.from_fn.ensures.items (λ i y q called. search rules) i 0 l
