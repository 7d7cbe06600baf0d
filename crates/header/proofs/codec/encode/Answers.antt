use Rattle.std.proofs.Common.{◌≡◌, ◌∙◌, ap, rules}
use Rattle.header.specs.Headers.{byte_of}
use Rattle.header.proofs.Blocks.{deepest_small}
use Rattle.header.proofs.FromFn.{from_fn_each}
use Rattle.header.proofs.codec.encode.Goals as goal

pub from_fn-requires : goal.from_fn-requires
from_fn-requires c = search (rules, deepest_small)

pub returns : goal.returns
returns c =
    let header = c.args.header.now in
    record {
      long = c.from_fn.ensures.items.long;
      bytes = λ i l.
          from_fn_each (λ i x. x ≡ byte_of header.count header.depth header.slots i) c.from_fn.ensures.items (λ i y q called. search rules) i 0 l
          ∙ ap (λ d. byte_of header.count d header.slots i) header.deep;
    }
