use Rattle.std.proofs.Common.{◌≡◌, true, ◌∙◌, arith}
use Rattle.std.proofs.lemmas.Slice.Eq.{slice_eq-Decides}
use Rattle.std.proofs.lemmas.Bool.Decides.{Decides-eqb}
use Rattle.header.specs.Headers.{deepest}
use Rattle.header.proofs.Blocks.{deepest_small, deep_read, parts_read, law_read, block_again, some_number}
use Rattle.header.proofs.codec.decode.Goals as goal

pub returns-then-deep-gt7-clause-whole : goal.returns-then-deep-gt7-clause-whole
returns-then-deep-gt7-clause-whole c = λ count slots rooms law enc.
    absurd (omega (arith, c.if-deep-gt7.true, deep_read count slots rooms c.args.block.now law enc, deepest_small rooms))

pub returns-in_err-header-clause-whole : goal.returns-in_err-header-clause-whole
returns-in_err-header-clause-whole c = λ count slots rooms law enc.
    let block = c.args.block.now in
    let found = c.read_rooms-rooms in
    let n = some_number (c.in_ok-count_in.ensures.told count (deepest rooms) slots law.count_fits enc) in
    let e = parts_read count slots rooms block law enc c.read_slots-slots.result found.result (omega arith) c.read_slots-slots.ensures (omega arith) found.ensures.only in
    absurd (c.in_err-header.ensures (law_read count slots rooms block law enc _ _ _ n e.0 e.1))

pub returns-clause-whole : goal.returns-clause-whole
returns-clause-whole c = λ count slots rooms law enc.
    let block = c.args.block.now in
    let found = c.read_rooms-rooms in
    let header = c.in_ok-header.header in
    let parts = c.in_ok-header.ensures in
    let n : header.count ≡ count = parts.1 ∙ some_number (c.in_ok-count_in.ensures.told count (deepest rooms) slots law.count_fits enc) in
    let e = parts_read count slots rooms block law enc c.read_slots-slots.result found.result (omega arith) c.read_slots-slots.ensures (omega arith) found.ensures.only in
    let s : header.slots ≡ slots = parts.2 ∙ e.0 in
    let r : header.rooms ≡ rooms = parts.3 ∙ e.1 in
    let same : c.eq.result ≡ true = (slice_eq-Decides Decides-eqb _ _ _ c.eq.ensures).1 (block_again count slots rooms block law enc header.count header.slots header.rooms c.encode.result n s r c.encode.ensures) in
    rw (c.then_some.ensures, same) (n, s, r)
