use Rattle.std.proofs.Common.{◌≡◌, ℕ, ◌+◌, ◌-◌, ◌*◌, ◌/◌, ◌^◌, ◌<◌, ◌≤◌, List, length, get_or, Some, sym, ap, ◌∙◌, arith}
use Rattle.std.proofs.lemmas.Nat.{shr_le}
use Rattle.std.proofs.lemmas.Bool.{and_from, cond-true, le-leb}
use Rattle.std.proofs.lemmas.Bool.Decides.{nat_tests}
use Rattle.header.specs.Headers.{slot_in}
use Rattle.header.proofs.Blocks.{deepest_small, deep_read, slot_read}
use Rattle.header.proofs.codec.pointer_for.Goals as goal
use Rattle.header.proofs.codec.pointer_for.Goals.{then-block-lt512-via-then-block-lt512, then-block-lt512-via-else-block-lt512+then-block-gt7}

pub returns-then-block-lt512 : goal.returns-then-block-lt512
returns-then-block-lt512 c = record {
  value = grind (arith, nat_tests);
  told = λ count slots rooms law enc.
      let block = c.args.block.now in
      let n = enc.long in
      let d = deep_read count slots rooms block law enc in
      let s = deepest_small rooms in
      absurd (elim c.then-block-lt512.branch [ then-block-lt512-via-then-block-lt512 w ↦ omega (arith, w.if-block-lt512.true) | then-block-lt512-via-else-block-lt512+then-block-gt7 w ↦ omega (arith, w.if-block-gt7.true) ]);
}

-- in a block of 512 bytes with a depth of at most 7 every pointer can be read
read : (xs : List ℕ) (depth i : ℕ) → i < 128 → 512 ≤ length xs → 8 + 2 * (i / 2 ^ (7 - depth)) + 2 ≤ length xs
read xs depth i l n = omega (arith, shr_le i (7 - depth))

pub returns : goal.returns
returns c =
    let block = c.args.block.now in
    let i = c.args.hash / 2 ^ 25 in
    let small : i < 128 = omega arith in
    let depth = get_or block 1 0 in
    let at = 8 + 2 * (i / 2 ^ (7 - depth)) in
    let inside : at + 2 ≤ length block = read block depth i small c.if-block-lt512.false in
    let some : c.u16_at.result ≡ Some (slot_in block depth i) = c.u16_at.ensures ∙ cond-true _ _ _ (le-leb (at + 2) (length block) inside) in
    record {
      value = some ∙ sym (cond-true _ _ _ (and_from _ _ (le-leb depth 7 c.if-block-gt7.false) (le-leb 512 (length block) c.if-block-lt512.false)));
      told = λ count slots rooms law enc. some ∙ ap Some (slot_read count slots rooms block law enc depth (deep_read count slots rooms block law enc) i small);
    }
