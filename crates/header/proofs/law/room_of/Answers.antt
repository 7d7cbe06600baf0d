use Rattle.std.proofs.Common.{◌≡◌, ℕ, ◌^◌, ◌<◌, true, false, eqb, get_or, refl, rules, arith}
use Rattle.std.proofs.iter.runs.Sources.{ranges}
use lib.Bits.{bit_xor}
use Rattle.header.specs.Headers.{IsRoom}
use Rattle.header.proofs.RunsLaws.{room_told}
use Rattle.header.proofs.law.room_of.Goals as goal

pub returns-clause-only : goal.returns-clause-only
unfolding IsRoom
returns-clause-only c =
    let slots = c.args.slots.now in
    let s = c.args.slot in
    let r = c.unwrap_or.result in
    let p = c.find.ensures.runs.0 in
    let before : (k : ℕ) → k < r → eqb (get_or slots (bit_xor s (2 ^ k)) 0) (get_or slots s 0) ≡ true
    = λ k l. let o : p.at k ≡ p.at k = refl in search (rules, ranges) in
    let here : r < 7 → eqb (get_or slots (bit_xor s (2 ^ r)) 0) (get_or slots s 0) ≡ false
    = λ l. let o : p.at r ≡ p.at r = refl in search (rules, ranges) in
    room_told slots s r (omega arith) (search (rules, ranges)) before here
