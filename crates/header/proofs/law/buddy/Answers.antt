use Rattle.std.proofs.Common.{◌≡◌, ℕ, ◌*◌, ◌/◌, ◌%◌, ◌^◌, ◌<◌, sym, ap, ◌∙◌, subst, arith}
use lib.Bits.{bit_xor}
use Rattle.std.proofs.lemmas.Nat.{one_shl}
use Rattle.header.proofs.RunsLaws.{buddy_inside, buddy_apart, buddy_near}
use Rattle.header.proofs.law.buddy.Goals as goal

shifted : (k r n : ℕ) → r ≡ k → n ≡ (1 * 2 ^ (r % 8)) % 2 ^ 8 → k < 8 → 2 ^ k ≡ n
shifted k r n p e l = let m : r % 8 ≡ k = omega arith in sym (e ∙ ap (λ i. (1 * 2 ^ i) % 2 ^ 8) m ∙ one_shl k 8 l)

pub returns-clause-inside : goal.returns-clause-inside
returns-clause-inside c l h = subst (λ n. bit_xor c.args.slot n < 128) (shifted c.args.room c.from.result _ c.from.ensures c.wrapping_shl.ensures (omega arith)) (buddy_inside c.args.slot c.args.room l h)

pub returns-clause-apart : goal.returns-clause-apart
returns-clause-apart c h = subst (λ n. bit_xor c.args.slot n / 2 ^ c.args.room ≡ c.args.slot / 2 ^ c.args.room → ⊥) (shifted c.args.room c.from.result _ c.from.ensures c.wrapping_shl.ensures h) (buddy_apart c.args.slot c.args.room)

pub returns-clause-near : goal.returns-clause-near
returns-clause-near c h = subst (λ n. bit_xor c.args.slot n / 2 ^ c.args.room / 2 ≡ c.args.slot / 2 ^ c.args.room / 2) (shifted c.args.room c.from.result _ c.from.ensures c.wrapping_shl.ensures h) (buddy_near c.args.slot c.args.room)

pub returns-clause-wraps : goal.returns-clause-wraps
returns-clause-wraps c =
    let r = c.from.result in
    let e : c.wrapping_shl.result ≡ 2 ^ (r % 8) = c.wrapping_shl.ensures ∙ one_shl (r % 8) 8 (omega arith) in
    ap (bit_xor c.args.slot) (e ∙ ap (λ n. 2 ^ (n % 8)) c.from.ensures)
