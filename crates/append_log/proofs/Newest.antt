-- The newest record for a block, found from the last one down.
use Rattle.std.proofs.Common.{◌≡◌, ℕ, zero, suc, Bool, ◌+◌, ◌-◌, ◌<◌, ◌≤◌, true, false, cond, ◌&&◌, eqb, List, [], ◌∷◌, length, replicate, None, Some, Option, MatchOption, refl, ap, ◌∙◌, arith}
use Rattle.std.specs.declared.ops.Range.{Range}
use Rattle.std.specs.declared.iter.Rev.{Rev}
use Rattle.std.specs.Iterator.{AlwaysYields}
use Rattle.std.specs.Iterator.Adapters.{rev_source, rev_steps}
use Rattle.std.specs.List.{find}
use Rattle.std.specs.Option.{option_map}
use Rattle.std.proofs.lemmas.Bool.{le-leb}
use Rattle.append_log.specs.Records.{start, number, body, holds_for, latest}

-- the numbers below n, the highest first
abbrev pub downto : ℕ → List ℕ
downto zero = []
downto (suc n) = n ∷ downto n

abbrev pub back : Range ℕ → Option ℕ → Range ℕ → Type 0
back s r t = (t.start ≡ s.start) × MatchOption r ((s.end - s.start ≡ 0) × (t.end ≡ s.end)) (λ x. (0 < s.end - s.start) × (x ≡ t.end) × (s.end ≡ t.end + 1))

pub yields_down : (n : ℕ) (s : Rev (Range ℕ)) → (rev_source s).start ≡ 0 → (rev_source s).end ≡ n → AlwaysYields (rev_steps back) (λ x. x) s (downto n)
yields_down zero s e f = λ x j p. omega (arith, p.1.0)
yields_down (suc n) s e f = ((λ j p. omega (arith, p.1.0)), λ x j p. (omega (arith, p.1.1, p.1.2), yields_down n j (p.0 ∙ e) (omega (arith, p.1.2))))

chosen : (xs : List ℕ) (n : ℕ) (rest zeros : List ℕ) (t : Bool) (o : Option ℕ) → MatchOption o (rest ≡ zeros) (λ k. (k < n) × (rest ≡ body xs k)) → MatchOption (cond t (Some n) o) (cond t (body xs n) rest ≡ zeros) (λ k. (k < suc n) × (cond t (body xs n) rest ≡ body xs k))
chosen xs n rest zeros true o m = (omega arith, refl)
chosen xs n rest zeros false None m = m
chosen xs n rest zeros false (Some k) m = (omega (arith, m.0), m.1)

found : (xs : List ℕ) (b n : ℕ) → start n ≤ length xs → MatchOption (find (holds_for xs b) (downto n)) (latest xs n b ≡ replicate 512 0) (λ k. (k < n) × (latest xs n b ≡ body xs k))
found xs b zero h = refl
found xs b (suc n) h =
    let e : holds_for xs b n ≡ eqb (number xs n) b = ap (λ t. t && eqb (number xs n) b) (le-leb (start n + 2) (length xs) (omega arith)) in
    rw e (chosen xs n (latest xs n b) (replicate 512 0) (eqb (number xs n) b) (find (holds_for xs b) (downto n)) (found xs b n (omega arith)))

pub newest_told : (xs : List ℕ) (b n : ℕ) (o : Option ℕ) → start n ≤ length xs → option_map (λ x. x) o ≡ find (holds_for xs b) (downto n) → MatchOption o (latest xs n b ≡ replicate 512 0) (λ k. (k < n) × (latest xs n b ≡ body xs k))
newest_told xs b n None h e = let p = found xs b n h in rw (← e) at p
newest_told xs b n (Some k) h e = let p = found xs b n h in rw (← e) at p
