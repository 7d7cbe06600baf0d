use Rattle.std.proofs.Common.{ℕ, ◌<◌, List, length, get_or, sym, ap, ◌∙◌, subst, arith}
use Rattle.copying.specs.Copies.{laid}
use Rattle.copying.proofs.Listed.{differing_below, laid-all}
use Rattle.copying.proofs.copy.copy_blocks.Goals as goal

pub write_all-requires-clause-known : goal.write_all-requires-clause-known
write_all-requires-clause-known g c =
    let xs = g.S.Device.contents c.args.source.now in
    let ys = g.T.Device.contents c.args.target.now in
    let listed = c.deref.ensures.value ∙ c.in_ok-blocks.ensures in
    subst (λ (bs : List ℕ). (i : ℕ) → i < length bs → get_or bs i 0 < length xs) (sym listed) (differing_below xs ys (length xs))

pub returns-clause-ends : goal.returns-clause-ends
returns-clause-ends g c =
    let xs = g.S.Device.contents c.args.source.now in
    let ys = g.T.Device.contents c.args.target.now in
    let listed = c.deref.ensures.value ∙ c.in_ok-blocks.ensures in
    let w = c.write_all.ensures in (
      c.in_ok-blocks.ensures,
      w.sets ∙ ap (laid xs ys) listed ∙ laid-all xs ys (omega arith),
      omega (arith, ap length listed, w.costs),
      w.falls,
    )
