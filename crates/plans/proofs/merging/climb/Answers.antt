use Rattle.std.proofs.Common.{◌≡◌, ℕ, suc, true, [], ◌∷◌, ◌++◌, Some, None, Ok, sym, refl, ap, ◌∙◌, subst, arith}
use Rattle.std.proofs.lemmas.Bool.{cond-true, lt-ltb}
use Rattle.plans.specs.Planned.{numbers_of}
use Rattle.plans.specs.Merging.{GoesUp, JoinEnds, Reached, Under}
use Rattle.plans.proofs.Climbs.{reached_start, reached_more, merged_end}
use Rattle.plans.proofs.merging.climb.Goals as goal

pub loop-branch-init : goal.loop-branch-init
loop-branch-init g c = (
  omega (arith, c.new-given.ensures.len),
  refl,
  λ kind head old new u e.
      let blocks = g.D.Device.contents c.args.device.now in
      let start = c.args.start in
      subst (Reached kind blocks head c.args.header.now old new start.slot start.room c.args.bytes) (sym c.new-given.ensures.none) (reached_start u e),
)

pub loop-branch-smaller : goal.loop-branch-smaller
loop-branch-smaller g c =
    let up = subst (GoesUp c.loop-branch.branch) (c.in_ok-above.was ∙ ap Ok c.in-Some.is) c.join.ensures.up in
    omega (arith, up.1, c.in-Some.above.deep)

pub loop-branch-preserved : goal.loop-branch-preserved
loop-branch-preserved g c =
    let was = c.in_ok-above.was ∙ ap Ok c.in-Some.is in
    let blocks = g.D.Device.contents c.args.device.now in
    let header = c.args.header.now in
    let start = c.args.start in
    let branch = c.loop-branch.branch in
    let up = subst (GoesUp branch) was c.join.ensures.up in
    let inv = c.loop-branch.invariant in
    let given = c.loop-branch.given in
    let beside = c.in-Some.beside in
    let fits : c.push.result ≡ true = c.push.ensures.fits ∙ lt-ltb given.len 8 (omega (arith, inv.0, up.1, c.in-Some.above.deep)) in
    let list : numbers_of c.push.new.self ≡ numbers_of given ++ beside.number ∷ [] = c.push.ensures.list ∙ cond-true _ _ _ fits in (
      omega (arith, inv.0, up.1, c.push.ensures.len, ap (λ b. mathlib.Core.Bool.cond {A = ℕ} b 1 0) fits),
      up.0 ∙ inv.1,
      λ kind head old new u e.
          let r = inv.2 kind head old new u e in
          let at = subst (λ s. Under kind blocks head header old new s branch.room c.loop-branch.block) (sym inv.1) r.under in
          let j = subst (λ s. JoinEnds kind header old new s branch.room (Ok (Some (c.in-Some.above, beside)))) inv.1 (subst (JoinEnds kind header old new branch.slot branch.room) was (c.join.ensures.ends kind head old new at)) in
          subst (λ k. Reached kind blocks head header old new start.slot k beside.block (numbers_of c.push.new.self)) (sym up.1)
          (subst (Reached kind blocks head header old new start.slot (suc branch.room) beside.block) (sym list)
          (reached_more r j)),
    )

pub returns-in_err-above : goal.returns-in_err-above
returns-in_err-above g c = λ kind head old new u e.
    let inv = c.loop-branch.invariant in
    let branch = c.loop-branch.branch in
    let at = subst (λ s. Under kind (g.D.Device.contents c.args.device.now) head c.args.header.now old new s branch.room c.loop-branch.block) (sym inv.1) (inv.2 kind head old new u e).under in
    absurd (subst (JoinEnds kind c.args.header.now old new branch.slot branch.room) c.in_err-above.was (c.join.ensures.ends kind head old new at))

pub returns : goal.returns
returns g c = λ kind head old new u e.
    let inv = c.loop-branch.invariant in
    let branch = c.loop-branch.branch in
    let blocks = g.D.Device.contents c.args.device.now in
    let header = c.args.header.now in
    let r = inv.2 kind head old new u e in
    let at = subst (λ s. Under kind blocks head header old new s branch.room c.loop-branch.block) (sym inv.1) r.under in
    let heavy = subst (JoinEnds kind header old new branch.slot branch.room) (c.in_ok-above.was ∙ ap Ok c.in_default.is) (c.join.ensures.ends kind head old new at) in
    merged_end _ branch.deep r (subst (λ s. JoinEnds kind header old new s branch.room (Ok None)) inv.1 heavy)
