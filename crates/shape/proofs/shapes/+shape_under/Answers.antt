use Rattle.std.proofs.Common.{◌+◌, ◌-◌, ◌*◌, ◌^◌, ◌<◌, ◌≤◌, sym, subst, arith, pow_mono}
use Rattle.std.proofs.lemmas.Bool.{leb-true, leb-false}
use Rattle.shape.specs.Shapes.{load, Held}
use Rattle.shape.specs.Rows.{row_measure}
use Rattle.shape.proofs.Halves.{small_halves, held_light, held_here, one_bucket, node, buckets_le, depth_le}
use Rattle.shape.proofs.shapes.+shape_under.Goals as goal

pub returns-then-is_light : goal.returns-then-is_light
returns-then-is_light t c =
    let rows = c.args.rows.now in
    let light = sym c.if-is_light.ensures in
    let one = one_bucket row_measure rows c.args.room c.args.prefix light in
    record {
      held = held_light row_measure rows c.args.room c.args.prefix (leb-true _ _ light);
      buckets = one.0;
      depth = one.1;
    }

pub returns-then-room-eq-LEAST_ROOM : goal.returns-then-room-eq-LEAST_ROOM
returns-then-room-eq-LEAST_ROOM t c = λ held.
    let rows = c.args.rows.now in
    let z = c.if-room-eq-LEAST_ROOM.true in
    let p = c.args.prefix in
    let heavy = subst (λ k. 504 < load row_measure k p rows) z (leb-false _ _ (sym c.if-is_light.ensures)) in
    absurd (omega (arith, held_here row_measure rows p (subst (λ k. Held row_measure k p rows) z held)))

pub returns-in_err-low : goal.returns-in_err-low
returns-in_err-low t c =
    let n = node row_measure c.args.rows.now c.args.room c.args.prefix c.if-room-eq-LEAST_ROOM.false (sym c.if-is_light.ensures) in
    rw c.from_residual.ensures (λ held. c.in_err-low.ensures (n.low held))

pub shape_under-requires-2 : goal.shape_under-requires-2
shape_under-requires-2 t c =
    let l : 0 < c.args.room = omega (arith, c.if-room-eq-LEAST_ROOM.false) in
    (omega arith, (omega (arith, c.requires.deep), (small_halves c.args.prefix c.args.room l c.requires.small).2))

pub returns-in_err-high : goal.returns-in_err-high
returns-in_err-high t c =
    let n = node row_measure c.args.rows.now c.args.room c.args.prefix c.if-room-eq-LEAST_ROOM.false (sym c.if-is_light.ensures) in
    rw c.from_residual-in_err-high.ensures (λ held. c.in_err-high.ensures (n.high held))

pub overflow_add-result : goal.overflow_add-result
overflow_add-result t c =
    let rows = c.args.rows.now in
    let k = c.args.room - 1 in
    let p = c.args.prefix in
    let top : 2 ^ k ≤ 2 ^ 7 = pow_mono {i = k} {j = 7} (omega (arith, c.requires.deep)) in
    let low = buckets_le row_measure rows k (2 * p) in
    let high = buckets_le row_measure rows k (2 * p + 1) in
    omega (arith, c.in_ok-low.ensures.buckets, c.in_ok-high.ensures.buckets)

pub overflow_add-result-2 : goal.overflow_add-result-2
overflow_add-result-2 t c =
    let rows = c.args.rows.now in
    let k = c.args.room - 1 in
    let p = c.args.prefix in
    let low = depth_le row_measure rows k (2 * p) in
    let high = depth_le row_measure rows k (2 * p + 1) in
    omega (arith, c.requires.deep, c.max.ensures, c.in_ok-low.ensures.depth, c.in_ok-high.ensures.depth)

pub returns : goal.returns
returns t c =
    let rows = c.args.rows.now in
    let n = node row_measure rows c.args.room c.args.prefix c.if-room-eq-LEAST_ROOM.false (sym c.if-is_light.ensures) in
    let low = c.in_ok-low.ensures in
    let high = c.in_ok-high.ensures in
    record {
      held = n.both low.held high.held;
      buckets = omega (arith, low.buckets, high.buckets, n.count);
      depth = omega (arith, c.max.ensures, low.depth, high.depth, n.deep);
    }
