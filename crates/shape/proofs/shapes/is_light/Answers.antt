use Rattle.std.proofs.Common.{◌+◌, sym, arith}
use Rattle.std.proofs.lemmas.Bool.{lt-leb}
use Rattle.shape.specs.Shapes.{load}
use Rattle.shape.specs.Rows.{row_measure}
use Rattle.shape.proofs.Loads.{load_more, load-take}
use Rattle.shape.proofs.shapes.is_light.Goals as goal

pub returns-then-load-gt-MAX_LOAD : goal.returns-then-load-gt-MAX_LOAD
returns-then-load-gt-MAX_LOAD c =
    let rows = c.args.rows.now in
    let k = c.args.room in
    let p = c.args.prefix in
    let i = c.loop-row.row-index in
    let more = load_more row_measure k p rows i (record { hash = 0; weight = 0 }) c.loop-row-test.true in
    let part = load-take row_measure k p rows (i + 1) in
    sym (lt-leb (load row_measure k p rows) 504 (omega (arith, c.weight_under-load.ensures)))

pub loop-row-preserved : goal.loop-row-preserved
loop-row-preserved c =
    let more = load_more row_measure c.args.room c.args.prefix c.args.rows.now c.loop-row.row-index (record { hash = 0; weight = 0 }) c.loop-row-test.true in
    (omega arith, omega (arith, c.weight_under-load.ensures))
