use Rattle.std.proofs.Common.{◌≡◌, refl, sym, ap, ◌∙◌, arith, rules}
use Rattle.std.specs.List.{range_with_len, list_all}
use Rattle.std.specs.Bool.{then_some}
use Rattle.std.proofs.lemmas.Iterator.{YieldsList-from_range}
use Rattle.std.proofs.lemmas.Iterator.Search.{all_from_yields_List}
use Rattle.words.proofs.Told.{word16_some, word16_none, word32_some, word32_none}
use Rattle.append_log.specs.Records.{holds_below}
use Rattle.append_log.specs.Replayed.{short_head, short_records, head_of_not}
use Rattle.append_log.proofs.Checked.{checked}
use Rattle.append_log.proofs.records.check.Goals as goal

pub returns-in_err-used : goal.returns-in_err-used
returns-in_err-used c =
    let xs = c.args.bytes.now in
    let n = word32_none xs 0 c.in_err-used.ensures in
    c.from_residual.ensures ∙ sym (head_of_not xs (short_head xs (omega arith)))

pub returns-in_err-count : goal.returns-in_err-count
returns-in_err-count c =
    let xs = c.args.bytes.now in
    let n = word16_none xs 4 c.in_err-count.ensures in
    c.from_residual-in_err-count.ensures ∙ sym (head_of_not xs (short_head xs (omega arith)))

pub returns-then-bytes-start_of : goal.returns-then-bytes-start_of
returns-then-bytes-start_of c =
    let xs = c.args.bytes.now in
    let u = word32_some xs 0 _ c.in_ok-used.ensures in
    sym (head_of_not xs (short_records xs (omega (arith, c.start_of.ensures))))

pub returns : goal.returns
returns c =
    let xs = c.args.bytes.now in
    let u = word32_some xs 0 _ c.in_ok-used.ensures in
    let n = word16_some xs 4 _ c.in_ok-count.ensures in
    let all : c.all.result ≡ list_all (holds_below xs c.in_ok-count.count) (range_with_len 0 c.in_ok-used.used) =
    all_from_yields_List (holds_below xs c.in_ok-count.count) _ _ c.all.result c.all.ensures.ran (YieldsList-from_range 0 c.in_ok-used.used c.in_ok-used.used refl (omega arith)) (λ x b q k. search rules)
    in
    c.then_some.ensures ∙ ap (λ b. then_some b (record { used = c.in_ok-used.used; count = c.in_ok-count.count })) all ∙ checked xs c.in_ok-used.used c.in_ok-count.count u.1 (omega arith) (omega arith) (omega arith)
