use Rattle.std.proofs.Common.{◌≡◌, true, false, leb, sym, ap, ◌∙◌, subst, arith}
use Rattle.std.proofs.lemmas.Result.{on_ok_weaker, on_err_weaker}
use Rattle.buckets.specs.Blocks.{bucket_bytes}
use Rattle.records.specs.Records.{load}
use Rattle.shape.specs.Shapes.{under}
use Rattle.shape.specs.Keyed.{by_key}
use Rattle.layout.specs.Laid.{span, LaidBehind, Unlaid}
use Rattle.layout.proofs.Splits.{pushed, either, leaf_behind, leaf_unlaid, dead_end, low_unlaid, high_unlaid, both_behind, low_half, high_half}
use Rattle.layout.proofs.splitting.+split.Goals as goal

pub returns-in-Some : goal.returns-in-Some
returns-in-Some g t c = λ ys s e.
    let kind = g.K.KeyKind.kind in
    let part = c.args.part in
    let laid = c.args.laid.now in
    let xs = span c.args.from c.args.to (g.S.Source.records c.args.source.now) in
    let told = c.in-Some.ensures.bytes in
    let light : leb (load xs) 504 ≡ true = grind arith in
    let bytes : c.in-Some.block ≡ bucket_bytes c.prefix.result xs = grind arith in
    pushed (LaidBehind kind ys part.room part.prefix laid c.try_push.new.self) (Unlaid kind ys part.room part.prefix laid) c.try_push.result c.ok.result c.ok.ensures.value
    (on_ok_weaker c.try_push.result (leaf_behind kind ys part.room part.prefix xs e light laid c.in-Some.block c.try_push.new.self (bytes ∙ ap (λ p. bucket_bytes p xs) c.prefix.ensures)) c.try_push.ensures.ok)
    (on_err_weaker c.try_push.result (leaf_unlaid kind ys part.room part.prefix xs e light laid) c.try_push.ensures.full)

pub returns-in_err-low : goal.returns-in_err-low
returns-in_err-low g t c = λ ys s e.
    let kind = g.K.KeyKind.kind in
    let part = c.args.part in
    let xs = span c.args.from c.args.to (g.S.Source.records c.args.source.now) in
    let told = c.in_default.ensures.bytes in
    let heavy : leb (load xs) 504 ≡ false = grind arith in
    rw c.from_residual.ensures (subst (λ k. xs ≡ under (by_key kind) k part.prefix ys → Unlaid kind ys k part.prefix c.args.laid.now) (sym c.in_err-low.ensures)
    (λ h. dead_end kind ys part.prefix xs c.args.laid.now h heavy) e)

pub returns-in_err-split : goal.returns-in_err-split
returns-in_err-split g t c = λ ys s e.
    let kind = g.K.KeyKind.kind in
    let part = c.args.part in
    let low = c.in_ok-low.low in
    let high = c.in_ok-low.high in
    let h = c.in_ok-low.ensures in
    let xs = span c.args.from c.args.to (g.S.Source.records c.args.source.now) in
    let told = c.in_default.ensures.bytes in
    let heavy : leb (load xs) 504 ≡ false = grind arith in
    let cut = c.cut-middle.ensures in
    let first = low_half kind ys h s (g.S.Source.records c.args.source.now) c.args.from c.args.to c.cut-middle.result e cut.after cut.within c.requires.1 cut.low cut.next in
    rw c.from_residual-in_err-split.ensures (low_unlaid kind ys h e heavy c.args.laid.now (c.in_err-split.ensures ys s first))

pub returns : goal.returns
returns g t c = λ ys s e.
    let kind = g.K.KeyKind.kind in
    let part = c.args.part in
    let low = c.in_ok-low.low in
    let high = c.in_ok-low.high in
    let h = c.in_ok-low.ensures in
    let rs = g.S.Source.records c.args.source.now in
    let told = c.in_default.ensures.bytes in
    let heavy : leb (load (span c.args.from c.args.to rs)) 504 ≡ false = grind arith in
    let cut = c.cut-middle.ensures in
    let first = low_half kind ys h s rs c.args.from c.args.to c.cut-middle.result e cut.after cut.within c.requires.1 cut.low cut.next in
    let last = high_half kind ys h s rs c.args.from c.args.to c.cut-middle.result e cut.after cut.within c.requires.1 cut.low cut.next in
    let behind = c.in_ok-split.ensures ys s first in
    either c.split-2.result (c.split-2.ensures ys s last)
    (high_unlaid kind ys h e heavy c.args.laid.now c.split.new.laid behind)
    (λ _. both_behind kind ys h e heavy c.args.laid.now c.split.new.laid behind c.split-2.new.laid)
