use Rattle.std.proofs.Common.{◌≡◌, ℕ, ◌+◌, ◌<◌, true, cond, [], ◌∷◌, ◌++◌, length, get_or, drop, set, is_ok, sym, ap, ◌∙◌, arith, length-set, length-append}
use Rattle.std.proofs.lemmas.Bool.{cond-true, and_from, lt-ltb, eq-eqb}
use Rattle.std.proofs.lemmas.Slice.Zip.{zip_turn, zip_end}
use Rattle.changes.specs.Making.{written}
use Rattle.changes.proofs.Writes.{written_more, written_all}
use Rattle.changes.proofs.making.write_buckets.Goals as goal

pub loop-number-preserved : goal.loop-number-preserved
loop-number-preserved g c =
    let ns = c.args.numbers.now in
    let bs = c.args.blocks.now in
    let i = length c.loop-number.yielded in
    let d = g.D.Device.contents c.loop-number.device in
    let inv = c.loop-number.invariant in
    let block = c.in-Some.block.now in
    let first : c.into_iter-number-iterator.result.a.rest.now ≡ ns = cc in
    let second : c.into_iter-number-iterator.result.b.rest.now ≡ bs = cc in
    let turn = zip_turn ns bs c.loop-number.yielded c.into_iter-number-iterator.result c.loop-number.number-iterator c.next.new.self c.next.result first second c.loop-number.yielded_by (c.in-Some.number, c.in-Some.block) c.in-Some.is c.next.ensures.steps in
    let next : length (c.loop-number.yielded ++ (c.in-Some.number, c.in-Some.block) ∷ []) ≡ i + 1 = omega (arith, length-append c.loop-number.yielded ((c.in-Some.number, c.in-Some.block) ∷ [])) in
    let m : c.from.result ≡ get_or ns i 0 = c.from.ensures ∙ turn.2 0 in
    let low : c.from.result < length d = omega (arith, m, c.requires.1 i turn.0, inv.1) in
    let size : length block ≡ 512 = omega arith in
    let free : 0 < g.D.Device.allowed c.loop-number.device = omega (arith, turn.1, c.requires.0, inv.2) in
    let served : is_ok c.write.result ≡ true = c.write.ensures.served ∙ and_from _ _ (lt-ltb _ _ low) (and_from _ _ (eq-eqb _ _ size) (lt-ltb _ _ free)) in
    let sets : g.D.Device.contents c.write.new.self ≡ set d (get_or ns i 0) (get_or bs i []) = c.write.ensures.sets ∙ cond-true _ _ _ served ∙ ap (λ x. set d x block) m ∙ ap (set d (get_or ns i 0)) (turn.3 []) in (
      ap (λ n. written (g.D.Device.contents c.write.new.self) (drop n ns) (drop n bs)) next ∙ ap (λ x. written x (drop (i + 1) ns) (drop (i + 1) bs)) sets ∙ sym (written_more d ns bs i turn.0 turn.1) ∙ inv.0,
      ap length sets ∙ length-set d (get_or ns i 0) (get_or bs i []) ∙ inv.1,
      omega (arith, next, inv.2, c.write.ensures.costs, ap (λ t. cond {A = ℕ} t 1 0) served),
      omega (arith, inv.3, c.write.ensures.falls),
      g.D.Device.laws.onward c.args.device.now c.loop-number.device c.write.new.self inv.4 c.write.ensures.keeps,
    )

pub returns-clause-sets : goal.returns-clause-sets
returns-clause-sets g c =
    let ns = c.args.numbers.now in
    let bs = c.args.blocks.now in
    let first : c.into_iter-number-iterator.result.a.rest.now ≡ ns = cc in
    let second : c.into_iter-number-iterator.result.b.rest.now ≡ bs = cc in
    let end = zip_end ns bs c.loop-number.yielded c.into_iter-number-iterator.result c.loop-number.number-iterator c.next.new.self c.next.result first second c.loop-number.yielded_by c.in-None.is c.next.ensures.steps in
    sym (written_all (g.D.Device.contents c.loop-number.device) ns bs (length c.loop-number.yielded) end) ∙ c.loop-number.invariant.0
