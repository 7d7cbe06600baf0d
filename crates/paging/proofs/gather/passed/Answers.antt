use Rattle.std.proofs.Common.{◌≡◌, ℕ, true, false, eqb, List, length, drop, sym, ap, ◌∙◌, add-one, arith}
use Rattle.std.proofs.lemmas.Bool.{cond-false}
use Rattle.std.proofs.lemmas.Bool.Decides.{nat_tests}
use Rattle.kinds.specs.Kinds.{Kind}
use Rattle.kinds.proofs.Positions.{alike-position}
use Rattle.records.specs.Items.{records_in}
use Rattle.records.specs.Searches.{key_at}
use Rattle.records.proofs.Itemized.{length-records_in}
use Rattle.records.proofs.Rising.{after-new, after-found}
use Rattle.paging.specs.Refusals.{is_bookmark}
use Rattle.paging.proofs.gather.passed.Goals as goal

-- a bookmark that is not empty is a lawful key
key_lawful : (kind : Kind) (key : List ℕ) → eqb (length key) 0 ≡ false → is_bookmark kind key ≡ true → kind.lawful key ≡ true
key_lawful kind key n b = grind arith

pub overflow_add-result : goal.overflow_add-result
overflow_add-result g c =
    let n = length-records_in c.args.block.now in
    let a = c.type_inv.block 2 in
    let b = c.type_inv.block 3 in
    let told = c.in-Ok.ensures.found in
    grind (arith, nat_tests)

pub returns-in-Ok : goal.returns-in-Ok
returns-in-Ok g c = λ s b.
    let kind = g.K.KeyKind.kind in
    let rs = records_in c.args.block.now in
    let key = c.args.bookmark.now in
    let n = c.in-Ok.place in
    let some : eqb (length key) 0 ≡ false = sym c.is_empty.ensures ∙ c.if-is_empty.false in
    let lk = key_lawful kind key some b in
    let at = c.in-Ok.ensures.placed s lk in
    let alike = alike-position kind g.met.K.KeyKind.level (key_at rs n) key (s.keyed n at.1) lk at.2 in
    ap (λ m. drop m rs) (add-one n) ∙ sym (cond-false _ _ _ some ∙ after-found kind g.met.K.KeyKind.ordered key lk rs s n (omega (arith, at.1)) at.0 at.1 alike)

pub returns-in-Err : goal.returns-in-Err
returns-in-Err g c = λ s b.
    let kind = g.K.KeyKind.kind in
    let rs = records_in c.args.block.now in
    let key = c.args.bookmark.now in
    let n = c.in-Err.place in
    let some : eqb (length key) 0 ≡ false = sym c.is_empty.ensures ∙ c.if-is_empty.false in
    let lk = key_lawful kind key some b in
    let at = c.in-Err.ensures.placed s lk in
    sym (cond-false _ _ _ some ∙ after-new kind g.met.K.KeyKind.ordered key lk rs s n at.1 at.0 (λ l e. let other = at.2 l in grind arith))
