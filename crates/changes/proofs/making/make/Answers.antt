use Rattle.std.proofs.Common.{◌≡◌, ℕ, ◌-◌, ◌<◌, true, false, eqb, ◌∷◌, length, get_or, take, set, is_ok, sym, refl, ap, ◌∙◌, subst, arith, length-take}
use Rattle.std.specs.Cmp.Lexicographic.{pointwise}
use Rattle.std.proofs.lemmas.List.{take-take}
use Rattle.std.proofs.lemmas.Slice.Eq.{slice_eq-Decides}
use Rattle.std.proofs.lemmas.Bool.{both_ways, cond-true, and_from, lt-ltb, eq-eqb, not-false}
use Rattle.std.proofs.lemmas.Bool.Decides.{Decides-eqb}
use Rattle.arrayvec.specs.ArrayVec.{array_vec_len}
use Rattle.plans.specs.Planned.{numbers_of, Changed}
use Rattle.changes.specs.Making.{written}
use Rattle.changes.proofs.Writes.{length-written, numbers_whole}
use Rattle.changes.proofs.Naming.{some_laid}
use Rattle.changes.proofs.Stores.{pending_taken, there, wrote-both, wrote-buckets, changed}
use Rattle.changes.proofs.making.make.Goals as goal

pub returns-then-not-is_ready-clause-makes : goal.returns-then-not-is_ready-clause-makes
returns-then-not-is_ready-clause-makes g c = λ kind old new st pl sp.
    let before = g.D.Device.contents c.args.device.now in
    let head = c.args.head in
    let plan = c.args.plan.now in
    let spare = c.args.spare.now in
    let n = array_vec_len plan.laid - 1 in
    let told = rw c.in_ok-numbers.ensures.ok_part at c.numbers_for.ensures in
    let due = pending_taken kind before head old new plan spare st pl sp told.0 in
    let some = some_laid due in
    let items = c.as_slice-numbers.ensures.value ∙ told.1 ∙ numbers_whole (array_vec_len plan.laid) plan.number spare some in
    let long : length c.as_slice-numbers.result.now ≡ array_vec_len plan.laid = omega (arith, ap length items, length-take n spare, told.0, some) in
    record {
      served = (
        λ t. absurd (both_ways false refl t),
        λ a. absurd (both_ways _ c.if-not-is_ready.true (c.is_ready.ensures.1 (record {
          writes = omega (arith, long, a.1);
          header = st.inside;
          there = subst (λ ns. (i : ℕ) → i < length ns → get_or ns i 0 < length before) (sym items) (λ i l. there due i (omega (arith, l, long, ap length items)));
        }))),
      );
      scarce = λ _. refl;
      changed = λ t. absurd (both_ways false refl t);
    }

pub returns-in_err-header-clause-makes : goal.returns-in_err-header-clause-makes
returns-in_err-header-clause-makes g c = λ kind old new st pl sp.
    let before = g.D.Device.contents c.args.device.now in
    let plan = c.args.plan.now in
    let spare = c.args.spare.now in
    let n = array_vec_len plan.laid - 1 in
    let told = rw c.in_ok-numbers.ensures.ok_part at c.numbers_for.ensures in
    let none = rw c.in_err-header.ensures.ok_part at c.head_after.ensures in
    let due = pending_taken kind before c.args.head old new plan spare st pl sp told.0 in
    absurd (none kind before c.args.head old new (take n spare) due (c.as_slice-numbers.ensures.value ∙ told.1 ∙ numbers_whole (array_vec_len plan.laid) plan.number spare (some_laid due)))

pub write_buckets-requires : goal.write_buckets-requires
write_buckets-requires g c =
    let told = rw c.in_ok-numbers.ensures.ok_part at c.numbers_for.ensures in
    let ready = c.is_ready.ensures.0 c.if-not-is_ready.false in
    let plan = c.args.plan.now in
    let rest = take (array_vec_len plan.laid - 1) c.args.spare.now in
    let long = ap length (c.as_slice-numbers.ensures.value ∙ told.1) in
    let short = length-take (array_vec_len plan.laid) (plan.number ∷ rest) in
    (omega (arith, ready.writes, long, short, length-take (array_vec_len plan.laid - 1) c.args.spare.now, told.0, ap length c.as_slice.ensures.value), ready.there)

pub returns-then-ne-clause-makes : goal.returns-then-ne-clause-makes
returns-then-ne-clause-makes g c = λ kind old new st pl sp.
    let plan = c.args.plan.now in
    let spare = c.args.spare.now in
    let head = c.args.head in
    let header = c.in_ok-header.header in
    let before = g.D.Device.contents c.args.device.now in
    let mid = c.write_buckets.new.device in
    let after = g.D.Device.contents c.write.new.self in
    let n = array_vec_len plan.laid - 1 in
    let told = rw c.in_ok-numbers.ensures.ok_part at c.numbers_for.ensures in
    let due = pending_taken kind before head old new plan spare st pl sp told.0 in
    let items = c.as_slice-numbers.ensures.value ∙ told.1 ∙ numbers_whole (array_vec_len plan.laid) plan.number spare (some_laid due) in
    let ready = c.is_ready.ensures.0 c.if-not-is_ready.false in
    let b = c.write_buckets.ensures in
    let long = ap length items in
    let short = length-take n spare in
    let hd = (rw c.in_ok-header.ensures.ok_part at c.head_after.ensures) kind before head old new (take n spare) due items in
    let wrote : g.D.Device.contents mid ≡ written before (plan.number ∷ take n spare) plan.laid.items = b.sets ∙ ap (λ ns. written before ns c.as_slice.result.now) items ∙ ap (written before (plan.number ∷ take n spare)) c.as_slice.ensures.value in
    let low : c.from.result < length (g.D.Device.contents mid) = omega (arith, c.from.ensures, ready.header, ap length wrote, length-written before (plan.number ∷ take n spare) plan.laid.items) in
    let size : length header ≡ 512 = omega arith in
    let free : 0 < g.D.Device.allowed mid = omega (arith, ready.writes, b.costs, long, short, told.0, ap length c.as_slice.ensures.value) in
    let served : is_ok c.write.result ≡ true = c.write.ensures.served ∙ and_from _ _ (lt-ltb _ _ low) (and_from _ _ (eq-eqb _ _ size) (lt-ltb _ _ free)) in
    let sets : after ≡ set (written before (plan.number ∷ take n spare) plan.laid.items) head header
    = c.write.ensures.sets ∙ cond-true _ _ _ served ∙ ap (λ m. set (g.D.Device.contents mid) m header) c.from.ensures ∙ ap (λ x. set x head header) wrote in
    record {
      served = (λ _. (omega (arith, told.0), omega (arith, ready.writes, long, short, told.0)), λ _. refl);
      scarce = λ f. absurd (both_ways true f refl);
      changed = λ _.
          subst (λ ts. Changed kind before after head old new ts (numbers_of plan.given)) (take-take n n spare (omega arith))
          (changed due hd (wrote-both due header hd after sets));
    }

pub returns-else-ne-clause-makes : goal.returns-else-ne-clause-makes
returns-else-ne-clause-makes g c = λ kind old new st pl sp.
    let plan = c.args.plan.now in
    let spare = c.args.spare.now in
    let head = c.args.head in
    let header = c.in_ok-header.header in
    let before = g.D.Device.contents c.args.device.now in
    let after = g.D.Device.contents c.write_buckets.new.device in
    let n = array_vec_len plan.laid - 1 in
    let told = rw c.in_ok-numbers.ensures.ok_part at c.numbers_for.ensures in
    let due = pending_taken kind before head old new plan spare st pl sp told.0 in
    let items = c.as_slice-numbers.ensures.value ∙ told.1 ∙ numbers_whole (array_vec_len plan.laid) plan.number spare (some_laid due) in
    let ready = c.is_ready.ensures.0 c.if-not-is_ready.false in
    let long = ap length items in
    let short = length-take n spare in
    let hd = (rw c.in_ok-header.ensures.ok_part at c.head_after.ensures) kind before head old new (take n spare) due items in
    let wrote : after ≡ written before (plan.number ∷ take n spare) plan.laid.items = c.write_buckets.ensures.sets ∙ ap (λ ns. written before ns c.as_slice.result.now) items ∙ ap (written before (plan.number ∷ take n spare)) c.as_slice.ensures.value in
    let x = pointwise eqb header plan.header in
    let equal : x ≡ true = not-false x (sym c.ne.ensures ∙ c.if-ne.false) in
    let same : header ≡ plan.header = (slice_eq-Decides Decides-eqb header plan.header x refl).0 equal in
    record {
      served = (λ _. (omega (arith, told.0), omega (arith, ready.writes, long, short, told.0)), λ _. refl);
      scarce = λ f. absurd (both_ways true f refl);
      changed = λ _.
          subst (λ ts. Changed kind before after head old new ts (numbers_of plan.given)) (take-take n n spare (omega arith))
          (changed due hd (wrote-buckets due header hd after wrote (same ∙ pl.read)));
    }

pub returns-then-ne-clause-keeps : goal.returns-then-ne-clause-keeps
returns-then-ne-clause-keeps g c = g.D.Device.laws.onward _ _ _ c.write_buckets.ensures.keeps c.write.ensures.keeps
