use Rattle.std.proofs.Common.{◌≡◌, ℕ, ◌-◌, ◌*◌, ◌/◌, ◌%◌, ◌^◌, ◌<◌, length, ◌++◌, eqb, Some, sym, ap, ◌∙◌, subst, add-one, arith}
use Rattle.header.specs.Headers.{pointer_in}
use Rattle.index.specs.Stored.{prefix_at, room_at, BucketIn}
use Rattle.index.proofs.Reading.{bucket-there}
use Rattle.plans.proofs.Merges.{beside_split, beside-room, beside-bits, joins, heavy_two}
use Rattle.std.proofs.lemmas.Bool.{eq-eqb, ne_eqb, cond-true, cond-false}
use Rattle.records.specs.Items.{records_in}
use Rattle.plans.specs.Merging.{in_order}
use Rattle.plans.proofs.merging.join.Goals as goal
use Rattle.plans.proofs.merging.join.Goals.{then-is_low, else-is_low}

-- the slot beside, and the hash by which its bucket is read
hash_of : (t n : ℕ) → n ≡ t → t < 128 → n * 33554432 % 4294967296 ≡ t * 33554432
hash_of t n e l = omega arith

pub returns-in_err-beside-clause-ends : goal.returns-in_err-beside-clause-ends
returns-in_err-beside-clause-ends g c = λ kind head old new u.
    let blocks = g.D.Device.contents c.args.device.now in
    let header = c.args.header.now in
    let t = c.buddy-other.result in
    let branch = c.args.branch in
    let above = c.in-Some.ensures in
    let deep : branch.room < 7 = omega (arith, above.1, c.in-Some.above.deep) in
    let l : t < 128 = c.buddy-other.ensures.inside branch.inside deep in
    let h : t * 33554432 < 2 ^ 32 = omega arith in
    let e = hash_of t c.from.result c.from.ensures l in
    let none : (n : ℕ) → n < length blocks → pointer_in header (t * 33554432) ≡ Some n → ⊥ = subst (λ x. (n : ℕ) → n < length blocks → pointer_in header x ≡ Some n → ⊥) e c.in_err-beside.ensures.1 in
    absurd (bucket-there kind blocks head old u.stored (t * 33554432) h (subst (λ x. (n : ℕ) → n < length blocks → pointer_in x (t * 33554432) ≡ Some n → ⊥) u.read none))

pub returns-then-beside-branch-clause-ends : goal.returns-then-beside-branch-clause-ends
returns-then-beside-branch-clause-ends g c = λ kind head old new u deep.
    let blocks = g.D.Device.contents c.args.device.now in
    let header = c.args.header.now in
    let branch = c.args.branch in
    let t = c.buddy-other.result in
    let told = c.buddy-other.ensures in
    let inside : t < 128 = told.inside branch.inside deep in
    let apart = told.apart (omega (arith, deep)) in
    let near = told.near (omega (arith, deep)) in
    let beside = c.in_ok-beside.beside in
    let b = subst (λ x. BucketIn blocks header x beside.number beside.block) (hash_of t c.from.result c.from.ensures inside) c.in_ok-beside.ensures in
    let bits = beside-bits u deep t inside apart near b in
    beside_split u deep t inside apart near
    (λ e. c.if-beside-branch.true (bits ∙ ap (λ n. 7 - n) e))

pub returns-in_default-build-clause-ends : goal.returns-in_default-build-clause-ends
returns-in_default-build-clause-ends g c = λ kind head old new u deep.
    let blocks = g.D.Device.contents c.args.device.now in
    let header = c.args.header.now in
    let branch = c.args.branch in
    let t = c.buddy-other.result in
    let told = c.buddy-other.ensures in
    let inside : t < 128 = told.inside branch.inside deep in
    let apart = told.apart (omega (arith, deep)) in
    let near = told.near (omega (arith, deep)) in
    let beside = c.in_ok-beside.beside in
    let b = subst (λ x. BucketIn blocks header x beside.number beside.block) (hash_of t c.from.result c.from.ensures inside) c.in_ok-beside.ensures in
    let room = beside-room u deep t inside apart near b in
    let one : room_at kind old t ≡ branch.room = omega (arith, room, c.if-beside-branch.false, deep) in
    let parts : records_in c.if-is_low.joined.first.now ++ records_in c.if-is_low.joined.second.now ≡ in_order (eqb (branch.slot / 2 ^ branch.room % 2) 0) (records_in c.args.block.now) (records_in beside.block) = elim c.if-is_low.branch [
      | then-is_low w ↦ ap (λ p. records_in p.first.now ++ records_in p.second.now) w.joined-is ∙ sym (cond-true _ _ _ (eq-eqb _ _ w.if-is_low.true))
      | else-is_low w ↦ ap (λ p. records_in p.first.now ++ records_in p.second.now) w.joined-is ∙ sym (cond-false _ _ _ (ne_eqb _ _ w.if-is_low.false))
    ] in
    heavy_two u deep t inside apart near b one _ parts c.prefix.result c.in_default-build.ensures.bytes

pub returns-clause-ends : goal.returns-clause-ends
returns-clause-ends g c = λ kind head old new u.
    let blocks = g.D.Device.contents c.args.device.now in
    let header = c.args.header.now in
    let branch = c.args.branch in
    let above = c.in-Some.ensures in
    let deep : branch.room < 7 = omega (arith, above.1, c.in-Some.above.deep) in
    let t = c.buddy-other.result in
    let told = c.buddy-other.ensures in
    let inside : t < 128 = told.inside branch.inside deep in
    let apart = told.apart (omega (arith, deep)) in
    let near = told.near (omega (arith, deep)) in
    let beside = c.in_ok-beside.beside in
    let b = subst (λ x. BucketIn blocks header x beside.number beside.block) (hash_of t c.from.result c.from.ensures inside) c.in_ok-beside.ensures in
    let room = beside-room u deep t inside apart near b in
    let one : room_at kind old t ≡ branch.room = omega (arith, room, c.if-beside-branch.false, deep) in
    let prefix = c.prefix.ensures ∙ ap (λ n. prefix_at c.in-Some.above.room (n / 2 ^ c.in-Some.above.room)) above.0 ∙ ap (λ j. prefix_at j (branch.slot / 2 ^ j)) (above.1 ∙ add-one branch.room) in
    let parts : records_in c.if-is_low.joined.first.now ++ records_in c.if-is_low.joined.second.now ≡ in_order (eqb (branch.slot / 2 ^ branch.room % 2) 0) (records_in c.args.block.now) (records_in beside.block) = elim c.if-is_low.branch [
      | then-is_low w ↦ ap (λ p. records_in p.first.now ++ records_in p.second.now) w.joined-is ∙ sym (cond-true _ _ _ (eq-eqb _ _ w.if-is_low.true))
      | else-is_low w ↦ ap (λ p. records_in p.first.now ++ records_in p.second.now) w.joined-is ∙ sym (cond-false _ _ _ (ne_eqb _ _ w.if-is_low.false))
    ] in
    joins u deep t inside apart near b one _ parts c.prefix.result c.in-Some-build.block prefix c.in-Some-build.ensures.bytes
