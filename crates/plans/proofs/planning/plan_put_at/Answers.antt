use Rattle.std.proofs.Common.{◌≡◌, ◌/◌, ◌^◌, leb, refl, ap, ◌∙◌}
use Rattle.std.specs.List.{insert}
use Rattle.std.proofs.lemmas.Result.{err_from_is_err_and}
use Rattle.std.proofs.lemmas.Bool.{leb-true, leb-false}
use Rattle.records.specs.Items.{records_in}
use Rattle.records.specs.Records.{load, key_of}
use Rattle.records.specs.Ordered.{put}
use Rattle.buckets.specs.Blocks.{bucket_bytes}
use Rattle.index.specs.declared.fault.Fault.TheVariants.{Full}
use Rattle.index.specs.Stored.{block, prefix_at}
use Rattle.plans.specs.Planned.{Planned}
use Rattle.plans.specs.Editing.{PutPlanned}
use Rattle.plans.proofs.Choosing.{some_told, none_told, never_err}
use Rattle.plans.proofs.Edits.{Found, put-load, edited-put, at_few, at_light}
use Rattle.plans.proofs.Plans.{planned_split, not_held}
use Rattle.plans.proofs.planning.plan_put_at.Goals as goal

pub returns-in_err-base : goal.returns-in_err-base
returns-in_err-base g c = λ head rs st ir lk w.
    let met = g.met.K.KeyKind in
    let f : Found g.K.KeyKind.kind (g.D.Device.contents c.args.device.now) head rs (key_of c.args.bytes.now) c.args.at.now = record { ordered = met.ordered; level = met.level; bounded = met.bounded; stored = st; lawful = lk; located = w } in
    absurd (c.in_err-base.ensures (at_light f))

pub returns-in-Some : goal.returns-in-Some
returns-in-Some g c = λ head rs st ir lk w.
    let met = g.met.K.KeyKind in
    let kind = g.K.KeyKind.kind in
    let blocks = g.D.Device.contents c.args.device.now in
    let at = c.args.at.now in
    let r = c.args.bytes.now in
    let f : Found kind blocks head rs (key_of r) at = record { ordered = met.ordered; level = met.level; bounded = met.bounded; stored = st; lawful = lk; located = w } in
    let light = at_light f in
    let base = records_in c.in_ok-base.base in
    let ys = insert base c.in_ok-base.place r in
    let edit = edited-put f r ir refl base c.in_ok-base.place c.count_after-count.result (c.in_ok-base.ensures light) (c.count_after-count.ensures (at_few f)) in
    let told = some_told (leb (load ys) 504) c.in-Some.block (bucket_bytes c.prefix.result ys) c.in-Some.ensures.bytes in
    let bytes = told.1 ∙ ap (λ p. bucket_bytes p ys) c.prefix.ensures ∙ ap (bucket_bytes (prefix_at at.branch.room (at.branch.slot / 2 ^ at.branch.room))) edit.there in
    never_err c.plan_light.result (Planned kind (block blocks head) rs (put kind r rs)) (PutPlanned kind (block blocks head) rs r) (λ plan p. p)
    (c.plan_light.ensures kind head rs (put kind r rs) ys edit met.bounded (leb-true _ _ told.0) bytes)

pub returns-in_err-laid : goal.returns-in_err-laid
returns-in_err-laid g c = λ head rs st ir lk w.
    let met = g.met.K.KeyKind in
    let kind = g.K.KeyKind.kind in
    let blocks = g.D.Device.contents c.args.device.now in
    let at = c.args.at.now in
    let r = c.args.bytes.now in
    let f : Found kind blocks head rs (key_of r) at = record { ordered = met.ordered; level = met.level; bounded = met.bounded; stored = st; lawful = lk; located = w } in
    let light = at_light f in
    let base = records_in c.in_ok-base.base in
    let ys = insert base c.in_ok-base.place r in
    let edit = edited-put f r ir refl base c.in_ok-base.place c.count_after-count.result (c.in_ok-base.ensures light) (c.count_after-count.ensures (at_few f)) in
    let some = put-load at.place (records_in at.block) base c.in_ok-base.place r (c.in_ok-base.ensures light) light ir in
    let none = rw c.in_err-laid.ensures.ok_part at c.lay_out.ensures in
    let value = rw c.in_err-laid.ensures.ok_part at c.in_err-laid.ensures.value in
    let full : c.in_err-laid.field-0.0 ≡ Full = cc in
    let p = err_from_is_err_and c.from_residual-in_err-laid.result c.from_residual-in_err-laid.ensures.1 in
    rw (p.1, p.2) (full, not_held edit met.bounded (none (put kind r rs) edit.sorted at.branch.inside at.branch.deep some edit.there))

pub returns : goal.returns
returns g c = λ head rs st ir lk w.
    let met = g.met.K.KeyKind in
    let kind = g.K.KeyKind.kind in
    let blocks = g.D.Device.contents c.args.device.now in
    let at = c.args.at.now in
    let r = c.args.bytes.now in
    let f : Found kind blocks head rs (key_of r) at = record { ordered = met.ordered; level = met.level; bounded = met.bounded; stored = st; lawful = lk; located = w } in
    let light = at_light f in
    let base = records_in c.in_ok-base.base in
    let ys = insert base c.in_ok-base.place r in
    let edit = edited-put f r ir refl base c.in_ok-base.place c.count_after-count.result (c.in_ok-base.ensures light) (c.count_after-count.ensures (at_few f)) in
    let some = put-load at.place (records_in at.block) base c.in_ok-base.place r (c.in_ok-base.ensures light) light ir in
    let laid = rw c.in_ok-laid.ensures.ok_part at c.lay_out.ensures in
    let heavy = leb-false _ _ (none_told (leb (load ys) 504) (bucket_bytes c.prefix.result ys) c.in_default.ensures.bytes) in
    planned_split edit met.bounded c.new.result c.in_ok-laid.laid c.new.ensures.none (laid (put kind r rs) edit.sorted at.branch.inside at.branch.deep some edit.there) heavy
