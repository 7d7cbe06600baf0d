use Rattle.std.proofs.Common.{◌-◌, ◌/◌, ◌^◌, ap, ◌∙◌, subst}
use Rattle.std.specs.List.{remove}
use Rattle.records.specs.Items.{records_in}
use Rattle.records.specs.Ordered.{without}
use Rattle.buckets.specs.Blocks.{bucket_bytes}
use Rattle.index.specs.Stored.{prefix_at}
use Rattle.records.specs.Searches.{PlacedAt}
use Rattle.plans.proofs.Edits.{Found, edited_without, alike_there, alike_not_there, at_light}
use Rattle.plans.proofs.planning.plan_remove.Goals as goal

pub returns-in_default-clause-plans : goal.returns-in_default-clause-plans
returns-in_default-clause-plans g c = λ rs st lk.
    let met = g.met.K.KeyKind in
    let kind = g.K.KeyKind.kind in
    let at = c.in_ok-at.at in
    let w = c.in_ok-at.ensures rs st in
    let f : Found kind (g.D.Device.contents c.args.device.now) c.args.head rs c.args.key.now at = record { ordered = met.ordered; level = met.level; bounded = met.bounded; stored = st; lawful = lk; located = w } in
    alike_not_there f c.in_default.field-0 (subst (PlacedAt kind (records_in at.block) c.args.key.now) c.in_default.is w.placed)

pub returns-in_err-block-clause-plans : goal.returns-in_err-block-clause-plans
returns-in_err-block-clause-plans g c = λ rs st lk.
    let met = g.met.K.KeyKind in
    let at = c.in_ok-at.at in
    let f : Found g.K.KeyKind.kind (g.D.Device.contents c.args.device.now) c.args.head rs c.args.key.now at = record { ordered = met.ordered; level = met.level; bounded = met.bounded; stored = st; lawful = lk; located = c.in_ok-at.ensures rs st } in
    absurd (c.in_err-block.ensures (at_light f))

pub returns-in_err-plan-clause-plans : goal.returns-in_err-plan-clause-plans
returns-in_err-plan-clause-plans g c = λ rs st lk.
    let met = g.met.K.KeyKind in
    let kind = g.K.KeyKind.kind in
    let blocks = g.D.Device.contents c.args.device.now in
    let head = c.args.head in
    let key = c.args.key.now in
    let at = c.in_ok-at.at in
    let place = c.in-Ok.place in
    let w = c.in_ok-at.ensures rs st in
    let f : Found kind blocks head rs key at = record { ordered = met.ordered; level = met.level; bounded = met.bounded; stored = st; lawful = lk; located = w } in
    let here = subst (PlacedAt kind (records_in at.block) key) c.in-Ok.is w.placed in
    let less = c.in_ok-block.ensures (at_light f) in
    let edit = edited_without f place here c.saturating_sub.result (c.saturating_sub.ensures ∙ ap (λ n. n - 1) w.count) in
    absurd (c.in_err-plan.ensures kind head rs (without kind key rs) (remove (records_in at.block) place) edit met.bounded less.2 (less.0 ∙ ap (bucket_bytes (prefix_at at.branch.room (at.branch.slot / 2 ^ at.branch.room))) edit.there))

pub returns-clause-plans : goal.returns-clause-plans
returns-clause-plans g c = λ rs st lk.
    let met = g.met.K.KeyKind in
    let kind = g.K.KeyKind.kind in
    let blocks = g.D.Device.contents c.args.device.now in
    let head = c.args.head in
    let key = c.args.key.now in
    let at = c.in_ok-at.at in
    let place = c.in-Ok.place in
    let w = c.in_ok-at.ensures rs st in
    let f : Found kind blocks head rs key at = record { ordered = met.ordered; level = met.level; bounded = met.bounded; stored = st; lawful = lk; located = w } in
    let here = subst (PlacedAt kind (records_in at.block) key) c.in-Ok.is w.placed in
    let less = c.in_ok-block.ensures (at_light f) in
    let edit = edited_without f place here c.saturating_sub.result (c.saturating_sub.ensures ∙ ap (λ n. n - 1) w.count) in (
      alike_there f place here,
      c.in_ok-plan.ensures kind head rs (without kind key rs) (remove (records_in at.block) place) edit met.bounded less.2 (less.0 ∙ ap (bucket_bytes (prefix_at at.branch.room (at.branch.slot / 2 ^ at.branch.room))) edit.there),
    )
