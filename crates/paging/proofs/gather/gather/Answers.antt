use Rattle.std.proofs.Common.{◌≡◌, ◌+◌, ◌*◌, ◌/◌, ◌^◌, ◌<◌, ◌≤◌, true, false, drop, sym, refl, ap, ◌∙◌, subst, arith}
use Rattle.records.specs.Items.{records_in}
use Rattle.pages.specs.Gathered.{gathered}
use Rattle.pages.specs.Pages.{used}
use Rattle.pages.proofs.Gathers.{gathered_fits}
use Rattle.index.specs.Stored.{room_at}
use Rattle.paging.proofs.Led.{ok_same, ok_err}
use Rattle.pages.proofs.Taken.{took_at}
use Rattle.paging.proofs.Turns.{Walking, walking_none, walking_all, block_sorted, room_of, readable, walking-more, walking-stop}
use Rattle.paging.proofs.gather.gather.Goals as goal

pub loop-slot-init : goal.loop-slot-init
loop-slot-init g c = (refl, λ head rs st e b. walking_none g.K.KeyKind.kind c.args.bookmark.now rs c.args.page.now.size (gathered c.args.page.now) c.first_slot-slot.result c.first_slot-slot.ensures)

pub returns-in_err-block : goal.returns-in_err-block
returns-in_err-block g c = record {
  size = c.loop-slot.invariant.0;
  took = λ head rs st e b. absurd (ok_err (c.in_err-block.ensures g.K.KeyKind.kind head rs st e));
}

pub returns-in_err-room : goal.returns-in_err-room
returns-in_err-room g c = record {
  size = c.loop-slot.invariant.0;
  took = λ head rs st e b.
      let is = ok_same (c.in_ok-block.ensures g.K.KeyKind.kind head rs st e) in
      let room = room_of g.K.KeyKind.kind (g.D.Device.contents c.args.device.now) head rs st c.loop-slot.slot (omega arith) c.in_ok-block.block is in
      absurd (omega (arith, room, c.in_err-room.ensures room.0));
}

pub returns-in_err-take_from : goal.returns-in_err-take_from
returns-in_err-take_from g c = record {
  size = c.in_err-take_from.ensures.size ∙ c.loop-slot.invariant.0;
  took = λ head rs st e b.
      let is = ok_same (c.in_ok-block.ensures g.K.KeyKind.kind head rs st e) in
      absurd (readable g.K.KeyKind.kind (g.D.Device.contents c.args.device.now) head rs st c.loop-slot.slot (omega arith) c.in_ok-block.block is c.in_err-take_from.ensures.took);
}

pub returns-then-not-branch : goal.returns-then-not-branch
returns-then-not-branch g c = record {
  size = c.in_ok-take_from.ensures.size ∙ c.loop-slot.invariant.0;
  took = λ head rs st e b.
      let kind = g.K.KeyKind.kind in
      let blocks = g.D.Device.contents c.args.device.now in
      let bookmark = c.args.bookmark.now in
      let slot = c.loop-slot.slot in
      let l : slot < 128 = omega arith in
      let block = c.in_ok-block.block in
      let is = ok_same (c.in_ok-block.ensures kind head rs st e) in
      let p = c.args.page.now in
      let q = c.loop-slot.page in
      let r = c.take_from.new.page in
      let same = c.loop-slot.invariant.0 in
      let items = drop c.passed-from.result (records_in block) in
      let fits : used (gathered q) ≤ p.size = omega (arith, gathered_fits q) in
      let are = c.passed-from.ensures (block_sorted kind blocks head rs st slot l block is) b in
      let took = took_at q.size p.size (gathered q) items (gathered r) c.in_ok-take_from.field-0 false same c.if-not-branch.true c.in_ok-take_from.ensures.took in
      walking-stop kind blocks head rs st slot l block is bookmark p.size (gathered p) (gathered q) (gathered r) items fits (c.loop-slot.invariant.1 head rs st e b) are took;
}

pub loop-slot-preserved : goal.loop-slot-preserved
loop-slot-preserved g c = (
  c.in_ok-take_from.ensures.size ∙ c.loop-slot.invariant.0,
  λ head rs st e b.
      let kind = g.K.KeyKind.kind in
      let blocks = g.D.Device.contents c.args.device.now in
      let bookmark = c.args.bookmark.now in
      let slot = c.loop-slot.slot in
      let l : slot < 128 = omega arith in
      let block = c.in_ok-block.block in
      let is = ok_same (c.in_ok-block.ensures kind head rs st e) in
      let p = c.args.page.now in
      let q = c.loop-slot.page in
      let r = c.take_from.new.page in
      let same = c.loop-slot.invariant.0 in
      let items = drop c.passed-from.result (records_in block) in
      let fits : used (gathered q) ≤ p.size = omega (arith, gathered_fits q) in
      let are = c.passed-from.ensures (block_sorted kind blocks head rs st slot l block is) b in
      let took = took_at q.size p.size (gathered q) items (gathered r) c.in_ok-take_from.field-0 true same c.if-not-branch.false c.in_ok-take_from.ensures.took in
      let more = walking-more kind blocks head rs st slot l block is bookmark p.size (gathered p) (gathered q) (gathered r) items fits (c.loop-slot.invariant.1 head rs st e b) are took in
      let told = room_of kind blocks head rs st slot l block is in
      let room : c.in_ok-room.room ≡ room_at kind rs slot = omega (arith, told, c.in_ok-room.ensures) in
      let next : c.next_slot-slot.result ≡ (slot / 2 ^ room_at kind rs slot + 1) * 2 ^ room_at kind rs slot = c.next_slot-slot.ensures.value ∙ ap (λ k. (slot / 2 ^ k + 1) * 2 ^ k) room in
      subst (Walking kind bookmark rs p.size (gathered p) (gathered r)) (sym next) more,
)

pub returns : goal.returns
returns g c = record {
  size = c.loop-slot.invariant.0;
  took = λ head rs st e b. walking_all g.K.KeyKind.kind c.args.bookmark.now rs c.args.page.now.size (gathered c.args.page.now) (gathered c.loop-slot.page) c.loop-slot.slot g.met.K.KeyKind.bounded st.sorted (omega arith) (c.loop-slot.invariant.1 head rs st e b);
}
