use Rattle.std.proofs.Common.{◌≡◌, ℕ, ◌/◌, ◌^◌, List, ◌∷◌, length, sym, ◌∙◌, subst}
use Rattle.kinds.specs.Kinds.{Kind}
use Rattle.header.specs.Headers.{Lawful, Encodes, deepest}
use Rattle.index.specs.Stored.{Blocks, block, slots, rooms, Stored}
use Rattle.index.proofs.Reading.{header-lawful}
use Rattle.changes.specs.Relaying.{Lays, Relaid}
use Rattle.changes.proofs.Naming.{lays}
use Rattle.changes.proofs.Heads.{headed, lawful_parts}
use Rattle.changes.proofs.heading.reshape.Goals as goal

-- a stored header is decoded
read_old : (kind : Kind) (blocks : Blocks) (head : ℕ) (old : List (List ℕ)) (header : List ℕ) → Stored kind blocks head old → header ≡ block blocks head
    → Lawful (length old) (slots (block blocks head)) (rooms kind old) × Encodes (length old) (deepest (rooms kind old)) (slots (block blocks head)) header
read_old kind blocks head old header st e = (header-lawful kind blocks head old st, subst (Encodes (length old) (deepest (rooms kind old)) (slots (block blocks head))) (sym e) st.header)

-- what was relaid, under other names
relaid_as : (kind : Kind) (new : List (List ℕ)) (k p : ℕ) (ns ns' xs xs' ys ys' slots rooms : List ℕ) → ns ≡ ns' → xs ≡ xs' → ys ≡ ys' → Relaid kind new k p ns xs ys slots rooms → Relaid kind new k p ns' xs' ys' slots rooms
relaid_as kind new k p ns ns' xs xs' ys ys' slots rooms e f g r =
    subst (λ n. Relaid kind new k p n xs' ys' slots rooms) e (subst (λ x. Relaid kind new k p ns x ys' slots rooms) f (subst (λ y. Relaid kind new k p ns xs y slots rooms) g r))

pub returns-in_err-old : goal.returns-in_err-old
returns-in_err-old c = λ kind blocks head old new spare due e.
    let r = read_old kind blocks head old c.args.plan.now.header due.stored due.planned.read in
    absurd (c.in_err-old.ensures.whole (length old) (slots (block blocks head)) (rooms kind old) r.0 r.1)

pub returns-in_err-relay : goal.returns-in_err-relay
returns-in_err-relay c = λ kind blocks head old new spare due e.
    let plan = c.args.plan.now in
    let K = plan.room in
    let P = plan.slot / 2 ^ K in
    absurd (c.in_err-relay.ensures kind new K P (subst (λ ns. Lays kind new K P ns c.as_slice.result.now) (sym e) (subst (Lays kind new K P (plan.number ∷ spare)) (sym c.as_slice.ensures.value) (lays due))))

pub returns-in_err-new : goal.returns-in_err-new
returns-in_err-new c = λ kind blocks head old new spare due e.
    let plan = c.args.plan.now in
    let K = plan.room in
    let P = plan.slot / 2 ^ K in
    let y = subst (λ ns. Lays kind new K P ns c.as_slice.result.now) (sym e) (subst (Lays kind new K P (plan.number ∷ spare)) (sym c.as_slice.ensures.value) (lays due)) in
    let r = read_old kind blocks head old plan.header due.stored due.planned.read in
    let read = c.in_ok-old.ensures.whole (length old) (slots (block blocks head)) (rooms kind old) r.0 r.1 in
    let table = c.relay.new.self in
    let rl = relaid_as kind new K P _ _ _ _ _ _ table.slots table.rooms e (c.slots.ensures.value ∙ read.1) (c.rooms.ensures.value ∙ read.2) (c.in_ok-relay.ensures kind new K P y) in
    absurd (c.in_err-new.ensures (lawful_parts due table.slots table.rooms rl table.slots_long table.rooms_long))

pub returns : goal.returns
returns c = λ kind blocks head old new spare due e.
    let plan = c.args.plan.now in
    let K = plan.room in
    let P = plan.slot / 2 ^ K in
    let y = subst (λ ns. Lays kind new K P ns c.as_slice.result.now) (sym e) (subst (Lays kind new K P (plan.number ∷ spare)) (sym c.as_slice.ensures.value) (lays due)) in
    let r = read_old kind blocks head old plan.header due.stored due.planned.read in
    let read = c.in_ok-old.ensures.whole (length old) (slots (block blocks head)) (rooms kind old) r.0 r.1 in
    let table = c.relay.new.self in
    let rl = relaid_as kind new K P _ _ _ _ _ _ table.slots table.rooms e (c.slots.ensures.value ∙ read.1) (c.rooms.ensures.value ∙ read.2) (c.in_ok-relay.ensures kind new K P y) in
    let made = c.in_ok-new.ensures in
    let enc = subst (λ n. Encodes n (deepest table.rooms) table.slots c.encode.result) made.1
    (subst (λ rs. Encodes c.in_ok-new.new.count (deepest rs) table.slots c.encode.result) made.3
    (subst (λ ss. Encodes c.in_ok-new.new.count (deepest c.in_ok-new.new.rooms) ss c.encode.result) made.2 c.encode.ensures)) in
    headed due table.slots table.rooms c.encode.result plan.count rl table.slots_long table.rooms_long due.planned.counted enc
