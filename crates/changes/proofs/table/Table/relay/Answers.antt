use Rattle.std.proofs.Common.{◌≡◌, ℕ, ◌+◌, ◌*◌, ◌^◌, ◌<◌, ◌≤◌, false, List, [], ◌∷◌, ◌++◌, length, get_or, sym, ap, ◌∙◌, subst, arith, length-append}
use Rattle.std.proofs.ByRecursion.{All-get_or}
use Rattle.std.proofs.lemmas.List.{get_or-map, length-map}
use Rattle.std.proofs.lemmas.Bool.{both_ways}
use Rattle.std.proofs.lemmas.Slice.Zip.{zip_turn, zip_end}
use Rattle.kinds.specs.Kinds.{Kind}
use Rattle.shape.specs.Buckets.{Leaf, leaves, first_slot}
use Rattle.shape.specs.Keyed.{by_key}
use Rattle.shape.proofs.Leaves.{leaf, place_is}
use Rattle.layout.specs.Laid.{leaf_block}
use Rattle.changes.specs.Relaying.{filled_at, first_in, room_in, is_run, Named, Unnamed, Lays}
use Rattle.changes.proofs.Relays.{leaves_within, leaf_room, leaf_first, leaf-run, named_more, unnamed_more}
use Rattle.changes.proofs.table.Table.relay.Goals as goal

-- bucket i of those under a prefix
module _ {kind : Kind} {new : List (List ℕ)} {k p : ℕ} {ns : List ℕ} {bs : List (List ℕ)} (y : Lays kind new k p ns bs) where
  pub laid-long : length bs ≡ length (leaves (by_key kind) k p new)
  laid-long = ap length y.laid ∙ length-map (leaves (by_key kind) k p new) (leaf_block kind new)

  module _ {i : ℕ} (l : i < length bs) {block : List ℕ} (e : block ≡ get_or bs i []) where
    abbrev x : Leaf
    x = get_or (leaves (by_key kind) k p new) i (leaf 0 0)

    inside : i < length (leaves (by_key kind) k p new)
    inside = omega (arith, laid-long)

    block_is : block ≡ leaf_block kind new x
    block_is = e ∙ ap (λ cs. get_or cs i []) y.laid ∙ get_or-map (leaf_block kind new) (leaves (by_key kind) k p new) i (leaf 0 0) [] inside

    within : (x.room ≤ k) × ((x.prefix + 1) * 2 ^ x.room ≤ (p + 1) * 2 ^ k)
    within = All-get_or (λ x. (x.room ≤ k) × ((x.prefix + 1) * 2 ^ x.room ≤ (p + 1) * 2 ^ k)) (leaves (by_key kind) k p new) i (leaf 0 0) inside (leaves_within (by_key kind) new k p)

    deep : x.room ≤ 7
    deep = omega (arith, y.deep, within.0)

    small : (x.prefix + 1) * 2 ^ x.room ≤ 128
    small = omega (arith, y.small, within.1)

    run_is : is_run block ≡ false → ⊥
    run_is f = both_ways _ f (ap is_run block_is ∙ leaf-run kind new x deep small)

    filled_is : (v : ℕ) (xs : List ℕ) (s : ℕ) → filled_at (first_in block) (first_in block + 2 ^ room_in block) v xs s ≡ filled_at (first_slot x) (first_slot x + 2 ^ x.room) v xs s
    filled_is v xs s =
        ap (λ b. filled_at (first_in b) (first_in b + 2 ^ room_in b) v xs s) block_is
        ∙ ap (λ n. filled_at n (n + 2 ^ room_in (leaf_block kind new x)) v xs s) (leaf_first kind new x deep small)
        ∙ ap (λ n. filled_at (first_slot x) (first_slot x + 2 ^ n) v xs s) (leaf_room kind new x deep small)

    room_same : room_in block ≡ x.room
    room_same = ap room_in block_is ∙ leaf_room kind new x deep small

pub loop-number-preserved : goal.loop-number-preserved
loop-number-preserved c = λ kind new k p y.
    let ns = c.args.numbers.now in
    let bs = c.args.blocks.now in
    let i = length c.loop-number.yielded in
    let first : c.into_iter-number-iterator.result.a.rest.now ≡ ns = cc in
    let second : c.into_iter-number-iterator.result.b.rest.now ≡ bs = cc in
    let turn = zip_turn ns bs c.loop-number.yielded c.into_iter-number-iterator.result c.loop-number.number-iterator c.next.new.self c.next.result first second c.loop-number.yielded_by (c.in-Some.number, c.in-Some.block) c.in-Some.is c.next.ensures.steps in
    let next : length (c.loop-number.yielded ++ (c.in-Some.number, c.in-Some.block) ∷ []) ≡ i + 1 = omega (arith, length-append c.loop-number.yielded ((c.in-Some.number, c.in-Some.block) ∷ [])) in
    let number = c.in-Some.number.now in
    let block = c.in-Some.block.now in
    let was = c.loop-number.self in
    let now = c.name.new.self in
    let leaf-i = get_or (leaves (by_key kind) k p new) i (leaf 0 0) in
    let named = c.in_ok-name.ensures in
    let slots = λ (s : ℕ). named.0 s ∙ filled_is y turn.1 (turn.3 []) number was.slots s in
    let rooms = λ (s : ℕ). named.1 s ∙ filled_is y turn.1 (turn.3 []) (room_in block) was.rooms s
    ∙ ap (λ v. filled_at (first_slot leaf-i) (first_slot leaf-i + 2 ^ leaf-i.room) v was.rooms s) (room_same y turn.1 (turn.3 [])) in
    let inv = c.loop-number.invariant kind new k p y in
    let here = inside y turn.1 (turn.3 []) in (
      subst (λ n. Named (leaves (by_key kind) k p new) n ns now.slots now.rooms) (sym next) (named_more kind new k p i ns c.args.self.now.slots c.args.self.now.rooms was.slots was.rooms now.slots now.rooms here number (turn.2 0) slots rooms inv.0),
      subst (λ n. Unnamed (leaves (by_key kind) k p new) n c.args.self.now.slots c.args.self.now.rooms now.slots now.rooms) (sym next) (unnamed_more kind new k p i ns c.args.self.now.slots c.args.self.now.rooms was.slots was.rooms now.slots now.rooms here number (turn.2 0) slots rooms inv.1),
    )

pub returns-in_err-name : goal.returns-in_err-name
returns-in_err-name c = λ kind new k p y.
    let ns = c.args.numbers.now in
    let bs = c.args.blocks.now in
    let first : c.into_iter-number-iterator.result.a.rest.now ≡ ns = cc in
    let second : c.into_iter-number-iterator.result.b.rest.now ≡ bs = cc in
    let turn = zip_turn ns bs c.loop-number.yielded c.into_iter-number-iterator.result c.loop-number.number-iterator c.next.new.self c.next.result first second c.loop-number.yielded_by (c.in-Some.number, c.in-Some.block) c.in-Some.is c.next.ensures.steps in
    absurd (run_is y turn.1 (turn.3 []) c.in_err-name.ensures)

pub returns : goal.returns
returns c = λ kind new k p y.
    let ns = c.args.numbers.now in
    let bs = c.args.blocks.now in
    let first : c.into_iter-number-iterator.result.a.rest.now ≡ ns = cc in
    let second : c.into_iter-number-iterator.result.b.rest.now ≡ bs = cc in
    let end = zip_end ns bs c.loop-number.yielded c.into_iter-number-iterator.result c.loop-number.number-iterator c.next.new.self c.next.result first second c.loop-number.yielded_by c.in-None.is c.next.ensures.steps in
    let inv = c.loop-number.invariant kind new k p y in
    let all : length (leaves (by_key kind) k p new) ≤ length c.loop-number.yielded = omega (arith, end, y.enough, laid-long y) in
    record {
      on = λ i s l b. inv.0 i s (omega (arith, b, all)) b;
      off = λ s l ne. inv.1 s l (λ i li b e. ne (place_is (by_key kind) k p new i s (leaf 0 0) b e).0);
    }
