use Rattle.std.proofs.Common.{◌≡◌, ℕ, ◌/◌, ◌^◌, ◌<◌, length, get_or, Some, sym, ap, ◌∙◌, subst, arith}
use Rattle.header.specs.Headers.{pointer_in, Encodes, deepest}
use Rattle.shape.specs.Shapes.{under}
use Rattle.shape.specs.Keyed.{by_key}
use Rattle.index.specs.Stored.{block, slots, rooms, room_at}
use Rattle.index.proofs.Reading.{bucket-there}
use Rattle.plans.proofs.Places.{number_is, bits_is, room_is, holds-is, holds-sorted}
use Rattle.plans.proofs.locating.locate.Goals as goal

pub returns-in_err-number : goal.returns-in_err-number
returns-in_err-number g c = λ rs st.
    let kind = g.K.KeyKind.kind in
    let blocks = g.D.Device.contents c.args.device.now in
    let key = c.args.key.now in
    let header = c.in_ok-header.header in
    let same : header ≡ block blocks c.args.head = c.in_ok-header.ensures.1 in
    let hashed : c.hash-hash.result ≡ kind.hash key = c.hash-hash.ensures in
    let none : (n : ℕ) → n < length blocks → pointer_in header c.hash-hash.result ≡ Some n → ⊥ = c.in_err-number.ensures.1 in
    absurd (bucket-there kind blocks c.args.head rs st (kind.hash key) (g.met.K.KeyKind.bounded.narrow key c.requires)
    (subst (λ h. (n : ℕ) → n < length blocks → pointer_in h (kind.hash key) ≡ Some n → ⊥) same (subst (λ x. (n : ℕ) → n < length blocks → pointer_in header x ≡ Some n → ⊥) hashed none)))

pub returns-in_err-branch : goal.returns-in_err-branch
returns-in_err-branch g c = λ rs st.
    let kind = g.K.KeyKind.kind in
    let header = c.in_ok-header.header in
    let h = c.hash-hash.result in
    let l : h < 2 ^ 32 = omega arith in
    let bucket = c.in_ok-number.field-0 in
    let none = rw c.in_err-branch.ensures.ok_part at c.branch_in.ensures in
    absurd (none (omega (arith, bits_is st l c.in_ok-header.ensures.1 c.in_ok-number.ensures)))

pub returns : goal.returns
returns g c = λ rs st.
    let kind = g.K.KeyKind.kind in
    let blocks = g.D.Device.contents c.args.device.now in
    let head = c.args.head in
    let header = c.in_ok-header.header in
    let same : header ≡ block blocks head = c.in_ok-header.ensures.1 in
    let h = c.hash-hash.result in
    let l : h < 2 ^ 32 = omega arith in
    let bucket = c.in_ok-number.field-0 in
    let b = c.in_ok-number.ensures in
    let branch = c.in_ok-branch.branch in
    let told = rw c.in_ok-branch.ensures.ok_part at c.branch_in.ensures in
    let at : h / 2 ^ 25 ≡ branch.slot = sym told.0 in
    let bits : branch.room ≡ room_at kind rs (h / 2 ^ 25) = omega (arith, told.1, room_is st l same b) in
    let counted = c.count_in.ensures.told (length rs) (deepest (rooms kind rs)) (slots (block blocks head)) st.countable (subst (Encodes (length rs) (deepest (rooms kind rs)) (slots (block blocks head))) (sym same) st.header) in
    let count = c.in_ok-count.ensures.ok_part in
    record {
      header = same;
      count = cc;
      slot = told.0 ∙ ap (λ n. n / 2 ^ 25) c.hash-hash.ensures;
      room = bits ∙ ap (room_at kind rs) at;
      number = number_is st l same b ∙ ap (λ n. get_or (slots (block blocks head)) n 0) at;
      holds = holds-is st l same b branch.room bits ∙ ap (λ n. under (by_key kind) branch.room (n / 2 ^ branch.room) rs) at;
      placed = c.search-place.ensures.placed (holds-sorted st l same b) c.requires;
    }
