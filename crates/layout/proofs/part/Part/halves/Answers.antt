use Rattle.std.proofs.Common.{◌≡◌, ◌+◌, ◌-◌, ◌*◌, ◌^◌, ◌≤◌, sym, subst, arith}
use Rattle.shape.proofs.Halves.{small_halves}
use Rattle.layout.proofs.part.Part.halves.Goals as goal

pub invariant_of-low : goal.invariant_of-low
invariant_of-low c =
    let self = c.args.self in
    let h = small_halves self.prefix self.room (omega arith) self.inside in
    record { deep = omega arith; inside = let e : c.in_ok-room.room ≡ self.room - 1 = omega arith in subst (λ k. (2 * self.prefix + 1) * 2 ^ k ≤ 128) (sym e) h.1 }

pub invariant_of-high : goal.invariant_of-high
invariant_of-high c =
    let self = c.args.self in
    let h = small_halves self.prefix self.room (omega arith) self.inside in
    record { deep = omega arith; inside = let e : c.in_ok-room.room ≡ self.room - 1 = omega arith in subst (λ k. (2 * self.prefix + 1 + 1) * 2 ^ k ≤ 128) (sym e) h.2 }
