use Rattle.std.proofs.Common.{◌≡◌, ℕ, ◌+◌, ◌-◌, ◌*◌, ◌%◌, ◌^◌, ap, arith}
use Rattle.buckets.specs.declared.prefix.Prefix.{Prefix}
use Rattle.layout.proofs.Splits.{top_is, first_small}
use Rattle.layout.proofs.part.Part.prefix.Goals as goal

pub returns : goal.returns
returns c =
    let self = c.args.self in
    let e : c.from.result * 33554432 % 4294967296 ≡ self.prefix * 2 ^ (25 + self.room) = omega (arith, top_is self.room self.prefix, first_small self.room self.prefix self.inside) in
    let with : ℕ → Prefix = λ n. record { bits = 7 - self.room; top = n } in
    ap with e
