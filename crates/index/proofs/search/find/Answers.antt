use Rattle.std.proofs.Common.{◌≡◌, ℕ, ◌<◌, length, Some, subst, rules, arith}
use Rattle.std.specs.Option.{option_map}
use Rattle.header.specs.Headers.{pointer_in}
use Rattle.index.specs.Stored.{block, BucketIn}
use Rattle.index.proofs.Reading.{finds-told, bucket-there}
use Rattle.index.proofs.search.find.Goals as goal

pub returns-in_err-bucket : goal.returns-in_err-bucket
returns-in_err-bucket g c = record {
  bad = λ f. let t = c.if-not-is_lawful.false in let e = c.is_lawful.ensures in absurd (grind arith);
  finds = λ rs st lk.
      let kind = g.K.KeyKind.kind in
      let blocks = g.D.Device.contents c.args.device.now in
      let key = c.args.key.now in
      let header = c.in_ok-header.header in
      let same : header ≡ block blocks c.args.head = c.in_ok-header.ensures.1 in
      let hashed : c.hash.result ≡ kind.hash key = c.hash.ensures in
      let none : (n : ℕ) → n < length blocks → pointer_in header c.hash.result ≡ Some n → ⊥ = c.in_err-bucket.ensures.1 in
      absurd (bucket-there kind blocks c.args.head rs st (kind.hash key) (g.met.K.KeyKind.bounded.narrow key lk)
      (subst (λ h. (n : ℕ) → n < length blocks → pointer_in h (kind.hash key) ≡ Some n → ⊥) same (subst (λ x. (n : ℕ) → n < length blocks → pointer_in header x ≡ Some n → ⊥) hashed none)));
}

pub returns-clause-finds : goal.returns-clause-finds
returns-clause-finds g c = λ rs st lk.
    let kind = g.K.KeyKind.kind in
    let blocks = g.D.Device.contents c.args.device.now in
    let key = c.args.key.now in
    let header = c.in_ok-header.header in
    let bucket = c.in_ok-bucket.bucket in
    let same : header ≡ block blocks c.args.head = c.in_ok-header.ensures.1 in
    let b : BucketIn blocks header (kind.hash key) bucket.number bucket.block = subst (λ h. BucketIn blocks header h bucket.number bucket.block) c.hash.ensures c.in_ok-bucket.ensures in
    let met = g.met.K.KeyKind in
    let found : c.map-found.result ≡ option_map (λ place. record { block = bucket.block; place = place }) c.find.result = search rules in
    rw found (finds-told kind blocks c.args.head rs st met.level met.bounded key lk header same bucket.number bucket.block b met.ordered c.find.result c.find.ensures)
