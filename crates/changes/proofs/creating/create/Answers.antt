use Rattle.std.proofs.Common.{◌≡◌, ℕ, ◌<◌, true, cond, length, set, replicate, is_ok, ap, ◌∙◌, subst, arith, length-set}
use Rattle.std.proofs.lemmas.Bool.{cond-true, and_from, lt-ltb, eq-eqb}
use Rattle.header.specs.Headers.{Encodes, deepest}
use Rattle.changes.specs.Creating.{Creatable}
use Rattle.changes.proofs.Empties.{created}
use Rattle.changes.proofs.creating.create.Goals as goal

pub returns-clause-creates : goal.returns-clause-creates
returns-clause-creates g c = λ _ kind.
    let d = c.args.device.now in
    let before = g.D.Device.contents d in
    let head = c.args.head in
    let bucket = c.args.bucket in
    let mid = c.write.new.self in
    let last = c.write-2.new.self in
    let empty = c.in_ok-empty.empty in
    let header = c.encode-header.result in
    let w : Creatable before (g.D.Device.allowed d) head bucket = record {
      top = omega (arith, c.if-from-count.false, c.from.ensures, c.count-count.ensures);
      low = omega (arith, c.if-from-count-2.false, c.from-else-from-count.ensures, c.count-count.ensures);
      apart = c.if-head-bucket.false;
      writes = omega (arith, c.if-allowance-lt2.false, c.allowance.ensures);
    } in
    let low : c.from-2.result < length before = omega (arith, c.from-2.ensures, w.low) in
    let size : length empty ≡ 512 = omega arith in
    let free : 0 < g.D.Device.allowed d = omega (arith, w.writes) in
    let first : is_ok c.write.result ≡ true = c.write.ensures.served ∙ and_from _ _ (lt-ltb _ _ low) (and_from _ _ (eq-eqb _ _ size) (lt-ltb _ _ free)) in
    let one : g.D.Device.contents mid ≡ set before bucket empty = c.write.ensures.sets ∙ cond-true _ _ _ first ∙ ap (λ n. set before n empty) c.from-2.ensures in
    let top : c.from-3.result < length (g.D.Device.contents mid) = omega (arith, c.from-3.ensures, w.top, ap length one, length-set before bucket empty) in
    let size2 : length header ≡ 512 = omega arith in
    let free2 : 0 < g.D.Device.allowed mid = omega (arith, w.writes, c.write.ensures.costs, ap (λ t. cond {A = ℕ} t 1 0) first) in
    let second : is_ok c.write-2.result ≡ true = c.write-2.ensures.served ∙ and_from _ _ (lt-ltb _ _ top) (and_from _ _ (eq-eqb _ _ size2) (lt-ltb _ _ free2)) in
    let two : g.D.Device.contents last ≡ set (set before bucket empty) head header
    = c.write-2.ensures.sets ∙ cond-true _ _ _ second ∙ ap (λ n. set (g.D.Device.contents mid) n header) c.from-3.ensures ∙ ap (λ x. set x head header) one in
    let made = c.single.ensures in
    let enc : Encodes 0 (deepest (replicate 128 7)) (replicate 128 bucket) header
    = subst (λ n. Encodes n (deepest (replicate 128 7)) (replicate 128 bucket) header) made.empty
    (subst (λ rs. Encodes c.single.result.count (deepest rs) (replicate 128 bucket) header) made.whole
    (subst (λ ss. Encodes c.single.result.count (deepest c.single.result.rooms) ss header) made.bucket c.encode-header.ensures)) in
    created before (g.D.Device.contents last) (g.D.Device.allowed d) head bucket empty header w c.in_ok-empty.ensures enc two kind

pub returns-clause-keeps : goal.returns-clause-keeps
returns-clause-keeps g c = g.D.Device.laws.onward c.args.device.now c.write.new.self c.write-2.new.self c.write.ensures.keeps c.write-2.ensures.keeps
