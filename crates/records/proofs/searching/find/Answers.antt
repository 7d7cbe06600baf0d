use Rattle.std.proofs.Common.{◌≡◌, ℕ, ◌<◌, true, List, [], length, get_or, IfOk, Ok, Err, Result, Equal, sym, ◌∙◌}
use Rattle.std.specs.Result.{result_ok}
use Rattle.kinds.specs.Kinds.{Kind, TotalOrder, AlikeHash}
use Rattle.records.specs.Items.{records_in}
use Rattle.records.specs.Records.{is_record}
use Rattle.records.specs.Searches.{key_at, Sorted, PlacedAt, Finds}
use Rattle.records.proofs.Halved.{none_alike}
use Rattle.records.proofs.searching.find.Goals as goal

module _ (kind : Kind) (o : TotalOrder kind.lawful kind.order) (level : AlikeHash kind) (rs : List (List ℕ)) (key : List ℕ) (lk : kind.lawful key ≡ true) where
  answer : (r : Result ℕ ℕ) → IfOk r (λ n. (n < length rs) × (is_record (get_or rs n []) ≡ true) × (kind.order (key_at rs n) key ≡ Equal)) → (Sorted kind rs → kind.lawful key ≡ true → PlacedAt kind rs key r) → Finds kind rs key (result_ok r)
  answer (Ok n) found placed = (found.0, found.1, lk, found.2)
  answer (Err n) found placed = λ s k. let at = placed s k in none_alike kind o rs s key k level n at.0 at.2

pub returns : goal.returns
returns g c =
    let kind = g.K.KeyKind.kind in
    rw c.ok.ensures.value
    (answer kind g.met.K.KeyKind.ordered g.met.K.KeyKind.level (records_in c.args.block.now) c.args.key.now (sym c.is_lawful.ensures ∙ c.if-not-is_lawful.false) c.search.result c.search.ensures.found c.search.ensures.placed)
