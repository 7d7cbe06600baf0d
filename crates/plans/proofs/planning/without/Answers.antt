use Rattle.std.proofs.Common.{◌≡◌, ℕ, ◌/◌, ◌^◌, ◌≤◌, cond, leb, List, IfSome, Some, None, Option, Result, ap, ◌∙◌, arith, MatchResult}
use Rattle.std.specs.List.{remove}
use Rattle.std.specs.Option.{ok_or}
use Rattle.std.proofs.lemmas.Bool.{leb-true, leb-false}
use Rattle.records.specs.Items.{records_in}
use Rattle.records.specs.Records.{load}
use Rattle.buckets.specs.declared.prefix.Prefix.{Prefix}
use Rattle.buckets.specs.Blocks.{bucket_bytes}
use Rattle.index.specs.declared.fault.Fault.{Fault}
use Rattle.index.specs.Stored.{prefix_at}
use Rattle.plans.specs.declared.located.Located.{Located}
use Rattle.plans.specs.Editing.{Relieved}
use Rattle.plans.proofs.Choosing.{some_told, none_told}
use Rattle.plans.proofs.Edits.{load-removed}
use Rattle.plans.proofs.planning.without.Goals as goal

-- a light bucket is light without a record, so its block is built
built : (at : Located) (n : ℕ) (prefix : Prefix) (o : Option (List ℕ)) (r : Result (List ℕ) Fault) (e : Fault) → prefix ≡ prefix_at at.branch.room (at.branch.slot / 2 ^ at.branch.room)
    → o ≡ cond (leb (load (remove (records_in at.block) n)) 504) (Some (bucket_bytes prefix (remove (records_in at.block) n))) None → IfSome o (λ b. records_in b ≡ remove (records_in at.block) n)
    → r ≡ ok_or o e → load (records_in at.block) ≤ 504 → MatchResult r (Relieved at (remove (records_in at.block) n)) (λ _. ⊥)
built at n prefix None r e p b back is light =
    let ys = remove (records_in at.block) n in
    absurd (omega (arith, light, leb-false _ _ (none_told (leb (load ys) 504) (bucket_bytes prefix ys) b), load-removed (records_in at.block) n))
built at n prefix (Some block) r e p b back is light =
    let ys = remove (records_in at.block) n in
    let told = some_told (leb (load ys) 504) block (bucket_bytes prefix ys) b in
    rw is (told.1 ∙ ap (λ q. bucket_bytes q ys) p, back, leb-true _ _ told.0)

pub returns : goal.returns
returns c = built c.args.at.now c.args.place c.prefix.result c.build.result c.ok_or.result _ c.prefix.ensures c.build.ensures.bytes c.build.ensures.back c.ok_or.ensures.value
