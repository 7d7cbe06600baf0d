use Rattle.std.proofs.Common.{◌≡◌, drop}
use Rattle.records.specs.Items.{records_in}
use Rattle.pages.specs.Gathered.{gathered}
use Rattle.pages.proofs.Taken.{Taking}
use Rattle.paging.proofs.gather.take_from.Given as goal

abbrev pub invariant-loop-n : goal.invariant-loop-n
invariant-loop-n l =
    let rs = records_in l.block in
    (l.page.size ≡ l.initial.page.size) × Taking l.initial.page.size (gathered l.initial.page) (drop l.from rs) (gathered l.page) (drop l.n rs)
