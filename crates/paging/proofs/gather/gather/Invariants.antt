use Rattle.std.proofs.Common.{◌≡◌, ℕ, ◌-◌, true, List, [], get_or}
use Rattle.pages.specs.Gathered.{gathered}
use Rattle.index.specs.Stored.{Stored}
use Rattle.paging.specs.Refusals.{is_bookmark}
use Rattle.paging.proofs.Turns.{Walking}
use Rattle.paging.proofs.gather.gather.Given as goal

abbrev pub invariant-loop-slot : goal.invariant-loop-slot
invariant-loop-slot g l =
    let kind = g.K.KeyKind.kind in
    let blocks = g.D.Device.contents l.device in
    (l.page.size ≡ l.initial.page.size)
    × ((head : ℕ) (rs : List (List ℕ)) → Stored kind blocks head rs → l.header ≡ get_or blocks head [] → is_bookmark kind l.bookmark ≡ true → Walking kind l.bookmark rs l.initial.page.size (gathered l.initial.page) (gathered l.page) l.slot)

abbrev pub decreases-loop-slot : goal.decreases-loop-slot
decreases-loop-slot g l = 128 - l.slot
