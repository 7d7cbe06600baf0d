-- What each error of a page says in print.
use Rattle.std.specs.Prelude.{ℕ, List, codes}
use Rattle.paging.specs.declared.refusal.PageError.{PageError}
use Rattle.paging.specs.declared.refusal.PageError.TheVariants.{Buffer, Bookmark, Broken}

abbrev pub message : PageError → List ℕ
message Buffer = codes "refused 6, a bad buffer"
message Bookmark = codes "refused 7, a bad bookmark"
message Broken = codes "no index"
