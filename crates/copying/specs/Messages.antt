-- What each error says in print.
use Rattle.std.specs.Prelude.{ℕ, List, codes}
use Rattle.copying.specs.declared.error.CopyError.{CopyError}
use Rattle.copying.specs.declared.error.CopyError.TheVariants.{TooSmall, Worn, OutOfMemory}

abbrev pub message : CopyError → List ℕ
message TooSmall = codes "the target has fewer blocks than the source"
message Worn = codes "the target allows too few writes"
message OutOfMemory = codes "out of memory"
