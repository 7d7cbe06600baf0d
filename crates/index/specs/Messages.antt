-- What each fault says in print.
use Rattle.std.specs.Prelude.{ℕ, List, codes}
use Rattle.index.specs.declared.fault.Fault.{Fault}
use Rattle.index.specs.declared.fault.Fault.TheVariants.{BadRecord, Full, NoRoom, Broken}

abbrev pub message : Fault → List ℕ
message BadRecord = codes "refused 7, a bad record"
message Full = codes "refused 15, a prefix of 7 bits is too heavy"
message NoRoom = codes "no room"
message Broken = codes "no index"
