use Rattle.std.proofs.Common.{◌≡◌, take}
use Rattle.kinds.specs.Names.{fnv}
use Rattle.kinds.proofs.names.ExactNamesKeyKind.hash.Given as goal

abbrev pub invariant-loop-byte : goal.invariant-loop-byte
invariant-loop-byte l = l.hash ≡ fnv (take l.byte-index l.key)
