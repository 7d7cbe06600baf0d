-- What a word that was read tells, and one that was not.
use Rattle.std.proofs.Common.{◌≡◌, ℕ, ◌+◌, ◌<◌, ◌≤◌, List, length, Some, None, arith}
use Rattle.std.proofs.lemmas.Bool.Decides.{nat_tests}
use Rattle.words.specs.BigEndian.{be16, be32, word16, word32}

pub word16_some : (xs : List ℕ) (at v : ℕ) → Some v ≡ word16 xs at → (at + 2 ≤ length xs) × (v ≡ be16 xs at)
word16_some xs at v e = (grind (arith, nat_tests), grind (arith, nat_tests))

pub word16_none : (xs : List ℕ) (at : ℕ) → None ≡ word16 xs at → length xs < at + 2
word16_none xs at e = grind (arith, nat_tests)

pub word32_some : (xs : List ℕ) (at v : ℕ) → Some v ≡ word32 xs at → (at + 4 ≤ length xs) × (v ≡ be32 xs at)
word32_some xs at v e = (grind (arith, nat_tests), grind (arith, nat_tests))

pub word32_none : (xs : List ℕ) (at : ℕ) → None ≡ word32 xs at → length xs < at + 4
word32_none xs at e = grind (arith, nat_tests)
