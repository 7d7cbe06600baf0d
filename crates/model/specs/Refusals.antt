-- The number of each refusal, and which of several counts.
use Rattle.std.specs.Prelude.{ℕ, Bool, cond, List, [], ◌∷◌, Some, None, Option}
use Rattle.model.specs.declared.refusal.Refusal.{Refusal}
use Rattle.model.specs.declared.refusal.Refusal.TheVariants.{Idle, LeasesOut, OddDevice, Worn, Unsound, Buffer, BadName, BadKind, UnknownNumber, NoSuchName, Taken, NotEmpty, OwnBranch, NumbersSpent, IndexFull, VolumeFull, NoLease, LeasesSpent}

-- the number that a refused call returns
abbrev pub number_of : Refusal → ℕ
number_of Idle = 1
number_of LeasesOut = 2
number_of OddDevice = 3
number_of Worn = 4
number_of Unsound = 5
number_of Buffer = 6
number_of BadName = 7
number_of BadKind = 8
number_of UnknownNumber = 9
number_of NoSuchName = 10
number_of Taken = 11
number_of NotEmpty = 12
number_of OwnBranch = 13
number_of NumbersSpent = 14
number_of IndexFull = 15
number_of VolumeFull = 16
number_of NoLease = 17
number_of LeasesSpent = 18

-- a reason, and whether it holds
abbrev pub Reason : Type 0
Reason = Refusal × Bool

-- the first reason that holds
abbrev pub first_of : List Reason → Option Refusal
first_of [] = None
first_of (r ∷ rs) = cond r.1 (Some r.0) (first_of rs)
