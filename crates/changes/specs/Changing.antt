-- What putting and removing come to.
use Rattle.std.specs.Prelude.{◌≡◌, ℕ, ◌≤◌, List, [], length, take, Some, None, Ok, Err, Option, Result}
use Rattle.kinds.specs.Kinds.{Kind}
use Rattle.records.specs.Ordered.{put, without, alike}
use Rattle.shape.specs.Shapes.{Held}
use Rattle.shape.specs.Keyed.{by_key}
use Rattle.index.specs.declared.fault.Fault.{Fault}
use Rattle.index.specs.declared.fault.Fault.TheVariants.{BadRecord, Full, NoRoom, Broken}
use Rattle.index.specs.Stored.{Blocks}
use Rattle.plans.specs.Planned.{numbers_of, Changed}
use Rattle.changes.specs.declared.change.Change.{Change}

-- seven spare blocks and nine writes do for every change
abbrev pub Scarce : ℕ → List ℕ → Type 0
Scarce allowed spare = 7 ≤ length spare → 9 ≤ allowed → ⊥

-- records that became others, or for which there was no room
abbrev pub ChangeEnds : Kind → Blocks → Blocks → ℕ → ℕ → List (List ℕ) → List (List ℕ) → List ℕ → Result Change Fault → Type 0
ChangeEnds kind before after allowed head old new spare (Ok change) = Changed kind before after head old new (take change.taken spare) (numbers_of change.given)
ChangeEnds kind before after allowed head old new spare (Err fault) = (fault ≡ NoRoom) × Scarce allowed spare

-- an index that has a record put into it, one that could not be held, or one for which there was no room
abbrev pub PutEnds : Kind → Blocks → Blocks → ℕ → ℕ → List (List ℕ) → List ℕ → List ℕ → Result Change Fault → Type 0
PutEnds kind before after allowed head records bytes spare (Ok change) = Changed kind before after head records (put kind bytes records) (take change.taken spare) (numbers_of change.given)
PutEnds kind before after allowed head records bytes spare (Err Full) = Held (by_key kind) 7 0 (put kind bytes records) → ⊥
PutEnds kind before after allowed head records bytes spare (Err NoRoom) = Scarce allowed spare
PutEnds kind before after allowed head records bytes spare (Err BadRecord) = ⊥
PutEnds kind before after allowed head records bytes spare (Err Broken) = ⊥

-- the same of removal: nothing changes where the key is not there
abbrev pub RemovalEnds : Kind → Blocks → Blocks → ℕ → ℕ → List (List ℕ) → List ℕ → List ℕ → Result (Option Change) Fault → Type 0
RemovalEnds kind before after allowed head records key spare (Ok (Some change)) = (length (alike kind key records) ≡ 1) × Changed kind before after head records (without kind key records) (take change.taken spare) (numbers_of change.given)
RemovalEnds kind before after allowed head records key spare (Ok None) = (alike kind key records ≡ []) × (after ≡ before)
RemovalEnds kind before after allowed head records key spare (Err NoRoom) = Scarce allowed spare
RemovalEnds kind before after allowed head records key spare (Err Full) = ⊥
RemovalEnds kind before after allowed head records key spare (Err BadRecord) = ⊥
RemovalEnds kind before after allowed head records key spare (Err Broken) = ⊥
