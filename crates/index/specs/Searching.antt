-- What a search in an index answers, and how its faults are numbered.
use Rattle.std.specs.Prelude.{◌≡◌, ℕ, List, [], ◌∷◌, Some, None, Ok, Err, Option, Result, slice_index_or}
use Rattle.kinds.specs.Kinds.{Kind}
use Rattle.records.specs.Items.{records_in}
use Rattle.records.specs.Ordered.{alike}
use Rattle.index.specs.declared.fault.Fault.{Fault}
use Rattle.index.specs.declared.fault.Fault.TheVariants.{BadRecord, Full, NoRoom, Broken}
use Rattle.index.specs.declared.found.Found.{Found}

-- the number of the refusal that a fault is, where it is one
abbrev pub number_of : Fault → Option ℕ
number_of BadRecord = Some 7
number_of Full = Some 15
number_of NoRoom = None
number_of Broken = None

-- the record that a search found
abbrev pub record_of : Found → List ℕ
record_of found = slice_index_or (records_in found.block) found.place []

-- the record with an alike key, or nothing where there is none
abbrev pub Finds : Kind → List (List ℕ) → List ℕ → Result (Option Found) Fault → Type 0
Finds kind records key (Ok (Some found)) = alike kind key records ≡ record_of found ∷ []
Finds kind records key (Ok None) = alike kind key records ≡ []
Finds kind records key (Err fault) = ⊥
