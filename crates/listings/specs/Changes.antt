-- How the indexes of a tree change with it: one record put or taken out at a time.
use Rattle.std.specs.Prelude.{◌≡◌, ℕ, ◌≤◌, true, false, List, Some, ◌≢◌}
use Rattle.words.specs.BigEndian.{bytes32}
use Rattle.kinds.specs.Kinds.{Kind}
use Rattle.kinds.specs.Numbers.{register_numbers}
use Rattle.records.specs.Ordered.{put, without}
use Rattle.model.specs.Trees.{Object, Tree, looked_up, new_object, created, removed, placed_at, renamed}
use Rattle.model.specs.Indexes.{entry_of, line_of, folder_records, register_records}
use Rattle.model.specs.Reasons.{is_taken}
use Rattle.model.specs.Soundness.{KeepsLaws, Sound}

-- the index of every folder but one is as it was
abbrev pub OthersKept : Kind → List Object → List Object → ℕ → Type 0
OthersKept kind before after folder = (other : ℕ) → (other ≢ folder) → folder_records kind after other ≡ folder_records kind before other

-- create puts a record into the folder's index, and one into the register
pub record PutsNew (kind : Kind) (tree : Tree) (folder : ℕ) (name : List ℕ) (k : ℕ) : Type 0 where
  pub here : folder_records kind (created tree folder name k).objects folder ≡ put kind (entry_of (new_object tree folder name k)) (folder_records kind tree.objects folder)
  pub others : OthersKept kind tree.objects (created tree folder name k).objects folder
  pub register : register_records (created tree folder name k).objects ≡ put register_numbers (line_of (new_object tree folder name k)) (register_records tree.objects)

-- remove takes a record out of each
pub record TakesOut (kind : Kind) (tree : Tree) (folder : ℕ) (name : List ℕ) (o : Object) : Type 0 where
  pub here : folder_records kind (removed tree o.number).objects folder ≡ without kind name (folder_records kind tree.objects folder)
  pub others : OthersKept kind tree.objects (removed tree o.number).objects folder
  pub register : register_records (removed tree o.number).objects ≡ without register_numbers (bytes32 o.number) (register_records tree.objects)

-- rename takes the record out of the folder's index, as remove does, and puts one into the target's; it replaces the one in the register
pub record PutsMoved (kind : Kind) (tree : Tree) (o : Object) (target : ℕ) (name : List ℕ) : Type 0 where
  pub there : folder_records kind (renamed tree o.number target name).objects target ≡ put kind (entry_of (placed_at target name o)) (folder_records kind (removed tree o.number).objects target)
  pub others : OthersKept kind (removed tree o.number).objects (renamed tree o.number target name).objects target
  pub register : register_records (renamed tree o.number target name).objects ≡ put register_numbers (line_of (placed_at target name o)) (register_records tree.objects)

-- so it is in any tree
abbrev pub CreatePuts : Type 0
CreatePuts = (kind : Kind) (tree : Tree) (folder : ℕ) (name : List ℕ) (k : ℕ) → PutsNew kind tree folder name k

-- so it is where lookup finds the object
abbrev pub RemoveTakes : Type 0
RemoveTakes =
    (kind : Kind) → KeepsLaws kind → (count : ℕ) (tree : Tree) → Sound kind count tree → (folder : ℕ) (name : List ℕ) (o : Object) → 1 ≤ folder → kind.lawful name ≡ true
    → looked_up kind tree folder name ≡ Some o → TakesOut kind tree folder name o

-- so it is where lookup finds the object, and no other has the new name
abbrev pub RenameMoves : Type 0
RenameMoves =
    (kind : Kind) → KeepsLaws kind → (count : ℕ) (tree : Tree) → Sound kind count tree → (folder : ℕ) (name : List ℕ) (o : Object) (target : ℕ) (new_name : List ℕ) → 1 ≤ folder → 1 ≤ target
    → kind.lawful new_name ≡ true → looked_up kind tree folder name ≡ Some o → is_taken kind tree o.number target new_name ≡ false → PutsMoved kind tree o target new_name
