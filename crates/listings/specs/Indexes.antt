-- What the indexes of a tree have under a key.
use Rattle.std.specs.Prelude.{◌≡◌, ℕ, ◌^◌, ◌<◌, ◌≤◌, Bool, true, List}
use Rattle.std.specs.Option.{option_map}
use Rattle.words.specs.BigEndian.{bytes32}
use Rattle.kinds.specs.Kinds.{Kind}
use Rattle.kinds.specs.Numbers.{register_numbers}
use Rattle.records.specs.Records.{key_of}
use Rattle.model.specs.Trees.{Tree, numbered, is_alike, find, looked_up}
use Rattle.model.specs.Indexes.{entry_of, line_of, folder_records, register_records}
use Rattle.model.specs.Soundness.{KeepsLaws, Sound}

-- a record whose key is alike to the key
abbrev pub named : Kind → List ℕ → List ℕ → Bool
named kind key r = is_alike kind key (key_of r)

-- a folder's index has under a name the record of the object that lookup finds
abbrev pub FolderTells : Type 0
FolderTells =
    (kind : Kind) → KeepsLaws kind → (count : ℕ) (tree : Tree) → Sound kind count tree → (folder : ℕ) → 1 ≤ folder → (name : List ℕ) → kind.lawful name ≡ true
    → find (named kind name) (folder_records kind tree.objects folder) ≡ option_map entry_of (looked_up kind tree folder name)

-- the register has under a number the record of the object that has it
abbrev pub RegisterTells : Type 0
RegisterTells =
    (kind : Kind) (count : ℕ) (tree : Tree) → Sound kind count tree → (n : ℕ) → n < 2 ^ 32
    → find (named register_numbers (bytes32 n)) (register_records tree.objects) ≡ option_map line_of (find (numbered n) tree.objects)
