-- The indexes of a tree: the register of its objects, and one for each folder.
use Rattle.std.specs.Prelude.{ℕ, ◌+◌, Bool, true, ◌&&◌, List, [], ◌∷◌, ◌++◌, map, length, sum_by, filter, slice_index}
use Rattle.std.specs.List.{AllByRecursion}
use Rattle.words.specs.BigEndian.{be32, bytes16, bytes32}
use Rattle.kinds.specs.Kinds.{Kind}
use Rattle.kinds.specs.Numbers.{register_numbers}
use Rattle.records.specs.Records.{key_of, data_of}
use Rattle.records.specs.Ordered.{put}
use Rattle.shape.specs.Shapes.{buckets, Held}
use Rattle.shape.specs.Keyed.{by_key}
use Rattle.shape.specs.Holding.{is_held}
use Rattle.model.specs.Trees.{Object, Tree, is_folder, child_of}

-- the record of an object in its folder: its name, the key, then number and kind
abbrev pub entry_of : Object → List ℕ
entry_of o = length o.name ∷ o.name ++ (bytes32 o.number ++ o.kind ∷ [])

-- the object that a record of a folder tells of
abbrev pub told : ℕ → List ℕ → Object
told folder r = record { number = be32 (data_of r) 0; parent = folder; name = key_of r; kind = slice_index (data_of r) 4 }

-- the record of an object in the register: its number, the key, then parent, kind, header block and name
abbrev pub line_with : ℕ → Object → List ℕ
line_with header o = 4 ∷ bytes32 o.number ++ (bytes32 o.parent ++ (o.kind ∷ bytes16 header ++ o.name))

-- which block is a folder's header is left to the volume, and no shape depends on it: 0 stands for each of them here
abbrev pub line_of : Object → List ℕ
line_of o = line_with 0 o

-- an index of records: put in one after another, from the last on
abbrev pub indexed : Kind → List (List ℕ) → List (List ℕ)
indexed kind [] = []
indexed kind (r ∷ rs) = put kind r (indexed kind rs)

-- what the index of a folder holds
unfoldable pub folder_records : Kind → List Object → ℕ → List (List ℕ)
folder_records kind os folder = indexed kind (map entry_of (filter (child_of folder) os))

-- what the register holds
unfoldable pub register_records : List Object → List (List ℕ)
register_records os = indexed register_numbers (map line_of os)

-- an index's blocks: its header and its buckets
abbrev pub index_blocks : Kind → List (List ℕ) → ℕ
index_blocks kind rs = 1 + buckets (by_key kind) 7 0 rs

-- blocks in use: two, and those of the register and of each folder
unfoldable pub blocks_in_use : Kind → Tree → ℕ
blocks_in_use kind tree =
    2 + index_blocks register_numbers (register_records tree.objects)
    + sum_by (λ o. index_blocks kind (folder_records kind tree.objects o.number)) (filter is_folder tree.objects)

-- an index that can be held
abbrev pub HeldIndex : Kind → List (List ℕ) → Type 0
HeldIndex kind rs = Held (by_key kind) 7 0 rs

-- every index of the tree can be held
pub record HeldTree (kind : Kind) (tree : Tree) : Type 0 where
  pub register : HeldIndex register_numbers (register_records tree.objects)
  pub folders : AllByRecursion (λ o. HeldIndex kind (folder_records kind tree.objects o.number)) (filter is_folder tree.objects)

-- every object of a list passes a test
abbrev pub every : (Object → Bool) → List Object → Bool
every test [] = true
every test (o ∷ os) = test o && every test os

-- whether every index of the tree can be held
unfoldable pub is_held_tree : Kind → Tree → Bool
is_held_tree kind tree =
    is_held (by_key register_numbers) 7 0 (register_records tree.objects)
    && every (λ o. is_held (by_key kind) 7 0 (folder_records kind tree.objects o.number)) (filter is_folder tree.objects)
