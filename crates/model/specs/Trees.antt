-- The tree of folders and documents, and how it changes.
use Rattle.std.specs.Prelude.{ℕ, zero, suc, ◌+◌, Bool, cond, not, ◌&&◌, ◌||◌, List, [], ◌∷◌, map, is_some, Some, None, filter, Option, ◌==◌}
use Rattle.std.specs.Option.{option_map, unwrap_or}
use Rattle.std.specs.Ordering.{is_eq}
use Rattle.kinds.specs.Kinds.{Kind}

-- a folder or a document
pub record Object : Type 0 where
  pub number : ℕ
  pub parent : ℕ
  pub name : List ℕ
  pub kind : ℕ

-- the number that the next object gets, and the objects, the newest first
pub record Tree : Type 0 where
  pub next : ℕ
  pub objects : List Object

-- kind 1 is a folder, 2 a document
abbrev pub is_folder : Object → Bool
is_folder o = o.kind == 1

-- the object has that number
abbrev pub numbered : ℕ → Object → Bool
numbered n o = o.number == n

-- the folder of that number
abbrev pub folder_numbered : ℕ → Object → Bool
folder_numbered n o = numbered n o && is_folder o

-- the object stands in that folder
abbrev pub child_of : ℕ → Object → Bool
child_of folder o = o.parent == folder

-- alike names are one name
abbrev pub is_alike : Kind → List ℕ → List ℕ → Bool
is_alike kind a b = is_eq (kind.order a b)

-- the object has that parent and an alike name
abbrev pub stands_as : Kind → ℕ → List ℕ → Object → Bool
stands_as kind folder name o = child_of folder o && is_alike kind name o.name

-- the first of a list that passes a test
abbrev pub find : {X : Type 0} → (X → Bool) → List X → Option X
find test [] = None
find test (x ∷ xs) = cond (test x) (Some x) (find test xs)

-- some object passes a test
abbrev pub has : (Object → Bool) → Tree → Bool
has test tree = is_some (find test tree.objects)

-- there is a folder of that number
abbrev pub has_folder : ℕ → Tree → Bool
has_folder n tree = has (folder_numbered n) tree

-- what lookup finds
abbrev pub looked_up : Kind → Tree → ℕ → List ℕ → Option Object
looked_up kind tree folder name = find (stands_as kind folder name) tree.objects

-- the number of what lookup finds; 0, which no object has, where it finds nothing
abbrev pub number_at : Kind → Tree → ℕ → List ℕ → ℕ
number_at kind tree folder name = unwrap_or (option_map (λ o. o.number) (looked_up kind tree folder name)) 0

-- and its kind
abbrev pub kind_at : Kind → Tree → ℕ → List ℕ → ℕ
kind_at kind tree folder name = unwrap_or (option_map (λ o. o.kind) (looked_up kind tree folder name)) 0

-- the parent of object n; 0 where there is no such object
abbrev pub parent_of : List Object → ℕ → ℕ
parent_of os n = unwrap_or (option_map (λ o. o.parent) (find (numbered n) os)) 0

-- where so many steps from object to parent lead
abbrev pub climbed : ℕ → List Object → ℕ → ℕ
climbed zero os n = n
climbed (suc steps) os n = climbed steps os (parent_of os n)

-- folder x is folder n or lies above it, so many steps at most
abbrev pub is_above : ℕ → List Object → ℕ → ℕ → Bool
is_above zero os x n = n == x
is_above (suc steps) os x n = n == x || is_above steps os x (parent_of os n)

-- the root: a folder with parent 0 and, alone, an empty name
abbrev pub root : Object
root = record { number = 1; parent = 0; name = []; kind = 1 }

-- the tree after format
abbrev pub fresh : Tree
fresh = record { next = 2; objects = root ∷ [] }

-- a new object, which gets the next number
abbrev pub new_object : Tree → ℕ → List ℕ → ℕ → Object
new_object tree folder name kind = record { number = tree.next; parent = folder; name = name; kind = kind }

-- the tree with a new object
abbrev pub created : Tree → ℕ → List ℕ → ℕ → Tree
created tree folder name kind = record {
  next = tree.next + 1;
  objects = new_object tree folder name kind ∷ tree.objects;
}

-- the tree without object n
abbrev pub removed : Tree → ℕ → Tree
removed tree n = record { next = tree.next; objects = filter (λ o. not (numbered n o)) tree.objects }

-- the object in its new folder and under its new name
abbrev pub placed_at : ℕ → List ℕ → Object → Object
placed_at folder name o = record { number = o.number; parent = folder; name = name; kind = o.kind }

-- the tree in which object n has a new parent and a new name
abbrev pub renamed : Tree → ℕ → ℕ → List ℕ → Tree
renamed tree n folder name = record {
  next = tree.next;
  objects = map (λ o. cond (numbered n o) (placed_at folder name o) o) tree.objects;
}
