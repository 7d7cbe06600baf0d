-- Sound trees: those that a device can hold the image of.
use Rattle.std.specs.Prelude.{◌≡◌, ℕ, ◌^◌, ◌<◌, ◌≤◌, Bool, true, false, ◌&&◌, ◌⊎◌, List, [], ◌∷◌, is_some, Some, None}
use Rattle.std.specs.List.{AllByRecursion}
use Rattle.kinds.specs.Kinds.{Kind, TotalOrder, AlikeHash, Bounded}
use Rattle.model.specs.Trees.{Object, Tree, numbered, folder_numbered, child_of, is_alike, find, climbed, root}
use Rattle.model.specs.Names.{is_bad_name}
use Rattle.model.specs.Indexes.{HeldTree, blocks_in_use}
use Rattle.model.specs.Calls.{State, idle, live}
use Rattle.model.specs.Reasons.{is_bad_kind}

-- a kind that keeps the laws
pub record KeepsLaws (kind : Kind) : Type 0 where
  pub ordered : TotalOrder kind.lawful kind.order
  pub level : AlikeHash kind
  pub bounded : Bounded kind

-- numbers that fall, below a bound
abbrev pub Falling : ℕ → List Object → Type 0
Falling bound [] = Unit {0}
Falling bound (o ∷ os) = (o.number < bound) × Falling o.number os

-- some steps from object to parent lead to the root
abbrev pub Leads : List Object → ℕ → Type 0
Leads os n = (steps : ℕ) × (climbed steps os n ≡ 1)

-- two objects of one folder with alike names
abbrev pub clash : Kind → Object → Object → Bool
clash kind o p = child_of p.parent o && is_alike kind p.name o.name

-- no two objects of a folder have alike names
abbrev pub Apart : Kind → List Object → Type 0
Apart kind [] = Unit {0}
Apart kind (o ∷ os) = AllByRecursion (λ p. clash kind p o ≡ false) os × Apart kind os

-- an object with a good name in a folder
pub record Placed (kind : Kind) (os : List Object) (o : Object) : Type 0 where
  pub named : is_bad_name kind o.name ≡ false
  pub parent : is_some (find (folder_numbered o.parent) os) ≡ true

-- a tree whose image a device of `count` blocks can hold
pub record Sound (kind : Kind) (count : ℕ) (tree : Tree) : Type 0 where
  -- numbers run from 1 to below the next, which has four bytes
  pub next : tree.next < 2 ^ 32
  pub falling : Falling tree.next tree.objects
  pub positive : AllByRecursion (λ o. 1 ≤ o.number) tree.objects
  -- object 1 is the root, and every other stands in a folder
  pub rooted : find (numbered 1) tree.objects ≡ Some root
  pub placed : AllByRecursion (λ o. (o ≡ root) ⊎ Placed kind tree.objects o) tree.objects
  pub kinds : AllByRecursion (λ o. is_bad_kind o.kind ≡ false) tree.objects
  pub leads : AllByRecursion (λ o. Leads tree.objects o.number) tree.objects
  pub apart : Apart kind tree.objects
  -- its image fits onto the device
  pub held : HeldTree kind tree
  pub room : blocks_in_use kind tree ≤ count

-- the tree of a state, where it has one, is sound
abbrev pub SoundState : Kind → ℕ → State → Type 0
SoundState kind count (idle None) = Unit {0}
SoundState kind count (idle (Some tree)) = Sound kind count tree
SoundState kind count (live tree leases) = Sound kind count tree
