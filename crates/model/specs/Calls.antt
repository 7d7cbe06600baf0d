-- The ten calls: what each brings and answers; and the state of a server.
use Rattle.std.specs.Prelude.{ℕ, Bool, true, false, List, Some, None, Option}
use Rattle.model.specs.declared.refusal.Refusal.{Refusal}
use Rattle.model.specs.Trees.{Tree, fresh}

-- idle, over blocks that are the image of a tree or of none; or live, with a tree and so many leases out
pub data State : Type 0 where
  idle : Option Tree → State
  live : Tree → ℕ → State

-- a call and what it brings, but for its buffer
pub data Call : Type 0 where
  format : Call
  -- `open` is a word of the language
  open' : Call
  lookup : (folder : ℕ) → (name : List ℕ) → Call
  create : (folder : ℕ) → (name : List ℕ) → (kind : ℕ) → Call
  remove : (folder : ℕ) → (name : List ℕ) → Call
  rename : (folder : ℕ) → (name : List ℕ) → (target : ℕ) → (new_name : List ℕ) → Call
  tally : Call
  lease : (folder : ℕ) → Call
  -- a lease is the number of its folder
  page : (leased : ℕ) → (bookmark : List ℕ) → Call
  close : (leased : ℕ) → Call

-- what lookup answers
pub record Found : Type 0 where
  pub number : ℕ
  pub kind : ℕ

-- what tally answers
pub record Tally : Type 0 where
  pub blocks : ℕ
  pub used : ℕ
  pub objects : ℕ
  pub next : ℕ
  pub leases : ℕ

-- what page answers: how many records, the bytes used, and the end mark
pub record PageAnswer : Type 0 where
  pub count : ℕ
  pub used : ℕ
  pub end : Bool

-- what a call answers
pub data Answer : Type 0 where
  refused : Refusal → Answer
  done : Answer
  found : Found → Answer
  made : (number : ℕ) → Answer
  tallied : Tally → Answer
  leased : (folder : ℕ) → Answer
  page_given : PageAnswer → Answer

-- what a call answers, its buffer after it, and the state that it leaves
abbrev pub Outcome : Type 0
Outcome = Answer × List ℕ × State

-- a server is idle until its first format or open is served
abbrev pub is_idle : State → Bool
is_idle (idle image) = true
is_idle (live tree leases) = false

-- how many leases are out: none, while the server is idle
abbrev pub leases_out : State → ℕ
leases_out (idle image) = 0
leases_out (live tree leases) = leases

-- the tree of a live server, or the one whose image an idle server's blocks are; where there is none, no call reaches it
abbrev pub tree_of : State → Tree
tree_of (idle None) = fresh
tree_of (idle (Some tree)) = tree
tree_of (live tree leases) = tree
