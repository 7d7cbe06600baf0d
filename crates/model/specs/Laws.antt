-- What holds over runs of calls, whatever they are.
use Rattle.std.specs.Prelude.{◌≡◌, ℕ, ◌+◌, ◌<◌, ◌≤◌, Bool, true, false, ◌&&◌, List, [], ◌∷◌, ◌++◌, length, Decides, count_by, Option, ◌≢◌}
use Rattle.std.specs.List.{AllByRecursion}
use Rattle.kinds.specs.Kinds.{Kind}
use Rattle.model.specs.declared.refusal.Refusal.{Refusal}
use Rattle.model.specs.declared.refusal.Refusal.TheVariants.{Unsound}
use Rattle.model.specs.Refusals.{number_of, Reason}
use Rattle.model.specs.Trees.{Tree, climbed, is_above}
use Rattle.model.specs.Indexes.{HeldTree, is_held_tree, blocks_in_use}
use Rattle.model.specs.Calls.{State, idle, live, Call, format, open', lookup, create, remove, rename, tally, lease, page, close, Answer, refused, done, found, made, tallied, leased, page_given, leases_out}
use Rattle.model.specs.Reasons.{reasons}
use Rattle.model.specs.Soundness.{KeepsLaws, Leads, Apart, Sound, SoundState}
use Rattle.model.specs.Histories.{Brought, Event, event, history}

-- what is said of a live server's tree
abbrev pub OfTree : (Tree → Type 0) → State → Type 0
OfTree P (idle image) = Unit {0}
OfTree P (live tree leases) = P tree

-- for every kind and device, over a sound image or none, it holds of the tree after each call of each history
abbrev pub OverRuns : (Kind → ℕ → Tree → Type 0) → Type 0
OverRuns P =
    (kind : Kind) → KeepsLaws kind → (count : ℕ) (image : Option Tree) → SoundState kind count (idle image)
    → (calls : List Brought) → AllByRecursion (λ e. OfTree (P kind count) e.left) (history kind count (idle image) calls)

-- the tree stays sound
abbrev pub StaysSound : Type 0
StaysSound = OverRuns (λ kind count tree. Sound kind count tree)

-- every object's parents lead to the root
abbrev pub ParentsLead : Type 0
ParentsLead = OverRuns (λ kind count tree. AllByRecursion (λ o. Leads tree.objects o.number) tree.objects)

-- no two objects of a folder have alike names
abbrev pub NamesApart : Type 0
NamesApart = OverRuns (λ kind count tree. Apart kind tree.objects)

-- the tree's image fits onto the device: every index can be held, and the blocks in use are no more than there are;
-- so no call is refused 15 or 16 for what an earlier one did
abbrev pub ImageFits : Type 0
ImageFits = OverRuns (λ kind count tree. HeldTree kind tree × (blocks_in_use kind tree ≤ count))

-- a served format
abbrev pub Formats : Event → Type 0
Formats e = (e.call ≡ format) × (e.answer ≡ done)

-- of two numbers given with no format between them the later is the greater
abbrev pub NumbersOnce : Type 0
NumbersOnce =
    (kind : Kind) (count : ℕ) (image : Option Tree) (calls : List Brought) (before between after : List Event) (e f : Event) (m n : ℕ)
    → history kind count (idle image) calls ≡ before ++ e ∷ (between ++ f ∷ after)
    → e.answer ≡ made m → AllByRecursion (λ x. Formats x → ⊥) between → f.answer ≡ made n → m < n

-- the answer that gives a lease
abbrev pub is_leased : Answer → Bool
is_leased (refused why) = false
is_leased done = false
is_leased (found what) = false
is_leased (made number) = false
is_leased (tallied what) = false
is_leased (leased folder) = true
is_leased (page_given what) = false

-- the answer of a served call that tells nothing
abbrev pub is_done : Answer → Bool
is_done (refused why) = false
is_done done = true
is_done (found what) = false
is_done (made number) = false
is_done (tallied what) = false
is_done (leased folder) = false
is_done (page_given what) = false

-- the call that takes a lease
abbrev pub is_close : Call → Bool
is_close format = false
is_close open' = false
is_close (lookup f n) = false
is_close (create f n k) = false
is_close (remove f n) = false
is_close (rename f n g m) = false
is_close tally = false
is_close (lease f) = false
is_close (page f b) = false
is_close (close f) = true

-- a lease was given
abbrev pub gives_lease : Event → Bool
gives_lease e = is_leased e.answer

-- a close was served
abbrev pub takes_lease : Event → Bool
takes_lease e = is_close e.call && is_done e.answer

-- the state after events
abbrev pub state_after : State → List Event → State
state_after s [] = s
state_after s (e ∷ es) = state_after e.left es

-- the leases out are those given less those closed
abbrev pub LeasesBalance : Type 0
LeasesBalance =
    (kind : Kind) (count : ℕ) (image : Option Tree) (calls : List Brought)
    → leases_out (state_after (idle image) (history kind count (idle image) calls)) + count_by takes_lease (history kind count (idle image) calls)
    ≡ count_by gives_lease (history kind count (idle image) calls)

-- a refused call leaves state and buffer
abbrev pub RefusedKeeps : Type 0
RefusedKeeps =
    (kind : Kind) (count : ℕ) (s : State) (b : Brought) (why : Refusal) → (event kind count s b).answer ≡ refused why
    → ((event kind count s b).left ≡ s) × ((event kind count s b).buffer ≡ b.buffer)

-- numbers that rise
abbrev pub NumbersRise : ℕ → List Reason → Type 0
NumbersRise n [] = Unit {0}
NumbersRise n (r ∷ rs) = (n < number_of r.0) × NumbersRise (number_of r.0) rs

-- the reasons of each call are tried by their numbers, the least first
abbrev pub TopmostCounts : Type 0
TopmostCounts = (kind : Kind) (count size allowance : ℕ) (s : State) (call : Call) → NumbersRise 0 (reasons kind count size allowance s call)

-- no open of a live server is refused for what the blocks hold, and a served one keeps the tree
abbrev pub OpenKeeps : Type 0
OpenKeeps =
    (kind : Kind) (count : ℕ) (tree : Tree) (leases : ℕ) (b : Brought) → b.call ≡ open'
    → ((event kind count (live tree leases) b).answer ≢ refused Unsound) × ((event kind count (live tree leases) b).left ≡ live tree leases)

-- the test of reason 15 tells whether every index can be held
abbrev pub FullnessDecided : Type 0
FullnessDecided = (kind : Kind) (tree : Tree) → Decides (is_held_tree kind tree) (HeldTree kind tree)

-- the test of reason 13 tells whether some steps up from n lead to x: as many as there are objects are enough
abbrev pub BranchDecided : Type 0
BranchDecided =
    (kind : Kind) (count : ℕ) (tree : Tree) → Sound kind count tree → (x n : ℕ) → 1 ≤ x → Leads tree.objects n
    → Decides (is_above (length tree.objects) tree.objects x n) ((steps : ℕ) × (climbed steps tree.objects n ≡ x))
