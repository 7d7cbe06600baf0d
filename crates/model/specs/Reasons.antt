-- Why each call is refused.
use Rattle.std.specs.Prelude.{ℕ, Bool, true, false, not, ◌&&◌, ◌||◌, List, [], ◌∷◌, length, is_some, Some, None, ◌==◌, nat_le, nat_lt}
use Rattle.kinds.specs.Kinds.{Kind}
use Rattle.model.specs.declared.refusal.Refusal.TheVariants.{Idle, LeasesOut, OddDevice, Worn, Unsound, Buffer, BadName, BadKind, UnknownNumber, NoSuchName, Taken, NotEmpty, OwnBranch, NumbersSpent, IndexFull, VolumeFull, NoLease, LeasesSpent}
use Rattle.model.specs.Refusals.{Reason}
use Rattle.model.specs.Trees.{Tree, numbered, child_of, stands_as, has, has_folder, looked_up, number_at, is_above, created, renamed}
use Rattle.model.specs.Names.{is_bad_name, is_bad_bookmark}
use Rattle.model.specs.Indexes.{blocks_in_use, is_held_tree}
use Rattle.model.specs.Calls.{State, idle, live, Call, format, open', lookup, create, remove, rename, tally, lease, page, close, is_idle, leases_out, tree_of}

-- an idle server's blocks are no sound image
abbrev pub is_unsound : State → Bool
is_unsound (idle None) = true
is_unsound (idle (Some tree)) = false
is_unsound (live tree leases) = false

-- a device of fewer than 16 or more than 4,096 blocks
abbrev pub is_odd : ℕ → Bool
is_odd count = nat_lt count 16 || nat_lt 4096 count

-- an allowance below the most that one call writes
abbrev pub is_worn : ℕ → Bool
is_worn allowance = nat_lt allowance 48

-- a buffer of fewer than 64 or more than 4,096 bytes
abbrev pub is_bad_buffer : ℕ → Bool
is_bad_buffer size = nat_lt size 64 || nat_lt 4096 size

-- neither folder nor document
abbrev pub is_bad_kind : ℕ → Bool
is_bad_kind kind = not (kind == 1 || kind == 2)

-- object x is a folder, and folder n is that folder or lies below it: there are no more steps up than objects
abbrev pub is_own_branch : Tree → ℕ → ℕ → Bool
is_own_branch tree x n = has_folder x tree && is_above (length tree.objects) tree.objects x n

-- another object than x has that parent and an alike name
abbrev pub is_taken : Kind → Tree → ℕ → ℕ → List ℕ → Bool
is_taken kind tree x folder name = has (λ o. not (numbered x o) && stands_as kind folder name o) tree

-- what the call names is a folder that has objects
abbrev pub is_filled : Tree → ℕ → Bool
is_filled tree x = has_folder x tree && has (child_of x) tree

-- why a tree does not fit onto a device of so many blocks
abbrev pub too_large : Kind → ℕ → Tree → List Reason
too_large kind count tree = (IndexFull, not (is_held_tree kind tree)) ∷ (VolumeFull, nat_lt count (blocks_in_use kind tree)) ∷ []

-- What may refuse a call, topmost first, in a state s with the tree t. `count` is the device's count of blocks, `size` the
-- length of the call's buffer, and `allowance` what the call finds. A fresh tree, and a tree with less in it, is never too
-- large.
abbrev pub reasons_in : Kind → ℕ → ℕ → ℕ → State → Tree → Call → List Reason
reasons_in kind count size allowance s t format =
    (LeasesOut, nat_lt 0 (leases_out s))
    ∷ (OddDevice, is_odd count)
    ∷ (Worn, is_worn allowance)
    ∷ []
reasons_in kind count size allowance s t open' =
    (LeasesOut, nat_lt 0 (leases_out s))
    ∷ (OddDevice, is_odd count)
    ∷ (Unsound, is_unsound s)
    ∷ []
reasons_in kind count size allowance s t (lookup f n) =
    (Idle, is_idle s)
    ∷ (BadName, is_bad_name kind n)
    ∷ (UnknownNumber, not (has_folder f t))
    ∷ (NoSuchName, not (is_some (looked_up kind t f n)))
    ∷ []
reasons_in kind count size allowance s t (create f n k) =
    (Idle, is_idle s)
    ∷ (Worn, is_worn allowance)
    ∷ (BadName, is_bad_name kind n)
    ∷ (BadKind, is_bad_kind k)
    ∷ (UnknownNumber, not (has_folder f t))
    ∷ (Taken, is_some (looked_up kind t f n))
    ∷ (NumbersSpent, nat_le 4294967295 t.next)
    ∷ too_large kind count (created t f n k)
reasons_in kind count size allowance s t (remove f n) =
    (Idle, is_idle s)
    ∷ (Worn, is_worn allowance)
    ∷ (BadName, is_bad_name kind n)
    ∷ (UnknownNumber, not (has_folder f t))
    ∷ (NoSuchName, not (is_some (looked_up kind t f n)))
    ∷ (NotEmpty, is_filled t (number_at kind t f n))
    ∷ []
reasons_in kind count size allowance s t (rename f n g m) =
    (Idle, is_idle s)
    ∷ (Worn, is_worn allowance)
    ∷ (BadName, is_bad_name kind n || is_bad_name kind m)
    ∷ (UnknownNumber, not (has_folder f t && has_folder g t))
    ∷ (NoSuchName, not (is_some (looked_up kind t f n)))
    ∷ (Taken, is_taken kind t (number_at kind t f n) g m)
    ∷ (OwnBranch, is_own_branch t (number_at kind t f n) g)
    ∷ too_large kind count (renamed t (number_at kind t f n) g m)
reasons_in kind count size allowance s t tally =
    (Idle, is_idle s)
    ∷ []
reasons_in kind count size allowance s t (lease f) =
    (Idle, is_idle s)
    ∷ (UnknownNumber, not (has_folder f t))
    ∷ (LeasesSpent, nat_le 64 (leases_out s))
    ∷ []
reasons_in kind count size allowance s t (page f b) =
    (Idle, is_idle s)
    ∷ (Buffer, is_bad_buffer size)
    ∷ (BadName, is_bad_bookmark kind b)
    ∷ (UnknownNumber, not (has_folder f t))
    ∷ []
reasons_in kind count size allowance s t (close f) =
    (NoLease, (leases_out s == 0))
    ∷ []

-- the same, with the state's own tree
abbrev pub reasons : Kind → ℕ → ℕ → ℕ → State → Call → List Reason
reasons kind count size allowance s call = reasons_in kind count size allowance s (tree_of s) call
