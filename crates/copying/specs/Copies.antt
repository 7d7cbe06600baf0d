-- What copying one device's blocks onto another comes to.
use Rattle.std.specs.Prelude.{◌≡◌, ℕ, ◌+◌, ◌<◌, ◌≤◌, Bool, not, List, [], ◌∷◌, ◌++◌, length, drop, Ok, Err, vec_items, filter, Result, Vec, slice_index_or, slice_set}
use Rattle.std.specs.List.{range_with_len}
use Rattle.std.specs.Str.{bytes_eq}
use Rattle.std.specs.declared.alloc.Global.{Global}
use Rattle.copying.specs.declared.error.CopyError.{CopyError}
use Rattle.copying.specs.declared.error.CopyError.TheVariants.{TooSmall, Worn, OutOfMemory}

-- whether block b is another in the target than in the source
abbrev pub differs : List (List ℕ) → List (List ℕ) → ℕ → Bool
differs source target b = not (bytes_eq (slice_index_or source b []) (slice_index_or target b []))

-- the first n blocks that differ, in rising order
abbrev pub differing : List (List ℕ) → List (List ℕ) → ℕ → List ℕ
differing source target n = filter (differs source target) (range_with_len 0 n)

-- the target after these blocks of the source were written to it
abbrev pub laid : List (List ℕ) → List (List ℕ) → List ℕ → List (List ℕ)
laid source target [] = target
laid source target (b ∷ bs) = laid source (slice_set target b (slice_index_or source b [])) bs

-- why nothing was copied: too few blocks; else too few writes allowed, or no memory for the list of blocks that differ
abbrev pub Reason : List (List ℕ) → List (List ℕ) → ℕ → CopyError → Type 0
Reason source target allowed TooSmall = length target < length source
Reason source target allowed Worn = (length source ≤ length target) × (allowed < length (differing source target (length source)))
Reason source target allowed OutOfMemory = (length source ≤ length target) × (0 < length (differing source target (length source)))

-- the target's blocks and allowance before and after, and the answer
abbrev pub CopyEnds : List (List ℕ) → List (List ℕ) → ℕ → List (List ℕ) → ℕ → Result (Vec ℕ Global) CopyError → Type 0
CopyEnds source target allowed target' allowed' (Ok written) =
    (vec_items written ≡ differing source target (length source))
    × (target' ≡ source ++ drop (length source) target)
    × (allowed ≤ allowed' + length (differing source target (length source)))
    × (allowed' ≤ allowed)
CopyEnds source target allowed target' allowed' (Err error) = (target' ≡ target) × (allowed' ≡ allowed) × Reason source target allowed error
