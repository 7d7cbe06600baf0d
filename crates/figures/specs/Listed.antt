-- A whole listing.
use Rattle.std.specs.Prelude.{ℕ, List, [], ◌∷◌, ◌++◌, drop}
use Rattle.model.specs.Indexes.{entry_of}
use Rattle.listings.specs.Listings.{Listing}
use Rattle.figures.specs.Runs.{run, two_pages}

-- the record of a document in the root
abbrev pub document : ℕ → ℕ → List ℕ
document byte number = entry_of (record { number = number; parent = 1; name = byte ∷ []; kind = 2 })

-- e, d, g, f, a on its first page
abbrev pub shown_first : List (List ℕ)
shown_first = document 101 6 ∷ document 100 5 ∷ document 103 8 ∷ document 102 7 ∷ document 97 2 ∷ []

-- c, b, h on its second
abbrev pub shown_second : List (List ℕ)
shown_second = document 99 4 ∷ document 98 3 ∷ document 104 9 ∷ []

-- two pages of the root, with a remove and a create between them
abbrev pub IsListing : Type 0
IsListing = Listing 1 [] (drop 8 (run two_pages)) (shown_first ++ shown_second)
