-- What it is to take as many of some records as fit onto a page.
use Rattle.std.specs.Prelude.{◌≡◌, ℕ, ◌-◌, Bool, List, ◌++◌, length, ◌==◌}
use Rattle.pages.specs.Pages.{fitting, used}

-- a page of `size` bytes had some records, and now has as many of the items besides as fit; `whole` tells whether all did
pub record Took (size : ℕ) (was items is : List (List ℕ)) (whole : Bool) : Type 0 where
  pub shown : is ≡ was ++ fitting (size - used was) items
  pub told : whole ≡ (length (fitting (size - used was) items) == length items)
