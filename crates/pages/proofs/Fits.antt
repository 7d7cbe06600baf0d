-- How many of the first records fit.
use Rattle.std.proofs.Common.{◌≡◌, ℕ, ◌+◌, ◌-◌, ◌<◌, ◌≤◌, ◌⊎◌, List, [], ◌∷◌, ◌++◌, length, refl, inl, inr, ⊎_elim, arith}
use Rattle.std.proofs.lemmas.Bool.{cases_lt}
use Rattle.std.proofs.lemmas.Bool.Decides.{nat_tests}
use Rattle.records.specs.Records.{weight, load}
use Rattle.pages.specs.Pages.{fitting}

pub load-append : (xs ys : List (List ℕ)) → load (xs ++ ys) ≡ load xs + load ys
load-append [] ys = omega arith
load-append (x ∷ xs) ys = let h = load-append xs ys in omega arith

-- records that fit all together stand before what still fits of the others
pub fitting-append : (room : ℕ) (xs ys : List (List ℕ)) → load xs ≤ room → fitting room (xs ++ ys) ≡ xs ++ fitting (room - load xs) ys
fitting-append room [] ys l = let e : room - 0 ≡ room = omega arith in rw e
fitting-append room (x ∷ xs) ys l =
    let h = fitting-append (room - weight x) xs ys (omega arith) in
    let e : room - weight x - load xs ≡ room - (weight x + load xs) = omega arith in
    grind (arith, nat_tests)

-- where not all of them fit, the others do not count
pub fitting_heavy : (room : ℕ) (xs ys : List (List ℕ)) → room < load xs → fitting room (xs ++ ys) ≡ fitting room xs
fitting_heavy room [] ys l = elim l [ ]
fitting_heavy room (x ∷ xs) ys l = let h = fitting_heavy (room - weight x) xs ys in grind (arith, nat_tests)

pub fitting-all : (room : ℕ) (xs : List (List ℕ)) → load xs ≤ room → fitting room xs ≡ xs
fitting-all room [] l = refl
fitting-all room (x ∷ xs) l = let h = fitting-all (room - weight x) xs (omega arith) in grind (arith, nat_tests)

-- the first that does not fit ends it
pub fitting_stop : (room : ℕ) (x : List ℕ) (xs : List (List ℕ)) → room < weight x → fitting room (x ∷ xs) ≡ []
fitting_stop room x xs l = grind (arith, nat_tests)

fewer : (room : ℕ) (xs : List (List ℕ)) → room < load xs → length (fitting room xs) < length xs
fewer room [] l = absurd (omega arith)
fewer room (x ∷ xs) l = let h = fewer (room - weight x) xs in grind (arith, nat_tests)

-- all of them fit, or fewer do
pub fitting_either : (room : ℕ) (xs : List (List ℕ)) → ((load xs ≤ room) × (fitting room xs ≡ xs)) ⊎ ((room < load xs) × (length (fitting room xs) < length xs))
fitting_either room xs = ⊎_elim
    (λ (l : room < load xs). inr (l, fewer room xs l))
    (λ (l : load xs ≤ room). inl (l, fitting-all room xs l))
    (cases_lt room (load xs))
