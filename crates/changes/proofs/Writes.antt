-- Blocks after several are written.
use Rattle.std.proofs.Common.{◌≡◌, ℕ, zero, suc, ◌+◌, ◌-◌, ◌<◌, ◌≤◌, List, [], ◌∷◌, length, get_or, take, drop, min, set, refl, ap, ◌∙◌, ⊎_elim, arith, length-set}
use Rattle.std.proofs.lemmas.List.{get_or-set_same, get_or-set_other, drop_more, drop_all, take_all, length-take}
use Rattle.std.proofs.lemmas.Bool.{cases_lt}
use Rattle.index.specs.Stored.{Blocks, block}
use Rattle.changes.specs.Making.{written}

-- the blocks of a plan that has buckets are all of those that are gathered for it
pub numbers_whole : (n number : ℕ) (spare : List ℕ) → 1 ≤ n → take n (number ∷ take (n - 1) spare) ≡ number ∷ take (n - 1) spare
numbers_whole n number spare some = take_all n (number ∷ take (n - 1) spare) (omega (arith, length-take (n - 1) spare, some))

pub length-written : (d : Blocks) (ns : List ℕ) (xs : List (List ℕ)) → length (written d ns xs) ≡ length d
length-written d ns [] = refl
length-written d [] (x ∷ xs) = refl
length-written d (n ∷ ns) (x ∷ xs) = length-written (set d n x) ns xs ∙ length-set d n x

pub written_off : (d : Blocks) (ns : List ℕ) (xs : List (List ℕ)) (b : ℕ) → ((i : ℕ) → i < length xs → b ≡ get_or ns i 0 → ⊥) → block (written d ns xs) b ≡ block d b
written_off d ns [] b h = refl
written_off d [] (x ∷ xs) b h = refl
written_off d (n ∷ ns) (x ∷ xs) b h = written_off (set d n x) ns xs b (λ i l. h (suc i) (omega arith)) ∙ get_or-set_other d n b x [] (h 0 (omega arith))

pub written_at : (d : Blocks) (ns : List ℕ) (xs : List (List ℕ)) → length xs ≤ length ns → ((i j : ℕ) → i < j → j < length xs → get_or ns i 0 ≡ get_or ns j 0 → ⊥) → ((i : ℕ) → i < length xs → get_or ns i 0 < length d)
    → (i : ℕ) → i < length xs → block (written d ns xs) (get_or ns i 0) ≡ get_or xs i []
written_at d ns [] e apart low i l = absurd (omega arith)
written_at d [] (x ∷ xs) e apart low i l = absurd (omega arith)
written_at d (n ∷ ns) (x ∷ xs) e apart low zero l = written_off (set d n x) ns xs n (λ j b z. apart 0 (suc j) (omega arith) (omega arith) z) ∙ get_or-set_same d n x [] (low 0 (omega arith))
written_at d (n ∷ ns) (x ∷ xs) e apart low (suc i) l =
    written_at (set d n x) ns xs (omega arith) (λ j k a b z. apart (suc j) (suc k) (omega arith) (omega arith) z) (λ j b. omega (arith, low (suc j) (omega arith), length-set d n x)) i (omega arith)

pub written_more : (d : Blocks) (ns : List ℕ) (xs : List (List ℕ)) (i : ℕ) → i < length ns → i < length xs → written d (drop i ns) (drop i xs) ≡ written (set d (get_or ns i 0) (get_or xs i [])) (drop (i + 1) ns) (drop (i + 1) xs)
written_more d ns xs i a b = ap (λ ys. written d ys (drop i xs)) (drop_more ns i 0 a) ∙ ap (written d (get_or ns i 0 ∷ drop (i + 1) ns)) (drop_more xs i [] b)

pub written_all : (d : Blocks) (ns : List ℕ) (xs : List (List ℕ)) (i : ℕ) → i ≡ min (length ns) (length xs) → written d (drop i ns) (drop i xs) ≡ d
written_all d ns xs i e = ⊎_elim
    (λ (l : length ns < length xs). ap (λ ys. written d ys (drop i xs)) (drop_all i ns (omega arith)) ∙ none (drop i xs))
    (λ (l : length xs ≤ length ns). ap (written d (drop i ns)) (drop_all i xs (omega arith)))
    (cases_lt (length ns) (length xs))
  where
    none : (ys : List (List ℕ)) → written d [] ys ≡ d
    none [] = refl
    none (y ∷ ys) = refl
