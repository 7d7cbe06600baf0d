-- Indexes have what the tree has.
use Rattle.std.proofs.Common.{◌≡◌, ℕ, ◌^◌, ◌<◌, List, [], ◌∷◌, map, refl, ap, ◌∙◌, arith}
use Rattle.std.specs.Option.{option_map}
use Rattle.std.specs.List.{AllByRecursion}
use Rattle.std.proofs.ByRecursion.{All-weaker}
use Rattle.words.specs.BigEndian.{bytes32}
use Rattle.kinds.specs.Numbers.{number_of, register_numbers}
use Rattle.model.specs.Trees.{Object, numbered, find}
use Rattle.model.specs.Indexes.{line_of, folder_records, register_records}
use Rattle.model.proofs.Facts.{children}
use Rattle.model.proofs.Finds.{by_test}
use Rattle.model.proofs.Numbers.{falling_below}
use Rattle.model.proofs.Register.{register_laws, alike_line, number_back}
use Rattle.listings.specs.Indexes.{named, FolderTells, RegisterTells}
use Rattle.listings.proofs.Indexed.{find-indexed}
use Rattle.listings.proofs.Rises.{Good}
use Rattle.listings.proofs.Shown.{entries, good_entries, find-entries}

pub folder_tells : FolderTells
unfolding folder_records
folder_tells k l count t s f p n w =
    find-indexed k l n (entries k l f t.objects) w (good_entries k l f t.objects (children k count t s f p)) ∙ find-entries k l f n t.objects

pub good_lines : (os : List Object) → Good register_numbers (map line_of os)
good_lines [] = tt
good_lines (o ∷ os) = (refl, good_lines os)

pub find_lines : (key : List ℕ) (os : List Object) → AllByRecursion (λ o. o.number < 2 ^ 32) os → find (named register_numbers key) (map line_of os) ≡ option_map line_of (find (numbered (number_of key)) os)
find_lines key [] h = refl
find_lines key (o ∷ os) h =
    rw (alike_line key o h.0) (by_test (numbered (number_of key) o) (λ e. rw e) (λ e. rw e (find_lines key os h.1)))

pub register_tells : RegisterTells
unfolding register_records
register_tells k count t s n l =
    let below = s.next in
    find-indexed register_numbers register_laws (bytes32 n) (map line_of t.objects) refl (good_lines t.objects)
    ∙ find_lines (bytes32 n) t.objects (All-weaker (λ o. o.number < t.next) (λ o. o.number < 2 ^ 32) (λ o p. omega arith) t.objects (falling_below t.next t.objects s.falling))
    ∙ ap (λ m. option_map line_of (find (numbered m) t.objects)) (number_back n l)
