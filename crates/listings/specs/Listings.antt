-- Listings, and what every listing in a history shows.
use Rattle.std.specs.Prelude.{◌≡◌, ℕ, ◌+◌, Bool, true, false, cond, List, [], ◌∷◌, ◌++◌, is_some, Some, None, Option}
use Rattle.std.specs.Ordering.{is_lt}
use Rattle.std.specs.List.{AllByRecursion}
use Rattle.kinds.specs.Kinds.{Kind, position}
use Rattle.records.specs.Records.{key_of}
use Rattle.pages.specs.Contents.{page_records}
use Rattle.model.specs.Trees.{Object, Tree, numbered, is_alike, find, looked_up}
use Rattle.model.specs.Indexes.{told}
use Rattle.model.specs.Calls.{State, idle, live, page, PageAnswer, page_given}
use Rattle.model.specs.Soundness.{KeepsLaws, SoundState}
use Rattle.model.specs.Histories.{Brought, Event, history}

-- the object that a folder has under a name in a state
abbrev pub object_under : Kind → ℕ → List ℕ → State → Option Object
object_under kind folder name (idle image) = None
object_under kind folder name (live tree leases) = looked_up kind tree folder name

-- the object that the register has under a number: the register has a record for each object, and nothing else
abbrev pub registered : ℕ → State → Option Object
registered n (idle image) = None
registered n (live tree leases) = find (numbered n) tree.objects

-- a name is in a folder while an object with that parent has an alike name
abbrev pub is_in : Kind → ℕ → List ℕ → Event → Bool
is_in kind folder name e = is_some (object_under kind folder name e.left)

-- a served page of a folder: its bookmark, the records that the page reader finds in the buffer, and the end mark
pub record Page (folder : ℕ) (bookmark : List ℕ) (e : Event) (listed : List (List ℕ)) (end : Bool) : Type 0 where
  pub asked : e.call ≡ page folder bookmark
  pub answer : PageAnswer
  pub served : e.answer ≡ page_given answer
  pub mark : answer.end ≡ end
  pub shown : page_records e.buffer ≡ listed

-- the last name received
abbrev pub last_name : List ℕ → List (List ℕ) → List ℕ
last_name bookmark [] = bookmark
last_name bookmark (r ∷ rs) = last_name (key_of r) rs

-- The events from a page of a listing to its last page, and all the records listed. Each page follows the last name
-- received, the last has the end mark, and any calls stand between. A lease is the number of its folder, so pages under
-- one lease are pages of one folder; that the lease is out all through is not even needed for what follows.
pub data Listing (folder : ℕ) : List ℕ → List Event → List (List ℕ) → Type 0 where
  last : {b : List ℕ} {e : Event} {rs : List (List ℕ)} → Page folder b e rs true → Listing folder b (e ∷ []) rs
  more : {b : List ℕ} {e : Event} {rs : List (List ℕ)} {es : List Event} {ss : List (List ℕ)} {end : Bool} → Page folder b e rs end → Listing folder (last_name b rs) es ss → Listing folder b (e ∷ es) (rs ++ ss)
  between : {b : List ℕ} {e : Event} {es : List Event} {rs : List (List ℕ)} → Listing folder b es rs → Listing folder b (e ∷ es) rs

-- how often a name is listed
abbrev pub times : Kind → List ℕ → List (List ℕ) → ℕ
times kind name [] = 0
times kind name (r ∷ rs) = cond (is_alike kind name (key_of r)) 1 0 + times kind name rs

-- a name comes after a bookmark: any after the empty one
abbrev pub is_after : Kind → List ℕ → List ℕ → Bool
is_after kind [] name = true
is_after kind (b ∷ bs) name = is_lt (position kind (b ∷ bs) name)

-- names in strictly rising order of hash, then of the kind, the first after a bookmark
abbrev pub Rising : Kind → List ℕ → List (List ℕ) → Type 0
Rising kind bookmark [] = Unit {0}
Rising kind bookmark (r ∷ rs) = (is_after kind bookmark (key_of r) ≡ true) × Rising kind (key_of r) rs

-- a record tells the object that the folder has under its name, and the register under its number
pub record Shows (kind : Kind) (folder : ℕ) (s : State) (r : List ℕ) : Type 0 where
  pub in_folder : object_under kind folder (key_of r) s ≡ Some (told folder r)
  pub in_register : registered (told folder r).number s ≡ Some (told folder r)

-- what a listing promises
pub record Complete (kind : Kind) (folder : ℕ) (es : List Event) (listed : List (List ℕ)) : Type 0 where
  -- a name that is in the folder after each of the calls is listed once
  pub stays : (name : List ℕ) → kind.lawful name ≡ true → AllByRecursion (λ e. is_in kind folder name e ≡ true) es → times kind name listed ≡ 1
  -- a name that is in it after none of them is not listed
  pub absent : (name : List ℕ) → kind.lawful name ≡ true → AllByRecursion (λ e. is_in kind folder name e ≡ false) es → times kind name listed ≡ 0
  -- each page shows what tree and register hold after it
  pub shows : AllByRecursion (λ e. (b : List ℕ) (rs : List (List ℕ)) (end : Bool) → Page folder b e rs end → AllByRecursion (Shows kind folder e.left) rs) es
  -- and the names rise
  pub rising : Rising kind [] listed

-- every listing among events is complete
abbrev pub AllComplete : Kind → List Event → Type 0
AllComplete kind events =
    (before es later : List Event) (folder : ℕ) (listed : List (List ℕ)) → events ≡ before ++ (es ++ later)
    → Listing folder [] es listed → Complete kind folder es listed

-- The law of listings: for every kind, from an idle server over a sound image or none, whatever calls come. Lists of calls
-- in which a close takes a lease that was never given are among them, so it holds of histories in the narrower sense too.
abbrev pub ListingLaw : Type 0
ListingLaw =
    (kind : Kind) → KeepsLaws kind → (count : ℕ) (image : Option Tree) → SoundState kind count (idle image)
    → (calls : List Brought) → AllComplete kind (history kind count (idle image) calls)
