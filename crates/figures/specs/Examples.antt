-- Small examples: each refusal once, which of two counts, and what numbers and end marks are.
use Rattle.std.specs.Prelude.{◌≡◌, ℕ, false, List, [], ◌∷◌, ◌++◌, map, replicate, Some, None, codes}
use Rattle.kinds.specs.Names.{exact_names}
use Rattle.model.specs.declared.refusal.Refusal.TheVariants.{Idle, LeasesOut, OddDevice, Worn, Unsound, Buffer, BadName, BadKind, UnknownNumber, NoSuchName, Taken, NotEmpty, OwnBranch, NumbersSpent, IndexFull, VolumeFull, NoLease, LeasesSpent}
use Rattle.model.specs.Refusals.{number_of}
use Rattle.model.specs.Trees.{Tree, root}
use Rattle.model.specs.Calls.{idle, Call, format, open', lookup, create, remove, rename, tally, lease, page, close, refused, done, made, found, tallied, leased, page_given}
use Rattle.model.specs.Histories.{Brought, history}
use Rattle.figures.specs.Runs.{bring, run, answers_of, last_answer, documents}

-- a call that finds an allowance one too small
abbrev pub on_worn : Call → Brought
on_worn call = record { call = call; buffer = replicate 64 0; allowance = 47 }

-- a page with a buffer of so many bytes
abbrev pub into_buffer : ℕ → Brought
into_buffer size = record { call = page 1 []; buffer = replicate size 0; allowance = 48 }

-- a tree whose last number is given
abbrev pub spent : Tree
spent = record { next = 4294967295; objects = root ∷ [] }

-- names of 40 bytes whose hashes begin with the same 7 bits: ten weigh 500, eleven 550
abbrev pub crowded : List (List ℕ)
crowded =
    map (λ end. replicate 38 120 ++ end)
    (codes "ad" ∷ codes "ae" ∷ codes "bu" ∷ codes "bz" ∷ codes "cp" ∷ codes "cq" ∷ codes "dq" ∷ codes "dr" ∷ codes "et" ∷ codes "eu" ∷ codes "gx" ∷ [])

-- the list
pub record Examples : Type 0 where
  -- the numbers
  pub numbers :
      map number_of (Idle ∷ LeasesOut ∷ OddDevice ∷ Worn ∷ Unsound ∷ Buffer ∷ BadName ∷ BadKind ∷ UnknownNumber ∷ NoSuchName ∷ Taken ∷ NotEmpty ∷ OwnBranch ∷ NumbersSpent ∷ IndexFull ∷ VolumeFull ∷ NoLease ∷ LeasesSpent ∷ [])
      ≡ 1 ∷ 2 ∷ 3 ∷ 4 ∷ 5 ∷ 6 ∷ 7 ∷ 8 ∷ 9 ∷ 10 ∷ 11 ∷ 12 ∷ 13 ∷ 14 ∷ 15 ∷ 16 ∷ 17 ∷ 18 ∷ []
  -- an idle server, and one with a lease out
  pub first :
      answers_of (run (tally ∷ close 1 ∷ open' ∷ format ∷ lease 1 ∷ format ∷ open' ∷ close 1 ∷ open' ∷ []))
      ≡ refused Idle ∷ refused NoLease ∷ refused Unsound ∷ done ∷ leased 1 ∷ refused LeasesOut ∷ refused LeasesOut ∷ done ∷ done ∷ []
  -- names, numbers and kinds; a bad name counts before an unknown number
  pub named :
      answers_of (run (format ∷ lookup 9 (codes "/") ∷ lookup 9 (codes "a") ∷ lookup 1 (codes "a") ∷ lookup 1 (codes "..") ∷ create 1 (codes "a") 3 ∷ page 2 [] ∷ []))
      ≡ done ∷ refused BadName ∷ refused UnknownNumber ∷ refused NoSuchName ∷ refused BadName ∷ refused BadKind ∷ refused UnknownNumber ∷ []
  -- folder a with folder b in it
  pub nested :
      answers_of (run (format ∷ create 1 (codes "a") 1 ∷ create 1 (codes "a") 2 ∷ create 2 (codes "b") 1 ∷ remove 1 (codes "a") ∷ rename 1 (codes "a") 3 (codes "c") ∷ rename 2 (codes "b") 1 (codes "a") ∷ rename 2 (codes "b") 1 (codes "c") ∷ lookup 1 (codes "c") ∷ lookup 2 (codes "b") ∷ remove 1 (codes "a") ∷ []))
      ≡ done ∷ made 2 ∷ refused Taken ∷ made 3 ∷ refused NotEmpty ∷ refused OwnBranch ∷ refused Taken ∷ done
      ∷ found (record { number = 3; kind = 1 }) ∷ refused NoSuchName ∷ done ∷ []
  -- a number is not given again
  pub again : answers_of (run (format ∷ create 1 (codes "a") 2 ∷ remove 1 (codes "a") ∷ create 1 (codes "a") 2 ∷ [])) ≡ done ∷ made 2 ∷ done ∷ made 3 ∷ []
  -- of six documents five fit onto a page, and with one left over it does not end
  pub one_left : last_answer (run (format ∷ documents (codes "abcdef") ++ page 1 [] ∷ [])) ≡ page_given (record { count = 5; used = 59; end = false })
  -- 16 blocks: five folders are served, the sixth is not, and a document still is
  pub filled :
      answers_of (run (format ∷ map (λ b. create 1 (b ∷ []) 1) (codes "abcdef") ++ create 1 (codes "f") 2 ∷ tally ∷ []))
      ≡ done ∷ made 2 ∷ made 3 ∷ made 4 ∷ made 5 ∷ made 6 ∷ refused VolumeFull ∷ made 7
      ∷ tallied (record { blocks = 16; used = 16; objects = 7; next = 8; leases = 0 }) ∷ []
  -- the eleventh of the crowded names cannot be held
  pub crammed :
      answers_of (run (format ∷ map (λ n. create 1 n 2) crowded))
      ≡ done ∷ made 2 ∷ made 3 ∷ made 4 ∷ made 5 ∷ made 6 ∷ made 7 ∷ made 8 ∷ made 9 ∷ made 10 ∷ made 11 ∷ refused IndexFull ∷ []
  -- devices that are too small, too large, and worn
  pub small : answers_of (history exact_names 15 (idle None) (bring format ∷ [])) ≡ refused OddDevice ∷ []
  pub large : answers_of (history exact_names 4097 (idle None) (bring format ∷ [])) ≡ refused OddDevice ∷ []
  pub worn : answers_of (history exact_names 16 (idle None) (on_worn format ∷ bring format ∷ on_worn (create 1 (codes "a") 2) ∷ [])) ≡ refused Worn ∷ done ∷ refused Worn ∷ []
  -- buffers that are too short and too long
  pub buffers : answers_of (history exact_names 16 (idle None) (bring format ∷ into_buffer 63 ∷ into_buffer 4097 ∷ [])) ≡ done ∷ refused Buffer ∷ refused Buffer ∷ []
  -- no number is left
  pub numberless : answers_of (history exact_names 16 (idle (Some spent)) (bring open' ∷ bring (create 1 (codes "a") 2) ∷ [])) ≡ done ∷ refused NumbersSpent ∷ []
  -- 64 leases are out
  pub leaseless : last_answer (run (format ∷ replicate 65 (lease 1))) ≡ refused LeasesSpent
