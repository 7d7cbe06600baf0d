-- Small runs of calls under exact names.
use Rattle.std.specs.Prelude.{ℕ, List, [], ◌∷◌, ◌++◌, map, replicate, None, codes}
use Rattle.kinds.specs.Names.{exact_names}
use Rattle.records.specs.Records.{key_of}
use Rattle.pages.specs.Contents.{page_records}
use Rattle.model.specs.Calls.{idle, Call, format, create, remove, page, Answer, done}
use Rattle.model.specs.Histories.{Brought, Event, history}

-- each call with a buffer of 64 zeros, on a device that is not worn
abbrev pub bring : Call → Brought
bring call = record { call = call; buffer = replicate 64 0; allowance = 4294967295 }

-- a call with a buffer of its own
abbrev pub bring_into : List ℕ → Call → Brought
bring_into buffer call = record { call = call; buffer = buffer; allowance = 4294967295 }

-- the events of calls on a device of 16 blocks that holds no image
abbrev pub run : List Call → List Event
run calls = history exact_names 16 (idle None) (map bring calls)

-- all answers
abbrev pub answers_of : List Event → List Answer
answers_of es = map (λ e. e.answer) es

-- the last answer
abbrev pub last_answer : List Event → Answer
last_answer [] = done
last_answer (e ∷ []) = e.answer
last_answer (e ∷ f ∷ es) = last_answer (f ∷ es)

-- the buffer of the last event
abbrev pub last_buffer : List Event → List ℕ
last_buffer [] = []
last_buffer (e ∷ []) = e.buffer
last_buffer (e ∷ f ∷ es) = last_buffer (f ∷ es)

-- the names in the last page
abbrev pub last_page : List Event → List (List ℕ)
last_page es = map key_of (page_records (last_buffer es))

-- create documents in the root, each with a name of one byte
abbrev pub documents : List ℕ → List Call
documents bytes = map (λ b. create 1 (b ∷ []) 2) bytes

-- documents a to g, a page, then d removed and h created, and a page after "a"
abbrev pub two_pages : List Call
two_pages = format ∷ documents (codes "abcdefg") ++ page 1 [] ∷ remove 1 (codes "d") ∷ create 1 (codes "h") 2 ∷ page 1 (codes "a") ∷ []
