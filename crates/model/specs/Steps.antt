-- What each call does.
use Rattle.std.specs.Prelude.{ℕ, ◌+◌, ◌-◌, List, length, Some, None, Option}
use Rattle.kinds.specs.Kinds.{Kind}
use Rattle.pages.specs.Pages.{shown, is_end, used, paged}
use Rattle.model.specs.declared.refusal.Refusal.{Refusal}
use Rattle.model.specs.Refusals.{first_of}
use Rattle.model.specs.Trees.{Tree, number_at, kind_at, fresh, created, removed, renamed}
use Rattle.model.specs.Indexes.{folder_records, blocks_in_use}
use Rattle.model.specs.Calls.{State, live, Call, format, open', lookup, create, remove, rename, tally, lease, page, close, Tally, PageAnswer, refused, done, found, made, tallied, leased, page_given, Outcome, leases_out, tree_of}
use Rattle.model.specs.Reasons.{reasons}

-- what tally answers
abbrev pub tally_of : Kind → ℕ → Tree → ℕ → Tally
tally_of kind count tree leases = record {
  blocks = count;
  used = blocks_in_use kind tree;
  objects = length tree.objects;
  next = tree.next;
  leases = leases;
}

-- what a page of records answers, from a bookmark on and into so many bytes
abbrev pub page_answer : Kind → List ℕ → List (List ℕ) → ℕ → PageAnswer
page_answer kind bookmark rs size = record {
  count = length (shown kind bookmark size rs);
  used = used (shown kind bookmark size rs);
  end = is_end kind bookmark size rs;
}

-- what a call does that no reason refuses, in a state s with the tree t; only page writes into its buffer
abbrev pub served_in : Kind → ℕ → List ℕ → State → Tree → Call → Outcome
served_in kind count buffer s t format = (done, buffer, live fresh 0)
served_in kind count buffer s t open' = (done, buffer, live t 0)
served_in kind count buffer s t (lookup f n) = (found (record { number = number_at kind t f n; kind = kind_at kind t f n }), buffer, s)
served_in kind count buffer s t (create f n k) = (made t.next, buffer, live (created t f n k) (leases_out s))
served_in kind count buffer s t (remove f n) = (done, buffer, live (removed t (number_at kind t f n)) (leases_out s))
served_in kind count buffer s t (rename f n g m) = (done, buffer, live (renamed t (number_at kind t f n) g m) (leases_out s))
served_in kind count buffer s t tally = (tallied (tally_of kind count t (leases_out s)), buffer, s)
served_in kind count buffer s t (lease f) = (leased f, buffer, live t (leases_out s + 1))
served_in kind count buffer s t (page f b) =
    (page_given (page_answer kind b (folder_records kind t.objects f) (length buffer)), paged kind b (folder_records kind t.objects f) buffer, s)
served_in kind count buffer s t (close f) = (done, buffer, live t (leases_out s - 1))

-- the same, with the state's own tree
abbrev pub serve : Kind → ℕ → List ℕ → State → Call → Outcome
serve kind count buffer s call = served_in kind count buffer s (tree_of s) call

-- refused where there is a reason, and then nothing changes; else served
abbrev pub settled : Option Refusal → List ℕ → State → Outcome → Outcome
settled (Some why) buffer s served = (refused why, buffer, s)
settled None buffer s served = served

-- one call
abbrev pub step : Kind → ℕ → Call → List ℕ → ℕ → State → Outcome
step kind count call buffer allowance s =
    settled (first_of (reasons kind count (length buffer) allowance s call)) buffer s (serve kind count buffer s call)
