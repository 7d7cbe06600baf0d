-- Which questions for a page are refused, and with which number.
use Rattle.std.specs.Prelude.{ℕ, Bool, cond, ◌||◌, List, length, Some, None, Ok, Err, Option, Result, ◌==◌}
use Rattle.kinds.specs.Kinds.{Kind}
use Rattle.pages.specs.declared.answer.PageAnswer.{PageAnswer}
use Rattle.pages.specs.Gathered.{is_page_size}
use Rattle.paging.specs.declared.refusal.PageError.{PageError}
use Rattle.paging.specs.declared.refusal.PageError.TheVariants.{Buffer, Bookmark, Broken}

abbrev pub number : PageError → Option ℕ
number Buffer = Some 6
number Bookmark = Some 7
number Broken = None

-- a bookmark is empty or a lawful key, of a record or of none
abbrev pub is_bookmark : Kind → List ℕ → Bool
is_bookmark kind bookmark = length bookmark == 0 || kind.lawful bookmark

-- what is wrong with a question, whatever the blocks hold: the buffer's size goes first
abbrev pub misasked : Kind → List ℕ → ℕ → Option PageError
misasked kind bookmark size = cond (is_page_size size) (cond (is_bookmark kind bookmark) None (Some Bookmark)) (Some Buffer)

-- what an answer says is wrong with the question
abbrev pub fault_of : PageError → Option PageError
fault_of Buffer = Some Buffer
fault_of Bookmark = Some Bookmark
fault_of Broken = None

abbrev pub faulted : Result PageAnswer PageError → Option PageError
faulted (Ok answer) = None
faulted (Err e) = fault_of e
