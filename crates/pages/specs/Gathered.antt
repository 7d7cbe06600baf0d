-- The records that a page builder holds.
use Rattle.std.specs.Prelude.{ℕ, ◌+◌, Bool, cond, ◌&&◌, List, [], ◌∷◌, ◌++◌, length, take, drop, nat_le}
use Rattle.words.specs.BigEndian.{bytes16}
use Rattle.buckets.specs.Builds.{pair}
use Rattle.pages.specs.Pages.{used}
use Rattle.pages.specs.declared.answer.PageAnswer.{PageAnswer}
use Rattle.pages.specs.declared.builder.PageBuilder.{PageBuilder}

-- a page has 64 to 4,096 bytes
abbrev pub is_page_size : ℕ → Bool
is_page_size size = nat_le 64 size && nat_le size 4096

-- bytes cut into parts of these lengths
abbrev pub cut : List ℕ → List ℕ → List (List ℕ)
cut [] bytes = []
cut (n ∷ ns) bytes = take n bytes ∷ cut ns (drop n bytes)

-- the records of a builder, in the order in which they came
unfoldable pub gathered : PageBuilder → List (List ℕ)
gathered page = cut page.lens.items page.bytes.items

-- the count of records, the end mark and a zero
abbrev pub page_head : ℕ → Bool → List ℕ
page_head count end = bytes16 count ++ (cond end 1 0 ∷ 0 ∷ [])

-- the pairs of records of these lengths, where the first starts at `from`
abbrev pub pairs_by : ℕ → List ℕ → List ℕ
pairs_by from [] = []
pairs_by from (n ∷ ns) = pair from n ++ pairs_by (from + n) ns

-- what is told of a page: count, bytes used and end mark
abbrev pub answer_of : List (List ℕ) → Bool → PageAnswer
answer_of rs end = record { count = length rs; used = used rs; end = end }
