use Rattle.std.proofs.Common.{◌≡◌, Ok, ℕ, ◌-◌, Bool, true, eqb, List, [], ◌++◌, length, sym, refl, ap, ◌∙◌, rules}
use Rattle.std.proofs.lemmas.Bool.{eq-eqb}
use Rattle.pages.specs.Pages.{fitting, following, used, page_bytes}
use Rattle.pages.specs.Gathered.{gathered, answer_of}
use Rattle.pages.specs.Takes.{Took}
use Rattle.paging.proofs.show.page.Goals as goal

-- what an empty page has taken is what it is to show
shows : (size n : ℕ) (was all is : List (List ℕ)) (whole : Bool) → size ≡ n → was ≡ [] → Took size was all is whole → (is ≡ fitting (n - 4) all) × (whole ≡ eqb (length (fitting (n - 4) all)) (length all))
shows size n was all is whole e z t =
    let r : fitting (size - used was) all ≡ fitting (n - 4) all = ap (λ k. fitting (k - used was) all) e ∙ ap (λ xs. fitting (n - used xs) all) z in
    (t.shown ∙ ap (λ xs. xs ++ fitting (size - used was) all) z ∙ r, t.told ∙ ap (λ xs. eqb (length xs) (length all)) r)

pub returns-clause-answer : goal.returns-clause-answer
returns-clause-answer g c = λ rs st f.
    let kind = g.K.KeyKind.kind in
    let bookmark = c.args.bookmark.now in
    let n = length c.args.buffer.now in
    let p = c.in_ok-builder.builder in
    let q = c.gather.new.page in
    let end = c.in_ok-end.end in
    let begun : p.size ≡ n = search rules in
    let empty : gathered p ≡ [] = search rules in
    let test : eqb n q.size ≡ true = eq-eqb n q.size (sym (c.in_ok-end.ensures.size ∙ begun)) in
    let t = shows p.size n (gathered p) (following kind bookmark rs) (gathered q) end begun empty (c.in_ok-end.ensures.took c.args.head rs st c.in_ok-header.ensures.read (sym c.is_bookmark.ensures ∙ c.if-not-is_bookmark.false)) in
    let answer : c.ok_or-2.result ≡ Ok (answer_of (gathered q) end) = rw (c.ok_or-2.ensures.value, c.finish.ensures.answer, test) refl in
    answer ∙ rw (t.0, t.1) refl

pub returns-clause-bytes : goal.returns-clause-bytes
returns-clause-bytes g c = λ rs st f.
    let kind = g.K.KeyKind.kind in
    let bookmark = c.args.bookmark.now in
    let n = length c.args.buffer.now in
    let p = c.in_ok-builder.builder in
    let q = c.gather.new.page in
    let end = c.in_ok-end.end in
    let begun : p.size ≡ n = search rules in
    let empty : gathered p ≡ [] = search rules in
    let test : eqb n q.size ≡ true = eq-eqb n q.size (sym (c.in_ok-end.ensures.size ∙ begun)) in
    let t = shows p.size n (gathered p) (following kind bookmark rs) (gathered q) end begun empty (c.in_ok-end.ensures.took c.args.head rs st c.in_ok-header.ensures.read (sym c.is_bookmark.ensures ∙ c.if-not-is_bookmark.false)) in
    let page : c.finish.new.buffer ≡ page_bytes (gathered q) end c.args.buffer.now = rw (c.finish.ensures.page, test) refl in
    page ∙ rw (t.0, t.1) refl
