use Rattle.std.proofs.Common.{◌≡◌, ◌+◌, ◌<◌, ◌≤◌, true, false, is_ok, [], ◌∷◌, ◌++◌, get_or, drop, sym, ap, ◌∙◌, subst, rules, arith}
use Rattle.std.proofs.lemmas.List.{drop_more, drop_all}
use Rattle.std.proofs.lemmas.Bool.{leb-true, leb-false}
use Rattle.records.specs.Items.{records_in}
use Rattle.records.specs.Records.{weight}
use Rattle.pages.specs.Pages.{used}
use Rattle.pages.specs.Gathered.{gathered}
use Rattle.pages.specs.Takes.{Took}
use Rattle.pages.proofs.Taken.{Taking, taking-all, taking-stop, taking-more}
use Rattle.paging.proofs.gather.take_from.Goals as goal

pub returns-then-is_err : goal.returns-then-is_err
returns-then-is_err c =
    let rs = records_in c.args.block.now in
    let p = c.args.page.now in
    let q = c.loop-n.page in
    let n = c.loop-n.n in
    let item = get_or rs n [] in
    let items = drop c.args.from rs in
    let is : c.in_ok-record.record.now ≡ item = search rules in
    let after = c.push.ensures in
    let none : is_ok c.push.result ≡ false = grind arith in
    let size : q.size ≡ p.size = c.loop-n.invariant.0 in
    let heavy : q.size < used (gathered q) + weight c.in_ok-record.record.now = leb-false _ _ (sym after.taken ∙ none) in
    let w : weight c.in_ok-record.record.now ≡ weight item = ap weight is in
    let t : Taking p.size (gathered p) items (gathered q) (item ∷ drop (n + 1) rs) = subst (λ rest. Taking p.size (gathered p) items (gathered q) rest) (drop_more rs n [] (omega arith)) c.loop-n.invariant.1 in
    record {
      size = after.size ∙ size;
      took = subst (λ now. Took p.size (gathered p) items now false) (sym (rw none at after.after)) (taking-stop p.size (gathered p) items (gathered q) item (drop (n + 1) rs) t (omega arith));
    }

pub loop-n-preserved : goal.loop-n-preserved
loop-n-preserved c =
    let rs = records_in c.args.block.now in
    let p = c.args.page.now in
    let q = c.loop-n.page in
    let n = c.loop-n.n in
    let item = get_or rs n [] in
    let items = drop c.args.from rs in
    let is : c.in_ok-record.record.now ≡ item = search rules in
    let after = c.push.ensures in
    let some : is_ok c.push.result ≡ true = grind arith in
    let size : q.size ≡ p.size = c.loop-n.invariant.0 in
    let light : used (gathered q) + weight c.in_ok-record.record.now ≤ q.size = leb-true _ _ (sym after.taken ∙ some) in
    let w : weight c.in_ok-record.record.now ≡ weight item = ap weight is in
    let t : Taking p.size (gathered p) items (gathered q) (item ∷ drop (n + 1) rs) = subst (λ rest. Taking p.size (gathered p) items (gathered q) rest) (drop_more rs n [] (omega arith)) c.loop-n.invariant.1 in
    let more : gathered c.push.new.self ≡ gathered q ++ item ∷ [] = rw some at after.after ∙ ap (λ x. gathered q ++ x ∷ []) is in
    (after.size ∙ size, subst (λ now. Taking p.size (gathered p) items now (drop (n + 1) rs)) (sym more) (taking-more p.size (gathered p) items (gathered q) item (drop (n + 1) rs) t (omega arith)))

pub returns : goal.returns
returns c =
    let rs = records_in c.args.block.now in
    let p = c.args.page.now in
    let q = c.loop-n.page in
    let items = drop c.args.from rs in
    let none : drop c.loop-n.n rs ≡ [] = drop_all c.loop-n.n rs (omega arith) in
    record {
      size = c.loop-n.invariant.0;
      took = taking-all p.size (gathered p) items (gathered q) (subst (λ rest. Taking p.size (gathered p) items (gathered q) rest) none c.loop-n.invariant.1);
    }
