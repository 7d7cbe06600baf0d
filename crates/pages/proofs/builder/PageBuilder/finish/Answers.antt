use Rattle.std.proofs.Common.{◌+◌, ◌*◌, length, Some, None, sym, ap, ◌∙◌, arith}
use Rattle.std.proofs.lemmas.Bool.{eq-eqb, cond-true}
use Rattle.pages.specs.Gathered.{gathered, answer_of, page_head}
use Rattle.pages.proofs.Gathers.{length-gathered, used-gathered, finished}
use Rattle.pages.proofs.builder.PageBuilder.finish.Goals as goal

pub returns : goal.returns
returns c =
    let p = c.args.self.now in
    let b = c.args.buffer.now in
    let end = c.args.end in
    let test = eq-eqb (length b) p.size (omega arith) in
    let n = length-gathered p in
    let u = used-gathered p in
    let answer = cond-true _ (Some (answer_of (gathered p) end)) None test in
    record {
      answer = (cc);
      page =
          finished p end b (omega arith) (4 + 4 * c.len.result) _ c.copy_from_slice.new.self c.deref.result.now c.copy_from_slice-2.new.self c.write_pairs.new.buffer (omega arith) (c.copy_from_slice.ensures.after ∙ c.head_bytes.ensures ∙ ap (λ k. page_head k end) c.len-count.ensures.value) c.deref.ensures.0 (c.copy_from_slice-2.ensures.after ∙ c.deref-2.ensures.0) (omega arith) c.write_pairs.ensures
          ∙ sym (cond-true _ _ _ test);
    }
