use Rattle.std.proofs.Common.{ap, rules}
use Rattle.std.specs.Iterator.Adapters.{rev_steps}
use Rattle.std.proofs.lemmas.Iterator.Search.{find_from_yields_List}
use Rattle.append_log.specs.Records.{holds_for}
use Rattle.append_log.proofs.Newest.{back, yields_down, newest_told}
use Rattle.append_log.proofs.records.newest.Goals as goal

pub returns : goal.returns
returns c =
    let xs = c.args.bytes.now in
    let chain = yields_down c.args.used c.rev.result (ap (λ r. r.start) c.rev.ensures.source) (ap (λ r. r.end) c.rev.ensures.source) in
    newest_told xs c.args.block c.args.used c.find.result c.requires
    (find_from_yields_List {steps = rev_steps back} {s = c.rev.result} (holds_for xs c.args.block) c.find.new.self _ c.find.result c.find.ensures.ran (record { runs = chain }) (λ x b q k. search rules))
