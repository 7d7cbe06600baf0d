use Rattle.std.proofs.Common.{◌≡◌, refl, rules}
use Rattle.std.proofs.iter.runs.Sources.{ranges}
use Rattle.header.specs.Headers.{AllLawful}
use Rattle.header.proofs.RunsLaws.{all_next, all_told}
use Rattle.header.proofs.law.are_lawful.Goals as goal

pub returns : goal.returns
returns c = (
  λ e. all_next _ _ (λ s l. let p = c.all.ensures.runs.0 in let o : p.at s ≡ p.at s = refl in search (rules, ranges)),
  λ lawful. let all : AllLawful c.args.slots.now c.args.rooms.now = all_told _ _ lawful in search (rules, ranges),
)
