use Rattle.model.proofs.Given.{numbers_once}
use Rattle.model.proofs.laws.numbers_are_given_once.Goals as goal

pub returns : goal.returns
returns c = numbers_once
