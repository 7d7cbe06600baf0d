use Rattle.model.proofs.Runs.{parents_lead}
use Rattle.model.proofs.laws.parents_lead_to_the_root.Goals as goal

pub returns : goal.returns
returns c = parents_lead
