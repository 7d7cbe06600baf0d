use Rattle.model.proofs.Leases.{leases_balance}
use Rattle.model.proofs.laws.leases_balance.Goals as goal

pub returns : goal.returns
returns c = leases_balance
