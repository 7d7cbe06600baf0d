use Rattle.model.proofs.Runs.{image_fits}
use Rattle.model.proofs.laws.images_fit.Goals as goal

pub returns : goal.returns
returns c = image_fits
