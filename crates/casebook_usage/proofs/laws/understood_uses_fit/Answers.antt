use Rattle.casebook_usage.proofs.Fitting.{understood_fits}
use Rattle.casebook_usage.proofs.laws.understood_uses_fit.Goals as goal

pub returns : goal.returns
returns c = understood_fits
