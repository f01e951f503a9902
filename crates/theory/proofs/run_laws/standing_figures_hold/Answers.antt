use Rattle.theory.proofs.OneAnswer.{standing_figures_hold}
use Rattle.theory.proofs.run_laws.standing_figures_hold.Goals as goal

pub returns : goal.returns
returns c = standing_figures_hold
