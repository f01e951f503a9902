use Rattle.theory.proofs.SampleTried.{sample_figures_tried}
use Rattle.theory.proofs.sample_laws.sample_comes_to_its_figures.Goals as goal

pub returns : goal.returns
returns c = sample_figures_tried
