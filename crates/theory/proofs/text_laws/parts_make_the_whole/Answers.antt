use Rattle.theory.proofs.text_laws.parts_make_the_whole.Goals as goal
use Rattle.theory.proofs.Parts.{parts_make_the_whole}

pub returns : goal.returns
returns c = parts_make_the_whole
