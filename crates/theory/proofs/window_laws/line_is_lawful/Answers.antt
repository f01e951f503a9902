use Rattle.theory.proofs.window_laws.line_is_lawful.Goals as goal
use Rattle.theory.proofs.Line.{line_is_lawful}

pub returns : goal.returns
returns c = line_is_lawful
