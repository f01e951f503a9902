use Rattle.theory.proofs.text_laws.numbers_read_as_written.Goals as goal
use Rattle.theory.proofs.Numbers.{numbers_read_as_written}

pub returns : goal.returns
returns c = numbers_read_as_written
