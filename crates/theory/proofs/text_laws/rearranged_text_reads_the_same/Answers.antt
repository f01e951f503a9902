use Rattle.theory.proofs.text_laws.rearranged_text_reads_the_same.Goals as goal
use Rattle.theory.proofs.Rearranging.{rearranged_text_reads_the_same}

pub returns : goal.returns
returns c = rearranged_text_reads_the_same
