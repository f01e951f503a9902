use Rattle.theory.proofs.text_laws.written_text_reads_back.Goals as goal
use Rattle.theory.proofs.ReadBack.{written_text_reads_back}

pub returns : goal.returns
returns c = written_text_reads_back
