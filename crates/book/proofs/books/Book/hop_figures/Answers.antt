use Rattle.book.proofs.Asking.{hop_promised}
use Rattle.book.proofs.books.Book.hop_figures.Goals as goal

-- with the lemma named on the function no proof is found
pub returns-clause-promise : goal.returns-clause-promise
returns-clause-promise c = hop_promised c.args.self.now c.args.link c.args.port _ c.tell_hop.ensures
