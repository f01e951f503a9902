use Rattle.book.proofs.Asking.{port_promised}
use Rattle.book.proofs.books.Book.port_figures.Goals as goal

-- with the lemma named on the function no proof is found
pub returns-clause-promise : goal.returns-clause-promise
returns-clause-promise c = port_promised c.args.self.now c.args.port _ c.tell_port.ensures
