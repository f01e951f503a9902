use Rattle.book.proofs.Asking.{delay_promised}
use Rattle.book.proofs.books.Book.delay.Goals as goal

-- with the lemma named on the function no proof is found
pub returns-clause-promise : goal.returns-clause-promise
returns-clause-promise c = delay_promised c.args.self.now c.args.link _ c.tell_delay.ensures
