use Rattle.std.proofs.Common.{refl, rules, tests}
use Rattle.book.proofs.LinkHops.{link_taken}
use Rattle.book.proofs.books.Book.take_link.Goals as goal

-- with the lemma named on the function no proof is found
pub returns : goal.returns
returns c =
    link_taken c.args.self.now _ c.args.link _ _ _ _ _ (search (rules, tests)) c.run_of-run.ensures.starts c.run_of-run.ensures.ends c.remove_one.ensures c.remove_run.ensures refl refl
