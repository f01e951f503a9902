use Rattle.std.proofs.Common.{refl}
use Rattle.book.proofs.Hops.{hop_added}
use Rattle.book.proofs.books.Book.add_hop.Goals as goal

-- with the lemma named on the function no proof is found
pub returns-in-Ok : goal.returns-in-Ok
returns-in-Ok c =
    hop_added c.args.self.now _ c.args.hop c.in_ok-fits.ensures refl refl c.insert.ensures.same_room (rw c.new.ensures at c.in-Ok.ensures.inserts) refl
