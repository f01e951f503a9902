use Rattle.std.proofs.Common.{sym}
use Rattle.book.proofs.Hops.{fit_of}
use Rattle.book.proofs.Showing.{link_is_known, delay_is_told}
use Rattle.book.proofs.books.Book.tell_delay.Goals as goal

-- with the lemmas named on the function the search stops at a limit
pub returns : goal.returns
returns c =
    let (up, link) = link_is_known c.args.self.now c.args.link (fit_of _ c.in_ok-may_ask_of.ensures) in
    sym (delay_is_told c.args.self.now up c.args.link link _ _ c.run_of.ensures.starts c.run_of.ensures.ends
    c.all.result.now c.all.ensures (sym c.if-is_empty.ensures) c.largest.result c.largest.ensures.told c.unwrap_or.result c.unwrap_or.ensures c.unwrap_or.type_inv)
