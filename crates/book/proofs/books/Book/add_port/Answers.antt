use Rattle.std.proofs.Common.{sym, refl}
use Rattle.book.proofs.Entering.{port_added, port_full, put_at_rest}
use Rattle.book.proofs.books.Book.add_port.Goals as goal

-- with these lemmas named on the function grind stops at its limit of instances
pub returns-in-Err-Full : goal.returns-in-Err-Full
returns-in-Err-Full c =
    port_full c.args.self.now _ c.args.port (sym c.if-not-has_known_rate.ensures) refl refl (rw (c.in-Err-Full.field-0-is, c.new.ensures) at c.in-Err-Full.ensures.inserts) refl

pub returns-in-Ok : goal.returns-in-Ok
returns-in-Ok c =
    port_added c.args.self.now _ c.args.port (sym c.if-not-has_known_rate.ensures) refl refl c.insert.ensures.same_room (rw c.new.ensures at c.in-Ok.ensures.inserts) refl

pub invariant_of-self : goal.invariant_of-self
invariant_of-self c = record {
  at_rest = put_at_rest c.args.port _ c.args.self.now.ports c.insert.new.self (rw c.new.ensures at c.in-Ok.ensures.inserts) c.args.self.now.at_rest;
}
