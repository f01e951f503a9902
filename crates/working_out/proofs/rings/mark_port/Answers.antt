use Rattle.std.proofs.Common.{true, refl, rules, tests}
use Rattle.register.specs.Registers.{rows}
use Rattle.working_out.specs.Rings.{marked}
use Rattle.working_out.proofs.RingMarks.{unmarked_by}
use Rattle.working_out.proofs.rings.mark_port.Goals as goal

pub returns-then-not-is_some_and : goal.returns-then-not-is_some_and
returns-then-not-is_some_and c = (
  refl,
  (unmarked_by c.args.port (rows c.args.ports.now) c.args.ports.now.ascends c.get.result c.get.ensures c.is_some_and.result (search (rules, tests))).1 c.if-not-is_some_and.true,
)

pub returns : goal.returns
returns c =
    let edited = c.edit_under.ensures (marked true) (λ x y called. search rules) in
    (edited.same_room, (unmarked_by c.args.port (rows c.args.ports.now) c.args.ports.now.ascends c.get.result c.get.ensures c.is_some_and.result (search (rules, tests))).0 c.if-not-is_some_and.false, edited.edited (λ r. refl))
