use Rattle.std.proofs.Common.{take}
use Rattle.std.specs.List.{AllByRecursion}
use Rattle.register.specs.Registers.{viewed}
use Rattle.working_out.specs.Gathering.{OverloadedRow}
use Rattle.working_out.proofs.gathering.first_overloaded.Given as goal

-- no port that was passed is overloaded
abbrev pub invariant-loop-row : goal.invariant-loop-row
invariant-loop-row l = AllByRecursion (λ x. ¬ OverloadedRow (viewed l.links) l.hops x) (take l.row-index l.ports)
