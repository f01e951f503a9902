use Rattle.std.proofs.Common.{take}
use Rattle.working_out.specs.Rings.{Spreads}
use Rattle.working_out.proofs.rings.spread.Given as goal

-- the pass over the hops so far
abbrev pub invariant-loop-row : goal.invariant-loop-row
invariant-loop-row l = Spreads (take l.row-index l.hops) l.from l.initial.ports l.ports l.added
