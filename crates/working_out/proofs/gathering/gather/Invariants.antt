use Rattle.std.proofs.Common.{◌≡◌, ◌≤◌, take}
use Rattle.register.specs.Registers.{viewed}
use Rattle.working_out.specs.Gathering.{loads_at}
use Rattle.working_out.proofs.gathering.gather.Given as goal

-- the loads of the hops that were passed stand at the first places
abbrev pub invariant-loop-row : goal.invariant-loop-row
invariant-loop-row l = (l.count ≤ l.row-index) × (take l.count l.loads ≡ loads_at (viewed l.links) l.port (take l.row-index l.hops))
