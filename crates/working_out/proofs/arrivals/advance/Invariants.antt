use Rattle.std.proofs.Common.{◌≡◌, length}
use Rattle.register.specs.Registers.{rows, room}
use Rattle.working_out.specs.Settling.{Advance}
use Rattle.working_out.proofs.arrivals.advance.Given as goal

-- the hops before the place were passed
abbrev pub invariant-loop-place : goal.invariant-loop-place
invariant-loop-place l =
    (room l.ports ≡ room l.initial.ports)
    × (room l.hops ≡ room l.initial.hops)
    × (length (rows l.hops) ≡ length (rows l.initial.hops))
    × Advance l.initial.ports l.links l.initial.hops l.ports l.hops 0 l.place
