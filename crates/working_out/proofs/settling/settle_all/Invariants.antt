use Rattle.std.proofs.Common.{◌≡◌, ◌+◌, ◌≤◌, length}
use Rattle.definitions.specs.Network.{Records}
use Rattle.register.specs.Registers.{rows, viewed, room}
use Rattle.working_out.specs.Settling.{Setting, Worked, untried}
use Rattle.working_out.proofs.settling.settle_all.Given as goal

-- each round tried a port
abbrev pub invariant-loop : goal.invariant-loop
invariant-loop g l =
    (length (rows l.hops) ≡ length (rows l.initial.hops))
    × (room l.ports ≡ room l.initial.ports)
    × (room l.hops ≡ room l.initial.hops)
    × ((r : Records) → Setting r (g.M.Method.worth l.method) → Worked r (g.M.Method.worth l.method) (rows l.initial.ports) (viewed l.links) (rows l.initial.hops)
    → Worked r (g.M.Method.worth l.method) (rows l.ports) (viewed l.links) (rows l.hops) × (untried (rows l.ports) + l.counter ≤ length (rows l.initial.ports)))
