use Rattle.std.proofs.Common.{◌≡◌, length}
use Rattle.definitions.specs.Network.{Records}
use Rattle.register.specs.Registers.{rows, viewed, room}
use Rattle.working_out.specs.Settling.{Setting, Known, SettlesFirst}
use Rattle.working_out.proofs.settling.settle_open.Given as goal

-- the ports before the place were tried
abbrev pub invariant-loop-place : goal.invariant-loop-place
invariant-loop-place g l =
    (room l.ports ≡ room l.initial.ports)
    × ((r : Records) → Setting r (g.M.Method.worth l.method) → Known r (g.M.Method.worth l.method) (rows l.initial.ports) (viewed l.links) l.hops (length l.hops)
    → SettlesFirst r (g.M.Method.worth l.method) (viewed l.links) l.hops l.place (rows l.initial.ports) (rows l.ports) l.any)
