use Rattle.std.proofs.Common.{◌≡◌, ℕ, Some, ap, arith, rules, tests}
use Rattle.register.specs.Registers.{Getting}
use Rattle.working_out.specs.Keys.{port_key}
use Rattle.working_out.specs.declared.rows.Progress.TheVariants.{WorkedOut}
use Rattle.register.specs.Registers.{rows, viewed}
use Rattle.working_out.proofs.Arriving.{port_out, hop_unknown, arrives}
use Rattle.working_out.proofs.arrivals.arrival.Goals as goal

pub returns-in_err-port : goal.returns-in_err-port
returns-in_err-port c =
    rw c.from_residual.ensures
    (port_out (rows c.args.ports.now) (viewed c.args.links.now) (rows c.args.hops.now) c.args.hop c.in-Some.before c.in-Some.is c.args.ports.now.ascends
    c.get.result c.get.ensures (search (rules, tests)))

pub returns-in_err-row : goal.returns-in_err-row
returns-in_err-row c =
    rw c.from_residual-in_err-row.ensures
    (hop_unknown (rows c.args.ports.now) (viewed c.args.links.now) (rows c.args.hops.now) c.args.hop c.in-Some.before c.in-Some.is c.in_err-row.ensures)

pub returns : goal.returns
returns c =
    let y = c.in_ok-row.row in
    let link : y.hop.link ≡ c.args.hop.link = ap (λ (k : ℕ × ℕ). k.0) c.in_ok-row.ensures.1 in
    let let_through : (Getting port_key (rows c.args.ports.now) c.in-Some.before (Some c.in_ok-port.port)) × (c.in_ok-port.port.progress ≡ WorkedOut) = search (rules, tests) in
    arrives (rows c.args.ports.now) (viewed c.args.links.now) (rows c.args.hops.now) c.args.hop c.in-Some.before c.in-Some.is
    c.in_ok-port.port y let_through.0 let_through.1 c.in_ok-row.ensures
    c.saturating_add-earliest.result c.saturating_add-latest.result
    (cc) (omega (arith, c.saturating_add-latest.ensures, c.saturating_add.ensures))
