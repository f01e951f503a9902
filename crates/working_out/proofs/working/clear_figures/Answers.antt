use Rattle.std.proofs.Common.{refl, rules}
use Rattle.working_out.specs.declared.rows.PortRow.{PortRow}
use Rattle.working_out.specs.declared.rows.HopRow.{HopRow}
use Rattle.working_out.specs.Rows.{bare_port, bare_hop}
use Rattle.working_out.proofs.working.clear_figures.Goals as goal

pub returns : goal.returns
returns c =
    let ports = c.edit_all.ensures (λ (x : PortRow). bare_port x.port) (λ x y called. search rules) in
    let hops = c.edit_all-2.ensures (λ (y : HopRow). bare_hop y.hop) (λ x y called. search rules) in
    record { ports_room = ports.same_room; hops_room = hops.same_room; ports = ports.edited (λ r. refl); hops = hops.edited (λ r. refl) }
