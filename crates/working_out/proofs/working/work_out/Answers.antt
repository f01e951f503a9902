use Rattle.std.proofs.Common.{refl, rules}
use Rattle.register.specs.Tables.{rows}
use Rattle.working_out.specs.declared.rows.PortRow.{PortRow}
use Rattle.working_out.specs.declared.rows.HopRow.{HopRow}
use Rattle.working_out.specs.Rows.{bare_port, bare_hop, rested}
use Rattle.working_out.specs.Keys.{number_before, place_before, port_key, hop_key}
use Rattle.working_out.proofs.RowLists.{map_fixed}
use Rattle.working_out.proofs.Zeroing.{kept_edited, well_formed_in_order}
use Rattle.working_out.proofs.working.work_out.Goals as goal

pub returns-clause-ports_kept : goal.returns-clause-ports_kept
returns-clause-ports_kept g c =
    kept_edited number_before port_key (λ (x : PortRow). bare_port x.port) (λ r. refl) c.args.ports.now c.work_in_order.new.ports c.edit_rows.new.table
    c.in_default.ensures.ports_kept (c.edit_rows.ensures (λ (x : PortRow). bare_port x.port) (λ x y called. search rules))

pub returns-clause-hops_kept : goal.returns-clause-hops_kept
returns-clause-hops_kept g c =
    kept_edited place_before hop_key (λ (y : HopRow). bare_hop y.hop) (λ r. refl) c.args.hops.now c.work_in_order.new.hops c.edit_rows-2.new.table
    c.in_default.ensures.hops_kept (c.edit_rows-2.ensures (λ (y : HopRow). bare_hop y.hop) (λ x y called. search rules))

pub returns-clause-rests : goal.returns-clause-rests
returns-clause-rests g c =
    rw ((c.edit_rows.ensures (λ (x : PortRow). bare_port x.port) (λ x y called. search rules)).edited)
    (map_fixed rested (λ (x : PortRow). bare_port x.port) (rows c.work_in_order.new.ports) (λ x. refl))

pub returns-clause-works : goal.returns-clause-works
returns-clause-works g c wf =
    absurd ((c.in_default.ensures.out_of_order refl).0 (well_formed_in_order c.args.ports.now c.args.links.now c.args.hops.now wf))
