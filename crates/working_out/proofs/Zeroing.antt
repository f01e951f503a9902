-- Tables out of order, with all figures zero.
use Rattle.std.proofs.Common.{Bool, sym, ap, ap₂, ◌∙◌, arith}
use Rattle.definitions.specs.Lists.{ascending}
use Rattle.register.specs.declared.tables.Table.{Table}
use Rattle.register.specs.Tables.{rows, by_key, Kept}
use Rattle.working_out.specs.declared.rows.PortRow.{PortRow}
use Rattle.working_out.specs.declared.rows.LinkRow.{LinkRow}
use Rattle.working_out.specs.declared.rows.HopRow.{HopRow}
use Rattle.definitions.specs.Network.{WellFormed}
use Rattle.working_out.specs.Edits.{KeepsKey, EditsRows}
use Rattle.working_out.specs.Rows.{net}
use Rattle.working_out.specs.Works.{InOrder}
use Rattle.working_out.proofs.Tabled.{rows_ascend, ports_in_order, links_in_order, hops_in_order}

-- a change that leaves the keys leaves the order, if there is one
pub kept_edited : {R K : Type 0} (lt : K → K → Bool) (key : R → K) (f : R → R) → KeepsKey key f → (t u v : Table R)
    → Kept lt key t u → EditsRows f u v → Kept lt key t v
kept_edited lt key f same t u v kept edited = record {
  same_room = edited.same_room ∙ kept.same_room;
  fits = λ le. omega (arith, kept.fits le, edited.same_count, edited.same_room);
  order = λ o. ap (ascending (by_key lt key)) edited.edited ∙ sym (rows_ascend f lt key (by_key lt key) (λ a b. sym (ap₂ lt (same a) (same b))) (rows u)) ∙ kept.order o;
}

pub well_formed_in_order : (t : Table PortRow) (l : Table LinkRow) (h : Table HopRow) → WellFormed (net (rows t) (rows l) (rows h)) → InOrder t l h
well_formed_in_order t l h wf = record {
  ports = ports_in_order (rows t) (rows l) (rows h) wf;
  links = links_in_order (rows t) (rows l) (rows h) wf;
  hops = hops_in_order (rows t) (rows l) (rows h) wf;
}
