-- Held: each record that rows hold stands in a row, and the record of each row is held.
use Rattle.std.proofs.Common.{◌≡◌, List, length, sym, ap, ◌∙◌, subst}
use Rattle.std.proofs.lemmas.List.{length-map}
use Rattle.definitions.specs.declared.network.Port.{Port}
use Rattle.definitions.specs.declared.network.Hop.{Hop}
use Rattle.definitions.specs.Lists.{In}
use Rattle.definitions.specs.Network.{Records}
use Rattle.theory.proofs.Members.{in_map}
use Rattle.working_out.specs.declared.rows.PortRow.{PortRow}
use Rattle.working_out.specs.declared.rows.LinkRow.{LinkRow}
use Rattle.working_out.specs.declared.rows.HopRow.{HopRow}
use Rattle.working_out.specs.Settling.{Holds}
use Rattle.working_out.proofs.RowLists.{map_in}

module _ {r : Records} {ps : List PortRow} {ls : List LinkRow} {hs : List HopRow} (held : Holds r ps ls hs) where
  pub port_in : (x : PortRow) → In x ps → In x.port r.ports
  port_in x i = subst (In x.port) held.ports (in_map (λ (z : PortRow). z.port) ps x i)

  pub hop_in : (y : HopRow) → In y hs → In y.hop r.hops
  hop_in y i = subst (In y.hop) held.hops (in_map (λ (z : HopRow). z.hop) hs y i)

  -- as many rows as records
  pub hop_count : length hs ≡ length r.hops
  hop_count = sym (length-map hs (λ (z : HopRow). z.hop)) ∙ ap length held.hops

  pub port_row : (p : Port) → In p r.ports → (x : PortRow) × In x ps × (p ≡ x.port)
  port_row p i = map_in (λ (z : PortRow). z.port) ps p (subst (In p) (sym held.ports) i)

  pub hop_row : (h : Hop) → In h r.hops → (y : HopRow) × In y hs × (h ≡ y.hop)
  hop_row h i = map_in (λ (z : HopRow). z.hop) hs h (subst (In h) (sym held.hops) i)
