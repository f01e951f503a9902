-- Rows: the rows of ports and hops.
--
--   bare_port p, bare_hop h   the row of a port, or of a hop, without figures
--   rested x                  the row of a port, with the marks of a working-out at rest
--   AtRest ps                 all rows are so
--   net ps ls hs              the records that the rows hold

use Rattle.std.specs.Prelude.{◌≡◌, false, List, map}
use Rattle.definitions.specs.declared.network.Port.{Port}
use Rattle.definitions.specs.declared.network.Hop.{Hop}
use Rattle.definitions.specs.Network.{Records}
use Rattle.working_out.specs.declared.rows.PortRow.{PortRow}
use Rattle.working_out.specs.declared.rows.LinkRow.{LinkRow}
use Rattle.working_out.specs.declared.rows.HopRow.{HopRow}
use Rattle.working_out.specs.declared.rows.Progress.TheVariants.{Open}

abbrev pub bare_port : Port → PortRow
bare_port p = record { port = p; backlog = 0; depth = 0; progress = Open; fed = false }

abbrev pub bare_hop : Hop → HopRow
bare_hop h = record { hop = h; earliest = 0; latest = 0 }

abbrev pub rested : PortRow → PortRow
rested x = record { port = x.port; backlog = x.backlog; depth = x.depth; progress = Open; fed = false }

abbrev pub AtRest : List PortRow → Type 0
AtRest ps = map rested ps ≡ ps

abbrev pub net : List PortRow → List LinkRow → List HopRow → Records
net ps ls hs = record {
  ports = map (λ (r : PortRow). r.port) ps;
  links = map (λ (r : LinkRow). r.link) ls;
  hops = map (λ (r : HopRow). r.hop) hs;
}
