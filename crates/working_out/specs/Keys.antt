-- Keys: what the tables of a book are kept in order by.
--
--   number_before        the order of numbers
--   place_before         the order of hops' keys: by link and then port
--   port_key, link_key, hop_key   the key of a row
--   Ports, Hops          the registers of rows, in order by their keys
--   Links                the views of links, in order likewise

use Rattle.std.specs.Prelude.{ℕ, Bool, nat_lt}
use Rattle.register.specs.Orders.{pair_before}
use Rattle.register.specs.Registers.{RegisterBy, ViewBy}
use Rattle.working_out.specs.declared.rows.PortRow.{PortRow}
use Rattle.working_out.specs.declared.rows.LinkRow.{LinkRow}
use Rattle.working_out.specs.declared.rows.HopRow.{HopRow}

abbrev pub number_before : ℕ → ℕ → Bool
number_before = nat_lt

abbrev pub place_before : ℕ × ℕ → ℕ × ℕ → Bool
place_before = pair_before nat_lt nat_lt

abbrev pub port_key : PortRow → ℕ
port_key r = r.port.number

abbrev pub link_key : LinkRow → ℕ
link_key r = r.link.number

abbrev pub hop_key : HopRow → ℕ × ℕ
hop_key r = (r.hop.link, r.hop.port)

abbrev pub Ports : Type 0
Ports = RegisterBy number_before port_key

abbrev pub Links : Type 0
Links = ViewBy number_before link_key

abbrev pub Hops : Type 0
Hops = RegisterBy place_before hop_key
