-- Output: what is said of a port's loads.
--
--   Reports rows r        r tells how many loads there are, their demand, and what each method says
--   printed x             why there is no worst backlog, as it is printed
--   Tells worth rows r    r is the worth of the rows, or tells why a method of this worth answers none

use Rattle.std.specs.Prelude.{◌≡◌, ℕ, ◌<◌, List, ◌++◌, length, decimal, codes, Ok, Err, Result}
use Rattle.folds.specs.Folds.{Told}
use Rattle.definitions.specs.declared.loads.Load.{Load}
use Rattle.definitions.specs.Loads.{AreLoads}
use Rattle.definitions.specs.Methods.{Answerable, limit, forward, line}
use Rattle.definitions.specs.Windows as windows
use Rattle.port_check.specs.declared.output.Report.{Report}
use Rattle.port_check.specs.declared.output.NoBacklog.{NoBacklog}
use Rattle.port_check.specs.declared.output.NoBacklog.TheVariants.{Overloaded, PastLimit}

abbrev pub printed : NoBacklog → List ℕ
printed Overloaded = codes "overloaded, so there is no worst backlog"
printed PastLimit = codes "past the limit of " ++ decimal limit ++ codes " ns"

abbrev pub Tells : (List Load → ℕ) → List Load → Result ℕ NoBacklog → Type 0
Tells worth rows (Ok w) = Answerable worth rows × (w ≡ worth rows)
Tells worth rows (Err Overloaded) = windows.Overloaded rows
Tells worth rows (Err PastLimit) = (¬ windows.Overloaded rows) × (AreLoads rows → limit < worth rows)

pub record Reports (rows : List Load) (r : Report) : Type 0 where
  pub count : r.loads ≡ length rows
  pub demanded : Told (windows.demand rows) r.demand
  pub by_forward : Tells forward rows r.forward
  pub by_line : Tells line rows r.line
