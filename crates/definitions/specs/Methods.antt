-- Methods: ways to bound the backlog of a port from the list of its loads.
--
--   worth            what a method means: a number of ns for every list of loads that is not overloaded
--   Lawful worth     the worth bounds W(t) − t on every such list
--   limit            10 s: no method answers more, and no figure of a network exceeds it
--   Answerable       the rows are loads, not overloaded, and their worth is within the limit
--   Answers          r is what a method of this worth answers: the worth, or none exactly where it is not answerable
--   most ls n        the largest of 0 and of W(t) − t for t below n
--   forward          the worth of Forward Analysis: the largest of W(t) − t
--   line             the worth of Line, Network Calculus with bursts shifted by the jitter

use Rattle.std.specs.Prelude.{◌≡◌, ℕ, zero, suc, ◌+◌, ◌-◌, ◌*◌, ◌/◌, ◌≤◌, max, List, Some, None, Option}
use Rattle.definitions.specs.Lists.{total}
use Rattle.definitions.specs.declared.loads.Load.{Load}
use Rattle.definitions.specs.Loads.{AreLoads}
use Rattle.definitions.specs.Windows.{horizon, W, Overloaded, Bounds}

abbrev pub Lawful : (List Load → ℕ) → Type 0
Lawful worth = (ls : List Load) → AreLoads ls → ¬ Overloaded ls → Bounds ls (worth ls)

abbrev pub limit : ℕ
limit = 10000000000

pub record Answerable (worth : List Load → ℕ) (rows : List Load) : Type 0 where
  pub loads : AreLoads rows
  pub carried : ¬ Overloaded rows
  pub within : worth rows ≤ limit

abbrev pub Answers : (List Load → ℕ) → List Load → Option ℕ → Type 0
Answers worth rows (Some w) = Answerable worth rows × (w ≡ worth rows)
Answers worth rows None = ¬ Answerable worth rows

-- shut, so that nothing counts up to the horizon
unfoldable pub most : List Load → ℕ → ℕ
most ls zero = 0
most ls (suc n) = max (most ls n) (W ls n - n)

-- below the horizon lies the largest of all: the law ForwardIsTheLargest
unfoldable pub forward : List Load → ℕ
forward ls = most ls horizon

-- a product over a gap, rounded up
abbrev pub share : Load → ℕ
share l = l.occupancy + (l.occupancy * l.jitter + (l.gap - 1)) / l.gap

abbrev pub line : List Load → ℕ
line ls = total share ls
