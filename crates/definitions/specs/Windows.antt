-- Windows: how much work a list of loads can bring to a port.
--
--   horizon        128 ms, which every gap divides
--   window l t     the most that the load l brings in a window of length t: the occupancy of each frame
--                  that can arrive at one of its moments 0 .. t, when arrivals bunch by the jitter
--   W ls t         the sum of the windows of the list: its workload
--   demand ls      what the list brings to the port in one horizon, in the long run
--   Overloaded ls  that is more than the port can send in a horizon
--   Bounds ls w    w is at least W(t) − t for every whole t
--   Largest ls w   w is the largest of W(t) − t over all whole t

use Rattle.std.specs.Prelude.{◌≡◌, ℕ, ◌+◌, ◌*◌, ◌/◌, ◌<◌, ◌≤◌, List}
use Rattle.definitions.specs.Lists.{total}
use Rattle.definitions.specs.declared.loads.Load.{Load}

-- shut, so that nothing counts up to it
unfoldable pub horizon : ℕ
horizon = 128000000

abbrev pub window : Load → ℕ → ℕ
window l t = (1 + (t + l.jitter) / l.gap) * l.occupancy

abbrev pub W : List Load → ℕ → ℕ
W ls t = total (λ (l : Load). window l t) ls

abbrev pub demand : List Load → ℕ
demand ls = total (λ (l : Load). l.occupancy * (horizon / l.gap)) ls

abbrev pub Overloaded : List Load → Type 0
Overloaded ls = horizon < demand ls

abbrev pub Bounds : List Load → ℕ → Type 0
Bounds ls w = (t : ℕ) → W ls t ≤ w + t

pub record Largest (ls : List Load) (w : ℕ) : Type 0 where
  pub bounds : Bounds ls w
  pub reached : (t : ℕ) × (W ls t ≡ w + t)
