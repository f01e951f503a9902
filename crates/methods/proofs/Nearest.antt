-- The next arrival date, found as the largest nearness.
use Rattle.std.proofs.Common.{◌≡◌, ℕ, ◌+◌, ◌-◌, ◌%◌, ◌<◌, ◌≤◌, List, [], ◌∷◌, arith}
use Rattle.definitions.specs.declared.loads.Load.{Load}
use Rattle.definitions.specs.Loads.{AreLoads}
use Rattle.definitions.specs.Windows.{horizon, W}
use Rattle.definitions.specs.Lists.{largest}
use Rattle.theory.proofs.Windows.{horizon_pos, load_pos}
use Rattle.theory.proofs.Dates.{Before, WFlat}

abbrev pub nearness : ℕ → Load → ℕ
nearness t l = horizon - (l.gap - (t + l.jitter) % l.gap)

-- the next frame of a load comes after t
pub nearness_most : (ls : List Load) → AreLoads ls → (t : ℕ) → largest (nearness t) ls < horizon
nearness_most [] k t = horizon_pos
nearness_most (l ∷ ls) k t = omega (arith, horizon_pos, load_pos l k.0, nearness_most ls k.1 t)

-- and no load brings one before the nearest
before_nearest : (ls : List Load) (t n : ℕ) → n ≤ t + (horizon - largest (nearness t) ls) → Before ls t n
before_nearest [] t n h = tt
before_nearest (l ∷ ls) t n h = (omega arith, before_nearest ls t n (omega arith))

-- so the workload stays as it is until then
pub flat_before_nearest : (ls : List Load) → AreLoads ls → (t u : ℕ) → t ≤ u → u < t + (horizon - largest (nearness t) ls) → W ls u ≡ W ls t
flat_before_nearest ls k t u le lt = WFlat ls k t _ (before_nearest ls t (t + (horizon - largest (nearness t) ls)) (omega arith)) u le lt
