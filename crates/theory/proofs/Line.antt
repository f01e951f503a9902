-- Line: its worth bounds every W(t) − t. Both sides are compared at horizon times their size.
use Rattle.std.proofs.Common.{◌≡◌, ℕ, ◌+◌, ◌-◌, ◌*◌, ◌/◌, ◌<◌, ◌≤◌, List, [], ◌∷◌, ap, mul-le-mul_right, mul-le-mul_left, arith}
use native.Mathlib.Nat.{le_of_mul-le-mul_left}
use Rattle.definitions.specs.declared.loads.Load.{Load}
use Rattle.definitions.specs.Loads.{AreLoads}
use Rattle.definitions.specs.Windows.{horizon, W, demand}
use Rattle.definitions.specs.Methods.{line}
use Rattle.definitions.specs.Promises.{LineIsLawful}
use Rattle.theory.proofs.Windows.{horizon_pos, load_pos, load_divides}

-- one load of occupancy c, gap g and jitter j brings at most its share and its part of the demand
pub scaled_one : (c g j h t : ℕ) → 0 < g → g * (h / g) ≡ h
    → h * ((1 + (t + j) / g) * c) ≤ h * (c + (c * j + (g - 1)) / g) + c * (h / g) * t
scaled_one c g j h t pos e =
    let q = (t + j) / g in
    let s = (c * j + (g - 1)) / g in
    let under : g * q ≤ t + j = omega arith in
    let over : c * j ≤ g * s = omega arith in
    omega (arith, mul-le-mul_left (h / g * c) under, mul-le-mul_left (h / g) over, ap (λ n. n * (q * c)) e, ap (λ n. n * s) e)

-- a list brings at most Line's worth and its part of the demand
pub scaled : (ls : List Load) → AreLoads ls → (t : ℕ) → horizon * W ls t ≤ horizon * line ls + demand ls * t
scaled [] k t = omega arith
scaled (l ∷ ls) k t =
    omega (
      arith,
      scaled ls k.1 t,
      scaled_one l.occupancy l.gap l.jitter horizon t (load_pos l k.0) (load_divides l k.0),
    )

-- and the demand is at most the horizon
pub line_is_lawful : LineIsLawful
line_is_lawful ls k fits t =
    let less : demand ls ≤ horizon = omega arith in
    let all : horizon * W ls t ≤ horizon * (line ls + t) = omega (arith, scaled ls k t, mul-le-mul_right t less) in
    le_of_mul-le-mul_left all horizon_pos
