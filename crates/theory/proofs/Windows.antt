-- Windows: how the workload W grows with the length of the window and with the jitters.
--
--   Calmer ls ms     the lists differ in their jitters only, and no jitter of ls is above that of ms
use Rattle.std.proofs.Common.{◌≡◌, ℕ, ◌+◌, ◌*◌, ◌/◌, ◌<◌, ◌≤◌, List, [], ◌∷◌, ap, mul-le-mul_right, arith}
use Rattle.definitions.specs.declared.loads.Load.{Load}
use Rattle.definitions.specs.Loads.{IsGap, IsLoad, AreLoads}
use Rattle.definitions.specs.Windows.{horizon, W, demand}
use Rattle.theory.proofs.Quotients.{div_mono, div_step, div_sub}

-- the horizon is not 0
pub horizon_pos : 0 < horizon
unfolding horizon
horizon_pos = omega arith

-- a gap is not 0
pub gap_pos : (g : ℕ) → IsGap g → 0 < g
gap_pos g k = omega arith

-- a gap divides the horizon
pub gap_divides : (g : ℕ) → IsGap g → g * (horizon / g) ≡ horizon
unfolding horizon
gap_divides g k = grind arith

-- a load's gap is not 0
pub load_pos : (l : Load) → IsLoad l → 0 < l.gap
load_pos l k = gap_pos l.gap k.gap_known

-- a load's gap divides the horizon
pub load_divides : (l : Load) → IsLoad l → l.gap * (horizon / l.gap) ≡ horizon
load_divides l k = gap_divides l.gap k.gap_known

-- the workload grows with the window
pub WMono : (ls : List Load) → AreLoads ls → (t u : ℕ) → t ≤ u → W ls t ≤ W ls u
WMono [] k t u h = omega arith
WMono (l ∷ ls) k t u h =
    let q = div_mono (t + l.jitter) (u + l.jitter) l.gap (load_pos l k.0) (omega arith) in
    omega (arith, mul-le-mul_right l.occupancy q, WMono ls k.1 t u h)

-- one horizon more brings the demand once more
pub WStep : (ls : List Load) → AreLoads ls → (t : ℕ) → W ls (t + horizon) ≡ W ls t + demand ls
WStep [] k t = omega arith
WStep (l ∷ ls) k t =
    let pos = load_pos l k.0 in
    let e = load_divides l k.0 in
    let q = div_step (t + l.jitter) horizon (t + horizon + l.jitter) l.gap pos e (omega arith) in
    omega (arith, ap (λ n. n * l.occupancy) q, WStep ls k.1 t)

-- two windows end to end bring no more than both apart
pub WSub : (ls : List Load) → AreLoads ls → (t s : ℕ) → W ls (t + 1 + s) ≤ W ls t + W ls s
WSub [] k t s = omega arith
WSub (l ∷ ls) k t s =
    let q = div_sub (t + l.jitter) (s + l.jitter) (t + 1 + s + l.jitter) l.gap (load_pos l k.0) (omega arith) in
    omega (arith, mul-le-mul_right l.occupancy q, WSub ls k.1 t s)

-- one list beside the other
abbrev pub Calmer : List Load → List Load → Type 0
Calmer [] [] = Unit {0}
Calmer [] (m ∷ ms) = ⊥
Calmer (l ∷ ls) [] = ⊥
Calmer (l ∷ ls) (m ∷ ms) =
    (l.occupancy ≡ m.occupancy) × (l.gap ≡ m.gap) × (l.jitter ≤ m.jitter) × Calmer ls ms

-- a calmer list brings no more
pub WCalmer : (ls ms : List Load) → AreLoads ls → Calmer ls ms → (t : ℕ) → W ls t ≤ W ms t
WCalmer [] [] k c t = omega arith
WCalmer [] (m ∷ ms) k c t = absurd c
WCalmer (l ∷ ls) [] k c t = absurd c
WCalmer (l ∷ ls) (m ∷ ms) k c t =
    let q = div_mono (t + l.jitter) (t + m.jitter) l.gap (load_pos l k.0) (omega arith) in
    rw (← c.0, ← c.1) (omega (arith, mul-le-mul_right l.occupancy q, WCalmer ls ms k.1 c.3 t))

-- and has the same demand
pub demand_calmer : (ls ms : List Load) → Calmer ls ms → demand ls ≡ demand ms
demand_calmer [] [] c = omega arith
demand_calmer [] (m ∷ ms) c = absurd c
demand_calmer (l ∷ ls) [] c = absurd c
demand_calmer (l ∷ ls) (m ∷ ms) c = rw (c.0, c.1, demand_calmer ls ms c.3)
