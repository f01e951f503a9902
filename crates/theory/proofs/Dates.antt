-- Dates: which windows need be looked at to find Forward's worth.
--
--   Before ls t n    no load of the list brings a new frame after t and before n
use Rattle.std.proofs.Common.{◌≡◌, ℕ, suc, ◌+◌, ◌-◌, ◌%◌, ◌<◌, ◌≤◌, max, List, [], ◌∷◌, refl, ap, add-one, arith}
use native.Mathlib.Decide.{dec_lt}
use Rattle.definitions.specs.declared.loads.Load.{Load}
use Rattle.definitions.specs.Loads.{AreLoads}
use Rattle.definitions.specs.Windows.{horizon, W}
use Rattle.definitions.specs.Methods.{most, forward}
use Rattle.theory.proofs.Quotients.{div_flat}
use Rattle.theory.proofs.Windows.{load_pos, WSub}
use Rattle.theory.proofs.Largest.{most_bounds, most_least, most_mono, most_repeats}

-- after a window b that the port works off, b + 1 more of time brings at most that much more of work
pub idle_step : (ls : List Load) → AreLoads ls → (b : ℕ) → W ls b ≤ b → (s : ℕ) → W ls (s + suc b) ≤ W ls s + suc b
idle_step ls k b idle s =
    let e : s + suc b ≡ b + 1 + s = omega arith in
    omega (arith, ap (W ls) e, WSub ls k b s)

-- so that Forward's worth lies at or before b
pub forward_at_idle : (ls : List Load) → AreLoads ls → (b : ℕ) → b < horizon → W ls b ≤ b → forward ls ≡ most ls (suc b)
unfolding forward
forward_at_idle ls k b lt idle =
    let bounds = most_repeats ls (suc b) (omega arith) (idle_step ls k b idle) in
    omega (arith, most_least ls (most ls (suc b)) horizon (λ t _. bounds t), most_mono ls (suc b) horizon lt)

-- one window more
pub most_suc : (ls : List Load) (n : ℕ) → most ls (n + 1) ≡ max (most ls n) (W ls n - n)
unfolding most
most_suc ls n = rw add-one

-- the same at suc n
pub most_suc' : (ls : List Load) (n : ℕ) → most ls (suc n) ≡ max (most ls n) (W ls n - n)
unfolding most
most_suc' ls n = refl

-- where the workload stays as it is from t to n, most at t bounds all below n
pub flat_bounds : (ls : List Load) (t n : ℕ) → ((u : ℕ) → t ≤ u → u < n → W ls u ≡ W ls t)
    → (u : ℕ) → u < n → W ls u ≤ most ls (suc t) + u
flat_bounds ls t n flat u lt =
    elim (dec_lt u t) [
      | yes early ↦ most_bounds ls (suc t) u (omega arith)
      | no late ↦ omega (arith, flat u (omega arith) lt, most_bounds ls (suc t) t (omega arith))
    ]

-- so that only t counts
pub most_flat : (ls : List Load) (t n : ℕ) → t < n → ((u : ℕ) → t ≤ u → u < n → W ls u ≡ W ls t) → most ls n ≡ most ls (suc t)
most_flat ls t n lt flat =
    omega (arith, most_least ls (most ls (suc t)) n (flat_bounds ls t n flat), most_mono ls (suc t) n lt)

-- each load's next frame comes at n or later
abbrev pub Before : List Load → ℕ → ℕ → Type 0
Before [] t n = Unit {0}
Before (l ∷ ls) t n = (n ≤ t + (l.gap - (t + l.jitter) % l.gap)) × Before ls t n

-- the workload stays as it is until a new frame comes
pub WFlat : (ls : List Load) → AreLoads ls → (t n : ℕ) → Before ls t n → (u : ℕ) → t ≤ u → u < n → W ls u ≡ W ls t
WFlat [] k t n b u h lt = refl
WFlat (l ∷ ls) k t n b u h lt =
    let q = div_flat (t + l.jitter) (u + l.jitter) l.gap (load_pos l k.0) (omega arith) (omega arith) in
    rw (q, WFlat ls k.1 t n b.1 u h lt)
