-- Largest: the largest of W(t) − t, and the laws of overload and of Forward.
use Rattle.std.proofs.Common.{◌≡◌, ℕ, zero, suc, ◌+◌, ◌-◌, ◌<◌, ◌≤◌, List, [], refl, ap, arith}
use native.Mathlib.Decide.{dec_le, dec_lt}
use Rattle.definitions.specs.declared.loads.Load.{Load}
use Rattle.definitions.specs.Loads.{AreLoads}
use Rattle.definitions.specs.Windows.{horizon, W, demand, Overloaded}
use Rattle.definitions.specs.Methods.{most, forward}
use Rattle.definitions.specs.Promises.{OverloadIsUnboundedness, OverloadPassesEveryBound, ForwardIsTheLargest, NoLoadsNoBacklog, ForwardIsTheLeastLawful}
use Rattle.theory.proofs.Windows.{horizon_pos, WStep}

-- most bounds what lies below n
pub most_bounds : (ls : List Load) (n t : ℕ) → t < n → W ls t ≤ most ls n + t
unfolding most
most_bounds ls zero t lt = absurd (omega arith)
most_bounds ls (suc n) t lt =
    elim (dec_lt t n) [
      | yes less ↦ omega (arith, most_bounds ls n t less)
      | no past ↦ let e : t ≡ n = omega arith in omega (arith, ap (W ls) e)
    ]

-- and is the least that does
pub most_least : (ls : List Load) (w n : ℕ) → ((t : ℕ) → t < n → W ls t ≤ w + t) → most ls n ≤ w
unfolding most
most_least ls w zero h = omega arith
most_least ls w (suc n) h = omega (arith, most_least ls w n (λ t lt. h t (omega arith)), h n (omega arith))

-- it grows with n
pub most_mono : (ls : List Load) (m n : ℕ) → m ≤ n → most ls m ≤ most ls n
most_mono ls m n h = most_least ls (most ls n) m (λ t lt. most_bounds ls n t (omega arith))

-- and is reached
pub most_reached : (ls : List Load) (n : ℕ) → 0 < n → (t : ℕ) × (W ls t ≡ most ls n + t)
unfolding most
most_reached ls zero pos = absurd (omega arith)
most_reached ls (suc zero) pos = (0, omega arith)
most_reached ls (suc (suc n)) pos =
    let (t, e) = most_reached ls (suc n) (omega arith) in
    elim (dec_le (W ls (suc n) - suc n) (most ls (suc n))) [
      | yes under ↦ (t, omega arith)
      | no over ↦ (suc n, omega arith)
    ]

-- where p more of time brings at most p more of work, each W(t) − t is at most one below p
pub repeats : (ls : List Load) (p : ℕ) → 0 < p → ((s : ℕ) → W ls (s + p) ≤ W ls s + p)
    → (n t : ℕ) → t < n → (u : ℕ) × (u < p) × (W ls t + u ≤ W ls u + t)
repeats ls p pos h zero t lt = absurd (omega arith)
repeats ls p pos h (suc n) t lt =
    elim (dec_lt t p) [
      | yes less ↦ (t, less, omega arith)
      | no past ↦
          let (u, less, i) = repeats ls p pos h n (t - p) (omega arith) in
          let e : t ≡ t - p + p = omega arith in
          (u, less, omega (arith, ap (W ls) e, h (t - p)))
    ]

-- so that most below p bounds all
pub most_repeats : (ls : List Load) (p : ℕ) → 0 < p → ((s : ℕ) → W ls (s + p) ≤ W ls s + p)
    → (t : ℕ) → W ls t ≤ most ls p + t
most_repeats ls p pos h t =
    let (u, less, i) = repeats ls p pos h (suc t) t (omega arith) in
    omega (arith, most_bounds ls p u less)

-- most below the horizon bounds all, and is reached
pub forward_is_the_largest : ForwardIsTheLargest
unfolding forward
forward_is_the_largest ls k fits = record {
  bounds = most_repeats ls horizon horizon_pos (λ s. omega (arith, WStep ls k s));
  reached = most_reached ls horizon horizon_pos;
}

-- a lawful worth bounds the window at which Forward's is reached
pub forward_is_the_least_lawful : ForwardIsTheLeastLawful
forward_is_the_least_lawful = (
  λ ls k fits. (forward_is_the_largest ls k fits).bounds,
  λ worth law ls k fits.
      let (t, e) = (forward_is_the_largest ls k fits).reached in
      omega (arith, law ls k fits t),
)

-- without loads every W(t) is 0
pub no_loads_no_backlog : NoLoadsNoBacklog
unfolding forward
no_loads_no_backlog = (omega (arith, most_least [] 0 horizon (λ t lt. omega arith)), refl)

-- each horizon of an overload adds at least 1 to W(t) − t
pub overload_gains : (ls : List Load) → AreLoads ls → Overloaded ls → (w : ℕ) → (t : ℕ) × (w + t ≤ W ls t)
overload_gains ls k o zero = (0, omega arith)
overload_gains ls k o (suc w) =
    let (t, h) = overload_gains ls k o w in
    (t + horizon, omega (arith, WStep ls k t))

-- so that after enough horizons any bound is passed
pub overload_passes_every_bound : OverloadPassesEveryBound
overload_passes_every_bound ls k o w =
    let (t, h) = overload_gains ls k o (suc w) in
    (t, omega arith)

-- an overload has no largest, and without one it is Forward's worth
pub overload_is_unboundedness : OverloadIsUnboundedness
overload_is_unboundedness ls k = (
  λ o found.
      let (t, h) = overload_passes_every_bound ls k o found.0 in
      omega (arith, found.1.bounds t),
  λ none.
      elim (dec_lt horizon (demand ls)) [
        | yes o ↦ o
        | no fits ↦ absurd (none (forward ls, forward_is_the_largest ls k fits))
      ],
)
