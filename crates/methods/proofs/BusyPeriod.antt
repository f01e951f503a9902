-- One turn of Forward's loop: the worst before a date, the workload at that date, and the next date.
use Rattle.std.proofs.Common.{◌≡◌, ℕ, suc, ◌-◌, ◌^◌, ◌<◌, ◌≤◌, max, ◌⊎◌, List, refl, ap, arith}
use native.Mathlib.Decide.{dec_le}
use Rattle.definitions.specs.declared.loads.Load.{Load}
use Rattle.definitions.specs.Loads.{AreLoads}
use Rattle.definitions.specs.Windows.{horizon, W}
use Rattle.definitions.specs.Methods.{most, forward, limit}
use Rattle.theory.proofs.Largest.{most_bounds}
use Rattle.theory.proofs.Dates.{most_suc', most_flat, forward_at_idle}

pub none_before : (ls : List Load) → 0 ≡ most ls 0
unfolding most
none_before ls = refl

-- a workload past 64 bits makes the worth pass the limit
pub past_limit : (ls : List Load) (t : ℕ) → t < horizon → 2 ^ 64 ≤ W ls t → limit < forward ls
unfolding forward horizon
past_limit ls t lt h = omega (arith, most_bounds ls horizon t lt)

module _ (ls : List Load) (t n worst worse : ℕ) (before : worst ≡ most ls t) (now : worse ≡ max worst (W ls t - t)) where
  -- where the workload does not rise before n, the worst stays
  pub worst_before : t < n → ((u : ℕ) → t ≤ u → u < n → W ls u ≡ W ls t) → worse ≡ most ls n
  worst_before lt flat = omega (arith, before, now, most_suc' ls t, most_flat ls t n lt flat)

  -- and is the largest of all where n is the horizon or lies past it
  at_horizon : t < horizon → horizon ≤ n → ((u : ℕ) → t ≤ u → u < n → W ls u ≡ W ls t) → worse ≡ forward ls
  unfolding forward
  at_horizon lt le flat = omega (arith, before, now, most_suc' ls t, most_flat ls t horizon lt (λ u a b. flat u a (omega arith)))

  -- or where the port falls idle before n
  idle : AreLoads ls → t < n → n ≤ horizon → ((u : ℕ) → t ≤ u → u < n → W ls u ≡ W ls t) → W ls t < n → worse ≡ forward ls
  idle k lt le flat less =
      let e : suc (n - 1) ≡ n = omega arith in
      omega (
        arith,
        worst_before lt flat,
        ap (most ls) e,
        forward_at_idle ls k (n - 1) (omega arith) (omega (arith, flat (n - 1) (omega arith) (omega arith))),
      )

  pub busy_period_ends : AreLoads ls → t < horizon → t < n → ((u : ℕ) → t ≤ u → u < n → W ls u ≡ W ls t)
      → ((W ls t < n) ⊎ (horizon ≤ n)) → worse ≡ forward ls
  busy_period_ends k below lt flat stop = elim (dec_le horizon n) [
    | yes far ↦ at_horizon below far flat
    | no near ↦ idle k lt (omega arith) flat (omega arith)
  ]
