-- Loads: what one virtual link brings to an output port. All times are whole nanoseconds.
--
--   IsGap g           g is one of the eight gaps (BAG): 1, 2, 4, 8, 16, 32, 64 or 128 ms
--   InRange l         the occupancy and the jitter of the row l lie in their ranges
--   IsLoad l          the row l keeps the rules of a load
--   AreLoads ls       every row of the list does
--   Making l r        r is what making the load l answers: l itself, or the first ground that it meets

use Rattle.std.specs.Prelude.{◌≡◌, ℕ, ◌≤◌, ◌⊎◌, List, [], ◌∷◌, Ok, Err, Result}
use Rattle.std.specs.List.{AllByRecursion}
use Rattle.definitions.specs.Lists.{In}
use Rattle.definitions.specs.declared.loads.Load.{Load}
use Rattle.definitions.specs.declared.refusals.Refusal.{Refusal}
use Rattle.definitions.specs.declared.refusals.Refusal.TheVariants.{GapUnknown, OutOfRange}

abbrev pub gaps : List ℕ
gaps = 1000000 ∷ 2000000 ∷ 4000000 ∷ 8000000 ∷ 16000000 ∷ 32000000 ∷ 64000000 ∷ 128000000 ∷ []

abbrev pub IsGap : ℕ → Type 0
IsGap g = In g gaps

-- the longest frame at the slower rate stays below 2 ms; no working-out leaves a larger jitter
pub record InRange (l : Load) : Type 0 where
  pub occupied : 1 ≤ l.occupancy
  pub occupancy_most : l.occupancy ≤ 2000000
  pub jitter_most : l.jitter ≤ 10000016000

pub record IsLoad (l : Load) : Type 0 where
  pub gap_known : IsGap l.gap
  pub in_range : InRange l

abbrev pub AreLoads : List Load → Type 0
AreLoads ls = AllByRecursion IsLoad ls

-- the gap is tried first
abbrev pub Making : Load → Result Load Refusal → Type 0
Making l (Ok m) = (m ≡ l) × IsLoad l
Making l (Err e) =
    (¬ IsGap l.gap × (e ≡ GapUnknown))
    ⊎ (IsGap l.gap × ¬ InRange l × (e ≡ OutOfRange))
