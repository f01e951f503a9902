-- Folds: what the sum and the largest of a figure over a list come to.
--
--   Told n r          r is n where 64 bits hold it, and none exactly where they do not
--   IsLargest f xs n  n bounds f on the list, and some item has it, or the list is empty and n is 0

use Rattle.std.specs.Prelude.{◌≡◌, ℕ, ◌^◌, ◌≤◌, ◌⊎◌, List, [], Some, None, Option}
use Rattle.definitions.specs.Lists.{In}

abbrev pub Told : ℕ → Option ℕ → Type 0
Told n (Some v) = v ≡ n
Told n None = 2 ^ 64 ≤ n

pub record IsLargest {X : Type 0} (f : X → ℕ) (xs : List X) (n : ℕ) : Type 0 where
  pub bounds : (x : X) → In x xs → f x ≤ n
  pub reached : ((xs ≡ []) × (n ≡ 0)) ⊎ ((x : X) × In x xs × (n ≡ f x))
