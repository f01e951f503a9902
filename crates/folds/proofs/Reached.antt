-- The recursion finds the largest.
use Rattle.std.proofs.Common.{◌≡◌, ℕ, ◌≤◌, ◌⊎◌, List, [], ◌∷◌, refl, ap, inl, inr, arith}
use native.Mathlib.Decide.{dec_le}
use Rattle.definitions.specs.Lists.{In, largest}
use Rattle.folds.specs.Folds.{IsLargest}

largest_bounds : {X : Type 0} (f : X → ℕ) (xs : List X) (x : X) → In x xs → f x ≤ largest f xs
largest_bounds f [] x i = absurd i
largest_bounds f (y ∷ ys) x (inl e) = omega (arith, ap f e)
largest_bounds f (y ∷ ys) x (inr i) = omega (arith, largest_bounds f ys x i)

largest_reached : {X : Type 0} (f : X → ℕ) (xs : List X) → ((xs ≡ []) × (largest f xs ≡ 0)) ⊎ ((x : X) × In x xs × (largest f xs ≡ f x))
largest_reached f [] = inl (refl, refl)
largest_reached f (y ∷ ys) = inr (elim (dec_le (largest f ys) (f y)) [
  | yes le ↦ (y, inl refl, omega arith)
  | no more ↦ elim (largest_reached f ys) [
    | inl e ↦ absurd (omega (arith, e.1))
    | inr r ↦ (r.0, inr r.1, omega (arith, r.2))
  ]
])

pub largest_is_largest : {X : Type 0} (f : X → ℕ) (xs : List X) → IsLargest f xs (largest f xs)
largest_is_largest f xs = record { bounds = largest_bounds f xs; reached = largest_reached f xs }
