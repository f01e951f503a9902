-- Lists: the words about lists that the other pages use.
--
--   In x xs             x stands in the list
--   total f xs          the sum of f over the list
--   largest f xs        the largest of f over the list, 0 for the empty list
--   find key none xs n  the first item whose key is n, or `none` where there is no such item
--   every test xs       the test holds of each item
--   some test xs        the test holds of some item
--   ascending lt xs     each item comes before (lt) all that follow it

use Rattle.std.specs.Prelude.{◌≡◌, ℕ, ◌+◌, max, Bool, true, false, cond, ◌&&◌, ◌||◌, ◌⊎◌, List, [], ◌∷◌, ◌==◌}

abbrev pub In : {X : Type 0} → X → List X → Type 0
In x [] = ⊥
In x (y ∷ ys) = (x ≡ y) ⊎ In x ys

abbrev pub total : {X : Type 0} → (X → ℕ) → List X → ℕ
total f [] = 0
total f (x ∷ xs) = f x + total f xs

abbrev pub largest : {X : Type 0} → (X → ℕ) → List X → ℕ
largest f [] = 0
largest f (x ∷ xs) = max (f x) (largest f xs)

abbrev pub find : {X : Type 0} → (X → ℕ) → X → List X → ℕ → X
find key none [] n = none
find key none (x ∷ xs) n = cond (key x == n) x (find key none xs n)

abbrev pub every : {X : Type 0} → (X → Bool) → List X → Bool
every test [] = true
every test (x ∷ xs) = test x && every test xs

abbrev pub some : {X : Type 0} → (X → Bool) → List X → Bool
some test [] = false
some test (x ∷ xs) = test x || some test xs

abbrev pub ascending : {X : Type 0} → (X → X → Bool) → List X → Bool
ascending lt [] = true
ascending lt (x ∷ xs) = every (lt x) xs && ascending lt xs
