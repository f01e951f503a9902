-- Rows in lists: changed by a function, or one of them replaced.
use Rattle.std.proofs.Common.{◌≡◌, ℕ, zero, suc, ◌+◌, ◌<◌, ◌≤◌, Bool, true, ◌⊎◌, List, [], ◌∷◌, ◌++◌, map, length, get_or, take, set, Some, refl, inr, arith}
use Rattle.std.specs.List.{slice_get}
use Rattle.std.proofs.lemmas.List.{take_more, take_more_set}
use Rattle.definitions.specs.Lists.{In, total, ascending}
use Rattle.theory.proofs.Lookups.{in_every}

-- an item of a changed list is a changed item
pub map_in : {X Y : Type 0} (f : X → Y) (xs : List X) (y : Y) → In y (map f xs) → (x : X) × In x xs × (y ≡ f x)
map_in f [] y i = absurd i
map_in f (x ∷ xs) y i = grind (arith, map_in f xs y)

pub map_again : {X Y : Type 0} (g : X → Y) (f : X → X) (xs : List X) → ((x : X) → g (f x) ≡ g x) → map g (map f xs) ≡ map g xs
map_again g f [] h = refl
map_again g f (x ∷ xs) h = rw (h x, map_again g f xs h)

pub map_fixed : {X Y : Type 0} (g : Y → Y) (f : X → Y) (xs : List X) → ((x : X) → g (f x) ≡ f x) → map g (map f xs) ≡ map f xs
map_fixed g f [] h = refl
map_fixed g f (x ∷ xs) h = rw (h x, map_fixed g f xs h)

-- an item at a place stands in the list
pub at_in : {X : Type 0} (xs : List X) (i : ℕ) (x : X) → Some x ≡ slice_get xs i → In x xs
at_in [] i x e = grind arith
at_in (y ∷ ys) zero x e = grind arith
at_in (y ∷ ys) (suc i) x e = grind (arith, at_in ys i x)

-- an item after a replacement is the new one or was there
pub set_in : {X : Type 0} (xs : List X) (i : ℕ) (x z : X) → In z (set xs i x) → (z ≡ x) ⊎ In z xs
set_in [] i x z j = absurd j
set_in (y ∷ ys) zero x z j = grind arith
set_in (y ∷ ys) (suc i) x z j = grind (arith, set_in ys i x z)

-- every other item is still there
pub other_in_set : {X : Type 0} (xs : List X) (i : ℕ) (d x z : X) → In z xs → (z ≡ get_or xs i d) ⊎ In z (set xs i x)
other_in_set [] i d x z j = absurd j
other_in_set (y ∷ ys) zero d x z j = grind arith
other_in_set (y ∷ ys) (suc i) d x z j = grind (arith, other_in_set ys i d x z)

-- what stands in two lists joined stands in one of them
pub in_either : {X : Type 0} (xs ys : List X) (z : X) → In z (xs ++ ys) → In z xs ⊎ In z ys
in_either [] ys z i = inr i
in_either (x ∷ xs) ys z i = grind (arith, in_either xs ys z)

pub in_left : {X : Type 0} (xs ys : List X) (x : X) → In x xs → In x (xs ++ ys)
in_left [] ys x i = absurd i
in_left (z ∷ xs) ys x i = grind (arith, in_left xs ys x)

pub in_right : {X : Type 0} (xs ys : List X) (x : X) → In x ys → In x (xs ++ ys)
in_right [] ys x i = i
in_right (z ∷ xs) ys x i = inr (in_right xs ys x i)

-- one place more
pub take_set_in : {X : Type 0} (xs : List X) (i : ℕ) (x z : X) → i < length xs → In z (take (i + 1) (set xs i x)) → (z ≡ x) ⊎ In z (take i xs)
take_set_in xs i x z l j = grind (arith, take_more_set xs i x l, in_either (take i xs) (x ∷ []) z)

pub take_more_in : {X : Type 0} (xs : List X) (i : ℕ) (d z : X) → i < length xs → In z (take (i + 1) xs) → (z ≡ get_or xs i d) ⊎ In z (take i xs)
take_more_in xs i d z l j = grind (arith, take_more xs i d l, in_either (take i xs) (get_or xs i d ∷ []) z)

-- sums
pub in_total : {X : Type 0} (f : X → ℕ) (xs : List X) (x : X) → In x xs → f x ≤ total f xs
in_total f [] x i = absurd i
in_total f (y ∷ ys) x i = grind (arith, in_total f ys x)

pub total_same : {X : Type 0} (f : X → ℕ) (g : X → X) (xs : List X) → ((x : X) → f (g x) ≡ f x) → total f (map g xs) ≡ total f xs
total_same f g [] h = refl
total_same f g (x ∷ xs) h = omega (arith, h x, total_same f g xs h)

pub total_set : {X : Type 0} (f : X → ℕ) (xs : List X) (i : ℕ) (d x : X) → i < length xs → total f (set xs i x) + f (get_or xs i d) ≡ total f xs + f x
total_set f [] i d x l = absurd (omega arith)
total_set f (y ∷ ys) zero d x l = omega arith
total_set f (y ∷ ys) (suc i) d x l = omega (arith, total_set f ys i d x)

-- an item of an ascending list comes before all that follow it
pub before_rest : {X : Type 0} (lt : X → X → Bool) (xs : List X) (x : X) (ys : List X) → ascending lt (xs ++ (x ∷ ys)) ≡ true
    → (y : X) → In y ys → lt x y ≡ true
before_rest lt [] x ys up y i = grind (arith, in_every (lt x) ys)
before_rest lt (z ∷ xs) x ys up y i = grind (arith, before_rest lt xs x ys)
