-- Members: what stands in a list, and sums over it.
use Rattle.std.proofs.Common.{◌≡◌, ℕ, ◌+◌, ◌<◌, ◌≤◌, Bool, true, cond, ◌⊎◌, List, [], ◌∷◌, map, filter, refl, ap, inl, inr, arith}
use Rattle.std.specs.List.{AllByRecursion}
use Rattle.std.proofs.lemmas.Bool.{false≢true, cases_Bool, or_cases, or_left, or_right}
use Rattle.definitions.specs.Lists.{In, total, largest, some}

-- where an item passes the test, some item does
pub in_some : {X : Type 0} (test : X → Bool) (xs : List X) (x : X) → In x xs → test x ≡ true → some test xs ≡ true
in_some test [] x i h = absurd i
in_some test (y ∷ ys) x (inl e) h = or_left (test y) (some test ys) (rw (← e) h)
in_some test (y ∷ ys) x (inr i) h = or_right (test y) (some test ys) (in_some test ys x i h)

-- where some item passes the test, there is one
pub some_in : {X : Type 0} (test : X → Bool) (xs : List X) → some test xs ≡ true → (x : X) × In x xs × (test x ≡ true)
some_in test [] h = absurd (false≢true h)
some_in test (y ∷ ys) h =
    elim (or_cases (test y) (some test ys) h) [
      | inl e ↦ (y, inl refl, e)
      | inr e ↦ let (x, i, t) = some_in test ys e in (x, inr i, t)
    ]

-- a filter keeps the items that pass
pub in_kept : {X : Type 0} (test : X → Bool) (xs : List X) (x : X) → In x xs → test x ≡ true → In x (filter test xs)
in_kept test [] x i h = absurd i
in_kept test (y ∷ ys) x (inl e) h =
    let t : test y ≡ true = rw (← e) h in
    rw t (inl e)
in_kept test (y ∷ ys) x (inr i) h =
    elim (cases_Bool (test y)) [
      | inl t ↦ rw t (inr (in_kept test ys x i h))
      | inr t ↦ rw t (in_kept test ys x i h)
    ]

-- and no others
pub kept_in : {X : Type 0} (test : X → Bool) (xs : List X) (x : X) → In x (filter test xs) → In x xs × (test x ≡ true)
kept_in test [] x i = absurd i
kept_in {X} test (y ∷ ys) x i =
    elim (cases_Bool (test y)) [
      | inl t ↦
          let j : (x ≡ y) ⊎ In x (filter test ys) = rw t at i in
          elim j [
            | inl e ↦ (inl e, rw e t)
            | inr k ↦ let (m, h) = kept_in test ys x k in (inr m, h)
          ]
      | inr t ↦
          let j : In x (filter test ys) = rw t at i in
          let (m, h) = kept_in test ys x j in
          (inr m, h)
    ]

-- what holds of each item that stands in the list holds of all
pub all_in : {X : Type 0} (P : X → Type 0) (xs : List X) → ((x : X) → In x xs → P x) → AllByRecursion P xs
all_in P [] h = tt
all_in P (x ∷ xs) h = (h x (inl refl), all_in P xs (λ y i. h y (inr i)))

-- and of all, of each
pub in_all : {X : Type 0} (P : X → Type 0) (xs : List X) → AllByRecursion P xs → (x : X) → In x xs → P x
in_all P [] a x i = absurd i
in_all P (y ∷ ys) a x (inl e) = rw e a.0
in_all P (y ∷ ys) a x (inr i) = in_all P ys a.1 x i

-- no item is above the largest
pub in_largest : {X : Type 0} (f : X → ℕ) (xs : List X) (x : X) → In x xs → f x ≤ largest f xs
in_largest f [] x i = absurd i
in_largest f (y ∷ ys) x (inl e) = rw e (omega arith)
in_largest f (y ∷ ys) x (inr i) = omega (arith, in_largest f ys x i)

-- a sum of no larger items is no larger
pub total_le : {X : Type 0} (f g : X → ℕ) (xs : List X) → ((x : X) → In x xs → f x ≤ g x) → total f xs ≤ total g xs
total_le f g [] h = omega arith
total_le f g (x ∷ xs) h = omega (arith, h x (inl refl), total_le f g xs (λ y i. h y (inr i)))

-- the sum of nothing
pub total_none : {X : Type 0} (f : X → ℕ) (xs : List X) → ((x : X) → In x xs → f x ≡ 0) → total f xs ≡ 0
total_none f [] h = refl
total_none f (x ∷ xs) h = omega (arith, h x (inl refl), total_none f xs (λ y i. h y (inr i)))

-- the sum over a list of images
pub total_map : {X Y : Type 0} (g : Y → ℕ) (f : X → Y) (xs : List X) → total g (map f xs) ≡ total (λ (x : X). g (f x)) xs
total_map g f [] = refl
total_map g f (x ∷ xs) = omega (arith, total_map g f xs)

-- the sum over what a filter keeps
pub total_kept : {X : Type 0} (f : X → ℕ) (test : X → Bool) (x : X) (xs : List X)
    → total f (filter test (x ∷ xs)) ≡ cond (test x) (f x) 0 + total f (filter test xs)
total_kept f test x xs =
    elim (cases_Bool (test x)) [
      | inl t ↦ rw t (omega arith)
      | inr t ↦ rw t (omega arith)
    ]

-- a sum of no larger items is smaller where one is
pub total_less : {X : Type 0} (f g : X → ℕ) (xs : List X) → ((x : X) → In x xs → f x ≤ g x)
    → (y : X) → In y xs → f y < g y → total f xs < total g xs
total_less f g [] h y i lt = absurd i
total_less f g (x ∷ xs) h y (inl e) lt =
    omega (arith, ap f e, ap g e, total_le f g xs (λ z j. h z (inr j)))
total_less f g (x ∷ xs) h y (inr i) lt =
    omega (arith, h x (inl refl), total_less f g xs (λ z j. h z (inr j)) y i lt)

-- a function that is nowhere larger has no larger largest value
pub largest_mono : {X : Type 0} (f g : X → ℕ) (xs : List X) → ((x : X) → In x xs → f x ≤ g x) → largest f xs ≤ largest g xs
largest_mono f g [] h = omega arith
largest_mono f g (x ∷ xs) h = omega (arith, h x (inl refl), largest_mono f g xs (λ y i. h y (inr i)))

-- an item's image stands in the map
pub in_map : {X Y : Type 0} (f : X → Y) (xs : List X) (x : X) → In x xs → In (f x) (map f xs)
in_map f [] x i = absurd i
in_map f (y ∷ ys) x (inl e) = inl (ap f e)
in_map f (y ∷ ys) x (inr i) = inr (in_map f ys x i)
