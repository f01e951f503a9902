-- Sorting: lists in ascending order, and what putting an item into one leaves.
--
--   Strict lt          lt is the test of a strict order
--   Ascends lt xs      each item comes before (lt) all that follow it
--   Same xs ys         the same items stand in both
use Rattle.std.proofs.Common.{◌≡◌, ℕ, suc, ◌<◌, ◌≤◌, Bool, true, false, cond, ◌⊎◌, List, [], ◌∷◌, length, sym, refl, ap, ◌∙◌, inl, inr, arith}
use Rattle.std.proofs.lemmas.Bool.{both_ways, and_parts}
use Rattle.definitions.specs.Lists.{In, every, some, ascending}
use Rattle.definitions.specs.Entries.{placed}
use Rattle.definitions.specs.Text.{sorted}
use Rattle.theory.proofs.Lookups.{in_every}

-- ## Tests of lists

-- no item passes the test
pub some_none : {X : Type 0} (test : X → Bool) (xs : List X) → ((x : X) → In x xs → test x ≡ false) → some test xs ≡ false
some_none test [] h = refl
some_none test (y ∷ ys) h = rw (h y (inl refl)) (some_none test ys (λ x i. h x (inr i)))

-- ## Strict orders

pub record Strict {X : Type 0} (lt : X → X → Bool) : Type 0 where
  pub never_itself : (x : X) → lt x x ≡ false
  pub through : (x y z : X) → lt x y ≡ true → lt y z ≡ true → lt x z ≡ true

-- of two items at most one comes before the other
pub not_both : {X : Type 0} (lt : X → X → Bool) → Strict lt → (x y : X) → lt x y ≡ true → lt y x ≡ true → ⊥
not_both lt s x y h k = both_ways (lt x x) (s.never_itself x) (s.through x y x h k)

abbrev pub Ascends : {X : Type 0} → (X → X → Bool) → List X → Type 0
Ascends lt [] = Unit {0}
Ascends {X} lt (x ∷ xs) = ((y : X) → In y xs → lt x y ≡ true) × Ascends lt xs

-- the test of an ascending list tells that it is one
pub ascends : {X : Type 0} (lt : X → X → Bool) (xs : List X) → ascending lt xs ≡ true → Ascends lt xs
ascends lt [] h = tt
ascends lt (x ∷ xs) h =
    let (e, a) = and_parts (every (lt x) xs) (ascending lt xs) h in
    (in_every (lt x) xs e, ascends lt xs a)

-- of two items of an ascending list one comes before the other
pub compared : {X : Type 0} (lt : X → X → Bool) (xs : List X) → Ascends lt xs → (x y : X) → In x xs → In y xs
    → (x ≡ y) ⊎ ((lt x y ≡ true) ⊎ (lt y x ≡ true))
compared lt [] a x y i j = absurd i
compared lt (z ∷ zs) a x y (inl p) (inl q) = inl (p ∙ sym q)
compared lt (z ∷ zs) a x y (inl p) (inr j) = inr (inl (ap (λ w. lt w y) p ∙ a.0 y j))
compared lt (z ∷ zs) a x y (inr i) (inl q) = inr (inr (ap (λ w. lt w x) q ∙ a.0 x i))
compared lt (z ∷ zs) a x y (inr i) (inr j) = compared lt zs a.1 x y i j

abbrev pub Same : {X : Type 0} → List X → List X → Type 0
Same {X} xs ys = ((x : X) → In x xs → In x ys) × ((x : X) → In x ys → In x xs)

-- two ascending lists with the same items begin with the same
same_first : {X : Type 0} (lt : X → X → Bool) → Strict lt → (x : X) (xs : List X) (y : X) (ys : List X)
    → Ascends lt (x ∷ xs) → Ascends lt (y ∷ ys) → Same (x ∷ xs) (y ∷ ys) → x ≡ y
same_first lt s x xs y ys a b m = go (m.0 x (inl refl)) (m.1 y (inl refl))
  where
    go : In x (y ∷ ys) → In y (x ∷ xs) → x ≡ y
    go (inl p) j = p
    go (inr i) (inl q) = sym q
    go (inr i) (inr j) = absurd (not_both lt s x y (a.0 y j) (b.0 x i))

-- what follows the first item of an ascending list is in what follows the same first item of another
same_rest : {X : Type 0} (lt : X → X → Bool) → Strict lt → (x : X) (xs : List X) (y : X) (ys : List X)
    → Ascends lt (x ∷ xs) → x ≡ y → ((z : X) → In z (x ∷ xs) → In z (y ∷ ys)) → (z : X) → In z xs → In z ys
same_rest lt s x xs y ys a e m z i = go (m z (inr i))
  where
    go : In z (y ∷ ys) → In z ys
    go (inl q) = absurd (both_ways (lt x x) (s.never_itself x) (ap (lt x) (e ∙ sym q) ∙ a.0 z i))
    go (inr j) = j

-- two ascending lists with the same items are the same
pub same_lists : {X : Type 0} (lt : X → X → Bool) → Strict lt → (xs ys : List X) → Ascends lt xs → Ascends lt ys → Same xs ys → xs ≡ ys
same_lists lt s [] [] a b m = refl
same_lists lt s [] (y ∷ ys) a b m = absurd (m.1 y (inl refl))
same_lists lt s (x ∷ xs) [] a b m = absurd (m.0 x (inl refl))
same_lists lt s (x ∷ xs) (y ∷ ys) a b m =
    let e = same_first lt s x xs y ys a b m in
    let rest = same_lists lt s xs ys a.1 b.1 (same_rest lt s x xs y ys a e m.0, same_rest lt s y ys x xs b (sym e) m.1) in
    ap (λ w. w ∷ xs) e ∙ ap (λ ws. y ∷ ws) rest

-- ## Placing

-- an item that is placed makes the list one longer
pub length_placed : {X : Type 0} (lt : X → X → Bool) (x : X) (ys : List X) → length (placed lt x ys) ≡ suc (length ys)
length_placed lt x [] = refl
length_placed lt x (y ∷ ys) =
    elim (lt x y) as (λ t. length (cond t (x ∷ y ∷ ys) (y ∷ placed lt x ys)) ≡ suc (suc (length ys))) [
      | true ↦ refl
      | false ↦ ap suc (length_placed lt x ys)
    ]

-- what stands in the list with x placed is x or stood there
pub placed_tells : {X : Type 0} (lt : X → X → Bool) (x : X) (ys : List X) (z : X) → In z (placed lt x ys) → (z ≡ x) ⊎ In z ys
placed_tells lt x [] z = λ i. i
placed_tells lt x (y ∷ ys) z =
    elim (lt x y) as (λ t. In z (cond t (x ∷ y ∷ ys) (y ∷ placed lt x ys)) → (z ≡ x) ⊎ In z (y ∷ ys)) [
      | true ↦ λ i. i
      | false ↦ elim [
        | inl e ↦ inr (inl e)
        | inr j ↦ elim (placed_tells lt x ys z j) [ inl e ↦ inl e | inr k ↦ inr (inr k) ]
      ]
    ]

-- x and all that stood there stand in the list with x placed
pub placed_from : {X : Type 0} (lt : X → X → Bool) (x : X) (ys : List X) (z : X) → (z ≡ x) ⊎ In z ys → In z (placed lt x ys)
placed_from lt x [] z i = i
placed_from lt x (y ∷ ys) z i =
    elim (lt x y) as (λ t. In z (cond t (x ∷ y ∷ ys) (y ∷ placed lt x ys))) [
      | true ↦ i
      | false ↦ elim i [
        | inl e ↦ inr (placed_from lt x ys z (inl e))
        | inr j ↦ elim j [ inl e ↦ inl e | inr k ↦ inr (placed_from lt x ys z (inr k)) ]
      ]
    ]

-- an item that compares with all is placed in order
pub placed_ascends : {X : Type 0} (lt : X → X → Bool) → Strict lt → (x : X) (ys : List X)
    → Ascends lt ys → ((y : X) → In y ys → (lt x y ≡ true) ⊎ (lt y x ≡ true)) → Ascends lt (placed lt x ys)
placed_ascends lt s x [] a c = (λ y i. absurd i, tt)
placed_ascends {X} lt s x (y ∷ ys) a c =
    let rest = placed_ascends lt s x ys a.1 (λ z i. c z (inr i)) in
    go (lt x y) refl rest
  where
    first : lt x y ≡ true → (z : X) → In z (y ∷ ys) → lt x z ≡ true
    first h z (inl e) = ap (lt x) e ∙ h
    first h z (inr i) = s.through x y z h (a.0 z i)

    after : lt x y ≡ false → (z : X) → (z ≡ x) ⊎ In z ys → lt y z ≡ true
    after h z (inl e) = ap (lt y) e ∙ elim (c y (inl refl)) [ inl k ↦ absurd (both_ways (lt x y) h k) | inr k ↦ k ]
    after h z (inr i) = a.0 z i

    go : (t : Bool) → lt x y ≡ t → Ascends lt (placed lt x ys) → Ascends lt (cond t (x ∷ y ∷ ys) (y ∷ placed lt x ys))
    go true h rest = (first h, a)
    go false h rest = (λ z i. after h z (placed_tells lt x ys z i), rest)

-- ## Sorting

-- sorting keeps the length
pub length_sorted : {X : Type 0} (lt : X → X → Bool) (xs : List X) → length (sorted lt xs) ≡ length xs
length_sorted lt [] = refl
length_sorted lt (x ∷ xs) = length_placed lt x (sorted lt xs) ∙ ap suc (length_sorted lt xs)

-- and the items
pub sorted_tells : {X : Type 0} (lt : X → X → Bool) (xs : List X) (z : X) → In z (sorted lt xs) → In z xs
sorted_tells lt [] z i = i
sorted_tells lt (x ∷ xs) z i =
    elim (placed_tells lt x (sorted lt xs) z i) [ inl e ↦ inl e | inr j ↦ inr (sorted_tells lt xs z j) ]

-- all of them
pub sorted_from : {X : Type 0} (lt : X → X → Bool) (xs : List X) (z : X) → In z xs → In z (sorted lt xs)
sorted_from lt [] z i = i
sorted_from lt (x ∷ xs) z (inl e) = placed_from lt x (sorted lt xs) z (inl e)
sorted_from lt (x ∷ xs) z (inr i) = placed_from lt x (sorted lt xs) z (inr (sorted_from lt xs z i))

-- a list that ascends by one order, of which each pair compares by another, is sorted by the other
pub sorted_ascends : {X : Type 0} (lt wt : X → X → Bool) → Strict wt
    → ((x y : X) → lt x y ≡ true → (wt x y ≡ true) ⊎ (wt y x ≡ true))
    → (xs : List X) → Ascends lt xs → Ascends wt (sorted wt xs)
sorted_ascends lt wt s c [] a = tt
sorted_ascends lt wt s c (x ∷ xs) a =
    placed_ascends wt s x (sorted wt xs) (sorted_ascends lt wt s c xs a.1)
    (λ y i. c x y (a.0 y (sorted_tells wt xs y i)))

-- ## Counting

-- an item taken out of a list leaves the others
taken_out : {X : Type 0} (xs : List X) (x : X) → In x xs
    → (ys : List X) × (length xs ≡ suc (length ys)) × ((z : X) → In z xs → (z ≡ x) ⊎ In z ys)
taken_out [] x i = absurd i
taken_out {X} (y ∷ ys) x (inl e) = (ys, refl, go)
  where
    go : (z : X) → In z (y ∷ ys) → (z ≡ x) ⊎ In z ys
    go z (inl p) = inl (p ∙ sym e)
    go z (inr i) = inr i
taken_out {X} (y ∷ ys) x (inr i) =
    let t = taken_out ys x i in
    (y ∷ t.0, ap suc t.1, go t.0 t.2)
  where
    go : (zs : List X) → ((z : X) → In z ys → (z ≡ x) ⊎ In z zs) → (z : X) → In z (y ∷ ys) → (z ≡ x) ⊎ In z (y ∷ zs)
    go zs g z (inl p) = inr (inl p)
    go zs g z (inr j) = elim (g z j) [ inl e ↦ inl e | inr k ↦ inr (inr k) ]

-- items with every count below n are at least n
pub counted : {X : Type 0} (f : X → ℕ) (n : ℕ) (xs : List X) → ((i : ℕ) → i < n → (x : X) × In x xs × (f x ≡ i)) → n ≤ length xs
counted f ℕ.zero xs h = omega arith
counted {X} f (suc n) xs h =
    let (x, i, e) = h n (omega arith) in
    let (ys, l, g) = taken_out xs x i in
    let more = counted f n ys (λ k lt. let (z, j, q) = h k (omega arith) in (z, go x e ys z k lt q (g z j), q)) in
    omega arith
  where
    go : (x : X) → f x ≡ n → (ys : List X) (z : X) (k : ℕ) → k < n → f z ≡ k → (z ≡ x) ⊎ In z ys → In z ys
    go x e ys z k lt q (inl p) = absurd (omega (arith, ap f p))
    go x e ys z k lt q (inr j) = j
