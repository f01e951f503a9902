-- Ascending lists of records that are changed at a place.
use Rattle.std.proofs.Common.{◌≡◌, ℕ, zero, suc, ◌<◌, ◌≤◌, Bool, true, false, ◌&&◌, List, [], ◌∷◌, ◌++◌, length, get_or, take, drop, set, sym, refl, ap, ◌∙◌, inl, inr, arith}
use Rattle.std.specs.List.{AllByRecursion, insert}
use Rattle.std.proofs.lemmas.Bool.{and_parts, and_from, cases_Bool, cond-true, cond-false}
use Rattle.definitions.specs.Lists.{In, every, ascending}
use Rattle.definitions.specs.Entries.{placed}
use Rattle.register.specs.Orders.{ExactlyOne}
use Rattle.register.specs.Tables.{by_key}

-- ## Tests of all items

module _ {X : Type 0} (t : X → Bool) where
  all_every : (xs : List X) → AllByRecursion (λ y. t y ≡ true) xs → every t xs ≡ true
  all_every [] a = refl
  all_every (x ∷ xs) a = and_from (t x) (every t xs) a.0 (all_every xs a.1)

  every_inserted : (xs : List X) (i : ℕ) (x : X) → every t xs ≡ true → t x ≡ true → every t (insert xs i x) ≡ true
  every_inserted [] zero x h k = and_from (t x) true k refl
  every_inserted [] (suc i) x h k = and_from (t x) true k refl
  every_inserted (y ∷ ys) zero x h k = and_from (t x) (every t (y ∷ ys)) k h
  every_inserted (y ∷ ys) (suc i) x h k =
      let p = and_parts (t y) (every t ys) h in
      and_from (t y) (every t (insert ys i x)) p.0 (every_inserted ys i x p.1 k)

  every_drop : (xs : List X) (j : ℕ) → every t xs ≡ true → every t (drop j xs) ≡ true
  every_drop [] zero h = refl
  every_drop [] (suc j) h = refl
  every_drop (x ∷ xs) zero h = h
  every_drop (x ∷ xs) (suc j) h = every_drop xs j (and_parts (t x) (every t xs) h).1

  every_without : (xs : List X) (i j : ℕ) → i ≤ j → every t xs ≡ true → every t (take i xs ++ drop j xs) ≡ true
  every_without xs zero j le h = every_drop xs j h
  every_without [] (suc i) zero le h = refl
  every_without [] (suc i) (suc j) le h = refl
  every_without (x ∷ xs) (suc i) zero le h = absurd (omega arith)
  every_without (x ∷ xs) (suc i) (suc j) le h =
      let p = and_parts (t x) (every t xs) h in
      and_from (t x) (every t (take i xs ++ drop j xs)) p.0 (every_without xs i j (omega arith) p.1)

-- ## A run taken out

module _ {X : Type 0} (lt : X → X → Bool) where
  drop_ascends : (xs : List X) (j : ℕ) → ascending lt xs ≡ true → ascending lt (drop j xs) ≡ true
  drop_ascends [] zero a = refl
  drop_ascends [] (suc j) a = refl
  drop_ascends (x ∷ xs) zero a = a
  drop_ascends (x ∷ xs) (suc j) a = drop_ascends xs j (and_parts (every (lt x) xs) (ascending lt xs) a).1

  pub without_ascends : (xs : List X) (i j : ℕ) → i ≤ j → ascending lt xs ≡ true → ascending lt (take i xs ++ drop j xs) ≡ true
  without_ascends xs zero j le a = drop_ascends xs j a
  without_ascends [] (suc i) zero le a = refl
  without_ascends [] (suc i) (suc j) le a = refl
  without_ascends (x ∷ xs) (suc i) zero le a = absurd (omega arith)
  without_ascends (x ∷ xs) (suc i) (suc j) le a =
      let p = and_parts (every (lt x) xs) (ascending lt xs) a in
      let less : i ≤ j = omega arith in
      and_from (every (lt x) (take i xs ++ drop j xs)) (ascending lt (take i xs ++ drop j xs))
      (every_without (lt x) xs i j less p.0) (without_ascends xs i j less p.1)

-- ## Records and their keys

-- what stands at a place is in the list
pub getD_in : {X : Type 0} (xs : List X) (i : ℕ) (d : X) → i < length xs → In (get_or xs i d) xs
getD_in [] i d l = absurd (omega arith)
getD_in (x ∷ xs) zero d l = inl refl
getD_in (x ∷ xs) (suc i) d l = inr (getD_in xs i d (omega arith))

module _ {R K : Type 0} (lt : K → K → Bool) (key : R → K) where
  -- a record under the same key changes no test of keys
  every_set : (k : K) (xs : List R) (i : ℕ) (x : R) → key (get_or xs i x) ≡ key x → every (λ y. lt k (key y)) (set xs i x) ≡ every (λ y. lt k (key y)) xs
  every_set k [] i x e = refl
  every_set k (y ∷ ys) zero x e = ap (λ (z : K). lt k z && every (λ u. lt k (key u)) ys) (sym e)
  every_set k (y ∷ ys) (suc i) x e = ap (λ b. lt k (key y) && b) (every_set k ys i x e)

  pub set_ascends : (xs : List R) (i : ℕ) (x : R) → key (get_or xs i x) ≡ key x → ascending (by_key lt key) (set xs i x) ≡ ascending (by_key lt key) xs
  set_ascends [] i x e = refl
  set_ascends (y ∷ ys) zero x e = ap (λ (z : K). every (λ u. lt z (key u)) ys && ascending (by_key lt key) ys) (sym e)
  set_ascends (y ∷ ys) (suc i) x e =
      ap (λ b. b && ascending (by_key lt key) (set ys i x)) (every_set (key y) ys i x e)
      ∙ ap (λ b. every (λ u. lt (key y) (key u)) ys && b) (set_ascends ys i x e)

module _ {K : Type 0} (lt : K → K → Bool) (one : (a b : K) → ExactlyOne (lt a b ≡ true) (a ≡ b) (lt b a ≡ true)) where
  -- a key before another is not the same, and the other is not before it
  pub before_apart : (a b : K) → lt a b ≡ true → ¬ (a ≡ b)
  before_apart a b h e = elim (one a b) [
    | inl (p, n, r) ↦ n e
    | inr (inl (p, n, r)) ↦ p h
    | inr (inr (p, n, r)) ↦ p h
  ]

  pub before_once : (a b : K) → lt a b ≡ true → lt b a ≡ false
  before_once a b h = elim (cases_Bool (lt b a)) [
    | inl t ↦ elim (one a b) [
      | inl (p, n, r) ↦ absurd (r t)
      | inr (inl (p, n, r)) ↦ absurd (p h)
      | inr (inr (p, n, r)) ↦ absurd (p h)
    ]
    | inr f ↦ f
  ]

  pub never_itself : (a b : K) → a ≡ b → lt a b ≡ false
  never_itself a b e = elim (cases_Bool (lt a b)) [
    | inl t ↦ absurd (before_apart a b t e)
    | inr f ↦ f
  ]

  -- no record is under a key that stands after all before a place, and before all from there on
  pub none_under : {R : Type 0} (key : R → K) (k : K) (xs : List R) (i : ℕ) → AllByRecursion (λ y. lt (key y) k ≡ true) (take i xs) → AllByRecursion (λ y. lt k (key y) ≡ true) (drop i xs)
      → (y : R) → In y xs → ¬ (key y ≡ k)
  none_under key k [] i a b y j = absurd j
  none_under key k (z ∷ zs) zero a b y (inl e) = λ h. before_apart k (key z) b.0 (sym (ap key (sym e) ∙ h))
  none_under key k (z ∷ zs) zero a b y (inr j) = none_under key k zs zero tt b.1 y j
  none_under key k (z ∷ zs) (suc i) a b y (inl e) = λ h. before_apart (key z) k a.0 (ap key (sym e) ∙ h)
  none_under key k (z ∷ zs) (suc i) a b y (inr j) = none_under key k zs i a.1 b y j

  module _ {R : Type 0} (key : R → K) (x : R) where
    -- a record that stands after all before its place, and before all from there on
    pub placed_is : (xs : List R) (i : ℕ) → AllByRecursion (λ y. lt (key y) (key x) ≡ true) (take i xs) → AllByRecursion (λ y. lt (key x) (key y) ≡ true) (drop i xs)
        → placed (by_key lt key) x xs ≡ insert xs i x
    placed_is [] zero a b = refl
    placed_is [] (suc i) a b = refl
    placed_is (y ∷ ys) zero a b = cond-true (lt (key x) (key y)) (x ∷ y ∷ ys) (y ∷ placed (by_key lt key) x ys) b.0
    placed_is (y ∷ ys) (suc i) a b =
        cond-false (lt (key x) (key y)) (x ∷ y ∷ ys) (y ∷ placed (by_key lt key) x ys) (before_once (key y) (key x) a.0)
        ∙ ap (λ l. y ∷ l) (placed_is ys i a.1 b)

    pub inserted_ascends : (xs : List R) (i : ℕ) → AllByRecursion (λ y. lt (key y) (key x) ≡ true) (take i xs) → AllByRecursion (λ y. lt (key x) (key y) ≡ true) (drop i xs)
        → ascending (by_key lt key) xs ≡ true → ascending (by_key lt key) (insert xs i x) ≡ true
    inserted_ascends [] zero a b h = refl
    inserted_ascends [] (suc i) a b h = refl
    inserted_ascends (y ∷ ys) zero a b h =
        and_from (every (by_key lt key x) (y ∷ ys)) (ascending (by_key lt key) (y ∷ ys)) (all_every (by_key lt key x) (y ∷ ys) b) h
    inserted_ascends (y ∷ ys) (suc i) a b h =
        let p = and_parts (every (by_key lt key y) ys) (ascending (by_key lt key) ys) h in
        and_from (every (by_key lt key y) (insert ys i x)) (ascending (by_key lt key) (insert ys i x))
        (every_inserted (by_key lt key y) ys i x p.0 a.0) (inserted_ascends ys i a.1 b p.1)

    -- no record of the list has its key
    pub none_there : (xs : List R) (i : ℕ) → AllByRecursion (λ y. lt (key y) (key x) ≡ true) (take i xs) → AllByRecursion (λ y. lt (key x) (key y) ≡ true) (drop i xs)
        → (y : R) → In y xs → ¬ (key y ≡ key x)
    none_there = none_under key (key x)
