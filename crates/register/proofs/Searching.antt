-- What a binary search and a partition find among records whose keys ascend.
use Rattle.std.proofs.Common.{◌≡◌, ℕ, zero, suc, ◌<◌, ◌≤◌, Bool, true, false, cond, List, [], ◌∷◌, length, get_or, take, drop, Some, None, Ok, Err, Option, Result, Ordering, Less, Equal, Greater, refl, sym, ap, ◌∙◌, subst, inl, inr, arith}
use Rattle.std.specs.List.{AllByRecursion, AllWithin, slice_get}
use Rattle.std.specs.List.Sorted.{IsSearchInRange, IsBinarySearchResult, IsNonDecreasingBy, IsPartitionedBy, IsPartitionPoint}
use Rattle.std.specs.Ordering.{MatchOrdering, ordering_index, is_lt}
use Rattle.std.specs.Result.{result_ok}
use Rattle.std.proofs.lemmas.Bool.{and_parts, cond-true, cond-false, cases_lt, cases_Bool}
use Rattle.std.proofs.lemmas.Option.{slice_get-get_or, none-some}
use Rattle.definitions.specs.Lists.{every, ascending}
use Rattle.register.specs.Orders.{ExactlyOne, by_key, compare}
use Rattle.register.specs.Tables.{Found, Starts, Getting}
use Rattle.register.proofs.Sorted.{getD_in, before_once, never_itself, none_under}

-- ## Items before a place, and from it on

module _ {X : Type 0} (P : X → Type 0) where
  pub all_before : (xs : List X) (i : ℕ) → i ≤ length xs → AllWithin P xs 0 i → AllByRecursion P (take i xs)
  all_before [] zero le h = tt
  all_before [] (suc i) le h = tt
  all_before (x ∷ xs) zero le h = tt
  all_before (x ∷ xs) (suc i) le h = (h 0 x (omega arith) (omega arith), all_before xs i (omega arith) (λ k d a b. h (suc k) d (omega arith) (omega arith)))

  all_from : (xs : List X) (i : ℕ) → AllWithin P xs i (length xs) → AllByRecursion P (drop i xs)
  all_from [] zero h = tt
  all_from [] (suc i) h = tt
  all_from (x ∷ xs) zero h = (h 0 x (omega arith) (omega arith), all_from xs zero (λ k d a b. h (suc k) d (omega arith) (omega arith)))
  all_from (x ∷ xs) (suc i) h = all_from xs i (λ k d a b. h (suc k) d (omega arith) (omega arith))

module _ {X : Type 0} (lt : X → X → Bool) where
  every_at : (t : X → Bool) (xs : List X) (i : ℕ) (d : X) → i < length xs → every t xs ≡ true → t (get_or xs i d) ≡ true
  every_at t [] i d l h = absurd (omega arith)
  every_at t (x ∷ xs) zero d l h = (and_parts (t x) (every t xs) h).0
  every_at t (x ∷ xs) (suc i) d l h = every_at t xs i d (omega arith) (and_parts (t x) (every t xs) h).1

  -- of two places the lower has what is before
  pub ascends_at : (xs : List X) (i j : ℕ) (d : X) → i < j → j < length xs → ascending lt xs ≡ true → lt (get_or xs i d) (get_or xs j d) ≡ true
  ascends_at [] i j d l m h = absurd (omega arith)
  ascends_at (x ∷ xs) i zero d l m h = absurd (omega arith)
  ascends_at (x ∷ xs) zero (suc j) d l m h = every_at (lt x) xs j d (omega arith) (and_parts (every (lt x) xs) (ascending lt xs) h).0
  ascends_at (x ∷ xs) (suc i) (suc j) d l m h = ascends_at xs i j d (omega arith) (omega arith) (and_parts (every (lt x) xs) (ascending lt xs) h).1

-- ## Keys

module _ {K : Type 0} (lt : K → K → Bool) (one : (a b : K) → ExactlyOne (lt a b ≡ true) (a ≡ b) (lt b a ≡ true)) where
  pub compare_is : (a b : K) (o : Ordering) → MatchOrdering o (lt a b ≡ true) (a ≡ b) (lt b a ≡ true) → o ≡ compare lt a b
  compare_is a b Less h = sym (cond-true (lt a b) Less (cond (lt b a) Greater Equal) h)
  compare_is a b Equal h =
      sym (cond-false (lt a b) Less (cond (lt b a) Greater Equal) (never_itself lt one a b h)
      ∙ cond-false (lt b a) Greater Equal (never_itself lt one b a (sym h)))
  compare_is a b Greater h =
      sym (cond-false (lt a b) Less (cond (lt b a) Greater Equal) (before_once lt one b a h)
      ∙ cond-true (lt b a) Greater Equal h)

  -- the first is before the second exactly where it compares as less
  pub is_before : (a b : K) (r : Bool) → r ≡ is_lt (compare lt a b) → r ≡ lt a b
  is_before a b r e = e ∙ elim (cases_Bool (lt a b)) [
    | inl t ↦ ap is_lt (cond-true (lt a b) Less (cond (lt b a) Greater Equal) t) ∙ sym t
    | inr f ↦ ap is_lt (cond-false (lt a b) Less (cond (lt b a) Greater Equal) f) ∙ elim (cases_Bool (lt b a)) [
      | inl t ↦ ap is_lt (cond-true (lt b a) Greater Equal t) ∙ sym f
      | inr g ↦ ap is_lt (cond-false (lt b a) Greater Equal g) ∙ sym f
    ]
  ]

  pub compare_says : (a b : K) (o : Ordering) → o ≡ compare lt a b → MatchOrdering o (lt a b ≡ true) (a ≡ b) (lt b a ≡ true)
  compare_says a b o e = elim (one a b) [
    | inl (p, n, r) ↦ subst (λ q. MatchOrdering q (lt a b ≡ true) (a ≡ b) (lt b a ≡ true)) (compare_is a b Less p ∙ sym e) p
    | inr (inl (p, n, r)) ↦ subst (λ q. MatchOrdering q (lt a b ≡ true) (a ≡ b) (lt b a ≡ true)) (compare_is a b Equal n ∙ sym e) n
    | inr (inr (p, n, r)) ↦ subst (λ q. MatchOrdering q (lt a b ≡ true) (a ≡ b) (lt b a ≡ true)) (compare_is a b Greater r ∙ sym e) r
  ]

-- ## Records whose keys ascend

module _ {R K : Type 0} (lt : K → K → Bool) (key : R → K) (one : (a b : K) → ExactlyOne (lt a b ≡ true) (a ≡ b) (lt b a ≡ true))
    (carries : (a b c : K) → lt a b ≡ true → lt b c ≡ true → lt a c ≡ true)
    (rs : List R) (up : ascending (by_key lt key) rs ≡ true) (k : K) where
  -- how a record stands to the key
  abbrev pub stands : R → Ordering
  stands y = compare lt (key y) k

  falls : (i j : ℕ) (d : R) → i < j → j < length rs → (o : Ordering) → o ≡ stands (get_or rs j d) → ordering_index (stands (get_or rs i d)) ≤ ordering_index o
  falls i j d l m o e =
      let before = ascends_at (by_key lt key) rs i j d l m up in
      go o (compare_says lt one (key (get_or rs j d)) k o e) before
    where
      less : lt (key (get_or rs i d)) k ≡ true → ordering_index (stands (get_or rs i d)) ≡ 0
      less h = ap ordering_index (sym (compare_is lt one (key (get_or rs i d)) k Less h))

      most : (o : Ordering) → ordering_index o ≤ 2
      most Less = omega arith
      most Equal = omega arith
      most Greater = omega arith

      go : (o : Ordering) → MatchOrdering o (lt (key (get_or rs j d)) k ≡ true) (key (get_or rs j d) ≡ k) (lt k (key (get_or rs j d)) ≡ true)
          → lt (key (get_or rs i d)) (key (get_or rs j d)) ≡ true → ordering_index (stands (get_or rs i d)) ≤ ordering_index o
      go Less h b = omega (arith, less (carries (key (get_or rs i d)) (key (get_or rs j d)) k b h))
      go Equal h b = omega (arith, less (subst (λ z. lt (key (get_or rs i d)) z ≡ true) h b))
      go Greater h b = most (stands (get_or rs i d))

  rises : IsNonDecreasingBy (λ y. ordering_index (stands y)) rs
  rises i j d le m = elim (cases_lt i j) [
    | inl l ↦ falls i j d l m (stands (get_or rs j d)) refl
    | inr g ↦
        let e : i ≡ j = omega arith in
        subst (λ z. ordering_index (stands (get_or rs i d)) ≤ ordering_index (stands (get_or rs z d))) e (omega arith)
  ]

  found_in : (r : Result ℕ ℕ) → IsSearchInRange r (length rs) → IsBinarySearchResult stands rs r → Found lt key rs k r
  found_in (Ok i) within there = (within, λ d. compare_says lt one (key (get_or rs i d)) k Equal (sym (there d)))
  found_in (Err i) within parted =
      let (a, b) = parted rises in (
        within,
        all_before (λ x. lt (key x) k ≡ true) rs i within (λ j d p q. compare_says lt one (key (get_or rs j d)) k Less (sym (a j d p q))),
        all_from (λ x. lt k (key x) ≡ true) rs i (λ j d p q. compare_says lt one (key (get_or rs j d)) k Greater (sym (b j d p q))),
      )

  pub searched : (xs : List R) → xs ≡ rs → (r : Result ℕ ℕ) → IsSearchInRange r (length xs) → IsBinarySearchResult stands xs r → Found lt key rs k r
  searched xs e r within found =
      found_in r (subst (λ l. IsSearchInRange r (length l)) e within) (subst (λ l. IsBinarySearchResult stands l r) e found)

  -- the keys before a place that a partition finds are before the key, and those from it on are not
  pub parted : (xs : List R) → xs ≡ rs → (i : ℕ) → i ≤ length xs
      → (IsPartitionedBy (λ y. lt (key y) k) xs → IsPartitionPoint (λ y. lt (key y) k ≡ true) (λ y. lt (key y) k ≡ false) xs i)
      → Starts lt key rs k i
  parted xs e i within found =
      let bound = subst (λ l. i ≤ length l) e within in
      let (a, b) = subst (λ l. IsPartitionedBy (λ y. lt (key y) k) l → IsPartitionPoint (λ y. lt (key y) k ≡ true) (λ y. lt (key y) k ≡ false) l i) e found partitioned in
      (bound, all_before (λ x. lt (key x) k ≡ true) rs i bound a, all_from (λ x. lt (key x) k ≡ false) rs i b)
    where
      partitioned : IsPartitionedBy (λ y. lt (key y) k) rs
      partitioned i j d le m h = elim (cases_lt i j) [
        | inl l ↦ carries (key (get_or rs i d)) (key (get_or rs j d)) k (ascends_at (by_key lt key) rs i j d l m up) h
        | inr g ↦
            let e : j ≡ i = omega arith in
            subst (λ z. lt (key (get_or rs z d)) k ≡ true) e h
      ]

-- ## What a place that was found, or was not, says of the record under the key

module _ {R K : Type 0} (lt : K → K → Bool) (key : R → K) (rs : List R) (k : K) where
  pub got : (r : Result ℕ ℕ) → Found lt key rs k r → (i : ℕ) → Some i ≡ result_ok r → (o : Option R) → o ≡ slice_get rs i → Getting key rs k o
  got (Ok j) f i s o e = subst (Getting key rs k) (sym (e ∙ ap (slice_get rs) (same i j s))) (at_place rs j f)
    where
      same : (a b : ℕ) → Some a ≡ Some b → a ≡ b
      same a b e = cc

      at_place : (xs : List R) (i : ℕ) → Found lt key xs k (Ok i) → Getting key xs k (slice_get xs i)
      at_place [] i f = absurd (omega (arith, f.0))
      at_place (y ∷ ys) i f = subst (Getting key (y ∷ ys) k) (sym (slice_get-get_or (y ∷ ys) i y f.0)) (getD_in (y ∷ ys) i y f.0, f.1 y)
  got (Err j) f i s o e = absurd (none-some i (sym s))

  pub got_none : (one : (a b : K) → ExactlyOne (lt a b ≡ true) (a ≡ b) (lt b a ≡ true)) (r : Result ℕ ℕ) → Found lt key rs k r → None ≡ result_ok r → Getting key rs k None
  got_none one (Ok j) f s = absurd (none-some j s)
  got_none one (Err j) f s = none_under lt one key k rs j f.1 f.2
