-- A list ascends exactly where each item is before the next.
use Rattle.std.proofs.Common.{◌≡◌, ℕ, suc, ◌+◌, ◌<◌, Bool, true, false, List, [], ◌∷◌, length, get_or, refl, sym, ◌∙◌, subst, arith, ◌↔◌, IsTrue}
use Rattle.std.specs.List.{IsAllAdjacentAnswer}
use Rattle.std.proofs.lemmas.Bool.{and_from, true≢false}
use Rattle.definitions.specs.Lists.{every, ascending}
use Rattle.register.proofs.Searching.{ascends_at}

module _ {X : Type 0} (lt : X → X → Bool) (carries : (a b c : X) → lt a b ≡ true → lt b c ≡ true → lt a c ≡ true) where
  abbrev Stepwise : List X → Type 0
  Stepwise xs = (k : ℕ) (d : X) → suc k < length xs → true ≡ lt (get_or xs k d) (get_or xs (suc k) d)

  later : (x : X) (xs : List X) → Stepwise (x ∷ xs) → Stepwise xs
  later x xs h k d l = h (suc k) d (omega arith)

  before_rest : (x y : X) (ys : List X) → lt x y ≡ true → Stepwise (y ∷ ys) → every (lt x) ys ≡ true
  before_rest x y [] l h = refl
  before_rest x y (z ∷ zs) l h =
      let next : lt x z ≡ true = carries x y z l (sym (h 0 y (omega arith))) in
      and_from (lt x z) (every (lt x) zs) next (before_rest x z zs next (later y (z ∷ zs) h))

  steps_ascend : (xs : List X) → Stepwise xs → ascending lt xs ≡ true
  steps_ascend [] h = refl
  steps_ascend (x ∷ []) h = refl
  steps_ascend (x ∷ y ∷ ys) h =
      let first : lt x y ≡ true = sym (h 0 x (omega arith)) in
      and_from (every (lt x) (y ∷ ys)) (ascending lt (y ∷ ys))
      (and_from (lt x y) (every (lt x) ys) first (before_rest x y ys first (later x (y ∷ ys) h)))
      (steps_ascend (y ∷ ys) (later x (y ∷ ys) h))

  pub told : (xs : List X) (b : Bool) → IsAllAdjacentAnswer (λ x y b. b ≡ lt x y) xs b → IsTrue b ↔ (ascending lt xs ≡ true)
  told [] true h = (λ t. refl, λ u. refl)
  told [] false (k, l, f) = absurd (omega arith)
  told (x ∷ xs) true h = (λ t. steps_ascend (x ∷ xs) (λ k d l. subst (λ m. true ≡ lt (get_or (x ∷ xs) k d) (get_or (x ∷ xs) m d)) (next k) (h k d (omega arith))), λ u. refl)
    where
      next : (k : ℕ) → k + 1 ≡ suc k
      next k = omega arith
  told (x ∷ xs) false (k, l, f) = (
    λ t. absurd (true≢false (sym t)),
    λ u. absurd (true≢false (sym (ascends_at lt (x ∷ xs) k (k + 1) x (omega arith) l u) ∙ sym (f x))),
  )
