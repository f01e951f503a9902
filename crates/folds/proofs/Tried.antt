-- What `try_fold` over a slice answers, where each call tells a step from the number so far.
use Rattle.std.proofs.Common.{◌≡◌, ℕ, ◌+◌, ◌≤◌, max, true, false, List, [], ◌∷◌, None, Option, sym, refl, ap, ◌∙◌, subst, arith}
use Rattle.std.proofs.lemmas.Bool.Decides.{when_true, when_false}
use Rattle.std.specs.List.{fold}
use Rattle.std.specs.Iterator.Runs.{Run, SomeRun, Trigger, ItemsMapTo, IsTryFoldRun, ActsAsWhileContinuing}
use Rattle.std.specs.declared.ops.ControlFlow.{ControlFlow}
use Rattle.std.specs.ControlFlow.{continue_value}
use denote.Param.Members.{Mut, Called}
use denote.Ref.{Bor}
use Rattle.definitions.specs.Lists.{total, largest}
use Rattle.folds.specs.Folds.{Told}

pub total_is_fold : {X : Type 0} (f : X → ℕ) (n : ℕ) (xs : List X) → fold (λ a x. a + f x) n xs ≡ n + total f xs
total_is_fold f n [] = omega arith
total_is_fold f n (x ∷ xs) = omega (arith, total_is_fold f (n + f x) xs)

pub largest_is_fold : {X : Type 0} (f : X → ℕ) (n : ℕ) (xs : List X) → fold (λ a x. max a (f x)) n xs ≡ max n (largest f xs)
largest_is_fold f n [] = omega arith
largest_is_fold f n (x ∷ xs) = omega (arith, largest_is_fold f (max n (f x)) xs)

-- `?` on an `Option` goes on with its number, or breaks off
abbrev pub Branches : {E : Type 0} → Option ℕ → ControlFlow E ℕ → Type 0
Branches v c = v ≡ continue_value c

-- `rest` reads the items that an iterator of a slice has left
module _ {S X F E : Type 0} {steps : S → Option (Bor X) → S → Type 0} {g : Mut F (ℕ × (Bor X × Unit {0})) (Option ℕ)} where
  pub told_by_try_fold : (step : ℕ → X → ℕ) (rest : S → List X) (s : S) (n : ℕ) (f : F) (r : Option ℕ)
      → ((a : ℕ) (x : X) → a ≤ step a x)
      → fold step 0 (rest s) ≡ n
      → ((p : Run steps) → Trigger p.len → ItemsMapTo p (λ x. x.now) (rest p.from))
      → SomeRun steps s (λ p. IsTryFoldRun p g f (Branches {E = E}) (λ _ v. v ≡ None) 0 r)
      → ((a : ℕ) (x : Bor X) (v : Option ℕ) (f' : F) → Called g f (a, (x, tt)) v f' → (f' ≡ f) × Told (step a x.now) v)
      → Told n r
  told_by_try_fold step rest s n f r rises whole reads run calls =
      elim run.0.whole as (λ w. run.0.whole ≡ w → Told n r) [ true ↦ ended | false ↦ broken ] refl
    where
      p : Run steps
      p = run.0

      of_all : fold step 0 (rest p.from) ≡ n
      of_all = ap (λ u. fold step 0 (rest u)) run.1 ∙ whole

      stepped : ℕ → Bor X → ℕ
      stepped a x = step a x.now

      acts : ActsAsWhileContinuing p g f (Branches {E = E}) stepped
      acts a x v c f' k on = let told = calls a x v f' k in (told.0, subst (Told (stepped a x)) on told.1)

      ended : p.whole ≡ true → Told n r
      ended w =
          let t = when_true _ _ w run.2 in
          subst (Told n) (sym t.1) (t.2 stepped acts ∙ (reads p p.seen).5 step 0 w ∙ of_all)

      broken : p.whole ≡ false → Told n r
      broken w =
          let t = when_false _ _ w run.2 in
          let last = t.3 in
          let before = last.9 stepped acts in
          let call : Called g f (last.1, (last.0, tt)) last.2 last.4 = subst (λ i. Called g i (last.1, (last.0, tt)) last.2 last.4) before.1 last.7 in
          let past = subst (Told (stepped last.1 last.0)) last.8 (calls last.1 last.0 last.2 last.4 call).1 in
          subst (Told n) (sym t.1) (omega (arith, past, before.0, of_all, (reads p p.seen).7 step 0 rises))
