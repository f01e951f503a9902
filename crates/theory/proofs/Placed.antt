-- Lists that are tested, kept in part, or take one more item in order.
use Rattle.std.proofs.Common.{◌≡◌, ◌≤◌, Bool, true, false, cond, List, [], ◌∷◌, length, filter, refl, ap, ◌∙◌, inl, inr, arith}
use Rattle.std.proofs.lemmas.Bool.{and_parts, and_from, or_parts}
use Rattle.definitions.specs.Lists.{In, every, some, ascending}
use Rattle.definitions.specs.Entries.{placed}
use Rattle.theory.proofs.Members.{kept_in}
use Rattle.theory.proofs.Lookups.{in_every}
use Rattle.theory.proofs.Sorting.{placed_tells}

-- none passes where it is false
pub none_passes : {X : Type 0} (t : X → Bool) (xs : List X) → some t xs ≡ false → (x : X) → In x xs → t x ≡ false
none_passes t [] h x i = absurd i
none_passes t (y ∷ ys) h x (inl e) = ap t e ∙ (or_parts (t y) (some t ys) h).0
none_passes t (y ∷ ys) h x (inr i) = none_passes t ys (or_parts (t y) (some t ys) h).1 x i

pub every_from : {X : Type 0} (t : X → Bool) (xs : List X) → ((x : X) → In x xs → t x ≡ true) → every t xs ≡ true
every_from t [] h = refl
every_from t (y ∷ ys) h = and_from (t y) (every t ys) (h y (inl refl)) (every_from t ys (λ x i. h x (inr i)))

-- ## One item more

module _ {X : Type 0} (lt : X → X → Bool) (y : X) where
  -- an item that is before or after each of an ascending list keeps it ascending
  pub placed_ascends : ((a b c : X) → lt a b ≡ true → lt b c ≡ true → lt a c ≡ true) → (xs : List X)
      → ((x : X) → In x xs → lt y x ≡ false → lt x y ≡ true) → ascending lt xs ≡ true → ascending lt (placed lt y xs) ≡ true
  placed_ascends tr [] h a = refl
  placed_ascends tr (z ∷ zs) h a =
      let p = and_parts (every (lt z) zs) (ascending lt zs) a in
      elim (lt y z) as (λ b. lt y z ≡ b → ascending lt (cond b (y ∷ z ∷ zs) (z ∷ placed lt y zs)) ≡ true) [
        | true ↦ λ e. and_from (every (lt y) (z ∷ zs)) (ascending lt (z ∷ zs))
            (and_from (lt y z) (every (lt y) zs) e (every_from (lt y) zs (λ x i. tr y z x e (in_every (lt z) zs p.0 x i)))) a
        | false ↦ λ e. and_from (every (lt z) (placed lt y zs)) (ascending lt (placed lt y zs))
            (every_from (lt z) (placed lt y zs) (λ x i. elim (placed_tells lt y zs x i) [
              | inl q ↦ ap (lt z) q ∙ h z (inl refl) e
              | inr j ↦ in_every (lt z) zs p.0 x j
            ]))
            (placed_ascends tr zs (λ x i. h x (inr i)) p.1)
      ] refl

-- ## A part kept

pub kept_ascends : {X : Type 0} (lt : X → X → Bool) (t : X → Bool) (xs : List X) → ascending lt xs ≡ true → ascending lt (filter t xs) ≡ true
kept_ascends lt t [] a = refl
kept_ascends lt t (y ∷ ys) a =
    let p = and_parts (every (lt y) ys) (ascending lt ys) a in
    elim (t y) as (λ b. ascending lt (cond b (y ∷ filter t ys) (filter t ys)) ≡ true) [
      | true ↦ and_from (every (lt y) (filter t ys)) (ascending lt (filter t ys))
          (every_from (lt y) (filter t ys) (λ x i. in_every (lt y) ys p.0 x (kept_in t ys x i).0)) (kept_ascends lt t ys p.1)
      | false ↦ kept_ascends lt t ys p.1
    ]

pub length_kept : {X : Type 0} (t : X → Bool) (xs : List X) → length (filter t xs) ≤ length xs
length_kept t [] = omega arith
length_kept t (y ∷ ys) = elim (t y) as (λ b. length (cond b (y ∷ filter t ys) (filter t ys)) ≤ length (y ∷ ys)) [
  | true ↦ omega (arith, length_kept t ys)
  | false ↦ omega (arith, length_kept t ys)
]
