-- The order of pairs keeps the laws of its parts.
use Rattle.std.specs.Prelude.{◌≡◌, Bool, true, false, not, ◌&&◌, ◌⊎◌, refl}
use Rattle.std.proofs.Common.{ap, sym, ◌∙◌, subst, inl, inr}
use Rattle.std.proofs.lemmas.Bool.{and_parts, and_from, or_cases, or_left, or_right, both_ways, not_from_false, not-true}
use Rattle.register.specs.Orders.{ExactlyOne, pair_before}

-- what is not true is false
not_so : (b : Bool) → ¬ (b ≡ true) → b ≡ false
not_so true h = absurd (h refl)
not_so false h = refl

module _ {X Y : Type 0} (f : X → X → Bool) (g : Y → Y → Bool)
    (f-one : (a b : X) → ExactlyOne (f a b ≡ true) (a ≡ b) (f b a ≡ true)) (g-one : (a b : Y) → ExactlyOne (g a b ≡ true) (a ≡ b) (g b a ≡ true)) where
  never_itself : (a : X) → f a a ≡ false
  never_itself a = elim (f-one a a) [
    | inl (p, n, r) ↦ absurd (n refl)
    | inr (inl (p, e, r)) ↦ not_so (f a a) p
    | inr (inr (p, n, r)) ↦ absurd (n refl)
  ]

  by_first : (x y : X × Y) → f x.0 y.0 ≡ true → pair_before f g x y ≡ true
  by_first x y h = or_left (f x.0 y.0) (not (f y.0 x.0) && g x.1 y.1) h

  by_second : (x y : X × Y) → x.0 ≡ y.0 → g x.1 y.1 ≡ true → pair_before f g x y ≡ true
  by_second x y e h = or_right (f x.0 y.0) (not (f y.0 x.0) && g x.1 y.1)
      (and_from (not (f y.0 x.0)) (g x.1 y.1) (not_from_false (f y.0 x.0) (ap (f y.0) e ∙ never_itself y.0)) h)

  parts : (x y : X × Y) → pair_before f g x y ≡ true → (f x.0 y.0 ≡ true) ⊎ ((x.0 ≡ y.0) × (g x.1 y.1 ≡ true))
  parts x y h = elim (or_cases (f x.0 y.0) (not (f y.0 x.0) && g x.1 y.1) h) [
    | inl a ↦ inl a
    | inr b ↦
        let c = and_parts (not (f y.0 x.0)) (g x.1 y.1) b in
        elim (f-one x.0 y.0) [
          | inl (p, n, r) ↦ inl p
          | inr (inl (p, e, r)) ↦ inr (e, c.1)
          | inr (inr (p, n, r)) ↦ absurd (both_ways (f y.0 x.0) (not-true (f y.0 x.0) c.0) r)
        ]
  ]

  same_pair : (x y : X × Y) → x.0 ≡ y.0 → x.1 ≡ y.1 → x ≡ y
  same_pair x y a b = ap (λ (u : X). (u, x.1)) a ∙ ap (λ (v : Y). (y.0, v)) b

  not_both : (x y : X × Y) → pair_before f g x y ≡ true → ¬ (pair_before f g y x ≡ true)
  not_both x y h k = elim (parts x y h) [
    | inl a ↦ elim (parts y x k) [
      | inl b ↦ elim (f-one x.0 y.0) [ inl (p, n, r) ↦ r b | inr (inl (p, e, r)) ↦ p a | inr (inr (p, n, r)) ↦ p a ]
      | inr (e, b) ↦ both_ways (f x.0 y.0) (ap (f x.0) e ∙ never_itself x.0) a
    ]
    | inr (e, a) ↦ elim (parts y x k) [
      | inl b ↦ both_ways (f y.0 x.0) (ap (f y.0) e ∙ never_itself y.0) b
      | inr (d, b) ↦ elim (g-one x.1 y.1) [ inl (p, n, r) ↦ r b | inr (inl (p, c, r)) ↦ p a | inr (inr (p, n, r)) ↦ p a ]
    ]
  ]

  not_same : (x y : X × Y) → pair_before f g x y ≡ true → ¬ (x ≡ y)
  not_same x y h e = not_both x y h (subst (λ (z : X × Y). pair_before f g z x ≡ true) e (subst (λ (z : X × Y). pair_before f g x z ≡ true) (sym e) h))

  pub pairs_exactly_one : (x y : X × Y) → ExactlyOne (pair_before f g x y ≡ true) (x ≡ y) (pair_before f g y x ≡ true)
  pairs_exactly_one x y =
      let before : pair_before f g x y ≡ true → ExactlyOne (pair_before f g x y ≡ true) (x ≡ y) (pair_before f g y x ≡ true)
      = λ h. inl (h, not_same x y h, not_both x y h) in
      let after : pair_before f g y x ≡ true → ExactlyOne (pair_before f g x y ≡ true) (x ≡ y) (pair_before f g y x ≡ true)
      = λ h. inr (inr ((λ k. not_both y x h k), (λ e. not_same y x h (sym e)), h)) in
      elim (f-one x.0 y.0) [
        | inl (p, n, r) ↦ before (by_first x y p)
        | inr (inl (p, e, r)) ↦ elim (g-one x.1 y.1) [
          | inl (a, b, c) ↦ before (by_second x y e a)
          | inr (inl (a, b, c)) ↦
              let s = same_pair x y e b in
              inr (inl ((λ h. not_same x y h s), s, (λ h. not_same y x h (sym s))))
          | inr (inr (a, b, c)) ↦ after (by_second y x (sym e) c)
        ]
        | inr (inr (p, n, r)) ↦ after (by_first y x r)
      ]

  pub pairs_carry : ((a b c : X) → f a b ≡ true → f b c ≡ true → f a c ≡ true) → ((a b c : Y) → g a b ≡ true → g b c ≡ true → g a c ≡ true)
      → (x y z : X × Y) → pair_before f g x y ≡ true → pair_before f g y z ≡ true → pair_before f g x z ≡ true
  pairs_carry ft gt x y z h k = elim (parts x y h) [
    | inl a ↦ elim (parts y z k) [
      | inl b ↦ by_first x z (ft x.0 y.0 z.0 a b)
      | inr (e, b) ↦ by_first x z (subst (λ (u : X). f x.0 u ≡ true) e a)
    ]
    | inr (d, a) ↦ elim (parts y z k) [
      | inl b ↦ by_first x z (subst (λ (u : X). f u z.0 ≡ true) (sym d) b)
      | inr (e, b) ↦ by_second x z (d ∙ e) (gt x.1 y.1 z.1 a b)
    ]
  ]
