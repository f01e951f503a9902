-- Variants: the variants of options and results told apart.
use Rattle.std.proofs.Common.{◌≡◌, ℕ, Some, None, Ok, Err, Option, Result, arith}

-- None is not Some
pub none_some : {X : Type 0} (x : X) → ◌≡◌ {A = Option X} None (Some x) → ⊥
none_some x e = let z : ◌≡◌ {A = ℕ} 0 1 = cc in omega arith

-- what is in equal Somes is equal
pub some_same : {X : Type 0} (x y : X) → ◌≡◌ {A = Option X} (Some x) (Some y) → x ≡ y
some_same x y e = cc

-- Err is not Ok
pub err_ok : {X E : Type 0} (f : E) (x : X) → ◌≡◌ {A = Result X E} (Err f) (Ok x) → ⊥
err_ok f x e = let z : ◌≡◌ {A = ℕ} 0 1 = cc in omega arith

-- what is in equal Oks is equal
pub ok_same : {X E : Type 0} (x y : X) → ◌≡◌ {A = Result X E} (Ok x) (Ok y) → x ≡ y
ok_same x y e = cc

-- nothing is both some and none
pub no_some : {C : Type 0} {q : ℕ} → Some q ≡ None → C
no_some {C = C} {q = q} e = let z : ◌≡◌ {A = ℕ} 0 1 = cc in absurd (omega arith)

pub no_none : {C : Type 0} {q : ℕ} → None ≡ Some q → C
no_none {C = C} {q = q} e = let z : ◌≡◌ {A = ℕ} 0 1 = cc in absurd (omega arith)
