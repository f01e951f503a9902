-- Under: what a change of the row under a key makes of each row.
use Rattle.std.proofs.Common.{◌≡◌, ℕ, Bool, true, ◌⊎◌, sym, arith}
use Rattle.std.proofs.lemmas.Bool.Decides.{nat_tests}
use Rattle.register.specs.Orders.{ExactlyOne}
use Rattle.register.proofs.Sorted.{never_itself}
use Rattle.working_out.specs.Keys.{number_before}
use Rattle.working_out.specs.Edits.{edited_under}

-- of two numbers exactly one holds: before, same, after
pub numbers_one : (a b : ℕ) → ExactlyOne (number_before a b ≡ true) (a ≡ b) (number_before b a ≡ true)
numbers_one a b = grind (arith, nat_tests)

module _ {R K : Type 0} (lt : K → K → Bool) (key : R → K) (one : (a b : K) → ExactlyOne (lt a b ≡ true) (a ≡ b) (lt b a ≡ true)) (k : K) (f : R → R) (x : R) where
  -- the row under the key is changed
  pub under_here : key x ≡ k → edited_under lt key k f x ≡ f x
  under_here e = grind (arith, never_itself lt one (key x) k e, never_itself lt one k (key x) (sym e))

  -- a row under another key is left
  pub under_other : ¬ (key x ≡ k) → edited_under lt key k f x ≡ x
  under_other n = grind (arith, one (key x) k)

  pub under_cases : (edited_under lt key k f x ≡ x) ⊎ ((key x ≡ k) × (edited_under lt key k f x ≡ f x))
  under_cases = grind (arith, one (key x) k)
