-- Quotients: whole division by a number that is not 0.
use Rattle.std.proofs.Common.{◌≡◌, ℕ, ◌+◌, ◌-◌, ◌*◌, ◌/◌, ◌%◌, ◌<◌, ◌≤◌, ap, ◌∙◌, div-lt_iff_lt-mul, le-div_iff_mul-le, arith}
use native.Mathlib.Nat.{add-mul-div_left}

-- a larger number has no smaller quotient
pub div_mono : (x y k : ℕ) → 0 < k → x ≤ y → x / k ≤ y / k
div_mono x y k pos h = (le-div_iff_mul-le pos).1 (omega arith)

-- a multiple of the divisor adds its own quotient
pub div_step : (x h n k : ℕ) → 0 < k → k * (h / k) ≡ h → n ≡ x + h → n / k ≡ x / k + h / k
div_step x h n k pos e s =
    let m : n ≡ x + k * (h / k) = omega arith in
    ap (λ y. y / k) m ∙ add-mul-div_left x (h / k) pos

-- the quotient of a sum is at most one above the sum of the quotients
pub div_sub : (a b n k : ℕ) → 0 < k → n ≤ a + b + 1 → n / k ≤ a / k + b / k + 1
div_sub a b n k pos h =
    let room : n < (a / k + b / k + 2) * k = omega arith in
    let less : n / k < a / k + b / k + 2 = (div-lt_iff_lt-mul pos).1 room in
    omega arith

-- the quotient stays until the next multiple
pub div_flat : (x y k : ℕ) → 0 < k → x ≤ y → y < x + (k - x % k) → y / k ≡ x / k
div_flat x y k pos h near =
    let room : y < (x / k + 1) * k = omega arith in
    let less : y / k < x / k + 1 = (div-lt_iff_lt-mul pos).1 room in
    omega (arith, div_mono x y k pos h)
