-- Numbers: the number that a field writes.
--
--   value_on n ds      the number that the digits ds write after the number n
use Rattle.std.proofs.Common.{◌≡◌, ℕ, ◌+◌, ◌-◌, ◌*◌, ◌^◌, ◌<◌, ◌≤◌, true, ◌&&◌, eqb, leb, List, [], ◌∷◌, length, get_or, Some, decimal, sym, refl, ap, ◌∙◌, inl, inr, arith, rules}
use native.Mathlib.Decide.{dec_lt}
use Rattle.std.specs.Str.{all_ascii_digits}
use Rattle.std.proofs.lemmas.Bool.{le-leb, leb-true, cases_Bool, ne_eqb, eqb-false, and_parts}
use Rattle.std.proofs.lemmas.Str.Parse.{IsNumeralModel, numerals_by_fold, tells_all_ascii_digits}
use Rattle.std.proofs.lemmas.Fmt.{decimal-digits_value, digits_decimal, digits_value-decimal, decimal_nonempty, first_decimal, length-decimal-le}
use Rattle.definitions.specs.Text.{number_on, number_in}
use Rattle.definitions.specs.Promises.{NumbersReadAsWritten}
use Rattle.theory.proofs.Variants.{none_some, some_same}

abbrev pub value_on : ℕ → List ℕ → ℕ
value_on n [] = n
value_on n (d ∷ ds) = value_on (10 * n + (d - 48)) ds

-- digits from the left
pub own : IsNumeralModel (λ ds. all_ascii_digits ds ≡ true) (value_on 0)
own = numerals_by_fold _ tells_all_ascii_digits value_on (search rules)

-- what was read after n is digits, and their number, at most the most
number_on_tells : (most n : ℕ) (ds : List ℕ) (v : ℕ) → number_on most n ds ≡ Some v → (all_ascii_digits ds ≡ true) × (value_on n ds ≡ v) × (v ≤ most)
number_on_tells most n [] v e =
    elim (cases_Bool (leb n most)) [
      | inl small ↦
          let q = some_same n v (rw small at e) in
          (refl, q, omega (arith, leb-true n most small))
      | inr large ↦ absurd (none_some v (rw large at e))
    ]
number_on_tells most n (d ∷ ds) v e =
    elim (cases_Bool (leb 48 d && leb d 57)) [
      | inl digit ↦
          let (a, b, c) = number_on_tells most (10 * n + (d - 48)) ds v (rw digit at e) in
          (rw (digit, a), b, c)
      | inr other ↦ absurd (none_some v (rw other at e))
    ]

-- digits whose number is at most the most are read
number_on_gives : (most n : ℕ) (ds : List ℕ) → all_ascii_digits ds ≡ true → value_on n ds ≤ most → number_on most n ds ≡ Some (value_on n ds)
number_on_gives most n [] a le = rw (le-leb n most le)
number_on_gives most n (d ∷ ds) a le =
    let (digit, more) = and_parts (leb 48 d && leb d 57) (all_ascii_digits ds) a in
    rw digit (number_on_gives most (10 * n + (d - 48)) ds more le)

-- a field that reads as a number is its writing
number_in_tells : (most : ℕ) → most < 2 ^ 64 → (f : List ℕ) (n : ℕ) → number_in most f ≡ Some n → (f ≡ decimal n) × (n ≤ most)
number_in_tells most m [] n e = absurd (none_some n e)
number_in_tells most m (d ∷ []) n e =
    let (a, b, c) = number_on_tells most 0 (d ∷ []) n e in
    (sym (decimal-digits_value own (d ∷ []) a (omega arith) (λ _. refl) (omega arith)) ∙ ap decimal b, c)
number_in_tells most m (d ∷ g ∷ ds) n e =
    elim (cases_Bool (eqb d 48)) [
      | inl led ↦ absurd (none_some n (rw led at e))
      | inr other ↦
          let (a, b, c) = number_on_tells most 0 (d ∷ g ∷ ds) n (rw other at e) in
          (sym (decimal-digits_value own (d ∷ g ∷ ds) a (omega arith) (λ z. absurd (eqb-false d 48 other z)) (omega arith)) ∙ ap decimal b, c)
    ]

-- digits without a leading zero are read
number_in_gives : (most : ℕ) (f : List ℕ) → all_ascii_digits f ≡ true → 0 < length f → (1 < length f → get_or f 0 0 ≡ 48 → ⊥) → value_on 0 f ≤ most
    → number_in most f ≡ Some (value_on 0 f)
number_in_gives most [] a some z le = absurd (omega arith)
number_in_gives most (d ∷ []) a some z le = number_on_gives most 0 (d ∷ []) a le
number_in_gives most (d ∷ g ∷ ds) a some z le =
    rw (ne_eqb d 48 (z (omega arith))) (number_on_gives most 0 (d ∷ g ∷ ds) a le)

-- only 0 is written with a zero in front
no_zero_first : (n : ℕ) → n < 2 ^ 64 → 1 < length (decimal n) → get_or (decimal n) 0 0 ≡ 48 → ⊥
no_zero_first n h long z = elim (dec_lt 0 n) [
  | yes some ↦ omega (arith, first_decimal n some h)
  | no none ↦ omega (arith, length-decimal-le 1 n (omega arith) (omega arith) h)
]

-- the writing of a number reads as it
pub decimal_reads_back : (most : ℕ) → most < 2 ^ 64 → (n : ℕ) → n ≤ most → number_in most (decimal n) ≡ Some n
decimal_reads_back most m n le =
    let h : n < 2 ^ 64 = omega arith in
    let v = digits_value-decimal own n h in
    let e = number_in_gives most (decimal n) (digits_decimal own n h) (decimal_nonempty n h) (no_zero_first n h) (omega arith) in
    e ∙ ap (λ (k : ℕ). Some k) v

-- a field reads as a number exactly where it is the writing of that number
pub numbers_read_as_written : NumbersReadAsWritten
numbers_read_as_written most m f n = (
  number_in_tells most m f n,
  λ h. ap (number_in most) h.0 ∙ decimal_reads_back most m n h.1,
)
