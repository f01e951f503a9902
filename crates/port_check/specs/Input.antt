-- Input: one load to a line.
--
--   row_of l           the fields of a load: occupancy, gap and jitter, each written in digits
--   Unwritten f        the field f writes no number that 64 bits hold
--   Reading n fs r     r is what the n-th line, with the fields fs, reads as: a load that it writes,
--                      or the first ground that it meets
--   AllRead n ls r     r is what the lines ls read as, the first of them the n-th: all loads, in order,
--                      or the first line that is none, with its ground
--   IsOutOfMemory e    e is want of memory
--   IsFirstFault ls e  e is the first of the lines ls that is no load, with its ground, or want of memory

use Rattle.std.specs.Prelude.{◌≡◌, ℕ, ◌+◌, ◌^◌, ◌<◌, ◌⊎◌, List, [], ◌∷◌, ◌++◌, map, length, Ok, Err, decimal, Result}
use Rattle.definitions.specs.declared.loads.Load.{Load}
use Rattle.definitions.specs.declared.refusals.Refusal.{Refusal}
use Rattle.definitions.specs.declared.refusals.Refusal.TheVariants.{FieldCountWrong, FieldUnreadable}
use Rattle.definitions.specs.Loads.{IsLoad, Making}
use Rattle.definitions.specs.Text.{fields}
use Rattle.port_check.specs.declared.faults.Fault.{Fault}
use Rattle.port_check.specs.declared.input.ReadError.{ReadError}
use Rattle.port_check.specs.declared.input.ReadError.TheVariants.{Faulty, OutOfMemory}

abbrev pub row_of : Load → List (List ℕ)
row_of l = decimal l.occupancy ∷ decimal l.gap ∷ decimal l.jitter ∷ []

abbrev pub Unwritten : List ℕ → Type 0
Unwritten f = (n : ℕ) → n < 2 ^ 64 → ¬ (f ≡ decimal n)

-- a line has three fields; the first field that writes no number is told, counted from 1; then the load is made
pub data Refused (n : ℕ) (fs : List (List ℕ)) (e : Refusal) : Type 0 where
  count_wrong : ¬ (length fs ≡ 3) → e ≡ FieldCountWrong n → Refused n fs e
  unwritten : (front : List ℕ) (f : List ℕ) (back : List (List ℕ)) → length fs ≡ 3 → fs ≡ map decimal front ++ (f ∷ back)
      → Unwritten f → e ≡ FieldUnreadable n (length front + 1) → Refused n fs e
  no_load : (l : Load) → fs ≡ row_of l → Making l (Err e) → Refused n fs e

abbrev pub Reading : ℕ → List (List ℕ) → Result Load Refusal → Type 0
Reading n fs (Ok l) = IsLoad l × (fs ≡ row_of l)
Reading n fs (Err e) = Refused n fs e

abbrev pub AllRead : ℕ → List (List ℕ) → Result (List Load) Fault → Type 0
AllRead n [] (Ok []) = Unit {0}
AllRead n [] (Ok (x ∷ xs)) = ⊥
AllRead n [] (Err f) = ⊥
AllRead n (l ∷ ls) (Ok []) = ⊥
AllRead n (l ∷ ls) (Ok (x ∷ xs)) = Reading n (fields l) (Ok x) × AllRead (n + 1) ls (Ok xs)
AllRead n (l ∷ ls) (Err f) =
    ((f.line ≡ n) × Reading n (fields l) (Err f.refusal))
    ⊎ ((x : Load) × Reading n (fields l) (Ok x) × AllRead (n + 1) ls (Err f))

abbrev pub IsOutOfMemory : ReadError → Type 0
IsOutOfMemory (OutOfMemory e) = Unit {0}
IsOutOfMemory (Faulty f) = ⊥

abbrev pub IsFirstFault : List (List ℕ) → ReadError → Type 0
IsFirstFault ls (Faulty f) = AllRead 1 ls (Err f)
IsFirstFault ls (OutOfMemory e) = Unit {0}
