-- Lines of loads, read one after another.
use Rattle.std.proofs.Common.{◌≡◌, ℕ, ◌+◌, ◌≤◌, List, [], ◌∷◌, ◌++◌, map, length, Some, None, Ok, Err, decimal, Option, Result, MatchResult, sym, refl, ap, ◌∙◌, subst, inl, arith}
use Rattle.std.proofs.lemmas.Bool.Decides.{nat_tests}
use Rattle.std.specs.Option.{ok_or}
use Rattle.std.specs.Result.{IsErrAnd}
use Rattle.std.proofs.lemmas.List.{append-nil}
use Rattle.definitions.specs.declared.loads.Load.{Load}
use Rattle.definitions.specs.declared.refusals.Refusal.{Refusal}
use Rattle.definitions.specs.declared.refusals.Refusal.TheVariants.{FieldUnreadable}
use Rattle.definitions.specs.Loads.{IsLoad, Making}
use Rattle.definitions.specs.Text.{lines, onto, fields, number_in}
use Rattle.theory.proofs.Numbers.{numbers_read_as_written}
use Rattle.theory.proofs.Variants.{none_some}
use Rattle.port_check.specs.declared.faults.Fault.{Fault}
use Rattle.port_check.specs.Input.{Unwritten, unwritten, no_load, Reading, AllRead}

-- ## Fields

-- what a field reads as: the number that it writes, or that it writes none
pub field_told : (f : List ℕ) (e : Refusal) (r : Option ℕ) → r ≡ number_in 18446744073709551615 f → MatchResult (ok_or r e) (λ n. f ≡ decimal n) (λ d. (d ≡ e) × Unwritten f)
field_told f e (Some n) read = ((numbers_read_as_written 18446744073709551615 (omega arith) f n).0 (sym read)).0
field_told f e None read = (refl, λ n lt w. none_some n (read ∙ (numbers_read_as_written 18446744073709551615 (omega arith) f n).1 (w, omega arith)))

-- ## One line

-- what a line is told whose field f writes no number, where those in front of it do
pub refused_field : (n : ℕ) (fs : List (List ℕ)) (front : List ℕ) (f : List ℕ) (back : List (List ℕ)) (e : Refusal) (r : Result Load Refusal)
    → length fs ≡ 3 → fs ≡ map decimal front ++ (f ∷ back) → (e ≡ FieldUnreadable n (length front + 1)) × Unwritten f → IsErrAnd r (λ d. d ≡ e) → Reading n fs r
refused_field n fs front f back e (Ok l) three parts told same = absurd same
refused_field n fs front f back e (Err d) three parts (told, none) same = unwritten front f back three parts none (same ∙ told)

-- three numbers make a load, or the load is refused
pub three_numbers : (n : ℕ) (fs : List (List ℕ)) (f g h : List ℕ) (c t j : ℕ) → fs ≡ f ∷ g ∷ h ∷ [] → f ≡ decimal c → g ≡ decimal t → h ≡ decimal j
    → (r : Result Load Refusal) → Making record { occupancy = c; gap = t; jitter = j } r → Reading n fs r
three_numbers n fs f g h c t j s a b d (Ok l) m = (subst IsLoad (sym m.0) m.1, cc)
three_numbers n fs f g h c t j s a b d (Err e) m = no_load record { occupancy = c; gap = t; jitter = j } (cc) m

-- ## All lines

-- a text has no more lines than bytes
pub lines_most : (bs : List ℕ) → length (lines bs) ≤ length bs
lines_most [] = omega arith
lines_most (b ∷ bs) = let le = lines_most bs in let more = onto_most b (lines bs) in grind (arith, nat_tests)
  where
    onto_most : (b : ℕ) (ls : List (List ℕ)) → length (onto b ls) ≤ length ls + 1
    onto_most b [] = omega arith
    onto_most b (l ∷ ls) = omega arith

-- where the lines before the n-th gave the loads xs, what the lines ls from it on read as decides what all lines read as
pub record ReadOn (all : List (List ℕ)) (n : ℕ) (ls : List (List ℕ)) (xs : List Load) : Type 0 where
  pub loads : (ys : List Load) → AllRead n ls (Ok ys) → AllRead 1 all (Ok (xs ++ ys))
  pub fault : (f : Fault) → AllRead n ls (Err f) → AllRead 1 all (Err f)

-- the fault that `map_err` makes of the refusal of a line
pub first_fault : {Called : Refusal → Type 0} (all : List (List ℕ)) (start n : ℕ) (left : List (List ℕ)) (l : List ℕ) (ls : List (List ℕ)) (xs : List Load)
    → ReadOn all start left xs → n ≡ start → left ≡ l ∷ ls → (r : Result Load Refusal) (f : Fault)
    → Reading n (fields l) r → MatchResult r (λ x. Err f ≡ Ok x) Called
    → ((e : Refusal) → Called e → f ≡ record { line = n; refusal = e }) → AllRead 1 all (Err f)
first_fault all start n left l ls xs old en el (Ok x) f reading other call = cc
first_fault all start n left l ls xs old en el (Err e) f reading called call =
    let here : ReadOn all n (l ∷ ls) xs = rw (en, ← el) old in
    rw (call e called) (here.fault record { line = n; refusal = e } (inl (refl, reading)))

-- all lines are read
pub read_on_end : (all : List (List ℕ)) (n : ℕ) (ls : List (List ℕ)) (xs : List Load) → ReadOn all n ls xs → ls ≡ [] → AllRead 1 all (Ok xs)
read_on_end all n [] xs old e = subst (λ as'. AllRead 1 all (Ok as')) (append-nil xs) (old.loads [] tt)
read_on_end all n (l ∷ ls) xs old e = absurd (omega (arith, ap length e))
