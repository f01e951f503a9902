-- Reading digits one after another.
use Rattle.std.proofs.Common.{◌≡◌, ℕ, ◌+◌, ◌-◌, ◌*◌, ◌^◌, ◌<◌, ◌≤◌, Bool, true, false, cond, leb, List, [], ◌∷◌, length, Some, None, Option, MatchOption, sym, refl, ap, ◌∙◌, arith}
use Rattle.std.proofs.lemmas.Fn.{fronts}
use Rattle.std.specs.Bool.{then_some}
use Rattle.std.specs.Borrow.{Bor}
use Rattle.std.specs.Iterator.{Yields, YieldsThen}
use Rattle.std.specs.List.{FoldsTo}
use Rattle.std.specs.declared.slice.Iter.{Iter}
use Rattle.std.proofs.lemmas.Bool.Decides.{nat_tests}
use Rattle.definitions.specs.Text.{number_on}

-- a number that is past the most stays so
past_most : (most n : ℕ) (ds : List ℕ) → most < n → number_on most n ds ≡ None
past_most most n [] h = grind (arith, nat_tests)
past_most most n (d ∷ ds) h = grind (arith, nat_tests, past_most most (10 * n + (d - 48)) ds)

-- a digit more
digit_more : (most n m d : ℕ) (ds : List ℕ) → 48 ≤ d → d ≤ 57 → m ≡ 10 * n + (d - 48) → number_on most n (d ∷ ds) ≡ number_on most m ds
digit_more most n m d ds a b e = grind (arith, nat_tests)

-- a byte that is no digit, or a digit past what 64 bits hold, makes no number
digit_none : (most n d : ℕ) (ds : List ℕ) → most < 2 ^ 64 → ((48 ≤ d) × (d ≤ 57) → 2 ^ 64 ≤ 10 * n + (d - 48)) → number_on most n (d ∷ ds) ≡ None
digit_none most n d ds small h = grind (arith, nat_tests, past_most)

-- the number, if it is at most the most
abbrev pub within : ℕ → Option ℕ → Option ℕ
within most None = None
within most (Some n) = then_some (leb n most) n

-- what a `filter` leaves of it
pub filtered : {Answers : ℕ → Bool → Type 0} (most : ℕ) (r s : Option ℕ) → MatchOption r (s ≡ None) (λ n. (b : Bool) × Answers n b × (s ≡ then_some b n))
    → ((n : ℕ) (b : Bool) → Answers n b → b ≡ leb n most) → s ≡ within most r
filtered most None s e test = e
filtered most (Some n) s (b, call, e) test = e ∙ ap (λ t. then_some t n) (test n b call)

-- turns that add a digit each lead on to what is left
digits_on : {F : Type 0} (R : F × ℕ → Bor ℕ → F × ℕ → Type 0) (most : ℕ) (xs : List (Bor ℕ)) (s t : Iter ℕ) (p q : F × ℕ) → Yields fronts s xs t → FoldsTo R p xs q
    → ((p q : F × ℕ) (x : Bor ℕ) → R p x q → (48 ≤ x.now) × (x.now ≤ 57) × (q.1 ≡ 10 * p.1 + (x.now - 48)))
    → number_on most p.1 s.rest.now ≡ number_on most q.1 t.rest.now
digits_on R most [] s t p q e f turn = ap (λ (i : Iter ℕ). number_on most p.1 i.rest.now) e ∙ ap (λ (n : _ × ℕ). number_on most n.1 t.rest.now) f
digits_on R most (x ∷ xs) s t p q (j, e, more) (v, call, folds) turn =
    let (a, b, m) = turn p v x call in
    ap (number_on most p.1) e ∙ digit_more most p.1 v.1 x.now j.rest.now a b m ∙ digits_on R most xs j t v q more folds turn

-- what a `try_fold` over the bytes reads: each turn that goes on adds a digit, and one that breaks off could not
pub digits_read : {F : Type 0} {R : F × ℕ → Bor ℕ → F × ℕ → Type 0} {C : F → ℕ → Bor ℕ → Type 0} {s u : Iter ℕ} {f : F} (most : ℕ) (r : Option ℕ)
    → (xs : List (Bor ℕ)) × (o : Option (Bor ℕ)) × (g : F) × (n : ℕ) × YieldsThen fronts s xs o u × FoldsTo R (f, 0) xs (g, n) × MatchOption o (r ≡ Some n) (C g n)
    → ((p q : F × ℕ) (x : Bor ℕ) → R p x q → (48 ≤ x.now) × (x.now ≤ 57) × (q.1 ≡ 10 * p.1 + (x.now - 48)))
    → ((g : F) (n : ℕ) (x : Bor ℕ) → C g n x → (r ≡ None) × ((48 ≤ x.now) × (x.now ≤ 57) → 2 ^ 64 ≤ 10 * n + (x.now - 48)))
    → most < 2 ^ 64 → number_on most 0 s.rest.now ≡ within most r
digits_read {R = R} {s = s} {u = u} {f = f} most r (xs, None, g, n, (t, given, last), folds, e) turn stop small =
    digits_on R most xs s t (f, 0) (g, n) given folds turn ∙ digits_end most n t.rest.now last.0 ∙ ap (within most) (sym e)
  where
    digits_end : (most n : ℕ) (bs : List ℕ) → length bs ≡ 0 → number_on most n bs ≡ then_some (leb n most) n
    digits_end most n [] e = elim (leb n most) as (λ b. cond b (Some n) None ≡ then_some b n) [ true ↦ refl | false ↦ refl ]
    digits_end most n (b ∷ bs) e = absurd (omega arith)
digits_read {R = R} {s = s} {u = u} {f = f} most r (xs, Some x, g, n, (t, given, last), folds, broken) turn stop small =
    let (e, h) = stop g n x broken in
    digits_on R most xs s t (f, 0) (g, n) given folds turn ∙ ap (number_on most n) last ∙ digit_none most n x.now u.rest.now small h ∙ ap (within most) (sym e)
