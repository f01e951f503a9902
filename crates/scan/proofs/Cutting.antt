-- Cutting a text at a byte, and what that makes of its lines and fields.
use Rattle.std.proofs.Common.{◌≡◌, ◌≢◌, ℕ, zero, suc, ◌+◌, ◌-◌, ◌<◌, List, [], ◌∷◌, ◌++◌, length, get_or, take, drop, sym, refl, ap, ◌∙◌, subst, arith, Some, None, Option, MatchOption}
use Rattle.std.specs.Borrow.{Bor}
use Rattle.std.proofs.lemmas.List.{take-append-drop, take_rest, take_all, drop_more}
use Rattle.std.proofs.lemmas.Bool.{ne_eqb}
use Rattle.definitions.specs.Text.{line_feed, comma, lines, fields, onto}
use Rattle.definitions.specs.Promises.{Lacks}
use Rattle.theory.proofs.Parts.{lines_front, fields_front, fields_one}
use Rattle.scan.specs.Cursors.{Cut, fields_of_rest}

-- what stands before a byte's first place lacks it
lacks_before : (c : ℕ) (bs : List ℕ) (i : ℕ) → ((k : ℕ) → k < i → k < length bs → get_or bs k 0 ≢ c) → Lacks c (take i bs)
lacks_before c bs zero before = tt
lacks_before c [] (suc i) before = tt
lacks_before c (b ∷ bs) (suc i) before = (before 0 (omega arith) (omega arith), lacks_before c bs i (λ k lt in_bs. before (suc k) (omega arith) (omega arith)))

-- a byte that was found parts the text
pub cut_found : (c : ℕ) (bs : List ℕ) (i : ℕ) → i < length bs → get_or bs i 0 ≡ c → ((k : ℕ) → k < i → get_or bs k 0 ≢ c)
    → Lacks c (take i bs) × (bs ≡ take i bs ++ (c ∷ take (length bs - (i + 1)) (drop (i + 1) bs)))
cut_found c bs i lt e before =
    rw (take_rest bs (i + 1))
    (lacks_before c bs i (λ k below _. before k below), sym (take-append-drop i bs) ∙ ap (λ t. take i bs ++ t) (drop_more bs i 0 lt ∙ ap (λ b. b ∷ drop (i + 1) bs) e))

-- a byte that was not found leaves it whole
pub cut_none : (c : ℕ) (bs : List ℕ) → ((k : ℕ) → k < length bs → get_or bs k 0 ≢ c) → Lacks c bs × (bs ≡ bs)
cut_none c bs before = (subst (Lacks c) (take_all (length bs) bs (omega arith)) (lacks_before c bs (length bs) (λ k _ in_bs. before k in_bs)), refl)

-- what has no line feed is one line, unless it is empty
lines_one : (b : ℕ) (bs : List ℕ) → Lacks line_feed (b ∷ bs) → lines (b ∷ bs) ≡ (b ∷ bs) ∷ []
lines_one b [] h = rw (ne_eqb b line_feed h.0)
lines_one b (c ∷ cs) h = rw (ne_eqb b line_feed h.0) (ap (onto b) (lines_one c cs h.1))

-- the next line of what is left, where nothing is left after a line that no line feed ends
pub next_line : (bs front : List ℕ) (rest : Option (Bor (List ℕ))) (back : List ℕ) → 0 < length bs → Cut line_feed bs front rest → MatchOption rest (back ≡ []) (λ r. back ≡ r.now) → lines bs ≡ front ∷ lines back
next_line bs front (Some r) back some (lacks, e) b = ap lines e ∙ lines_front front r.now lacks ∙ ap (λ l. front ∷ lines l) (sym b)
next_line bs [] None back some (lacks, e) b = absurd (omega (arith, ap length e))
next_line bs (c ∷ front) None back some (lacks, e) b = ap lines e ∙ lines_one c front lacks ∙ ap (λ l. (c ∷ front) ∷ lines l) (sym b)

-- the next field of what is left
pub next_field : (bs front : List ℕ) (rest : Option (Bor (List ℕ))) → Cut comma bs front rest → fields bs ≡ front ∷ fields_of_rest rest
next_field bs front (Some r) (lacks, e) = ap fields e ∙ fields_front front r.now lacks
next_field bs front None (lacks, e) = ap fields e ∙ fields_one front lacks
