-- Parts: the lines of a text and the fields of a line.
--
--   ended l            a line with its line feed
use Rattle.std.proofs.Common.{◌≡◌, ℕ, ◌<◌, true, false, cond, eqb, List, [], ◌∷◌, ◌++◌, length, sym, refl, ap, ◌∙◌, inl, inr, arith}
use native.Mathlib.Numerals.{unary_clauses}
use Rattle.std.specs.List.{flat_map, AllByRecursion}
use Rattle.std.proofs.lemmas.Bool.{ne_eqb, eqb-true, eqb-false, cases_Bool, both_ways}
use Rattle.definitions.specs.Text.{line_feed, comma, onto, lines, fields, finished, line_of}
use Rattle.definitions.specs.Promises.{Lacks, PartsMakeTheWhole}

-- ## The front of a text

-- what stands before the first line feed is the first line
pub lines_front : (s t : List ℕ) → Lacks line_feed s → lines (s ++ (line_feed ∷ t)) ≡ s ∷ lines t
lines_front [] t h = refl
lines_front (b ∷ s) t h = rw (ne_eqb b 10 h.0) (ap (onto b) (lines_front s t h.1))

-- what stands before the first comma is the first field
pub fields_front : (s t : List ℕ) → Lacks comma s → fields (s ++ (comma ∷ t)) ≡ s ∷ fields t
fields_front [] t h = refl
fields_front (b ∷ s) t h = rw (ne_eqb b 44 h.0) (ap (onto b) (fields_front s t h.1))

-- a line without commas is one field
pub fields_one : (s : List ℕ) → Lacks comma s → fields s ≡ s ∷ []
fields_one [] h = refl
fields_one (b ∷ s) h = rw (ne_eqb b 44 h.0) (ap (onto b) (fields_one s h.1))

-- ## Lines make the text

-- a line with its line feed
abbrev pub ended : List ℕ → List ℕ
ended l = l ++ (line_feed ∷ [])

-- a byte put before the first of some lines stands before them all
joined_onto : (b : ℕ) (ls : List (List ℕ)) → 0 < length ls → flat_map ended (onto b ls) ≡ b ∷ flat_map ended ls
joined_onto b [] h = absurd (omega arith)
joined_onto b (l ∷ ls) h = refl

-- with a byte put before the first there is some part
onto_some : (b : ℕ) (ls : List (List ℕ)) → 0 < length (onto b ls)
onto_some b [] = omega arith
onto_some b (l ∷ ls) = omega arith

-- a text that is not empty has a line
lines_some : (b : ℕ) (bs : List ℕ) → 0 < length (lines (b ∷ bs))
lines_some b bs =
    elim (eqb b line_feed) as (λ t. 0 < length (cond t ([] ∷ lines bs) (onto b (lines bs)))) [
      | true ↦ omega arith
      | false ↦ onto_some b (lines bs)
    ]

-- no part gains a c by a byte that is none
lacks_onto : (c b : ℕ) (ls : List (List ℕ)) → ¬ (b ≡ c) → AllByRecursion (Lacks c) ls → AllByRecursion (Lacks c) (onto b ls)
lacks_onto c b [] n h = ((n, tt), tt)
lacks_onto c b (l ∷ ls) n h = ((n, h.0), h.1)

-- the last byte does not change with a byte put in front
finished_more : (b c : ℕ) (cs : List ℕ) → finished (b ∷ c ∷ cs) ≡ finished (c ∷ cs)
finished_more b c cs = simp unary_clauses

-- the lines of a finished text make it again
lines_whole : (text : List ℕ) → finished text ≡ true → flat_map ended (lines text) ≡ text
lines_whole [] h = absurd (both_ways false refl h)
lines_whole (b ∷ []) h = rw h (ap (λ (c : ℕ). c ∷ []) (sym (eqb-true b 10 h)))
lines_whole (b ∷ c ∷ cs) h =
    let more = lines_whole (c ∷ cs) (sym (finished_more b c cs) ∙ h) in
    elim (cases_Bool (eqb b line_feed)) [
      | inl feed ↦ rw feed (ap (λ (bs : List ℕ). 10 ∷ bs) more ∙ ap (λ (d : ℕ). d ∷ c ∷ cs) (sym (eqb-true b 10 feed)))
      | inr other ↦ rw other (joined_onto b (lines (c ∷ cs)) (lines_some c cs) ∙ ap (λ (bs : List ℕ). b ∷ bs) more)
    ]

-- no line has a line feed
lines_lack : (text : List ℕ) → AllByRecursion (Lacks line_feed) (lines text)
lines_lack [] = tt
lines_lack (b ∷ bs) =
    elim (cases_Bool (eqb b line_feed)) [
      | inl feed ↦ rw feed (tt, lines_lack bs)
      | inr other ↦ rw other (lacks_onto 10 b (lines bs) (eqb-false b 10 other) (lines_lack bs))
    ]

-- ## Fields make the line

-- a line has a field
fields_some : (l : List ℕ) → 0 < length (fields l)
fields_some [] = omega arith
fields_some (b ∷ bs) =
    elim (eqb b comma) as (λ t. 0 < length (cond t ([] ∷ fields bs) (onto b (fields bs)))) [
      | true ↦ omega arith
      | false ↦ onto_some b (fields bs)
    ]

-- a byte put before the first of some fields stands before the line
line_onto : (b : ℕ) (fs : List (List ℕ)) → 0 < length fs → line_of (onto b fs) ≡ b ∷ line_of fs
line_onto b [] h = absurd (omega arith)
line_onto b (f ∷ []) h = refl
line_onto b (f ∷ g ∷ fs) h = refl

-- an empty field before some fields is a comma before the line
line_empty : (fs : List (List ℕ)) → 0 < length fs → line_of ([] ∷ fs) ≡ comma ∷ line_of fs
line_empty [] h = absurd (omega arith)
line_empty (f ∷ fs) h = refl

-- the fields of a line make it again
fields_whole : (l : List ℕ) → line_of (fields l) ≡ ended l
fields_whole [] = refl
fields_whole (b ∷ bs) =
    elim (cases_Bool (eqb b comma)) [
      | inl part ↦ rw part (line_empty (fields bs) (fields_some bs) ∙ ap (λ (cs : List ℕ). 44 ∷ cs) (fields_whole bs) ∙ ap (λ (c : ℕ). c ∷ ended bs) (sym (eqb-true b 44 part)))
      | inr other ↦ rw other (line_onto b (fields bs) (fields_some bs) ∙ ap (λ (cs : List ℕ). b ∷ cs) (fields_whole bs))
    ]

-- no field has a comma
fields_lack : (l : List ℕ) → AllByRecursion (Lacks comma) (fields l)
fields_lack [] = (tt, tt)
fields_lack (b ∷ bs) =
    elim (cases_Bool (eqb b comma)) [
      | inl part ↦ rw part (tt, fields_lack bs)
      | inr other ↦ rw other (lacks_onto 44 b (fields bs) (eqb-false b 44 other) (fields_lack bs))
    ]

-- lines make the text, and fields the line, again
pub parts_make_the_whole : PartsMakeTheWhole
parts_make_the_whole = (
  λ text h. (lines_whole text h, lines_lack text),
  λ l. (fields_whole l, fields_lack l),
)
