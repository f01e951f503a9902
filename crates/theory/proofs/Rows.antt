-- Rows: the lines that are written, and what each reads as.
--
--   Plain b            the byte b can stand in a field
--   Stands b           the byte b can stand in a text
--   body fs            the fields with commas between them, without the line feed
--   Ends bs            the last byte is a line feed
use Rattle.std.proofs.Common.{◌≡◌, ℕ, ◌+◌, ◌-◌, ◌^◌, ◌<◌, ◌≤◌, true, false, ◌&&◌, eqb, leb, ◌⊎◌, List, [], ◌∷◌, ◌++◌, map, length, get_or, Some, None, decimal, Option, sym, refl, ap, ◌∙◌, subst, inl, inr, append_assoc, append-nil, arith, length-append}
use Rattle.std.specs.List.{flat_map, AllByRecursion}
use Rattle.std.specs.Str.{all_ascii_digits}
use Rattle.std.proofs.lemmas.Fmt.{digits_decimal, decimal_nonempty}
use Rattle.std.proofs.ByRecursion.{All-append, All-weaker}
use Rattle.std.proofs.lemmas.List.{get_or_at}
use Rattle.std.proofs.lemmas.Bool.{and_parts, and_from, leb-true, le-leb, ne_eqb, eq-eqb}
use Rattle.definitions.specs.declared.network.PortKind.{PortKind}
use Rattle.definitions.specs.declared.network.PortKind.TheVariants.{End, Switch}
use Rattle.definitions.specs.Lists.{In}
use Rattle.definitions.specs.Text.{line_feed, comma, lines, fields, stray, finished, line_of, is_heading, kind_text, before_text}
use Rattle.definitions.specs.Promises.{Lacks}
use Rattle.theory.proofs.Parts.{lines_front, fields_front, fields_one}
use Rattle.theory.proofs.Numbers.{own}

-- ## Bytes

abbrev pub Plain : ℕ → Type 0
Plain b = (33 ≤ b) × (b ≤ 126) × ¬ (b ≡ comma)

abbrev pub Stands : ℕ → Type 0
Stands b = (b ≡ line_feed) ⊎ ((33 ≤ b) × (b ≤ 126))

-- digits can stand in a field
plain_digits : (ds : List ℕ) → all_ascii_digits ds ≡ true → AllByRecursion Plain ds
plain_digits [] a = tt
plain_digits (d ∷ ds) a =
    let (digit, more) = and_parts (leb 48 d && leb d 57) (all_ascii_digits ds) a in
    let (low, high) = and_parts (leb 48 d) (leb d 57) digit in
    let x = leb-true 48 d low in
    let y = leb-true d 57 high in
    ((omega arith, omega arith, λ e. omega arith), plain_digits ds more)

-- so can what is written of a number
pub plain_decimal : (n : ℕ) → n ≤ 65535 → AllByRecursion Plain (decimal n)
plain_decimal n le = let h : n < 2 ^ 64 = omega arith in plain_digits (decimal n) (digits_decimal own n h)

-- digits do not begin a heading
digits_no_heading : (ds t : List ℕ) → all_ascii_digits ds ≡ true → 0 < length ds → is_heading (ds ++ t) ≡ false
digits_no_heading [] t a some = absurd (omega arith)
digits_no_heading (d ∷ ds) t a some =
    let (digit, more) = and_parts (leb 48 d && leb d 57) (all_ascii_digits ds) a in
    let (low, high) = and_parts (leb 48 d) (leb d 57) digit in
    ne_eqb d 64 (λ e. omega (arith, leb-true d 57 high))

-- nor does what is written of a number
pub decimal_no_heading : (n : ℕ) (t : List ℕ) → n ≤ 65535 → is_heading (decimal n ++ t) ≡ false
decimal_no_heading n t le = let h : n < 2 ^ 64 = omega arith in digits_no_heading (decimal n) t (digits_decimal own n h) (decimal_nonempty n h)

-- kinds can stand in a field
pub plain_kind : (k : PortKind) → AllByRecursion Plain (kind_text k)
plain_kind End = ((omega arith, omega arith, λ e. omega arith), tt)
plain_kind Switch = ((omega arith, omega arith, λ e. omega arith), tt)

-- so can what comes before
pub plain_before : (o : Option ℕ) → ((q : ℕ) → o ≡ Some q → q ≤ 255) → AllByRecursion Plain (before_text o)
plain_before None h = ((omega arith, omega arith, λ e. omega arith), tt)
plain_before (Some q) h = plain_decimal q (omega (arith, h q refl))

-- the bytes of a field are no commas
plain_comma : (f : List ℕ) → AllByRecursion Plain f → Lacks comma f
plain_comma f = All-weaker Plain (λ (b : ℕ). ¬ (b ≡ comma)) (λ b p. p.2) f

-- nor line feeds
plain_feed : (f : List ℕ) → AllByRecursion Plain f → Lacks line_feed f
plain_feed f = All-weaker Plain (λ (b : ℕ). ¬ (b ≡ line_feed)) (λ b p e. omega arith) f

-- and can stand in a text
plain_stands : (f : List ℕ) → AllByRecursion Plain f → AllByRecursion Stands f
plain_stands f = All-weaker Plain Stands (λ b p. inr (p.0, p.1)) f

-- a text of bytes that can stand has no stray byte
pub none_stray : (n : ℕ) (bs : List ℕ) → AllByRecursion Stands bs → stray n bs ≡ None
none_stray n [] h = refl
none_stray n (b ∷ bs) h =
    elim h.0 [
      | inl feed ↦ rw (eq-eqb b 10 feed) (none_stray (n + 1) bs h.1)
      | inr (low, high) ↦
          let other : eqb b 10 ≡ false = ne_eqb b 10 (λ e. omega arith) in
          let inside : (leb 33 b && leb b 126) ≡ true = and_from _ _ (le-leb 33 b low) (le-leb b 126 high) in
          rw (other, inside) (none_stray n bs h.1)
    ]

-- ## Lines

abbrev pub body : List (List ℕ) → List ℕ
body [] = []
body (f ∷ []) = f
body (f ∷ g ∷ fs) = f ++ (comma ∷ body (g ∷ fs))

-- a line is its body and a line feed
pub line_body : (fs : List (List ℕ)) (t : List ℕ) → line_of fs ++ t ≡ body fs ++ (line_feed ∷ t)
line_body [] t = refl
line_body (f ∷ []) t = append_assoc f (10 ∷ []) t
line_body (f ∷ g ∷ fs) t =
    append_assoc f (44 ∷ line_of (g ∷ fs)) t
    ∙ ap (λ (bs : List ℕ). f ++ (44 ∷ bs)) (line_body (g ∷ fs) t)
    ∙ sym (append_assoc f (44 ∷ body (g ∷ fs)) (10 ∷ t))

-- the fields of a body
pub fields_body : (f : List ℕ) (fs : List (List ℕ)) → AllByRecursion Plain f → AllByRecursion (AllByRecursion Plain) fs → fields (body (f ∷ fs)) ≡ f ∷ fs
fields_body f [] p h = fields_one f (plain_comma f p)
fields_body f (g ∷ gs) p h =
    fields_front f (body (g ∷ gs)) (plain_comma f p) ∙ ap (λ (fs : List (List ℕ)). f ∷ fs) (fields_body g gs h.0 h.1)

-- a body has no line feed
pub body_lacks : (fs : List (List ℕ)) → AllByRecursion (AllByRecursion Plain) fs → Lacks line_feed (body fs)
body_lacks [] h = tt
body_lacks (f ∷ []) h = plain_feed f h.0
body_lacks (f ∷ g ∷ fs) h =
    All-append (λ (b : ℕ). ¬ (b ≡ line_feed)) f (44 ∷ body (g ∷ fs)) (plain_feed f h.0) (λ e. omega arith, body_lacks (g ∷ fs) h.1)

-- the bytes of a line can stand
pub line_stands : (fs : List (List ℕ)) → AllByRecursion (AllByRecursion Plain) fs → AllByRecursion Stands (line_of fs)
line_stands [] h = (inl refl, tt)
line_stands (f ∷ []) h = All-append Stands f (10 ∷ []) (plain_stands f h.0) (inl refl, tt)
line_stands (f ∷ g ∷ fs) h =
    All-append Stands f (44 ∷ line_of (g ∷ fs)) (plain_stands f h.0) (inr (omega arith, omega arith), line_stands (g ∷ fs) h.1)

-- the lines of a text that begins with a line
pub lines_line : (fs : List (List ℕ)) (t : List ℕ) → AllByRecursion (AllByRecursion Plain) fs → lines (line_of fs ++ t) ≡ body fs ∷ lines t
lines_line fs t h = ap lines (line_body fs t) ∙ lines_front (body fs) t (body_lacks fs h)

-- the lines of a text that begins with a line for each item
pub lines_rows : {X : Type 0} (row : X → List (List ℕ)) (xs : List X) (t : List ℕ) → ((x : X) → In x xs → AllByRecursion (AllByRecursion Plain) (row x))
    → lines (flat_map (λ (x : X). line_of (row x)) xs ++ t) ≡ map (λ (x : X). body (row x)) xs ++ lines t
lines_rows row [] t h = refl
lines_rows row (x ∷ xs) t h =
    ap lines (append_assoc (line_of (row x)) (flat_map (λ y. line_of (row y)) xs) t)
    ∙ lines_line (row x) (flat_map (λ y. line_of (row y)) xs ++ t) (h x (inl refl))
    ∙ ap (λ (ls : List (List ℕ)). body (row x) ∷ ls) (lines_rows row xs t (λ y i. h y (inr i)))

-- the bytes of a line for each item can stand
pub rows_stand : {X : Type 0} (row : X → List (List ℕ)) (xs : List X) → ((x : X) → In x xs → AllByRecursion (AllByRecursion Plain) (row x))
    → AllByRecursion Stands (flat_map (λ (x : X). line_of (row x)) xs)
rows_stand row [] h = tt
rows_stand row (x ∷ xs) h = All-append Stands (line_of (row x)) (flat_map (λ y. line_of (row y)) xs) (line_stands (row x) (h x (inl refl))) (rows_stand row xs (λ y i. h y (inr i)))

-- ## The last byte

abbrev pub Ends : List ℕ → Type 0
Ends bs = (s : List ℕ) × (bs ≡ s ++ (line_feed ∷ []))

-- a text that ends so is finished
pub finished_ends : (bs : List ℕ) → Ends bs → finished bs ≡ true
finished_ends bs (s, e) =
    let n : length bs ≡ length s + 1 = ap length e ∙ length-append s (10 ∷ []) in
    let k : length s ≡ length bs - 1 = omega arith in
    eq-eqb _ 10 (ap (λ (cs : List ℕ). get_or cs (length bs - 1) 0) e ∙ get_or_at s 10 [] 0 (length bs - 1) k)

-- a line ends so
pub ends_line : (fs : List (List ℕ)) → Ends (line_of fs)
ends_line fs = (body fs, sym (append-nil (line_of fs)) ∙ line_body fs [])

-- what stands before does not matter
pub ends_append : (s t : List ℕ) → Ends t → Ends (s ++ t)
ends_append s t (u, e) = (s ++ u, ap (λ (bs : List ℕ). s ++ bs) e ∙ sym (append_assoc s u (10 ∷ [])))

-- nor lines after it
pub ends_rows : {X : Type 0} (row : X → List (List ℕ)) (s : List ℕ) (xs : List X) → Ends s → Ends (s ++ flat_map (λ (x : X). line_of (row x)) xs)
ends_rows row s [] e = subst Ends (sym (append-nil s)) e
ends_rows row s (x ∷ xs) e =
    subst Ends (append_assoc s (line_of (row x)) (flat_map (λ y. line_of (row y)) xs))
    (ends_rows row (s ++ line_of (row x)) xs (ends_append s (line_of (row x)) (ends_line (row x))))
