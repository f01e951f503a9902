-- Rearranging: texts with the same cells under the same names read the same.
--
--   Headed s c         the columns c have a place for each column of the section s, among the fields of a row
--   Alike s t          the stages s and t are alike but for the columns, and those of s are headed
use Rattle.std.proofs.Common.{◌≡◌, ℕ, zero, suc, ◌+◌, ◌<◌, Bool, true, false, cond, not, ◌||◌, eqb, List, [], ◌∷◌, length, get_or, Some, None, Ok, Err, Option, Result, unwrap_or, sym, refl, ap, ◌∙◌, subst, inl, inr, arith}
use Rattle.std.specs.List.{AllByRecursion}
use Rattle.std.specs.Str.{bytes_eq}
use Rattle.std.proofs.ByRecursion.{All-weaker, All-get_or}
use Rattle.std.proofs.lemmas.Bool.{and_parts, and_from, or_left, or_right, eqb-true, eq-eqb, not_from_false, cases_Bool}
use Rattle.definitions.specs.declared.network.PortKind.TheVariants.{End}
use Rattle.definitions.specs.declared.refusals.Refusal.{Refusal}
use Rattle.definitions.specs.declared.refusals.Refusal.TheVariants.{ByteForbidden, LineUnfinished, MarkMissing, VersionUnknown, HeadingWrong, FieldCountWrong, FieldUnreadable, EntryRefused}
use Rattle.definitions.specs.Refusals.{number}
use Rattle.definitions.specs.Network.{Records}
use Rattle.definitions.specs.Entries.{Places, Entry, port_entry, link_entry, hop_entry, entry_ground, entered, no_records}
use Rattle.definitions.specs.Text.{lines, fields, line_feeds, stray, finished, byte_in, word_in, kind_in, before_in, byte, readable, Section, ports, links, hops, heading_name, Column, column, columns_of, section_after, places_of, sole, Columns, all_places, heading_in, is_heading, cell_reads, unreadable, cell_at, row_entry, entry_in, Stage, begun, titled, within, Seen, seen, version_in, read_mark, read_heading, read_line, read_lines, complete, reading_lines, reading}
use Rattle.definitions.specs.Promises.{Rearranged, RearrangedTextReadsTheSame}
use Rattle.theory.proofs.Variants.{none_some, err_ok, ok_same}
use Rattle.theory.proofs.Entering.{lines_next, row_reads}
use Rattle.theory.proofs.ReadBack.{reading_is, reading_lines_is}

-- ## Headings

pub record Headed (s : Section) (c : Columns) : Type 0 where
  pub each : length c.at ≡ length (columns_of s)
  pub inside : AllByRecursion (λ (i : ℕ). i < c.width) c.at

-- the places of a name are among the names
places_inside : (n : List ℕ) (i : ℕ) (fs : List (List ℕ)) → AllByRecursion (λ (j : ℕ). j < i + length fs) (places_of n i fs)
places_inside n i [] = tt
places_inside n i (f ∷ fs) =
    let more = All-weaker (λ (j : ℕ). j < i + 1 + length fs) (λ (j : ℕ). j < i + suc (length fs)) (λ j h. omega arith) (places_of n (i + 1) fs) (places_inside n (i + 1) fs) in
    elim (bytes_eq f n) as (λ t. AllByRecursion (λ (j : ℕ). j < i + suc (length fs)) (cond t (i ∷ places_of n (i + 1) fs) (places_of n (i + 1) fs))) [
      | true ↦ (omega arith, more)
      | false ↦ more
    ]

-- the only one of a list is of the list
sole_from : (P : ℕ → Type 0) (xs : List ℕ) (i : ℕ) → sole xs ≡ Some i → AllByRecursion P xs → P i
sole_from P [] i e h = absurd (none_some i e)
sole_from P (x ∷ []) i e h = let q : x ≡ i = cc in subst P q h.0
sole_from P (x ∷ y ∷ ys) i e h = absurd (none_some i e)

-- each column has a place among the names
all_places_tell : (cs : List Column) (names : List (List ℕ)) (js : List ℕ) → all_places cs names ≡ Some js
    → (length js ≡ length cs) × AllByRecursion (λ (i : ℕ). i < length names) js
all_places_tell [] names js e =
    let q : [] ≡ js = cc in
    subst (λ (ks : List ℕ). (length ks ≡ 0) × AllByRecursion (λ (i : ℕ). i < length names) ks) q (refl, tt)
all_places_tell (c ∷ cs) names js e = go (sole (places_of c.name 0 names)) refl (all_places cs names) (all_places_tell cs names) e
  where
    go : (o : Option ℕ) → sole (places_of c.name 0 names) ≡ o
        → (p : Option (List ℕ)) → ((ks : List ℕ) → p ≡ Some ks → (length ks ≡ length cs) × AllByRecursion (λ (i : ℕ). i < length names) ks)
        → elim o as (λ _. Option (List ℕ)) [
          | Some i ↦ elim p as (λ _. Option (List ℕ)) [ Some ks ↦ Some (i ∷ ks) | None ↦ None ]
          | None ↦ None
        ] ≡ Some js
        → (length js ≡ suc (length cs)) × AllByRecursion (λ (i : ℕ). i < length names) js
    go None x p ih e = absurd (none_some js e)
    go (Some i) x None ih e = absurd (none_some js e)
    go (Some i) x (Some ks) ih e =
        let q : i ∷ ks ≡ js = cc in
        let (long, low) = ih ks refl in
        let here : i < length names = sole_from (λ (j : ℕ). j < length names) (places_of c.name 0 names) i x
        (All-weaker (λ (j : ℕ). j < 0 + length names) (λ (j : ℕ). j < length names) (λ j h. omega arith) (places_of c.name 0 names) (places_inside c.name 0 names)) in
        subst (λ (ms : List ℕ). (length ms ≡ suc (length cs)) × AllByRecursion (λ (j : ℕ). j < length names) ms) q (ap suc long, (here, low))

-- a heading that is read is headed
heading_tells : (s : Section) (fs : List (List ℕ)) (c : Columns) → heading_in s fs ≡ Some c → Headed s c
heading_tells s [] c e = absurd (none_some c e)
heading_tells s (f ∷ names) c e = go (bytes_eq f (heading_name s)) (all_places (columns_of s) names) refl e
  where
    go : (t : Bool) (p : Option (List ℕ)) → all_places (columns_of s) names ≡ p
        → cond t (elim p as (λ _. Option Columns) [ Some js ↦ Some record { width = length names; at = js } | None ↦ None ]) None ≡ Some c
        → Headed s c
    go true (Some js) x e =
        let d : Columns = record { width = length names; at = js } in
        let q : d ≡ c = cc in
        let (long, low) = all_places_tell (columns_of s) names js x in
        let h : Headed s d = record { each = long; inside = low } in
        subst (Headed s) q h
    go true None x e = absurd (none_some c e)
    go false p x e = absurd (none_some c e)

-- ## Cells

-- what stands for a column that is none
abbrev pub no_column : Column
no_column = column [] byte

-- a row without unreadable fields: each field can be read
unreadable_tells : (cs : List Column) (at : List ℕ) (i : ℕ) (fs : List (List ℕ)) → unreadable cs at i fs ≡ None
    → (j : ℕ) → j < length fs → cell_reads cs at (i + j) (get_or fs j []) ≡ true
unreadable_tells cs at i [] e j lt = absurd (omega arith)
unreadable_tells cs at i (f ∷ fs) e zero lt =
    elim (cases_Bool (cell_reads cs at i f)) [
      | inl good ↦ let z : i ≡ i + 0 = omega arith in subst (λ k. cell_reads cs at k f ≡ true) z good
      | inr bad ↦ absurd (none_some i (sym (rw bad at e)))
    ]
unreadable_tells cs at i (f ∷ fs) e (suc j) lt =
    elim (cases_Bool (cell_reads cs at i f)) [
      | inl good ↦
          let z : i + 1 + j ≡ i + suc j = omega arith in
          subst (λ k. cell_reads cs at k (get_or fs j []) ≡ true) z (unreadable_tells cs at (i + 1) fs (rw good at e) j (omega arith))
      | inr bad ↦ absurd (none_some i (sym (rw bad at e)))
    ]

-- and where each can be read, none is unreadable
unreadable_from : (cs : List Column) (at : List ℕ) (i : ℕ) (fs : List (List ℕ))
    → ((j : ℕ) → j < length fs → cell_reads cs at (i + j) (get_or fs j []) ≡ true) → unreadable cs at i fs ≡ None
unreadable_from cs at i [] h = refl
unreadable_from cs at i (f ∷ fs) h =
    let z : i + 0 ≡ i = omega arith in
    let good : cell_reads cs at i f ≡ true = subst (λ k. cell_reads cs at k f ≡ true) z (h 0 (omega arith)) in
    rw good (unreadable_from cs at (i + 1) fs
    (λ j lt. let y : i + suc j ≡ i + 1 + j = omega arith in subst (λ k. cell_reads cs at k (get_or fs j []) ≡ true) y (h (suc j) (omega arith))))

-- a field that can be read: by each column that stands there
cell_tells : (cs : List Column) (at : List ℕ) (i : ℕ) (f : List ℕ) → cell_reads cs at i f ≡ true
    → (k : ℕ) → k < length cs → k < length at → get_or at k 0 ≡ i → readable (get_or cs k no_column).cell f ≡ true
cell_tells [] at i f h k a b e = absurd (omega arith)
cell_tells (c ∷ cs) [] i f h k a b e = absurd (omega arith)
cell_tells (c ∷ cs) (j ∷ at) i f h zero a b e =
    let here = (and_parts (not (eqb i j) || readable c.cell f) (cell_reads cs at i f) h).0 in
    rw (eq-eqb i j (sym e)) at here
cell_tells (c ∷ cs) (j ∷ at) i f h (suc k) a b e =
    cell_tells cs at i f (and_parts (not (eqb i j) || readable c.cell f) (cell_reads cs at i f) h).1 k (omega arith) (omega arith) e

-- and where each such column can read it, it can be read
cell_from : (cs : List Column) (at : List ℕ) (i : ℕ) (f : List ℕ)
    → ((k : ℕ) → k < length cs → k < length at → get_or at k 0 ≡ i → readable (get_or cs k no_column).cell f ≡ true) → cell_reads cs at i f ≡ true
cell_from [] at i f h = refl
cell_from (c ∷ cs) [] i f h = refl
cell_from (c ∷ cs) (j ∷ at) i f h =
    and_from (not (eqb i j) || readable c.cell f) (cell_reads cs at i f)
    (elim (cases_Bool (eqb i j)) [
      | inl same ↦ or_right (not (eqb i j)) (readable c.cell f) (h 0 (omega arith) (omega arith) (sym (eqb-true i j same)))
      | inr other ↦ or_left (not (eqb i j)) (readable c.cell f) (not_from_false (eqb i j) other)
    ])
    (cell_from cs at i f (λ k a b e. h (suc k) (omega arith) (omega arith) e))

-- ## Rows

-- the same cells make the same entry
row_entry_same : (s : Section) (c d : Columns) (fs gs : List (List ℕ)) → ((k : ℕ) → k < length (columns_of s) → cell_at c fs k ≡ cell_at d gs k)
    → row_entry s c fs ≡ row_entry s d gs
row_entry_same ports c d fs gs h =
    let a = h 0 (omega arith) in
    let b = h 1 (omega arith) in
    let e = h 2 (omega arith) in
    λ i. port_entry (record { number = unwrap_or (byte_in (a i)) 0; kind = unwrap_or (kind_in (b i)) End; rate = unwrap_or (word_in (e i)) 0 })
row_entry_same links c d fs gs h =
    let a = h 0 (omega arith) in
    let b = h 1 (omega arith) in
    let e = h 2 (omega arith) in
    let f = h 3 (omega arith) in
    λ i. link_entry (record { number = unwrap_or (word_in (a i)) 0; gap = unwrap_or (word_in (b i)) 0; shortest = unwrap_or (word_in (e i)) 0; longest = unwrap_or (word_in (f i)) 0 })
row_entry_same hops c d fs gs h =
    let a = h 0 (omega arith) in
    let b = h 1 (omega arith) in
    let e = h 2 (omega arith) in
    λ i. hop_entry (record { link = unwrap_or (word_in (a i)) 0; port = unwrap_or (byte_in (b i)) 0; after = unwrap_or (before_in (e i)) None })

module _ (s : Section) (c d : Columns) (headed : Headed s c) (fs gs : List (List ℕ)) (wide : length fs ≡ c.width) (long : length gs ≡ d.width)
    (cells : (k : ℕ) → k < length (columns_of s) → cell_at c fs k ≡ cell_at d gs k) where
  -- what the one row has readable the other has too
  readable_same : unreadable (columns_of s) c.at 0 fs ≡ None → unreadable (columns_of s) d.at 0 gs ≡ None
  readable_same none =
      unreadable_from (columns_of s) d.at 0 gs
      (λ j lt. cell_from (columns_of s) d.at (0 + j) (get_or gs j []) (λ k a b e.
      let place : ℕ = get_or c.at k 0 in
      let there : k < length c.at = omega (arith, headed.each) in
      let low : place < c.width = All-get_or (λ (i : ℕ). i < c.width) c.at k 0 there headed.inside in
      let z : place ≡ 0 + place = omega arith in
      let reads = cell_tells (columns_of s) c.at (0 + place) (get_or fs place []) (unreadable_tells (columns_of s) c.at 0 fs none place (omega arith)) k a there z in
      let y : get_or d.at k 0 ≡ j = omega arith in
      let same : get_or fs place [] ≡ get_or gs j [] = cells k a ∙ ap (λ (i : ℕ). get_or gs i []) y in
      subst (λ (f : List ℕ). readable (get_or (columns_of s) k no_column).cell f ≡ true) same reads))

  -- and they make the same entry
  entry_same : (n : ℕ) (e : Entry) → entry_in s c n fs ≡ Ok e → entry_in s d n gs ≡ Ok e
  entry_same n e h = go (unreadable (columns_of s) c.at 0 fs) refl (rw (eq-eqb (length fs) c.width wide) at h)
    where
      go : (o : Option ℕ) → unreadable (columns_of s) c.at 0 fs ≡ o
          → elim o as (λ _. Result Entry Refusal) [ None ↦ Ok (row_entry s c fs) | Some i ↦ Err (FieldUnreadable n (i + 1)) ] ≡ Ok e
          → entry_in s d n gs ≡ Ok e
      go None x h =
          ap (λ (t : Bool). cond t (elim (unreadable (columns_of s) d.at 0 gs) as (λ _. Result Entry Refusal) [ None ↦ Ok (row_entry s d gs) | Some i ↦ Err (FieldUnreadable n (i + 1)) ]) (Err (FieldCountWrong n)))
          (eq-eqb (length gs) d.width long)
          ∙ ap (λ (o : Option ℕ). elim o as (λ _. Result Entry Refusal) [ None ↦ Ok (row_entry s d gs) | Some i ↦ Err (FieldUnreadable n (i + 1)) ]) (readable_same x)
          ∙ ap (λ (f : Entry). Ok f) (sym (row_entry_same s c d fs gs cells))
          ∙ h
      go (Some i) x h = absurd (err_ok (FieldUnreadable n (i + 1)) e h)

-- ## Lines

abbrev pub Alike : Stage → Stage → Type 0
Alike begun begun = Unit {0}
Alike begun titled = ⊥
Alike begun (within t d) = ⊥
Alike titled begun = ⊥
Alike titled titled = Unit {0}
Alike titled (within t d) = ⊥
Alike (within s c) begun = ⊥
Alike (within s c) titled = ⊥
Alike (within s c) (within t d) = (s ≡ t) × Headed s c

-- whether all headings were read does not depend on the columns
complete_columns : (s : Section) (c d : Columns) → complete (within s c) ≡ complete (within s d)
complete_columns ports c d = refl
complete_columns links c d = refl
complete_columns hops c d = refl

-- so that of stages alike both are complete or none
alike_complete : (s t : Stage) → Alike s t → complete t ≡ complete s
alike_complete begun begun a = refl
alike_complete begun titled a = absurd a
alike_complete begun (within t d) a = absurd a
alike_complete titled begun a = absurd a
alike_complete titled titled a = refl
alike_complete titled (within t d) a = absurd a
alike_complete (within s c) begun a = absurd a
alike_complete (within s c) titled a = absurd a
alike_complete (within s c) (within t d) a = complete_columns t d c ∙ ap (λ (x : Section). complete (within x c)) (sym a.0)

-- a mark that is read leaves the records
mark_tells : (n : ℕ) (q : Records) (l : List ℕ) (u : Seen) → read_mark n q l ≡ Ok u → u ≡ seen titled q
mark_tells n q l u h = go (version_in (fields l)) h
  where
    known : (t : Bool) → cond t (Ok (seen titled q)) (Err (VersionUnknown n)) ≡ Ok u → u ≡ seen titled q
    known true h = sym (ok_same (seen titled q) u h)
    known false h = absurd (err_ok (VersionUnknown n) u h)

    go : (o : Option ℕ)
        → elim o as (λ _. Result Seen Refusal) [ Some v ↦ cond (eqb v 1) (Ok (seen titled q)) (Err (VersionUnknown n)) | None ↦ Err (MarkMissing n) ] ≡ Ok u
        → u ≡ seen titled q
    go (Some v) h = known (eqb v 1) h
    go None h = absurd (err_ok (MarkMissing n) u h)

-- a heading that is read
heading_reads : (s : Section) (n : ℕ) (q : Records) (l : List ℕ) (c : Columns) → heading_in s (fields l) ≡ Some c → read_heading s n q l ≡ Ok (seen (within s c) q)
heading_reads s n q l c h =
    ap (λ (o : Option Columns). elim o as (λ _. Result Seen Refusal) [ Some d ↦ Ok (seen (within s d) q) | None ↦ Err (HeadingWrong n) ]) h

-- the heading of the next section
next_heading_reads : (pl : Places) (s t : Section) (a c : Columns) (n : ℕ) (q : Records) (l : List ℕ)
    → section_after s ≡ Some t → is_heading l ≡ true → heading_in t (fields l) ≡ Some c
    → read_line pl n (within s a) q l ≡ Ok (seen (within t c) q)
next_heading_reads pl s t a c n q l after is h =
    rw is
    (ap (λ (o : Option Section). elim o as (λ _. Result Seen Refusal) [ Some x ↦ read_heading x n q l | None ↦ Err (HeadingWrong n) ]) after
    ∙ heading_reads t n q l c h)

-- lines of which the first is read: what it came to, and the rest
lines_tell : (pl : Places) (n : ℕ) (s u : Seen) (l : List ℕ) (ls : List (List ℕ)) → read_lines pl n s (l ∷ ls) ≡ Ok u
    → (t : Seen) × (read_line pl n s.stage s.records l ≡ Ok t) × (read_lines pl (n + 1) t ls ≡ Ok u)
lines_tell pl n s u l ls h = go (read_line pl n s.stage s.records l) refl h
  where
    go : (o : Result Seen Refusal) → read_line pl n s.stage s.records l ≡ o
        → elim o as (λ _. Result Seen Refusal) [ Ok t ↦ read_lines pl (n + 1) t ls | Err f ↦ Err f ] ≡ Ok u
        → (t : Seen) × (read_line pl n s.stage s.records l ≡ Ok t) × (read_lines pl (n + 1) t ls ≡ Ok u)
    go (Ok t) e h = (t, e, h)
    go (Err f) e h = absurd (err_ok f u h)

-- a row that is read makes an entry that meets no ground
row_tells : (pl : Places) (s : Section) (c : Columns) (n : ℕ) (q : Records) (l : List ℕ) (u : Seen) → is_heading l ≡ false
    → read_line pl n (within s c) q l ≡ Ok u
    → (e : Entry) × (entry_in s c n (fields l) ≡ Ok e) × (entry_ground pl q e ≡ None) × (u ≡ seen (within s c) (entered q e))
row_tells pl s c n q l u plain h = go (entry_in s c n (fields l)) refl (rw plain at h)
  where
    met : (e : Entry) → entry_in s c n (fields l) ≡ Ok e → (o : Option Refusal) → entry_ground pl q e ≡ o
        → elim o as (λ _. Result Seen Refusal) [ None ↦ Ok (seen (within s c) (entered q e)) | Some g ↦ Err (EntryRefused n (number g)) ] ≡ Ok u
        → (e : Entry) × (entry_in s c n (fields l) ≡ Ok e) × (entry_ground pl q e ≡ None) × (u ≡ seen (within s c) (entered q e))
    met e x None y h = (e, x, y, sym (ok_same (seen (within s c) (entered q e)) u h))
    met e x (Some g) y h = absurd (err_ok (EntryRefused n (number g)) u h)

    go : (o : Result Entry Refusal) → entry_in s c n (fields l) ≡ o
        → elim o as (λ _. Result Seen Refusal) [
          | Ok e ↦ elim (entry_ground pl q e) as (λ _. Result Seen Refusal) [ None ↦ Ok (seen (within s c) (entered q e)) | Some g ↦ Err (EntryRefused n (number g)) ]
          | Err f ↦ Err f
        ] ≡ Ok u
        → (e : Entry) × (entry_in s c n (fields l) ≡ Ok e) × (entry_ground pl q e ≡ None) × (u ≡ seen (within s c) (entered q e))
    go (Ok e) x h = met e x (entry_ground pl q e) refl h
    go (Err f) x h = absurd (err_ok f u h)

-- what the lines of both texts come to
abbrev pub Comes : Places → ℕ → Stage → Records → List (List ℕ) → Seen → Type 0
Comes pl n t q ms u = (v : Seen) × (read_lines pl n (seen t q) ms ≡ Ok v) × (v.records ≡ u.records) × (complete v.stage ≡ complete u.stage)

-- a line of the other text that is read, and what the rest comes to
comes_next : (pl : Places) (n : ℕ) (t x : Stage) (q p : Records) (m : List ℕ) (ms : List (List ℕ)) (u : Seen)
    → read_line pl n t q m ≡ Ok (seen x p) → Comes pl (n + 1) x p ms u → Comes pl n t q (m ∷ ms) u
comes_next pl n t x q p m ms u h (v, e, r, c) = (v, lines_next pl (seen t q) (seen x p) m ms n h ∙ e, r, c)

-- lines that come to something, rearranged, come to the same
same_lines : (pl : Places) {s t : Stage} {ls ms : List (List ℕ)} → Rearranged s t ls ms → Alike s t → (n : ℕ) (q : Records) (u : Seen)
    → read_lines pl n (seen s q) ls ≡ Ok u → Comes pl n t q ms u
same_lines pl (Rearranged.ends {s} {t}) a n q u h =
    let e = ok_same (seen s q) u h in
    (seen t q, refl, ap (λ (x : Seen). x.records) e, alike_complete s t a ∙ ap (λ (x : Seen). complete x.stage) e)
same_lines pl (Rearranged.mark {l} {ls} {ms} z) a n q u h =
    let (x, e, k) = lines_tell pl n (seen begun q) u l ls h in
    let y = mark_tells n q l x e in
    comes_next pl n begun titled q q l ms u (e ∙ ap (λ (o : Seen). Ok o) y)
    (same_lines pl z tt (n + 1) q u (ap (λ (o : Seen). read_lines pl (n + 1) o ls) (sym y) ∙ k))
same_lines pl (Rearranged.first_heading {c} {d} {l} {m} {ls} {ms} hc hd z) a n q u h =
    let e = heading_reads ports n q l c hc in
    comes_next pl n titled (within ports d) q q m ms u (heading_reads ports n q m d hd)
    (same_lines pl z (refl, heading_tells ports (fields l) c hc) (n + 1) q u (sym (lines_next pl (seen titled q) (seen (within ports c) q) l ls n e) ∙ h))
same_lines pl (Rearranged.next_heading {s} {t} {a} {b} {c} {d} {l} {m} {ls} {ms} after hl hm hc hd z) k n q u h =
    let e = next_heading_reads pl s t a c n q l after hl hc in
    comes_next pl n (within s b) (within t d) q q m ms u (next_heading_reads pl s t b d n q m after hm hd)
    (same_lines pl z (refl, heading_tells t (fields l) c hc) (n + 1) q u (sym (lines_next pl (seen (within s a) q) (seen (within t c) q) l ls n e) ∙ h))
same_lines pl (Rearranged.row {s} {c} {d} {l} {m} {ls} {ms} hl hm wide long cells z) a n q u h =
    let (x, e, k) = lines_tell pl n (seen (within s c) q) u l ls h in
    let (f, i, g, y) = row_tells pl s c n q l x hl e in
    let j = entry_same s c d a.1 (fields l) (fields m) wide long cells n f i in
    comes_next pl n (within s d) (within s d) q (entered q f) m ms u (row_reads pl s d q m f n hm j g)
    (same_lines pl z a (n + 1) (entered q f) u (ap (λ (o : Seen). read_lines pl (n + 1) o ls) (sym y) ∙ k))

-- ## Texts

-- a text that is read has no stray byte, is finished, and its lines are read
reading_tells : (pl : Places) (text : List ℕ) (r : Records) → reading pl text ≡ Ok r → reading_lines pl (lines text) ≡ Ok r
reading_tells pl text r h = go (stray 1 text) h
  where
    done : (b : Bool) → cond b (reading_lines pl (lines text)) (Err (LineUnfinished (line_feeds text + 1))) ≡ Ok r → reading_lines pl (lines text) ≡ Ok r
    done true h = h
    done false h = absurd (err_ok (LineUnfinished (line_feeds text + 1)) r h)

    go : (o : Option ℕ)
        → elim o as (λ _. Result Records Refusal) [
          | Some n ↦ Err (ByteForbidden n)
          | None ↦ cond (finished text) (reading_lines pl (lines text)) (Err (LineUnfinished (line_feeds text + 1)))
        ] ≡ Ok r
        → reading_lines pl (lines text) ≡ Ok r
    go (Some n) h = absurd (err_ok (ByteForbidden n) r h)
    go None h = done (finished text) h

-- lines that are read come to all three sections and the records
reading_lines_tell : (pl : Places) (ls : List (List ℕ)) (r : Records) → reading_lines pl ls ≡ Ok r
    → (s : Seen) × (read_lines pl 1 (seen begun no_records) ls ≡ Ok s) × (s.records ≡ r) × (complete s.stage ≡ true)
reading_lines_tell pl ls r h = go (read_lines pl 1 (seen begun no_records) ls) refl h
  where
    done : (s : Seen) → read_lines pl 1 (seen begun no_records) ls ≡ Ok s → (b : Bool) → complete s.stage ≡ b
        → cond b (Ok s.records) (Err (HeadingWrong (length ls + 1))) ≡ Ok r
        → (s : Seen) × (read_lines pl 1 (seen begun no_records) ls ≡ Ok s) × (s.records ≡ r) × (complete s.stage ≡ true)
    done s e true c h = (s, e, ok_same s.records r h, c)
    done s e false c h = absurd (err_ok (HeadingWrong (length ls + 1)) r h)

    go : (o : Result Seen Refusal) → read_lines pl 1 (seen begun no_records) ls ≡ o
        → elim o as (λ _. Result Records Refusal) [
          | Ok t ↦ cond (complete t.stage) (Ok t.records) (Err (HeadingWrong (length ls + 1)))
          | Err f ↦ Err f
        ] ≡ Ok r
        → (s : Seen) × (read_lines pl 1 (seen begun no_records) ls ≡ Ok s) × (s.records ≡ r) × (complete s.stage ≡ true)
    go (Ok t) e h = done t e (complete t.stage) refl h
    go (Err f) e h = absurd (err_ok f r h)

-- columns in another order, or with others beside them, read the same
pub rearranged_text_reads_the_same : RearrangedTextReadsTheSame
rearranged_text_reads_the_same pl a b s f z r h =
    let (u, e, x, c) = reading_lines_tell pl (lines a) r (reading_tells pl a r h) in
    let (v, k, y, d) = same_lines pl z tt 1 no_records u e in
    reading_is pl b s f ∙ reading_lines_is pl (lines b) v k (d ∙ c) ∙ ap (λ (q : Records). Ok q) (y ∙ x)
