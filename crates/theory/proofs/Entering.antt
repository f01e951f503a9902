-- Entering: a list of lines that each enter an item, read one after the other.
--
--   Reads pl s ls t                reading the lines ls after s comes to t, whatever the number of the next line
--   Filling lt wt all got rest     of the items of all, ascending by lt, those of got are entered, and those of rest follow in the order wt
use Rattle.std.proofs.Common.{◌≡◌, ℕ, ◌+◌, Bool, true, false, ◌⊎◌, List, [], ◌∷◌, ◌++◌, map, length, Some, None, Ok, Err, Option, Result, sym, refl, ap, ◌∙◌, subst, inl, inr, arith}
use Rattle.std.proofs.lemmas.Bool.{both_ways}
use Rattle.definitions.specs.declared.refusals.Refusal.{Refusal}
use Rattle.definitions.specs.declared.refusals.Refusal.TheVariants.{EntryRefused}
use Rattle.definitions.specs.Refusals.{number}
use Rattle.definitions.specs.Lists.{In}
use Rattle.definitions.specs.Network.{Records}
use Rattle.definitions.specs.Entries.{Places, Entry, entry_ground, entered, placed}
use Rattle.definitions.specs.Text.{Section, Columns, Stage, within, Seen, seen, fields, is_heading, entry_in, read_line, read_lines}
use Rattle.theory.proofs.Sorting.{Strict, Ascends, Same, compared, same_lists, length_placed, placed_tells, placed_from, placed_ascends}

-- ## Lines

abbrev pub Reads : Places → Seen → List (List ℕ) → Seen → Type 0
Reads pl s ls t = (n : ℕ) → read_lines pl n s ls ≡ Ok t

-- a line that is read, and those after it
pub lines_next : (pl : Places) (s t : Seen) (l : List ℕ) (ls : List (List ℕ)) (n : ℕ)
    → read_line pl n s.stage s.records l ≡ Ok t → read_lines pl n s (l ∷ ls) ≡ read_lines pl (n + 1) t ls
lines_next pl s t l ls n h =
    ap (λ (o : Result Seen Refusal). elim o as (λ _. Result Seen Refusal) [ Ok v ↦ read_lines pl (n + 1) v ls | Err f ↦ Err f ]) h

-- the same, whatever the number of the line
pub reads_line : (pl : Places) (s t u : Seen) (l : List ℕ) (ls : List (List ℕ))
    → ((n : ℕ) → read_line pl n s.stage s.records l ≡ Ok t) → Reads pl t ls u → Reads pl s (l ∷ ls) u
reads_line pl s t u l ls h k n = lines_next pl s t l ls n (h n) ∙ k (n + 1)

-- a row that makes an entry that meets no ground
pub row_reads : (pl : Places) (s : Section) (c : Columns) (r : Records) (l : List ℕ) (e : Entry) (n : ℕ)
    → is_heading l ≡ false → entry_in s c n (fields l) ≡ Ok e → entry_ground pl r e ≡ None
    → read_line pl n (within s c) r l ≡ Ok (seen (within s c) (entered r e))
row_reads pl s c r l e n no-heading h ground =
    let G : Entry → Option Refusal → Result Seen Refusal =
    λ f o. elim o as (λ _. Result Seen Refusal) [ None ↦ Ok (seen (within s c) (entered r f)) | Some g ↦ Err (EntryRefused n (number g)) ] in
    rw no-heading
    (ap (λ (o : Result Entry Refusal). elim o as (λ _. Result Seen Refusal) [ Ok f ↦ G f (entry_ground pl r f) | Err f ↦ Err f ]) h
    ∙ ap (G e) ground)

-- ## Filling

pub record Filling {X : Type 0} (lt wt : X → X → Bool) (all got rest : List X) : Type 0 where
  pub ascend : Ascends lt got
  pub onward : Ascends wt rest
  pub apart : (y z : X) → In y got → In z rest → wt y z ≡ true
  pub got_known : (z : X) → In z got → In z all
  pub rest_known : (z : X) → In z rest → In z all
  pub none_lost : (z : X) → In z all → In z got ⊎ In z rest
  pub count : length got + length rest ≡ length all

-- at first nothing is entered
pub filling_start : {X : Type 0} (lt wt : X → X → Bool) (all rest : List X) → Ascends wt rest → Same rest all → length rest ≡ length all
    → Filling lt wt all [] rest
filling_start lt wt all rest a m l = record {
  ascend = tt;
  onward = a;
  apart = λ y z i j. absurd i;
  got_known = λ z i. absurd i;
  rest_known = m.0;
  none_lost = λ z i. inr (m.1 z i);
  count = omega arith;
}

-- the next item compares with all that are entered
pub filling_apart : {X : Type 0} (lt wt : X → X → Bool) → Strict wt → (all : List X) → Ascends lt all → (got rest : List X) (x : X)
    → Filling lt wt all got (x ∷ rest) → (y : X) → In y got → (lt x y ≡ true) ⊎ (lt y x ≡ true)
filling_apart lt wt s all a got rest x f y i =
    elim (compared lt all a x y (f.rest_known x (inl refl)) (f.got_known y i)) [
      | inl e ↦ absurd (both_ways (wt x x) (s.never_itself x) (ap (λ w. wt w x) e ∙ f.apart y x i (inl refl)))
      | inr c ↦ c
    ]

-- the next item is entered
filling_next : {X : Type 0} (lt wt : X → X → Bool) → Strict lt → Strict wt → (all : List X) → Ascends lt all → (got rest : List X) (x : X)
    → Filling lt wt all got (x ∷ rest) → Filling lt wt all (placed lt x got) rest
filling_next {X} lt wt s t all a got rest x f = record {
  ascend = placed_ascends lt s x got f.ascend (filling_apart lt wt t all a got rest x f);
  onward = f.onward.1;
  apart = λ y z i j. before y z j (placed_tells lt x got y i);
  got_known = λ z i. known z (placed_tells lt x got z i);
  rest_known = λ z i. f.rest_known z (inr i);
  none_lost = λ z i. kept z (f.none_lost z i);
  count = omega (arith, length_placed lt x got, f.count);
}
  where
    before : (y z : X) → In z rest → (y ≡ x) ⊎ In y got → wt y z ≡ true
    before y z j (inl e) = ap (λ w. wt w z) e ∙ f.onward.0 z j
    before y z j (inr i) = f.apart y z i (inr j)

    known : (z : X) → (z ≡ x) ⊎ In z got → In z all
    known z (inl e) = f.rest_known z (inl e)
    known z (inr i) = f.got_known z i

    kept : (z : X) → In z got ⊎ In z (x ∷ rest) → In z (placed lt x got) ⊎ In z rest
    kept z (inl i) = inl (placed_from lt x got z (inr i))
    kept z (inr (inl e)) = inl (placed_from lt x got z (inl e))
    kept z (inr (inr j)) = inr j

-- at last all are entered
filling_end : {X : Type 0} (lt wt : X → X → Bool) → Strict lt → (all : List X) → Ascends lt all → (got : List X) → Filling lt wt all got [] → got ≡ all
filling_end {X} lt wt s all a got f = same_lists lt s got all f.ascend a (f.got_known, λ z i. kept z (f.none_lost z i))
  where
    kept : (z : X) → In z got ⊎ In z [] → In z got
    kept z (inl i) = i
    kept z (inr j) = absurd j

-- where each of the lines enters its item, all are entered in the order of keys
pub reads_rows : {X : Type 0} (lt wt : X → X → Bool) → Strict lt → Strict wt → (all : List X) → Ascends lt all
    → (pl : Places) (s : Stage) (holding : List X → Records) (line : X → List ℕ)
    → ((got rest : List X) (x : X) → Filling lt wt all got (x ∷ rest) → (n : ℕ) → read_line pl n s (holding got) (line x) ≡ Ok (seen s (holding (placed lt x got))))
    → (ls : List (List ℕ)) (u : Seen) → Reads pl (seen s (holding all)) ls u
    → (rest got : List X) → Filling lt wt all got rest → Reads pl (seen s (holding got)) (map line rest ++ ls) u
reads_rows lt wt o p all a pl s holding line one ls u k [] got f =
    subst (λ g. Reads pl (seen s (holding g)) ls u) (sym (filling_end lt wt o all a got f)) k
reads_rows lt wt o p all a pl s holding line one ls u k (x ∷ rest) got f =
    reads_line pl (seen s (holding got)) (seen s (holding (placed lt x got))) u (line x) (map line rest ++ ls) (one got rest x f)
    (reads_rows lt wt o p all a pl s holding line one ls u k rest (placed lt x got) (filling_next lt wt o p all a got rest x f))
