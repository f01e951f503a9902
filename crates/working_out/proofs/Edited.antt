-- Changing the rows of a register, place by place, under their keys, and the rows of a table.
use Rattle.std.proofs.Common.{◌≡◌, ℕ, zero, suc, ◌+◌, ◌<◌, ◌≤◌, Bool, true, List, [], ◌∷◌, ◌++◌, map, length, length-take, get_or, take, drop, set, Some, Ok, Err, sym, refl, ap, ◌∙◌, inl, inr, arith}
use Rattle.std.specs.List.{slice_get}
use Rattle.std.proofs.lemmas.List.Edits.{map_over_more}
use Rattle.std.proofs.lemmas.Grind.{common_steps}
use Rattle.std.proofs.lemmas.Option.{slice_get_within, get_or_from_slice_get, gets}
use Rattle.register.specs.Registers.{RegisterBy, rows, room, by_key, Found, Replacing}
use Rattle.std.proofs.lemmas.Bool.{and_parts}
use Rattle.definitions.specs.Lists.{In, every, ascending}
use Rattle.register.specs.Orders.{ExactlyOne}
use Rattle.std.proofs.lemmas.List.{get_or-take}
use Rattle.register.proofs.Exits.{rows_set}
use Rattle.register.proofs.Sorted.{before_apart, getD_in, none_under}
use Rattle.theory.proofs.Lookups.{in_every}
use Rattle.working_out.proofs.Under.{under_here, under_other}
use Rattle.register.specs.declared.tables.Table.{Table}
use Rattle.register.specs.Tables.{rows as table_rows, room as table_room}
use Rattle.working_out.specs.Edits.{KeepsKey, EditsAll, EditsRows, EditsUnder, edited_under}

module _ {R K : Type 0} (lt : K → K → Bool) (key : R → K) where
  -- a replacement, made or not, leaves the places and the count
  pub room_replaced : (i : ℕ) (y : R) (t u : RegisterBy lt key) (b : Bool) → Replacing lt key i y t u b → room u ≡ room t
  room_replaced i y t u b h = grind arith

  pub length_replaced : (i : ℕ) (y : R) (t u : RegisterBy lt key) (b : Bool) → Replacing lt key i y t u b → length (rows u) ≡ length (rows t)
  length_replaced i y t u b h = grind (arith, common_steps)

  -- the rows before the place i are changed by f, the others as they were
  abbrev pub Changed : (R → R) → RegisterBy lt key → ℕ → RegisterBy lt key → Type 0
  Changed f t i u = (room u ≡ room t) × (KeepsKey key f → rows u ≡ map f (take i (rows t)) ++ drop i (rows t)) × (length (rows u) ≡ length (rows t))

  pub same_key : (f : R → R) → KeepsKey key f → (u v : RegisterBy lt key) (i : ℕ) (x y : R) (b : Bool)
      → Some x ≡ slice_get (rows u) i → y ≡ f x → Replacing lt key i y u v b → rows v ≡ set (rows u) i (f x)
  same_key f same u v i x y b is e h = grind (arith, gets, same x)

  pub one_changed : (f : R → R) (t u v : RegisterBy lt key) (i : ℕ) (x y : R) (b : Bool)
      → Some x ≡ slice_get (rows u) i → y ≡ f x → Changed f t i u → Replacing lt key i y u v b → Changed f t (i + 1) v
  one_changed f t u v i x y b is e (room, rows_are, long) h = (
    room_replaced i y u v b h ∙ room,
    λ same. same_key f same u v i x y b is e h
        ∙ map_over_more f (rows t) (rows u) i x (omega (arith, slice_get_within (rows u) i x (sym is), long)) (rows_are same) (sym (get_or_from_slice_get (rows u) i x x (sym is))),
    length_replaced i y u v b h ∙ long,
  )

  -- after the last place all are changed
  pub all_changed : (f : R → R) (t u : RegisterBy lt key) (i : ℕ) → length (rows t) ≤ i → Changed f t i u → EditsAll lt key f t u
  all_changed f t u i le (room, rows_are, long) = record {
    same_room = room;
    edited = λ same. grind (arith, common_steps, rows_are same);
  }

-- ## The row under a key

module _ {R K : Type 0} (lt : K → K → Bool) (key : R → K) (one : (a b : K) → ExactlyOne (lt a b ≡ true) (a ≡ b) (lt b a ≡ true)) (k : K) (f : R → R) where
  -- rows under other keys are left
  pub others : (xs : List R) → ((r : R) → In r xs → ¬ (key r ≡ k)) → xs ≡ map (edited_under lt key k f) xs
  others [] h = refl
  others (x ∷ xs) h = rw (under_other lt key one k f x (h x (inl refl)), sym (others xs (λ r i. h r (inr i))))

  -- the row at the place is the one under the key
  pub set_under : (xs : List R) (i : ℕ) (d : R) → ascending (by_key lt key) xs ≡ true → i < length xs → key (get_or xs i d) ≡ k
      → set xs i (f (get_or xs i d)) ≡ map (edited_under lt key k f) xs
  set_under [] i d up l e = absurd (omega arith)
  set_under (x ∷ xs) zero d up l e =
      let first : every (by_key lt key x) xs ≡ true = grind arith in
      rw (under_here lt key one k f x e, sym (others xs (λ r i same. before_apart lt one (key x) (key r) (in_every (by_key lt key x) xs first r i) (e ∙ sym same))))
  set_under (x ∷ xs) (suc i) d up l e =
      let (first, rest) = and_parts (every (by_key lt key x) xs) (ascending (by_key lt key) xs) up in
      let less = in_every (by_key lt key x) xs first (get_or xs i d) (getD_in xs i d (omega arith)) in
      rw (under_other lt key one k f x (λ same. before_apart lt one (key x) (key (get_or xs i d)) less (same ∙ sym e)), set_under xs i d rest (omega arith) e)

module _ {R K : Type 0} (lt : K → K → Bool) (key : R → K) (tri : (a b : K) → ExactlyOne (lt a b ≡ true) (a ≡ b) (lt b a ≡ true)) where
  pub under_changed : (f : R → R) (k : K) (t u : RegisterBy lt key) (i : ℕ) (x y : R) (b : Bool)
      → Found lt key (rows t) k (Ok i) → Some x ≡ slice_get (rows t) i → y ≡ f x → Replacing lt key i y t u b → EditsUnder lt key k f t u
  under_changed f k t u i x y b found is e h = record {
    same_room = room_replaced lt key i y t u b h;
    edited = λ same.
        same_key lt key f same t u i x y b is e h
        ∙ ap (λ z. set (rows t) i (f z)) (sym (get_or_from_slice_get (rows t) i x x (sym is)))
        ∙ set_under lt key tri k f (rows t) i x t.ascends found.0 (found.1 x);
  }

  pub under_none : (f : R → R) (k : K) (t : RegisterBy lt key) (i : ℕ) → Found lt key (rows t) k (Err i) → EditsUnder lt key k f t t
  under_none f k t i found = record {
    same_room = refl;
    edited = λ same. others lt key tri k f (rows t) (none_under lt tri key k (rows t) i found.1 found.2);
  }

-- ## The rows of a table, whatever their order

module _ {R : Type 0} (f : R → R) (t : Table R) where
  -- the rows before the place i are changed by f, the others as they were
  abbrev pub ChangedRows : ℕ → List R → Type 0
  ChangedRows i xs = xs ≡ map f (take i (table_rows t)) ++ drop i (table_rows t)

  pub row_changed : (u : Table R) (i : ℕ) (x y : R) → u.len ≡ t.len → table_room u ≡ table_room t → i < length (table_rows t)
      → x ≡ get_or u.places.now i x → y ≡ f x → ChangedRows i (table_rows u) → ChangedRows (i + 1) (take u.len (set u.places.now i y))
  row_changed u i x y count places lt is made e =
      let long : length (table_rows u) ≡ length (table_rows t) = length-take u.len u.places.now ∙ omega (arith, count, places) ∙ sym (length-take t.len t.places.now) in
      rows_set u.places.now u.len i y (omega (arith, long, lt))
      ∙ ap (set (table_rows u) i) made
      ∙ map_over_more f (table_rows t) (table_rows u) i x lt e (is ∙ sym (get_or-take u.len u.places.now i x (omega (arith, length-take t.len t.places.now))))

  pub rows_changed : (u : Table R) (i : ℕ) → length (table_rows t) ≤ i → u.len ≡ t.len → table_room u ≡ table_room t → ChangedRows i (table_rows u) → EditsRows f t u
  rows_changed u i le count places e = record {
    same_count = count;
    same_room = places;
    edited = grind (arith, common_steps, e);
  }
