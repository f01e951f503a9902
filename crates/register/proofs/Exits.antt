-- What each exit of a call on a table leaves.
use Rattle.std.proofs.Common.{◌≡◌, ℕ, ◌+◌, ◌-◌, ◌<◌, ◌≤◌, min, Bool, true, false, List, ◌++◌, length, get_or, take, drop, set, Some, Ok, Err, Ordering, Less, Equal, Greater, sym, refl, ap, ◌∙◌, subst, arith, length-take}
use lib.Seq.{take-set-lt}
use Rattle.std.specs.List.{AllByRecursion, insert, slice_get}
use Rattle.std.specs.Ordering.{is_ne}
use Rattle.std.proofs.lemmas.Option.{get_or_from_slice_get}
use Rattle.std.proofs.lemmas.Bool.{true≢false}
use Rattle.definitions.specs.Lists.{ascending}
use Rattle.register.specs.declared.tables.Table.{Table}
use Rattle.register.specs.declared.tables.NotInserted.TheVariants.{Present, Full}
use Rattle.register.specs.Orders.{ExactlyOne, compare}
use Rattle.register.specs.Tables.{rows, room, by_key, Ordered, Found, Kept, Inserting, Removing}
use Rattle.register.proofs.Rows.{take_count}
use Rattle.register.proofs.Searching.{compare_is, compare_says}
use Rattle.register.proofs.Sorted.{getD_in, placed_is, inserted_ascends, none_there, without_ascends}

-- an unchanged table
pub kept_same : {R K : Type 0} (lt : K → K → Bool) (key : R → K) (t : Table R) → Kept lt key t t
kept_same lt key t = record { same_room = refl; fits = λ h. h; order = λ o. o }

-- ## Inserting

module _ {R K : Type 0} (lt : K → K → Bool) (key : R → K) (one : (a b : K) → ExactlyOne (lt a b ≡ true) (a ≡ b) (lt b a ≡ true))
    (most : ℕ) (x : R) (k : K) (is : k ≡ key x) (t : Table R) (i : ℕ) where
  pub present : (Ordered lt key t → Found lt key (rows t) k (Ok i)) → Ordered lt key t → Inserting lt key most x t t (Err Present)
  present f o = (refl, (get_or (rows t) i x, getD_in (rows t) i x (f o).0, (f o).1 x ∙ is))

  module _ (n : ℕ) (count : n ≡ length (rows t)) (f : Ordered lt key t → Found lt key (rows t) k (Err i)) (o : Ordered lt key t) where
    smaller : AllByRecursion (λ y. lt (key y) (key x) ≡ true) (take i (rows t))
    smaller = subst (λ (z : K). AllByRecursion (λ y. lt (key y) z ≡ true) (take i (rows t))) is (f o).1

    larger : AllByRecursion (λ y. lt (key x) (key y) ≡ true) (drop i (rows t))
    larger = subst (λ (z : K). AllByRecursion (λ y. lt z (key y) ≡ true) (drop i (rows t))) is (f o).2

    pub full_up : min (room t) most ≤ n → Inserting lt key most x t t (Err Full)
    full_up no_place = (refl, omega arith, none_there lt one key x (rows t) i smaller larger)

    one_more : (u : Table R) → rows u ≡ insert (rows t) i x → Kept lt key t u → n < min (room t) most → Inserting lt key most x t u (Ok tt)
    one_more u new kept less =
        (kept, omega arith, none_there lt one key x (rows t) i smaller larger, new ∙ sym (placed_is lt one key x (rows t) i smaller larger))

    in_order : (u : Table R) → rows u ≡ insert (rows t) i x → Ordered lt key u
    in_order u new = ap (ascending (by_key lt key)) new ∙ inserted_ascends lt one key x (rows t) i smaller larger o

  pub added : (n : ℕ) → n ≡ length (rows t) → (Ordered lt key t → Found lt key (rows t) k (Err i)) → (u : Table R) → n < min (room t) most → room u ≡ room t
      → u.len ≡ n + 1 → take (n + 1) u.places.now ≡ insert (take n t.places.now) i x
      → (Ordered lt key t → Inserting lt key most x t u (Ok tt)) × Kept lt key t u
  added n count f u less same long h =
      let new : rows u ≡ insert (rows t) i x = ap (λ m. take m u.places.now) long ∙ h ∙ ap (λ l. insert l i x) (take_count t n count) in
      let kept : Kept lt key t u = record { same_room = same; fits = λ z. omega arith; order = λ o. in_order n count f o u new } in
      ((λ o. one_more n count f o u new kept less), kept)

-- ## Replacing

module _ {R K : Type 0} (lt : K → K → Bool) (key : R → K) (one : (a b : K) → ExactlyOne (lt a b ≡ true) (a ≡ b) (lt b a ≡ true))
    (rs : List R) (i : ℕ) (x old : R) (b : K) (there : Some old ≡ slice_get rs i) (b-is : b ≡ key x) (o : Ordering) (stands : o ≡ compare lt (key old) b) where
  pub other_key : is_ne o ≡ true → ¬ (key (get_or rs i x) ≡ key x)
  other_key ne e =
      let same : key old ≡ b = ap key (sym (get_or_from_slice_get rs i old x (sym there))) ∙ e ∙ sym b-is in
      let equal : o ≡ Equal = stands ∙ sym (compare_is lt one (key old) b Equal same) in
      true≢false (sym ne ∙ ap is_ne equal)

  pub same_key : is_ne o ≡ false → key (get_or rs i x) ≡ key x
  same_key eq = ap key (get_or_from_slice_get rs i old x (sym there)) ∙ go o eq stands
    where
      go : (o : Ordering) → is_ne o ≡ false → o ≡ compare lt (key old) b → key old ≡ key x
      go Less eq s = absurd (true≢false eq)
      go Equal eq s = compare_says lt one (key old) b Equal s ∙ b-is
      go Greater eq s = absurd (true≢false eq)

-- the used places after a write to one of them
pub rows_set : {R : Type 0} (ps : List R) (n i : ℕ) (x : R) → i < length (take n ps) → take n (set ps i x) ≡ set (take n ps) i x
rows_set ps n i x l = take-set-lt n ps i x (omega (arith, length-take n ps))

-- ## Removing

pub run_removed : {R K : Type 0} (lt : K → K → Bool) (key : R → K) (t u : Table R) (from to n : ℕ) → n ≡ length (rows t) → n ≤ room t → from ≤ to → to ≤ n
    → room u ≡ room t → u.len ≡ n - (to - from)
    → take (n - (to - from)) u.places.now ≡ take from (take n t.places.now) ++ drop to (take n t.places.now)
    → Removing lt key from to t u true
run_removed lt key t u from to n count bound le within same long h =
    let new : rows u ≡ take from (rows t) ++ drop to (rows t)
    = ap (λ m. take m u.places.now) long ∙ h ∙ ap (λ l. take from l ++ drop to l) (take_count t n count) in (
      record {
        same_room = same;
        fits = λ z. omega arith;
        order = λ z. ap (ascending (by_key lt key)) new ∙ without_ascends (by_key lt key) (rows t) from to le z;
      },
      le,
      omega arith,
      new,
    )
