-- Tables: what a table holds, and what each call leaves.
--
--   rows t               the records that the table holds
--   room t               how many places it has
--   Ordered lt key t     the keys of the table ascend, so none stands twice
--   Found lt key rs k r  where a key stands, or where it would stand
--   Within n r           a place that was found is one of n, or, if it is not taken, at most the place after them
--   Starts lt key rs k i the place from which on no key is before k
--   Getting key rs k r   the record under a key, if there is one
--   Kept lt key t u      u has the places of t, and is ordered and within its places where t is
--   Inserting            what inserting a record answers and leaves
--   Replacing            what putting a record at a place answers and leaves
--   Removing             what removing the records from one place to before another answers and leaves

use Rattle.std.specs.Prelude.{◌≡◌, ℕ, ◌<◌, ◌≤◌, min, Bool, true, false, List, ◌++◌, length, take, drop, Some, None, Ok, Err, Option, Result, slice_index_or, slice_set}
use Rattle.std.specs.List.{AllByRecursion}
use Rattle.definitions.specs.Lists.{In, ascending}
use Rattle.definitions.specs.Entries.{placed}
pub use Rattle.register.specs.Orders.{by_key}
use Rattle.register.specs.declared.tables.Table.{Table}
use Rattle.register.specs.declared.tables.NotInserted.{NotInserted}
use Rattle.register.specs.declared.tables.NotInserted.TheVariants.{Present, Full}

abbrev pub rows : {R : Type 0} → Table R → List R
rows t = take t.len t.places.now

abbrev pub room : {R : Type 0} → Table R → ℕ
room t = length t.places.now

abbrev pub Ordered : {R K : Type 0} → (K → K → Bool) → (R → K) → Table R → Type 0
Ordered lt key t = ascending (by_key lt key) (rows t) ≡ true

-- the place of the record under the key, or the place before which all keys are smaller and from which on all are larger
abbrev pub Found : {R K : Type 0} → (K → K → Bool) → (R → K) → List R → K → Result ℕ ℕ → Type 0
Found lt key rs k (Ok i) = (i < length rs) × ((d : _) → key (slice_index_or rs i d) ≡ k)
Found lt key rs k (Err i) = (i ≤ length rs) × AllByRecursion (λ x. lt (key x) k ≡ true) (take i rs) × AllByRecursion (λ x. lt k (key x) ≡ true) (drop i rs)

-- the place from which on no key is before k, and before which all are
abbrev pub Starts : {R K : Type 0} → (K → K → Bool) → (R → K) → List R → K → ℕ → Type 0
Starts lt key rs k i = (i ≤ length rs) × AllByRecursion (λ x. lt (key x) k ≡ true) (take i rs) × AllByRecursion (λ x. lt (key x) k ≡ false) (drop i rs)

-- the record under the key, if there is one
abbrev pub Getting : {R K : Type 0} → (R → K) → List R → K → Option R → Type 0
Getting {R = R} key rs k (Some x) = In x rs × (key x ≡ k)
Getting {R = R} key rs k None = (y : R) → In y rs → ¬ (key y ≡ k)

abbrev pub Within : ℕ → Result ℕ ℕ → Type 0
Within n (Ok i) = i < n
Within n (Err i) = i ≤ n

pub record Kept {R K : Type 0} (lt : K → K → Bool) (key : R → K) (t u : Table R) : Type 0 where
  pub same_room : room u ≡ room t
  pub fits : t.len ≤ room t → u.len ≤ room u
  pub order : Ordered lt key t → Ordered lt key u

-- a table is full when it holds as many records as it has places, or as many as it may hold
abbrev pub Inserting : {R K : Type 0} → (K → K → Bool) → (R → K) → ℕ → R → Table R → Table R → Result (Unit {0}) NotInserted → Type 0
Inserting {R = R} lt key most x t u (Ok _) =
    Kept lt key t u × (length (rows t) < min (room t) most) × ((y : R) → In y (rows t) → ¬ (key y ≡ key x)) × (rows u ≡ placed (by_key lt key) x (rows t))
Inserting {R = R} lt key most x t u (Err Present) = (u ≡ t) × ((y : R) × In y (rows t) × (key y ≡ key x))
Inserting {R = R} lt key most x t u (Err Full) = (u ≡ t) × (min (room t) most ≤ length (rows t)) × ((y : R) → In y (rows t) → ¬ (key y ≡ key x))

-- only a record under the same key is replaced
abbrev pub Replacing : {R K : Type 0} → (K → K → Bool) → (R → K) → ℕ → R → Table R → Table R → Bool → Type 0
Replacing lt key i x t u true = Kept lt key t u × (i < length (rows t)) × (key (slice_index_or (rows t) i x) ≡ key x) × (rows u ≡ slice_set (rows t) i x)
Replacing lt key i x t u false = (u ≡ t) × (i < length (rows t) → ¬ (key (slice_index_or (rows t) i x) ≡ key x))

abbrev pub Removing : {R K : Type 0} → (K → K → Bool) → (R → K) → ℕ → ℕ → Table R → Table R → Bool → Type 0
Removing lt key from to t u true = Kept lt key t u × (from ≤ to) × (to ≤ length (rows t)) × (rows u ≡ take from (rows t) ++ drop to (rows t))
Removing lt key from to t u false = (u ≡ t) × ¬ ((from ≤ to) × (to ≤ length (rows t)))
