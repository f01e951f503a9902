-- Registers: tables whose keys ascend, so that none stands twice; that is `ascends` of their type (src/registers.rt).
--
--   rows t               the records that the register holds
--   room t               how many places it has
--   viewed v             the records of a view
--   RegisterBy, ViewBy lt key   the registers and the views whose records are in the order lt of their keys
--   Taking               what taking the records of a table as a register answers, and what it leaves
--   Inserting            what inserting a record answers and leaves
--   Replacing            what putting a record at a place answers and leaves
--   Removing             what removing the records from one place to before another answers and leaves

use Rattle.std.specs.Prelude.{◌≡◌, ℕ, ◌<◌, ◌≤◌, min, Bool, true, false, List, ◌++◌, length, take, drop, Some, None, Ok, Err, Option, Result, slice_index_or, slice_set}
use Rattle.definitions.specs.Lists.{In}
use Rattle.definitions.specs.Entries.{placed}
pub use Rattle.register.specs.Tables.{by_key, Found, Starts, Getting, Within}
use Rattle.register.specs.Tables as table
use Rattle.register.specs.Tables.{Ordered}
use Rattle.register.specs.declared.tables.Table.{Table}
use Rattle.register.specs.declared.keys.Key.{Ghosts as KeyGhosts}
use Rattle.register.specs.declared.keys.Keyed.{Ghosts as KeyedGhosts}
use Rattle.register.specs.declared.registers.Register.{Register}
use Rattle.register.specs.declared.views.View.{View}
use Rattle.register.specs.declared.tables.NotInserted.{NotInserted}
use Rattle.register.specs.declared.tables.NotInserted.TheVariants.{Present, Full}

module _ {R K : Type 0} {keyed : KeyedGhosts R K} {order : KeyGhosts K} where
  abbrev pub rows : Register R K keyed order → List R
  rows t = table.rows t.table

  abbrev pub room : Register R K keyed order → ℕ
  room t = table.room t.table

  abbrev pub viewed : View R K keyed order → List R
  viewed v = v.records.now

module _ {R K : Type 0} {keyed : KeyedGhosts R K} {order : KeyGhosts K} (lt : K → K → Bool) (key : R → K) where
  abbrev pub Taking : Table R → Table R → Option (Register R K keyed order) → Type 0
  Taking t u (Some r) = (rows r ≡ table.rows t) × (room r ≡ table.room t) × (table.room u ≡ 0)
  Taking t u None = (u ≡ t) × ¬ (Ordered lt key t)

  -- a register is full when it holds as many records as it has places, or as many as it may hold
  abbrev pub Inserting : ℕ → R → Register R K keyed order → Register R K keyed order → Result (Unit {0}) NotInserted → Type 0
  Inserting most x t u (Ok _) =
      (length (rows t) < min (room t) most) × ((y : R) → In y (rows t) → ¬ (key y ≡ key x)) × (rows u ≡ placed (by_key lt key) x (rows t))
  Inserting most x t u (Err Present) = (u ≡ t) × ((y : R) × In y (rows t) × (key y ≡ key x))
  Inserting most x t u (Err Full) = (u ≡ t) × (min (room t) most ≤ length (rows t)) × ((y : R) → In y (rows t) → ¬ (key y ≡ key x))

  -- only a record under the same key is replaced
  abbrev pub Replacing : ℕ → R → Register R K keyed order → Register R K keyed order → Bool → Type 0
  Replacing i x t u true =
      (room u ≡ room t) × (i < length (rows t)) × (key (slice_index_or (rows t) i x) ≡ key x) × (rows u ≡ slice_set (rows t) i x)
  Replacing i x t u false = (u ≡ t) × (i < length (rows t) → ¬ (key (slice_index_or (rows t) i x) ≡ key x))

  abbrev pub Removing : ℕ → ℕ → Register R K keyed order → Register R K keyed order → Bool → Type 0
  Removing from to t u true =
      (room u ≡ room t) × (from ≤ to) × (to ≤ length (rows t)) × (rows u ≡ take from (rows t) ++ drop to (rows t))
  Removing from to t u false = (u ≡ t) × ¬ ((from ≤ to) × (to ≤ length (rows t)))

-- the registers, and the views, of records by this order and this key
abbrev pub RegisterBy : {R K : Type 0} → (K → K → Bool) → (R → K) → Type 0
RegisterBy {R} {K} lt key = Register R K record { key = key } record { before = lt }

abbrev pub ViewBy : {R K : Type 0} → (K → K → Bool) → (R → K) → Type 0
ViewBy {R} {K} lt key = View R K record { key = key } record { before = lt }
