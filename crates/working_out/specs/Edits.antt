-- Edits: changes of rows.
--
--   KeepsKey key f           f leaves the key of every row as it is
--   EditsAll                 every row of the register is changed, and nothing else
--   EditsRows                every row of the table is changed, and nothing else
--   edited_under             the row under the key is changed, the others are as they were
--   EditsUnder               the row of the register under the key is changed, if there is one, and nothing else

use Rattle.std.specs.Prelude.{◌≡◌, Bool, cond, not, ◌&&◌, map}
use Rattle.register.specs.Registers.{RegisterBy, rows, room}
use Rattle.register.specs.Tables.{rows as table_rows, room as table_room}
use Rattle.register.specs.declared.tables.Table.{Table}

abbrev pub KeepsKey : {R K : Type 0} → (R → K) → (R → R) → Type 0
KeepsKey {R} key f = (r : R) → key (f r) ≡ key r

pub record EditsAll {R K : Type 0} (lt : K → K → Bool) (key : R → K) (f : R → R) (t u : RegisterBy lt key) : Type 0 where
  pub same_room : room u ≡ room t
  pub edited : KeepsKey key f → rows u ≡ map f (rows t)

-- the table need not be in order
pub record EditsRows {R : Type 0} (f : R → R) (t u : Table R) : Type 0 where
  pub same_count : u.len ≡ t.len
  pub same_room : table_room u ≡ table_room t
  pub edited : table_rows u ≡ map f (table_rows t)

-- a key that is neither before nor after another is the same
abbrev pub edited_under : {R K : Type 0} → (K → K → Bool) → (R → K) → K → (R → R) → R → R
edited_under lt key k f r = cond (not (lt (key r) k) && not (lt k (key r))) (f r) r

pub record EditsUnder {R K : Type 0} (lt : K → K → Bool) (key : R → K) (k : K) (f : R → R) (t u : RegisterBy lt key) : Type 0 where
  pub same_room : room u ≡ room t
  pub edited : KeepsKey key f → rows u ≡ map (edited_under lt key k f) (rows t)
