-- What a call on a register leaves, from what it leaves of its table.
use Rattle.std.proofs.Common.{◌≡◌, ℕ, ◌≤◌, Bool, true, false, Ok, Err, Result, ap₂, subst}
use denote.Struct.Props.{props}
use Rattle.register.specs.declared.keys.Key.{Ghosts as KeyGhosts}
use Rattle.register.specs.declared.keys.Keyed.{Ghosts as KeyedGhosts}
use Rattle.register.specs.declared.tables.Table.{Table}
use Rattle.register.specs.declared.tables.NotInserted.{NotInserted}
use Rattle.register.specs.declared.tables.NotInserted.TheVariants.{Present, Full}
use Rattle.register.specs.declared.registers.Register.{Register}
use Rattle.register.specs.Tables.{room as table_room, Ordered}
use Rattle.register.specs.Tables as table
use Rattle.register.specs.Registers.{Inserting, Replacing, Removing}

module _ {R K : Type 0} {keyed : KeyedGhosts R K} {order : KeyGhosts K} where
  -- a register is its table: its facts have one proof each
  same_register : (t u : Register R K keyed order) → u.table ≡ t.table → u ≡ t
  same_register t u e =
      subst (λ (x : Table R). (w : x.len ≤ table_room x) (a : Ordered order.before keyed.key x) → u ≡ record { table = x; within = w; ascends = a }) e
      (λ w a. ap₂ (λ v b. record { table = u.table; within = v; ascends = b }) (one_within u.within w) (one_ascends u.ascends a)) t.within t.ascends
    where
      one_within : IsProp (u.table.len ≤ table_room u.table)
      one_within = hlevel props

      one_ascends : IsProp (Ordered order.before keyed.key u.table)
      one_ascends = hlevel props

  module _ (lt : K → K → Bool) (key : R → K) (t u : Register R K keyed order) where
    pub inserted : (most : ℕ) (x : R) (r : Result (Unit {0}) NotInserted) → table.Inserting lt key most x t.table u.table r → Inserting lt key most x t u r
    inserted most x (Ok z) h = (h.1, h.2, h.3)
    inserted most x (Err Present) h = (same_register t u h.0, h.1)
    inserted most x (Err Full) h = (same_register t u h.0, h.1, h.2)

    pub replaced : (i : ℕ) (x : R) (b : Bool) → table.Replacing lt key i x t.table u.table b → Replacing lt key i x t u b
    replaced i x true h = (h.0.same_room, h.1, h.2, h.3)
    replaced i x false h = (same_register t u h.0, h.1)

    pub removed : (from to : ℕ) (b : Bool) → table.Removing lt key from to t.table u.table b → Removing lt key from to t u b
    removed from to true h = (h.0.same_room, h.1, h.2, h.3)
    removed from to false h = (same_register t u h.0, h.1)
