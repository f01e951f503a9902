-- LinkRuns: the hops of one link stand together.
--
--   RunEnd rs l from to    from `from` on, the rows up to `to` are of the link l, and no further one follows them

use Rattle.std.specs.Prelude.{◌≡◌, ℕ, ◌<◌, ◌≤◌, List, length, slice_index_or}
use Rattle.working_out.specs.declared.rows.HopRow.{HopRow}

pub record RunEnd (rs : List HopRow) (l from to : ℕ) : Type 0 where
  pub in_order : from ≤ to
  pub within : to ≤ length rs
  pub alike : (k : ℕ) (d : HopRow) → from ≤ k → k < to → (slice_index_or rs k d).hop.link ≡ l
  pub stops : to < length rs → (d : HopRow) → ¬ ((slice_index_or rs to d).hop.link ≡ l)
