-- Orders: the order of keys.
--
--   ExactlyOne P Q R     exactly one of the three holds
--   pair_before f g      the order of pairs: by the first part, then by the second
--   compare lt a b       how a stands to b
--   by_key lt key        the order of records by their keys

use Rattle.std.specs.Prelude.{Bool, not, ◌&&◌, ◌||◌, if◌then◌else◌, ◌⊎◌}
use Rattle.std.specs.declared.cmp.Ordering.{Ordering}
use Rattle.std.specs.declared.cmp.Ordering.TheVariants.{Less, Equal, Greater}

abbrev pub ExactlyOne : Type 0 → Type 0 → Type 0 → Type 0
ExactlyOne P Q R = (P × ¬ Q × ¬ R) ⊎ ((¬ P × Q × ¬ R) ⊎ (¬ P × ¬ Q × R))

abbrev pub pair_before : {X Y : Type 0} → (X → X → Bool) → (Y → Y → Bool) → X × Y → X × Y → Bool
pair_before f g p q = f p.0 q.0 || (not (f q.0 p.0) && g p.1 q.1)

abbrev pub by_key : {R K : Type 0} → (K → K → Bool) → (R → K) → R → R → Bool
by_key lt key a b = lt (key a) (key b)

abbrev pub compare : {K : Type 0} → (K → K → Bool) → K → K → Ordering
compare lt a b = if lt a b then Less else if lt b a then Greater else Equal
