-- The figures of one port.
use Rattle.std.proofs.Common.{◌≡◌, ℕ, ◌+◌, ◌-◌, ◌/◌, ◌^◌, ◌≤◌, cond, eqb, List, [], ◌∷◌, Some, ap, ◌∙◌, mul-le-mul_left, arith}
use Rattle.std.proofs.lemmas.Bool.Decides.{nat_tests}
use Rattle.definitions.specs.declared.loads.Load.{Load}
use Rattle.definitions.specs.Lists.{total, largest}
use Rattle.definitions.specs.Loads.{AreLoads}
use Rattle.definitions.specs.Windows.{W}
use Rattle.definitions.specs.Methods.{Lawful, Answerable, limit}
use Rattle.folds.specs.Folds.{IsLargest}
use Rattle.working_out.specs.declared.rows.HopRow.{HopRow}
use Rattle.working_out.specs.Settling.{held, Figured}

-- every frame that is held occupies the port for a nanosecond at least
held_at_most : (b : ℕ) (ls : List Load) → AreLoads ls → total (held b) ls ≤ W ls (b - 1)
held_at_most b [] a = omega arith
held_at_most b (l ∷ ls) (a, as') =
    omega (arith, mul-le-mul_left (1 + (b - 1 + l.jitter) / l.gap) a.in_range.occupied, held_at_most b ls as')

-- so that 64 bits hold the depth
pub depth_fits : (worth : List Load → ℕ) → Lawful worth → (ls : List Load) (b : ℕ) → Answerable worth ls → b ≡ worth ls → 2 ^ 64 ≤ total (held b) ls → ⊥
depth_fits worth law ls b a e h =
    let w = law ls a.loads a.carried (b - 1) in
    let d = held_at_most b ls a.loads in
    let m = a.within in
    omega arith

abbrev pub departs_at : ℕ → ℕ → HopRow → ℕ
departs_at n b y = cond (eqb y.hop.port n) (y.latest + b) 0

pub figured : (worth : List Load → ℕ) (hs : List HopRow) (n : ℕ) (ls : List Load) (b d m : ℕ) → Answerable worth ls → b ≡ worth ls
    → d ≡ total (held b) ls → m ≡ largest (departs_at n b) hs → m ≤ limit → IsLargest (departs_at n b) hs (largest (departs_at n b) hs)
    → Figured worth hs n ls (Some (b, d))
figured worth hs n ls b d m a e f g le large = (
  a,
  e,
  f ∙ ap (λ x. total (held x) ls) e,
  λ y i at. grind (arith, nat_tests, large.bounds y i),
)
