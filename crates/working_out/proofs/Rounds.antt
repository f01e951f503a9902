-- Rounds, from rows without figures until nothing more can be worked out.
use Rattle.std.proofs.Common.{◌≡◌, ℕ, ◌≤◌, Bool, true, false, List, [], ◌∷◌, map, length, sym, refl, subst, inl, inr, arith}
use Rattle.definitions.specs.declared.loads.Load.{Load}
use Rattle.definitions.specs.Lists.{In}
use Rattle.definitions.specs.Network.{Records}
use Rattle.register.specs.Registers.{rows, viewed}
use Rattle.working_out.specs.declared.rows.Progress.TheVariants.{Open}
use Rattle.working_out.specs.declared.rows.PortRow.{PortRow}
use Rattle.working_out.specs.declared.rows.LinkRow.{LinkRow}
use Rattle.working_out.specs.declared.rows.HopRow.{HopRow}
use Rattle.working_out.specs.Keys.{number_before, port_key, Ports, Links, Hops}
use Rattle.working_out.specs.Edits.{EditsAll}
use Rattle.working_out.specs.Marks.{opened}
use Rattle.working_out.specs.Settling.{Setting, Holds, Tried, Worked, Known, Waits, Stuck, Advancing, Advance, SettlesFirst, RoundMakes, left_to_try, untried}
use Rattle.working_out.proofs.RowLists.{map_in, in_total}
use Rattle.working_out.proofs.Quieted.{opened_quiet, untried_same, worked_quiet}
use Rattle.working_out.proofs.SettledTable.{settled_all}

-- a round begins
pub begins : (r : Records) (worth : List Load → ℕ) (ps : List PortRow) (ls : List LinkRow) (hs : List HopRow) → Worked r worth ps ls hs
    → Advancing r worth (map opened ps) ls hs 0 (untried ps)
begins r worth ps ls hs w = record {
  known = record { worked = worked_quiet opened opened_quiet ps r worth ls hs w; known = λ y j. absurd j };
  waits = λ z j waiting.
      let (x, k, e) = map_in opened ps z j in
      absurd (grind arith);
  left = untried_same opened opened_quiet ps;
}

-- and ends
pub ends : (r : Records) (worth : List Load → ℕ) (os ps qs : List PortRow) (ls : List LinkRow) (hs ks : List HopRow) (any : Bool)
    → Advancing r worth ps ls ks (length ks) (untried os) → SettlesFirst r worth ls ks (length ps) ps qs any → RoundMakes r worth ls os hs qs ks any
ends r worth os ps qs ls hs ks true a s = (s.known.worked, omega (arith, s.fewer refl, a.left))
ends r worth os ps qs ls hs ks false a s =
    let same = s.same refl in
    record {
      worked = s.known.worked;
      waits = subst (Waits r) (sym same) a.waits;
      none_open = settled_all r worth ls ks (length ps) ps qs false (omega arith) s;
    }

-- ## All rounds

pub untried_most : (ps : List PortRow) → untried ps ≤ length ps
untried_most [] = omega arith
untried_most (x ∷ xs) = grind (arith, untried_most xs)

-- where no port is left to try, nothing more can be worked out
pub none_left : (r : Records) (worth : List Load → ℕ) (ps : List PortRow) (ls : List LinkRow) (hs : List HopRow) → untried ps ≡ 0 → Worked r worth ps ls hs → Stuck r worth ps ls hs
none_left r worth ps ls hs none w = record {
  worked = w;
  waits = λ x j e. absurd (grind (arith, in_total left_to_try ps x j));
  none_open = λ x j e. grind (arith, in_total left_to_try ps x j);
}

-- rows without figures are a beginning
pub unworked : (r : Records) (worth : List Load → ℕ) (ps : List PortRow) (ls : List LinkRow) (hs : List HopRow) → Holds r ps ls hs
    → ((x : PortRow) → In x ps → x.progress ≡ Open) → Worked r worth ps ls hs
unworked r worth ps ls hs held all = record {
  held = held;
  after_done = λ x j t. absurd (untried_yet x j t);
  no_ring = λ x j t. absurd (untried_yet x j t);
  right_ports = λ F f x j e. absurd (untried_yet x j (inl e));
  past_ports = λ F f x j e. absurd (untried_yet x j (inr e));
  right_hops = λ F f y j t. absurd (untried_yet t.row t.there t.holds);
}
  where
    untried_yet : (x : PortRow) → In x ps → Tried x → ⊥
    untried_yet x j t = grind (arith, all x j)

-- one round, over the tables
pub round_makes : (worth : List Load → ℕ) (t u v w : Ports) (l : Links) (h k : Hops) (any : Bool)
    → EditsAll number_before port_key opened t u → Advance u l h v k 0 (length (rows h)) → length (rows k) ≡ length (rows h)
    → ((r : Records) → Setting r worth → Known r worth (rows v) (viewed l) (rows k) (length (rows k)) → SettlesFirst r worth (viewed l) (rows k) (length (rows v)) (rows v) (rows w) any)
    → (r : Records) → Setting r worth → Worked r worth (rows t) (viewed l) (rows h) → RoundMakes r worth (viewed l) (rows t) (rows h) (rows w) (rows k) any
round_makes worth t u v w l h k any edited passed count settled r s old =
    let start = subst (λ (ps : List PortRow). Advancing r worth ps (viewed l) (rows h) 0 (untried (rows t))) (sym (edited.edited (λ x. refl))) (begins r worth (rows t) (viewed l) (rows h) old) in
    let mid : Advancing r worth (rows v) (viewed l) (rows k) (length (rows k)) (untried (rows t))
    = subst (λ (n : ℕ). Advancing r worth (rows v) (viewed l) (rows k) n (untried (rows t))) (sym count) (passed r worth (untried (rows t)) s start) in
    ends r worth (rows t) (rows v) (rows w) (viewed l) (rows h) (rows k) any mid (settled r s mid.known)
