-- Rows in order have records in order.
use Rattle.std.proofs.Common.{◌≡◌, Bool, true, List, [], ◌∷◌, map, refl, ap, ◌∙◌, arith}
use Rattle.std.proofs.lemmas.Bool.Decides.{nat_tests}
use Rattle.std.proofs.lemmas.Bool.{le-ltb}
use Rattle.definitions.specs.Lists.{In, every, ascending}
use Rattle.theory.proofs.Lookups.{one_of_key}
use Rattle.definitions.specs.Network.{Records, WellFormed, port_before, link_before, hop_before}
use Rattle.register.specs.Registers.{by_key}
use Rattle.working_out.specs.declared.rows.PortRow.{PortRow}
use Rattle.working_out.specs.declared.rows.LinkRow.{LinkRow}
use Rattle.working_out.specs.declared.rows.HopRow.{HopRow}
use Rattle.working_out.specs.Keys.{number_before, place_before, port_key, link_key, hop_key}
use Rattle.working_out.specs.Rows.{net}
use Rattle.working_out.specs.Settling.{Holds}

-- the order of hops' keys is that of the records
pub keys_agree : (a b : HopRow) → place_before (hop_key a) (hop_key b) ≡ hop_before a.hop b.hop
keys_agree a b = grind (arith, nat_tests)

module _ {R S K : Type 0} (f : R → S) (lt : K → K → Bool) (key : R → K) (before : S → S → Bool)
    (agree : (a b : R) → lt (key a) (key b) ≡ before (f a) (f b)) where
  every_before : (x : R) (ys : List R) → every (by_key lt key x) ys ≡ every (before (f x)) (map f ys)
  every_before x [] = refl
  every_before x (y ∷ ys) = rw (agree x y, every_before x ys)

  pub rows_ascend : (xs : List R) → ascending (by_key lt key) xs ≡ ascending before (map f xs)
  rows_ascend [] = refl
  rows_ascend (x ∷ xs) = rw (every_before x xs, rows_ascend xs)

pub ports_ascend : (xs : List PortRow) → ascending (by_key number_before port_key) xs ≡ ascending port_before (map (λ (x : PortRow). x.port) xs)
ports_ascend = rows_ascend (λ (x : PortRow). x.port) number_before port_key port_before (λ a b. refl)

pub links_ascend : (xs : List LinkRow) → ascending (by_key number_before link_key) xs ≡ ascending link_before (map (λ (x : LinkRow). x.link) xs)
links_ascend = rows_ascend (λ (x : LinkRow). x.link) number_before link_key link_before (λ a b. refl)

-- two rows of one port are the same
pub one_row : (ps : List PortRow) → ascending (by_key number_before port_key) ps ≡ true → (x y : PortRow) → In x ps → In y ps
    → x.port.number ≡ y.port.number → x ≡ y
one_row ps up x y i j e = one_of_key (by_key number_before port_key) ps up x y i j
    (le-ltb x.port.number y.port.number (omega (arith, e))) (le-ltb y.port.number x.port.number (omega (arith, e)))

-- a table that holds well-formed records is in order
pub ports_ordered : (r : Records) → WellFormed r → (ps : List PortRow) (ls : List LinkRow) (hs : List HopRow) → Holds r ps ls hs
    → ascending (by_key number_before port_key) ps ≡ true
ports_ordered r wf ps ls hs h = ports_ascend ps ∙ ap (ascending port_before) h.ports ∙ wf.ports_ascend

-- rows that hold a well-formed network are in order
module _ (ps : List PortRow) (ls : List LinkRow) (hs : List HopRow) (wf : WellFormed (net ps ls hs)) where
  pub ports_in_order : ascending (by_key number_before port_key) ps ≡ true
  ports_in_order = ports_ascend ps ∙ wf.ports_ascend

  pub links_in_order : ascending (by_key number_before link_key) ls ≡ true
  links_in_order = links_ascend ls ∙ wf.links_ascend

  pub hops_in_order : ascending (by_key place_before hop_key) hs ≡ true
  hops_in_order = rows_ascend (λ (x : HopRow). x.hop) place_before hop_key hop_before keys_agree hs ∙ wf.hops_ascend
