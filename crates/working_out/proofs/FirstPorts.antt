-- FirstPorts: the first row of which a claim holds is that of the lowest port.
use Rattle.std.proofs.Common.{◌≡◌, ℕ, ◌≤◌, true, List, ◌∷◌, ◌++◌, map, Some, None, Option, sym, refl, ap, ◌∙◌, subst, inl, arith}
use Rattle.std.proofs.lemmas.Bool.Decides.{nat_tests}
use Rattle.definitions.specs.declared.network.Port.{Port}
use Rattle.definitions.specs.Lists.{In, ascending}
use Rattle.definitions.specs.Network.{Records}
use Rattle.theory.proofs.Members.{in_map, in_all}
use Rattle.register.specs.Registers.{by_key}
use Rattle.working_out.specs.declared.rows.PortRow.{PortRow}
use Rattle.working_out.specs.Keys.{number_before, port_key}
use Rattle.working_out.specs.Gathering.{FirstIs, FirstPort}
use Rattle.working_out.specs.Rings.{LowestTold}
use Rattle.working_out.proofs.RowLists.{map_in, in_right, in_either, before_rest}

module _ (r : Records) (P : ℕ → Type 0) (Q : PortRow → Type 0) (xs : List PortRow)
    (up : ascending (by_key number_before port_key) xs ≡ true) (same : map (λ (x : PortRow). x.port) xs ≡ r.ports)
    (to : (x : PortRow) → In x xs → Q x → P (port_key x)) (from : (x : PortRow) → In x xs → P (port_key x) → Q x) where
  -- a port of the records stands in a row
  row_of : (p : Port) → In p r.ports → (x : PortRow) × In x xs × (p ≡ x.port)
  row_of p i = map_in (λ (x : PortRow). x.port) xs p (subst (In p) (sym same) i)

  least_row : (n : ℕ) → (f : FirstIs Q xs n) → (x : PortRow) → In x (f.before ++ (f.row ∷ f.rest)) → Q x → port_key f.row ≤ port_key x
  least_row n f x i q =
      grind (
        arith,
        nat_tests,
        in_either f.before (f.row ∷ f.rest) x i,
        in_all (λ y. ¬ Q y) f.before f.none_before x,
        before_rest (by_key number_before port_key) f.before f.row f.rest (ap (ascending (by_key number_before port_key)) (sym f.parts) ∙ up) x,
      )

  -- the answer by rows is the answer by ports
  pub first_lowest : (a : Option ℕ) → FirstPort Q xs a → LowestTold r P a
  first_lowest (Some n) f =
      let there : In f.row xs = subst (In f.row) (sym f.parts) (in_right f.before (f.row ∷ f.rest) f.row (inl refl)) in
      record {
        there = (f.row.port, subst (In f.row.port) same (in_map (λ (x : PortRow). x.port) xs f.row there), f.number);
        holds = subst P f.number (to f.row there f.holds);
        least = λ q i h.
            let (x, j, e) = row_of q i in
            let n-is : q.number ≡ port_key x = ap (λ (p : Port). p.number) e in
            omega (arith, least_row n f x (subst (In x) f.parts j) (from x j (subst P n-is h)), f.number, n-is);
      }
  first_lowest None none = λ p i h.
      let (x, j, e) = row_of p i in
      in_all (λ y. ¬ Q y) xs none x j (from x j (subst P (ap (λ (q : Port). q.number) e) h))
