-- Gathering the loads of a port.
use Rattle.std.proofs.Common.{◌≡◌, ℕ, ◌+◌, ◌<◌, true, List, [], ◌∷◌, ◌++◌, map, length, get_or, take, drop, Some, None, Option, MatchOption, sym, refl, ap, ◌∙◌, subst, inl, inr, arith}
use Rattle.std.specs.List.{AllByRecursion, AllWithin, HoldsAt}
use Rattle.working_out.specs.declared.rows.PortRow.{PortRow}
use Rattle.std.proofs.lemmas.List.{drop_more, take-append-drop}
use Rattle.std.proofs.lemmas.Bool.Decides.{nat_tests}
use Rattle.definitions.specs.declared.network.VirtualLink.{VirtualLink}
use Rattle.definitions.specs.Lists.{ascending}
use Rattle.register.specs.Registers.{by_key, Getting}
use Rattle.register.proofs.Searching.{all_before}
use Rattle.theory.proofs.Members.{in_map}
use Rattle.theory.proofs.Lookups.{find_in}
use Rattle.working_out.specs.declared.rows.LinkRow.{LinkRow}
use Rattle.working_out.specs.Keys.{number_before, link_key}
use Rattle.working_out.specs.Gathering.{link_under, FirstIs}
use Rattle.working_out.proofs.Tabled.{links_ascend}

link_unfound : (n : ℕ) (xs : List LinkRow) → Getting link_key xs n None
    → record { number = 0; gap = 0; shortest = 0; longest = 0 } ≡ link_under xs n
link_unfound n [] none = refl
link_unfound n (x ∷ xs) none = grind (arith, nat_tests, none x (inl refl), link_unfound n xs (λ y i. none y (inr i)))

pub link_told : (n : ℕ) (xs : List LinkRow) → ascending (by_key number_before link_key) xs ≡ true → (o : Option LinkRow) → Getting link_key xs n o
    → (r : LinkRow) → MatchOption o (r.link ≡ record { number = 0; gap = 0; shortest = 0; longest = 0 }) (λ x. r ≡ x) → r.link ≡ link_under xs n
link_told n xs up (Some row) (i, e) r is =
    let found : link_under xs row.link.number ≡ row.link
    = find_in (λ (l : VirtualLink). l.number) _ (map (λ (x : LinkRow). x.link) xs) (sym (links_ascend xs) ∙ up) row.link (in_map (λ (x : LinkRow). x.link) xs row i) in
    cc
link_told n xs up None got r is = is ∙ link_unfound n xs got

-- the first row of which P holds stands after rows of which it does not
pub first_here : (P : PortRow → Type 0) (ps : List PortRow) (i : ℕ) (d : PortRow) → i < length ps → AllByRecursion (λ x. ¬ P x) (take i ps) → P (get_or ps i d)
    → FirstIs P ps (get_or ps i d).port.number
first_here P ps i d lt none here = record {
  before = take i ps;
  row = get_or ps i d;
  rest = drop (i + 1) ps;
  parts = sym (take-append-drop i ps) ∙ ap (λ zs. take i ps ++ zs) (drop_more ps i d lt);
  none_before = none;
  holds = here;
  number = refl;
}

-- as a search tells it
pub first_found : (P : PortRow → Type 0) (ps : List PortRow) (row : PortRow)
    → P row × (i : ℕ) × (i < length ps) × HoldsAt (λ y. y ≡ row) ps i × AllWithin (λ x. ¬ P x) ps 0 i → FirstIs P ps row.port.number
first_found P ps row (here, i, lt, at, before) =
    let is = at row in
    subst (λ (z : PortRow). FirstIs P ps z.port.number) is
    (first_here P ps i row lt (all_before (λ x. ¬ P x) ps i (omega arith) before) (subst P (sym is) here))
