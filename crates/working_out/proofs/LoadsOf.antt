-- The loads that are gathered are those of the figures that the rows show.
use Rattle.std.proofs.Common.{◌≡◌, eqb, List, [], ◌∷◌, map, filter, sym, refl, ap, ◌∙◌, inl, inr, arith}
use Rattle.std.proofs.lemmas.Bool.Decides.{nat_tests}
use Rattle.definitions.specs.declared.network.Hop.{Hop}
use Rattle.definitions.specs.Lists.{In}
use Rattle.definitions.specs.Network.{Records, WellFormed, find_port, find_link}
use Rattle.definitions.specs.Figures.{Figures, load_of, loads, earliest_at, latest_at}
use Rattle.working_out.specs.declared.rows.PortRow.{PortRow}
use Rattle.working_out.specs.declared.rows.LinkRow.{LinkRow}
use Rattle.working_out.specs.declared.rows.HopRow.{HopRow}
use Rattle.working_out.specs.Gathering.{link_under, row_load, loads_at}
use Rattle.working_out.specs.Settling.{Holds}
use Rattle.working_out.proofs.Arrived.{row_port}

module _ (r : Records) (wf : WellFormed r) (F : Figures) (ps : List PortRow) (ls : List LinkRow) (hs : List HopRow) (held : Holds r ps ls hs) (x : PortRow) (there : In x ps) where
  each : (y : HopRow) → y.hop.port ≡ x.port.number → (y.earliest ≡ earliest_at F y.hop) × (y.latest ≡ latest_at F y.hop)
      → row_load x.port (link_under ls y.hop.link) y ≡ load_of r F y.hop
  each y at (e, l) =
      let port : x.port ≡ find_port r.ports y.hop.port = sym (row_port wf held x there) ∙ ap (find_port r.ports) (sym at) in
      let link : link_under ls y.hop.link ≡ find_link r.links y.hop.link = ap (λ zs. find_link zs y.hop.link) held.links in
      cc

  kept : (zs : List HopRow) → ((y : HopRow) → In y zs → y.hop.port ≡ x.port.number → (y.earliest ≡ earliest_at F y.hop) × (y.latest ≡ latest_at F y.hop))
      → loads_at ls x.port zs ≡ map (load_of r F) (filter (λ (h : Hop). eqb h.port x.port.number) (map (λ (y : HopRow). y.hop) zs))
  kept [] right = refl
  kept (z ∷ zs) right = grind (arith, nat_tests, each z, right z (inl refl), kept zs (λ y i. right y (inr i)))

  pub loads_are : ((y : HopRow) → In y hs → y.hop.port ≡ x.port.number → (y.earliest ≡ earliest_at F y.hop) × (y.latest ≡ latest_at F y.hop))
      → loads_at ls x.port hs ≡ loads r F x.port.number
  loads_are right = kept hs right ∙ ap (λ ks. map (load_of r F) (filter (λ (h : Hop). eqb h.port x.port.number) ks)) held.hops
