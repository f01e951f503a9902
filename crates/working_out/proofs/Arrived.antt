-- The arrivals that are told from rows that are right are those of the figures.
use Rattle.std.proofs.Common.{◌≡◌, ℕ, ◌+◌, ◌≤◌, eqb, List, Some, sym, ap, ◌∙◌, inl, inr, arith}
use native.Mathlib.Decide.{dec_le}
use Rattle.std.proofs.lemmas.Bool.{eq-eqb}
use Rattle.definitions.specs.declared.loads.Load.{Load}
use Rattle.definitions.specs.declared.network.Port.{Port}
use Rattle.definitions.specs.declared.network.Hop.{Hop}
use Rattle.definitions.specs.Lists.{In}
use Rattle.definitions.specs.Windows.{W, window, Overloaded}
use Rattle.definitions.specs.Methods.{limit}
use Rattle.definitions.specs.Network.{Records, WellFormed, latency, occupancy, find_port, find_link}
use Rattle.definitions.specs.Figures.{Figures, FiguresOf, Past, load_of, hops_at, loads, departure}
use Rattle.theory.proofs.Members.{in_map, in_kept}
use Rattle.theory.proofs.Lookups.{find_in}
use Rattle.theory.proofs.PortLoads.{occupancy_mono, hop_link_kept, loads_within, demand_still}
use Rattle.theory.proofs.Smaller.{latest_within}
use Rattle.working_out.specs.declared.rows.PortRow.{PortRow}
use Rattle.working_out.specs.declared.rows.LinkRow.{LinkRow}
use Rattle.working_out.specs.declared.rows.HopRow.{HopRow}
use Rattle.working_out.specs.Gathering.{link_under}
use Rattle.working_out.specs.Settling.{Setting, Holds, RightHop, Before, Arrives, Worked}
use Rattle.working_out.proofs.RowLists.{in_total}
use Rattle.working_out.proofs.Held.{port_in, hop_in}

-- the port of a row is what its number finds
pub row_port : {r : Records} {ps : List PortRow} {ls : List LinkRow} {hs : List HopRow} → WellFormed r → Holds r ps ls hs → (x : PortRow) → In x ps
    → find_port r.ports x.port.number ≡ x.port
row_port {r = r} wf held x i = find_in (λ (p : Port). p.number) _ r.ports wf.ports_ascend x.port (port_in held x i)

-- no departure of a port passes the limit where no figure of it does
pub departure_within : (r : Records) (F : Figures) (p : ℕ) → ¬ Past r F p → (k : Hop) → In k r.hops → k.port ≡ p → departure F k ≤ limit
departure_within r F p within k i at = elim (dec_le (departure F k) limit) [
  | yes le ↦ le
  | no over ↦ absurd (within (inr (k, i, at, omega arith)))
]

module _ (r : Records) (worth : List Load → ℕ) (s : Setting r worth) (F : Figures) (f : FiguresOf r worth F) where
  -- where no figure of a port passes the limit, its backlog bounds what its loads bring
  pub bounds_at : (p : Port) → In p r.ports → ¬ Past r F p.number → (t : ℕ) → W (loads r F p.number) t ≤ F.backlog p.number + t
  bounds_at p i within t =
      let are = loads_within r s.well_formed F p.number (λ h j at. let w = latest_within r F p.number within h j at in omega arith) in
      let not-over : ¬ Overloaded (loads r F p.number) = λ o. s.carried p i (omega (arith, demand_still r F (hops_at r p.number))) in
      omega (arith, f.backlogs p i, s.lawful (loads r F p.number) are not-over t)

  -- so that a frame of any length occupies the port for no longer
  pub occupancy_within : (k : Hop) → In k r.hops → (p : Port) → In p r.ports → k.port ≡ p.number → ¬ Past r F p.number
      → occupancy (find_port r.ports p.number) (find_link r.links k.link).shortest ≤ F.backlog p.number
  occupancy_within k j p i at within =
      let here : In (load_of r F k) (loads r F p.number)
      = in_map (load_of r F) (hops_at r p.number) k (in_kept (λ (h : Hop). eqb h.port p.number) r.hops k j (eq-eqb k.port p.number at)) in
      let one = in_total (λ (l : Load). window l 0) (loads r F p.number) (load_of r F k) here in
      let all = bounds_at p i within 0 in
      let kept = hop_link_kept r s.well_formed k j in
      let shorter = occupancy_mono (find_port r.ports p.number) (find_link r.links k.link).shortest (find_link r.links k.link).longest kept.lengths.in_order in
      let same = ap (λ n. occupancy (find_port r.ports n) (find_link r.links k.link).longest) at in
      let once : (load_of r F k).occupancy ≤ window (load_of r F k) 0 = omega arith in
      omega arith

  module _ (ps : List PortRow) (ls : List LinkRow) (hs : List HopRow) (w : Worked r worth ps ls hs) where
    -- what the equations give after the row of a port and that of a hop there
    after_rows : (h : Hop) → In h r.hops → (b : Before ps hs h)
        → RightHop F record {
          hop = h;
          earliest = b.hop.earliest + (occupancy b.port.port (find_link r.links h.link).shortest + latency);
          latest = b.hop.latest + (b.port.backlog + latency);
        } × (b.hop.latest + b.port.backlog ≤ limit)
    after_rows h i b =
        let x = b.port in
        let k = b.hop in
        let in_ports : In x.port r.ports = port_in w.held x b.port_there in
        let in_hops : In k.hop r.hops = hop_in w.held k b.hop_there in
        let right = w.right_ports F f x b.port_there b.done in
        let right-hop = w.right_hops F f k b.hop_there record { row = x; there = b.port_there; number = sym b.same_port; holds = inl b.done } in
        let early : F.earliest h.link x.port.number ≡ k.earliest = cc (right-hop.earliest) in
        let late : F.latest h.link x.port.number ≡ k.latest = cc (right-hop.latest) in
        let found = ap (λ (p : Port). occupancy p (find_link r.links h.link).shortest) (row_port s.well_formed w.held x b.port_there) in
        let small = occupancy_within k.hop in_hops x.port in_ports b.same_port right.within in
        let small-here = ap (λ n. occupancy (find_port r.ports x.port.number) (find_link r.links n).shortest) b.same_link in
        let e = f.next_earliest h i x.port.number b.after in
        let l = f.next_latest h i x.port.number b.after in
        let back = right.backlog in
        let up = right-hop.in_order in
        let dep : k.latest + x.backlog ≤ limit = omega (arith, departure_within r F x.port.number right.within k.hop in_hops b.same_port, right-hop.latest, ap F.backlog b.same_port) in
        (record { earliest = omega arith; latest = omega arith; in_order = omega arith }, dep)

    -- what is told of the arrivals at a hop is right
    pub arrival_right : (h : Hop) → In h r.hops → (a : ℕ × ℕ) → Arrives ps ls hs h (Some a) → RightHop F record { hop = h; earliest = a.0; latest = a.1 }
    arrival_right h i a (inl (none, e, l)) = record {
      earliest = e ∙ sym (f.first_earliest h i none);
      latest = l ∙ sym (f.first_latest h i none);
      in_order = omega arith;
    }
    arrival_right h i a (inr (b, e, l)) =
        let (right, dep) = after_rows h i b in
        let up : b.hop.earliest ≤ b.hop.latest = (w.right_hops F f b.hop b.hop_there record { row = b.port; there = b.port_there; number = sym b.same_port; holds = inl b.done }).in_order in
        let link : occupancy b.port.port (link_under ls b.hop.hop.link).shortest ≡ occupancy b.port.port (find_link r.links h.link).shortest
        = ap (λ xs. occupancy b.port.port (find_link xs b.hop.hop.link).shortest) w.held.links ∙ ap (λ n. occupancy b.port.port (find_link r.links n).shortest) b.same_link in
        let c = right.earliest in
        let d = right.latest in
        let g = right.in_order in
        record { earliest = omega arith; latest = omega arith; in_order = omega arith }
