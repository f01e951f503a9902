-- One port more is tried: its figures are worked out, or pass the limit.
use Rattle.std.proofs.Common.{◌≡◌, ℕ, ◌+◌, ◌≤◌, List, length, set, Some, None, Option, sym, refl, ap, ◌∙◌, subst, inl, inr, arith}
use native.Mathlib.Decide.{dec_le}
use Rattle.std.specs.List.{slice_get}
use Rattle.std.proofs.Math.Seq.{map-set_same}
use Rattle.std.proofs.lemmas.List.{take_all}
use Rattle.std.proofs.lemmas.Option.{slice_get_within, get_or_from_slice_get}
use Rattle.definitions.specs.declared.loads.Load.{Load}
use Rattle.definitions.specs.declared.network.Hop.{Hop}
use Rattle.definitions.specs.Lists.{In, total}
use Rattle.definitions.specs.Loads.{AreLoads}
use Rattle.definitions.specs.Windows.{Overloaded}
use Rattle.definitions.specs.Methods.{limit}
use Rattle.definitions.specs.Network.{Records, FeedsNext, InRing, latency}
use Rattle.definitions.specs.Figures.{Figures, FiguresOf, Past, latest_at, loads, hops_at}
use Rattle.theory.proofs.Keys.{before_hop}
use Rattle.theory.proofs.PortLoads.{loads_within, demand_still}
use Rattle.working_out.specs.declared.rows.Progress.TheVariants.{Open, WorkedOut, PastLimit}
use Rattle.working_out.specs.declared.rows.PortRow.{PortRow}
use Rattle.working_out.specs.declared.rows.LinkRow.{LinkRow}
use Rattle.working_out.specs.declared.rows.HopRow.{HopRow}
use Rattle.working_out.specs.Gathering.{loads_at}
use Rattle.working_out.specs.Settling.{Setting, DoneAt, RightHop, RightPort, Worked, Known, Figured, held, settled_row, left_to_try, untried}
use Rattle.working_out.proofs.Held.{port_in, hop_in, hop_row}
use Rattle.working_out.proofs.RowLists.{at_in, set_in, other_in_set, total_set}
use Rattle.working_out.proofs.Tabled.{ports_ordered, one_row}
use Rattle.working_out.proofs.Fed.{fed_done}
use Rattle.working_out.proofs.Arrived.{departure_within}
use Rattle.working_out.proofs.LoadsOf.{loads_are}

module _ (r : Records) (worth : List Load → ℕ) (s : Setting r worth) (ps : List PortRow) (ls : List LinkRow) (hs : List HopRow)
    (a : Known r worth ps ls hs (length hs)) (i : ℕ) (x : PortRow) (at : Some x ≡ slice_get ps i) (is_open : x.progress ≡ Open) where
  there : In x ps
  there = at_in ps i x at

  in_ports : In x.port r.ports
  in_ports = port_in a.worked.held x there

  known_here : (y : HopRow) → In y hs → y.hop.port ≡ x.port.number
      → ((F : Figures) → FiguresOf r worth F → RightHop F y) × ((q : ℕ) → y.hop.after ≡ Some q → DoneAt ps q)
  known_here y j e = a.known y (subst (In y) (sym (take_all (length hs) hs (omega arith))) j) record { row = x; there = there; number = sym e; holds = is_open }

  -- the port itself is not worked out
  not_done : ¬ DoneAt ps x.port.number
  not_done d =
      let same : d.row ≡ x = one_row ps (ports_ordered r s.well_formed ps ls hs a.worked.held) d.row x d.there there d.number in
      cc

  -- what feeds it directly is
  fed_by_done : (q : ℕ) → FeedsNext r q x.port.number → DoneAt ps q
  fed_by_done q f =
      let (y, j, e) = hop_row a.worked.held f.hop f.there in
      (known_here y j cc).1 q cc

  pub no_ring_here : ¬ InRing r x.port.number
  no_ring_here f = not_done (fed_done a.worked fed_by_done f)

  module _ (F : Figures) (f : FiguresOf r worth F) where
    -- the loads of the port
    loads_here : loads_at ls x.port hs ≡ loads r F x.port.number
    loads_here = loads_are r s.well_formed F ps ls hs a.worked.held x there
        (λ y j e. let right = (known_here y j e).0 F f in (right.earliest, right.latest))

    -- no hop of the port is reached later than a latency past the limit
    reached : (h : Hop) → In h r.hops → h.port ≡ x.port.number → (o : Option ℕ) → h.after ≡ o → latest_at F h ≤ limit + latency
    reached h j e None none = omega (arith, f.first_latest h j none)
    reached h j e (Some q) after =
        let d = fed_by_done q record { hop = h; there = j; at = e; after = after } in
        let right = a.worked.right_ports F f d.row d.there d.holds in
        let (k, m, link, port) = before_hop r s.well_formed h j q after in
        let dep = departure_within r F d.row.port.number right.within k m (port ∙ sym d.number) in
        let same = ap (λ l. F.latest l k.port) (sym link) in
        omega (arith, f.next_latest h j q after, ap (F.latest h.link) (sym port), ap F.backlog (sym port))

    are_loads : AreLoads (loads r F x.port.number)
    are_loads = loads_within r s.well_formed F x.port.number (λ h j e. reached h j e h.after refl)

    not_overloaded : ¬ Overloaded (loads r F x.port.number)
    not_overloaded o = s.carried x.port in_ports (omega (arith, demand_still r F (hops_at r x.port.number)))

    backlog_is : (gs : List Load) → gs ≡ loads_at ls x.port hs → worth gs ≡ F.backlog x.port.number
    backlog_is gs e = ap worth (e ∙ loads_here) ∙ sym (f.backlogs x.port in_ports)

    -- the figures of the port are right
    figures_right : (gs : List Load) → gs ≡ loads_at ls x.port hs → (b d : ℕ) → Figured worth hs x.port.number gs (Some (b, d)) → RightPort r F (settled_row x (Some (b, d)))
    figures_right gs e b d (can, is-backlog, is-depth, departs) = record {
      backlog = is-backlog ∙ backlog_is gs e;
      depth_is = is-depth ∙ ap (λ w. total (held w) gs) (backlog_is gs e) ∙ ap (total (held (F.backlog x.port.number))) (e ∙ loads_here);
      within = λ past. elim past [
        | inl over ↦ omega (arith, can.within, backlog_is gs e)
        | inr (h, j, g, over) ↦
            let (y, k, same) = hop_row a.worked.held h j in
            let right = (known_here y k cc).0 F f in
            let le = departs y k cc in
            omega (arith, over, le, right.latest, ap (latest_at F) same, backlog_is gs e, ap F.backlog g)
      ];
    }

    -- or pass the limit
    figures_past : (gs : List Load) → gs ≡ loads_at ls x.port hs → Figured worth hs x.port.number gs None → Past r F x.port.number
    figures_past gs e (inl cannot) = elim (dec_le (worth gs) limit) [
      | yes le ↦ absurd (cannot record { loads = subst AreLoads (sym (e ∙ loads_here)) are_loads; carried = subst (λ zs. ¬ Overloaded zs) (sym (e ∙ loads_here)) not_overloaded; within = le })
      | no over ↦ inl (omega (arith, over, backlog_is gs e))
    ]
    figures_past gs e (inr (y, j, g, over)) =
        let right = (known_here y j g).0 F f in
        inr (y.hop, hop_in a.worked.held y j, g, omega (arith, over, right.latest, backlog_is gs e, ap F.backlog g))

  -- ## The rows with the port tried

  module _ (gs : List Load) (gathered : gs ≡ loads_at ls x.port hs) (o : Option (ℕ × ℕ)) (told : Figured worth hs x.port.number gs o) where
    pub not_open : (o : Option (ℕ × ℕ)) → ¬ ((settled_row x o).progress ≡ Open)
    not_open o e = grind arith

    right_now : (F : Figures) → FiguresOf r worth F → (o : Option (ℕ × ℕ)) → Figured worth hs x.port.number gs o → (settled_row x o).progress ≡ WorkedOut → RightPort r F (settled_row x o)
    right_now F f (Some g) t e = figures_right F f gs gathered g.0 g.1 t
    right_now F f None t e = cc

    past_now : (F : Figures) → FiguresOf r worth F → (o : Option (ℕ × ℕ)) → Figured worth hs x.port.number gs o → (settled_row x o).progress ≡ PastLimit → Past r F x.port.number
    past_now F f (Some g) t e = cc
    past_now F f None t e = figures_past F f gs gathered t

    -- ports that were worked out still are
    done_on : (q : ℕ) → DoneAt ps q → DoneAt (set ps i (settled_row x o)) q
    done_on q d = elim (other_in_set ps i x (settled_row x o) d.row d.there) [
      | inl same ↦ absurd (grind (arith, get_or_from_slice_get ps i x x (sym at)))
      | inr j ↦ record { row = d.row; there = j; number = d.number; holds = d.holds }
    ]

    numbered : (z : PortRow) → z ≡ settled_row x o → z.port.number ≡ x.port.number
    numbered z e = grind arith

    worked_on : Worked r worth (set ps i (settled_row x o)) ls hs
    worked_on = record {
      held = record {
        ports = map-set_same (λ (z : PortRow). z.port) ps i (settled_row x o) x (grind (arith, get_or_from_slice_get ps i x x (sym at))) ∙ a.worked.held.ports;
        links = a.worked.held.links;
        hops = a.worked.held.hops;
      };
      after_done = λ z j t h k e q after. elim (set_in ps i (settled_row x o) z j) [
        | inl same ↦ done_on q (fed_by_done q record { hop = h; there = k; at = e ∙ numbered z same; after = after })
        | inr m ↦ done_on q (a.worked.after_done z m t h k e q after)
      ];
      no_ring = λ z j t. grind (arith, set_in ps i (settled_row x o) z j, numbered z, no_ring_here, a.worked.no_ring z);
      right_ports = λ F f z j done. grind (arith, set_in ps i (settled_row x o) z j, right_now F f o told, a.worked.right_ports F f z);
      past_ports = λ F f z j past. grind (arith, set_in ps i (settled_row x o) z j, numbered z, past_now F f o told, a.worked.past_ports F f z);
      right_hops = λ F f y j t. elim (set_in ps i (settled_row x o) t.row t.there) [
        | inl same ↦ (known_here y j (sym t.number ∙ numbered t.row same)).0 F f
        | inr m ↦ a.worked.right_hops F f y j record { row = t.row; there = m; number = t.number; holds = t.holds }
      ];
    }

    pub known_on : Known r worth (set ps i (settled_row x o)) ls hs (length hs)
    known_on = record {
      worked = worked_on;
      known = λ y j t. elim (set_in ps i (settled_row x o) t.row t.there) [
        | inl same ↦ absurd (not_open o cc)
        | inr m ↦
            let (right, after) = a.known y j record { row = t.row; there = m; number = t.number; holds = t.holds } in
            (right, λ q e. done_on q (after q e))
      ];
    }

    -- one port less is left
    pub one_less : untried (set ps i (settled_row x o)) + 1 ≡ untried ps
    one_less = grind (arith, total_set left_to_try ps i x (settled_row x o) (slice_get_within ps i x (sym at)), get_or_from_slice_get ps i x x (sym at))
