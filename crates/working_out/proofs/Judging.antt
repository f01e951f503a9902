-- What is said of ports of which no more can be worked out.
use Rattle.std.proofs.Common.{◌≡◌, ℕ, ◌⊎◌, List, Option, sym, refl, ap, ◌∙◌, subst, inl, inr, arith}
use Rattle.std.specs.List.{AllByRecursion}
use Rattle.definitions.specs.declared.loads.Load.{Load}
use Rattle.definitions.specs.declared.network.Port.{Port}
use Rattle.definitions.specs.Lists.{In}
use Rattle.definitions.specs.Network.{Records, Feeds, direct, through, InRing}
use Rattle.definitions.specs.Figures.{Figures, FiguresOf, Past, Settled, depth, earliest_at, latest_at}
use Rattle.definitions.specs.WorkingOut.{PortOf, NoPort, FirstPast}
use Rattle.theory.proofs.Members.{in_all, all_in}
use Rattle.theory.proofs.Keys.{after_port, hop_port}
use Rattle.theory.proofs.Order.{by_feeding}
use Rattle.working_out.specs.declared.rows.Progress.{Progress}
use Rattle.working_out.specs.declared.rows.Progress.TheVariants.{Open, Waiting, WorkedOut, PastLimit}
use Rattle.working_out.specs.declared.rows.PortRow.{PortRow}
use Rattle.working_out.specs.declared.rows.LinkRow.{LinkRow}
use Rattle.working_out.specs.declared.rows.HopRow.{HopRow}
use Rattle.working_out.specs.Gathering.{FirstPort}
use Rattle.working_out.specs.Settling.{Setting, DoneAt, Stuck}
use Rattle.working_out.specs.Rings.{LowestTold}
use Rattle.working_out.specs.Works.{Shown}
use Rattle.working_out.proofs.Held.{port_in, hop_in, port_row}
use Rattle.working_out.proofs.Tabled.{ports_ordered, one_row}
use Rattle.working_out.proofs.Fed.{fed_done}
use Rattle.working_out.proofs.FirstPorts.{first_lowest}

-- the progress of a row, by cases
cases_progress : (p : Progress) → (p ≡ Open) ⊎ ((p ≡ Waiting) ⊎ ((p ≡ WorkedOut) ⊎ (p ≡ PastLimit)))
cases_progress p = grind arith

module _ (r : Records) (worth : List Load → ℕ) (s : Setting r worth) (ps : List PortRow) (ls : List LinkRow) (hs : List HopRow) (k : Stuck r worth ps ls hs) where
  -- without a port that waits there is no ring
  pub none_waits : AllByRecursion (λ (x : PortRow). ¬ (x.progress ≡ Waiting)) ps → NoPort r (InRing r)
  none_waits none p i =
      let (x, j, e) = port_row k.worked.held p i in
      grind (arith, k.none_open x j, in_all (λ (z : PortRow). ¬ (z.progress ≡ Waiting)) ps none x j, k.worked.no_ring x j)

  module _ (free : NoPort r (InRing r)) (F : Figures) (f : FiguresOf r worth F) where
    done_within : (q : ℕ) → DoneAt ps q → ¬ Past r F q
    done_within q d = subst (λ n. ¬ Past r F n) d.number (k.worked.right_ports F f d.row d.there d.holds).within

    -- a port is worked out, or passes the limit, or one that does feeds it
    abbrev HeldUpBy : ℕ → Type 0
    HeldUpBy n = DoneAt ps n ⊎ ((z : PortRow) × In z ps × (z.progress ≡ PastLimit) × ((z.port.number ≡ n) ⊎ Feeds r z.port.number n))

    each : (n : ℕ) → PortOf r n → HeldUpBy n
    each = by_feeding r s.well_formed free (λ n. PortOf r n → HeldUpBy n) step
      where
        step : (n : ℕ) → ((q : ℕ) → Feeds r q n → PortOf r q → HeldUpBy q) → PortOf r n → HeldUpBy n
        step n before (p, i, e) =
            let (x, j, same) = port_row k.worked.held p i in
            let number : x.port.number ≡ n = ap (λ (q : Port). q.number) (sym same) ∙ e in
            elim (cases_progress x.progress) [
              | inl open' ↦ absurd (k.none_open x j open')
              | inr (inl waits) ↦
                  let w = k.waits x j waits in
                  let feeds : Feeds r w.before n = direct record { hop = w.hop; there = w.there; at = w.at ∙ number; after = w.after } in
                  elim (before w.before feeds (after_port r s.well_formed w.hop w.there w.before w.after)) [
                    | inl d ↦ absurd (w.not_done d)
                    | inr (z, m, over, inl g) ↦ inr (z, m, over, inr (subst (λ a. Feeds r a n) (sym g) feeds))
                    | inr (z, m, over, inr g) ↦ inr (z, m, over, inr (through g feeds))
                  ]
              | inr (inr (inl done)) ↦ inl record { row = x; there = j; number = number; holds = done }
              | inr (inr (inr over)) ↦ inr (x, j, over, inl number)
            ]

    -- a row past the limit is one that no other such port feeds
    first_here : (x : PortRow) → In x ps → x.progress ≡ PastLimit → FirstPast r F x.port.number
    first_here x i over = record {
      past_limit = k.worked.past_ports F f x i over;
      unfed = λ q j past g. done_within q.number (fed_done k.worked (λ a n. k.worked.after_done x i (inr over) n.hop n.there n.at a n.after) g) past;
    }

    -- and the other way round
    first_back : (x : PortRow) → In x ps → FirstPast r F x.port.number → x.progress ≡ PastLimit
    first_back x i first = elim (each x.port.number (x.port, port_in k.worked.held x i, refl)) [
      | inl d ↦ absurd (done_within x.port.number d first.past_limit)
      | inr (z, j, over, inl same) ↦
          ap (λ (w : PortRow). w.progress) (one_row ps (ports_ordered r s.well_formed ps ls hs k.worked.held) x z i j (sym same)) ∙ over
      | inr (z, j, over, inr g) ↦ absurd (first.unfed z.port (port_in k.worked.held z j) (k.worked.past_ports F f z j over) g)
    ]

    -- so that the first row past the limit is that of the lowest such port
    pub lowest_past : (a : Option ℕ) → FirstPort (λ (x : PortRow). x.progress ≡ PastLimit) ps a → LowestTold r (FirstPast r F) a
    lowest_past = first_lowest r (FirstPast r F) (λ (x : PortRow). x.progress ≡ PastLimit) ps (ports_ordered r s.well_formed ps ls hs k.worked.held) k.worked.held.ports first_here first_back

    -- without one, every port is worked out
    module _ (none : NoPort r (FirstPast r F)) where
      all_done : (n : ℕ) → PortOf r n → DoneAt ps n
      all_done n p = elim (each n p) [
        | inl d ↦ d
        | inr (z, j, over, how) ↦ absurd (none z.port (port_in k.worked.held z j) (first_here z j over))
      ]

      pub settled : Settled r worth F
      settled = record {
        carried = s.carried;
        no_ring = free;
        figures = f;
        within = λ p i. done_within p.number (all_done p.number (p, i, refl));
      }

      done_row : (x : PortRow) → In x ps → x.progress ≡ WorkedOut
      done_row x i =
          let d = all_done x.port.number (x.port, port_in k.worked.held x i, refl) in
          ap (λ (w : PortRow). w.progress) (one_row ps (ports_ordered r s.well_formed ps ls hs k.worked.held) x d.row i d.there (sym d.number)) ∙ d.holds

      pub shown : Shown r F ps hs
      shown = record {
        ports = all_in (λ (x : PortRow). (x.backlog ≡ F.backlog x.port.number) × (x.depth ≡ depth r F x.port.number)) ps
            (λ x i. let right = k.worked.right_ports F f x i (done_row x i) in (right.backlog, right.depth_is));
        hops = all_in (λ (y : HopRow). (y.earliest ≡ earliest_at F y.hop) × (y.latest ≡ latest_at F y.hop)) hs
            (λ y i.
            let in_hops : In y.hop r.hops = hop_in k.worked.held y i in
            let d = all_done y.hop.port (hop_port r s.well_formed y.hop in_hops) in
            let right = k.worked.right_hops F f y i record { row = d.row; there = d.there; number = d.number; holds = inl d.holds } in
            (right.earliest, right.latest));
      }
