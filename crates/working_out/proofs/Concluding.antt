-- What a working-out comes to, over the tables.
use Rattle.std.proofs.Common.{◌≡◌, ℕ, ◌<◌, ◌≤◌, true, false, List, map, length, Some, None, Ok, Err, is_err, Option, Result, sym, refl, ap, ◌∙◌, subst, arith}
use Rattle.definitions.specs.declared.loads.Load.{Load}
use Rattle.definitions.specs.declared.refusals.Refusal.{Refusal}
use Rattle.definitions.specs.declared.refusals.Refusal.TheVariants.{LoadTableShort, PortOverloaded, PortInRing, FigurePastLimit}
use Rattle.definitions.specs.Lists.{In}
use Rattle.definitions.specs.Windows.{Overloaded}
use Rattle.definitions.specs.Methods.{Lawful}
use Rattle.definitions.specs.Network.{Records, WellFormed}
use Rattle.definitions.specs.Figures.{Figures, FiguresOf, Settled, OverloadedAt, still, depth, loads}
use Rattle.definitions.specs.WorkingOut.{Outcome, settles, short, overloaded, ring, past}
use Rattle.register.specs.Registers.{rows, viewed}
use Rattle.theory.proofs.Members.{all_in, in_all}
use Rattle.theory.proofs.Exist.{figures_exist}
use Rattle.working_out.specs.declared.rows.Progress.TheVariants.{Open, PastLimit}
use Rattle.working_out.specs.declared.rows.PortRow.{PortRow}
use Rattle.working_out.specs.declared.rows.LinkRow.{LinkRow}
use Rattle.working_out.specs.declared.rows.HopRow.{HopRow}
use Rattle.working_out.specs.Keys.{Ports, Links, Hops, number_before, port_key}
use Rattle.working_out.specs.Edits.{EditsAll}
use Rattle.working_out.specs.Rows.{bare_port, bare_hop, net, rested, AtRest}
use Rattle.working_out.specs.Gathering.{loads_at, FirstPort, OverloadedRow}
use Rattle.working_out.specs.Settling.{Setting, Holds, Worked, Stuck}
use Rattle.working_out.specs.Rings.{Remarked, RingTold, LowestTold}
use Rattle.working_out.specs.Works.{Shown, Zero, Cleared, FiguresLeft, result_of, Judged, Works}
use Rattle.working_out.proofs.RowLists.{map_in, map_again, map_fixed}
use Rattle.working_out.proofs.Held.{hop_count}
use Rattle.working_out.proofs.LoadsOf.{loads_are}
use Rattle.working_out.proofs.Rounds.{unworked}
use Rattle.working_out.proofs.RingMarks.{ports_of_marks, row_of_marks}
use Rattle.working_out.proofs.FirstPorts.{first_lowest}
use Rattle.working_out.proofs.Judging.{lowest_past, settled, shown}

-- ## Judging

module _ (t u : Ports) (hs : List HopRow) (marks : Remarked t u)
    (r : Records) (worth : List Load → ℕ) (ls : List LinkRow) (s : Setting r worth) (k : Stuck r worth (rows t) ls hs) where
  still_held : Holds r (rows u) ls hs
  still_held = record { ports = ports_of_marks (rows t) (rows u) marks.marks_only ∙ k.worked.held.ports; links = k.worked.held.links; hops = k.worked.held.hops }

  pub judged_ring : (p : ℕ) → RingTold r (Some p) → Judged r worth (rows u) ls hs (Err (PortInRing p))
  judged_ring p told = record {
    outcome = ring p;
    told = refl;
    comes = λ n le. (le, s.carried, told);
    held = still_held;
    shown = λ e. cc;
  }

  module _ (free : RingTold r None) where
    abbrev F : Figures
    F = (figures_exist r s.well_formed free worth).0

    f : FiguresOf r worth F
    f = (figures_exist r s.well_formed free worth).1

    pub judged_past : (p : ℕ) → FirstPort (λ (x : PortRow). x.progress ≡ PastLimit) (rows t) (Some p) → Judged r worth (rows u) ls hs (Err (FigurePastLimit p))
    judged_past p first = record {
      outcome = past p;
      told = refl;
      comes = λ n le. (le, s.carried, free, (F, f, lowest_past r worth s (rows t) ls hs k free F f (Some p) first));
      held = still_held;
      shown = λ e. cc;
    }

    module _ (none : FirstPort (λ (x : PortRow). x.progress ≡ PastLimit) (rows t) None) where
      figures : Settled r worth F
      figures = settled r worth s (rows t) ls hs k free F f (lowest_past r worth s (rows t) ls hs k free F f None none)

      figures_shown : Shown r F (rows u) hs
      figures_shown =
          let before = shown r worth s (rows t) ls hs k free F f (lowest_past r worth s (rows t) ls hs k free F f None none) in
          record {
            ports = all_in (λ (x : PortRow). (x.backlog ≡ F.backlog x.port.number) × (x.depth ≡ depth r F x.port.number)) (rows u)
                (λ x i.
                let (y, j, e) = row_of_marks (rows u) (rows t) (sym marks.marks_only) x i in
                grind (arith, in_all (λ (z : PortRow). (z.backlog ≡ F.backlog z.port.number) × (z.depth ≡ depth r F z.port.number)) (rows t) before.ports y j));
            hops = before.hops;
          }

      pub judged_none : Judged r worth (rows u) ls hs (Ok tt)
      judged_none = record {
        outcome = settles;
        told = refl;
        comes = λ n le. (le, (F, figures));
        held = still_held;
        shown = λ e. (F, figures, figures_shown);
      }

-- ## The whole working-out

-- the records of cleared rows are the same, and the figures zero
module _ (t : Ports) (h : Hops) (u : Ports) (k : Hops) (c : Cleared t h u k) where
  pub cleared_held : (r : Records) (ls : List LinkRow) → Holds r (rows t) ls (rows h) → Holds r (rows u) ls (rows k)
  cleared_held r ls held = record {
    ports = ap (map (λ (x : PortRow). x.port)) c.ports ∙ map_again (λ (x : PortRow). x.port) (λ (x : PortRow). bare_port x.port) (rows t) (λ x. refl) ∙ held.ports;
    links = held.links;
    hops = ap (map (λ (y : HopRow). y.hop)) c.hops ∙ map_again (λ (y : HopRow). y.hop) (λ (y : HopRow). bare_hop y.hop) (rows h) (λ y. refl) ∙ held.hops;
  }

  bare_in : (x : PortRow) → In x (rows u) → (y : PortRow) × In y (rows t) × (x ≡ bare_port y.port)
  bare_in x i = map_in (λ (y : PortRow). bare_port y.port) (rows t) x (subst (In x) c.ports i)

  bare_hop_in : (x : HopRow) → In x (rows k) → (y : HopRow) × In y (rows h) × (x ≡ bare_hop y.hop)
  bare_hop_in x i = map_in (λ (y : HopRow). bare_hop y.hop) (rows h) x (subst (In x) c.hops i)

  pub cleared_zero : Zero (rows u) (rows k)
  cleared_zero = record {
    ports = all_in (λ (x : PortRow). (x.backlog ≡ 0) × (x.depth ≡ 0)) (rows u)
        (λ x i. let (y, j, e) = bare_in x i in (cc, cc));
    hops = all_in (λ (x : HopRow). (x.earliest ≡ 0) × (x.latest ≡ 0)) (rows k)
        (λ x i. let (y, j, e) = bare_hop_in x i in (cc, cc));
  }

  pub cleared_rests : AtRest (rows u)
  cleared_rests = rw c.ports (map_fixed rested (λ (x : PortRow). bare_port x.port) (rows t) (λ x. refl))

  pub cleared_open : (x : PortRow) → In x (rows u) → x.progress ≡ Open
  cleared_open x i = let (y, j, e) = bare_in x i in cc

  -- over cleared rows, overload is told of the records
  pub overload_told : (r : Records) → WellFormed r → (l : Links) → Holds r (rows u) (viewed l) (rows k) → (a : Option ℕ)
      → (FirstPort (OverloadedRow (viewed l) (rows k)) (rows u) a) → LowestTold r (OverloadedAt r) a
  overload_told r wf l held a first =
      first_lowest r (OverloadedAt r) (OverloadedRow (viewed l) (rows k)) (rows u) u.ascends held.ports
      (λ x i o. subst Overloaded (same x i) o) (λ x i o. subst Overloaded (sym (same x i)) o) a first
    where
      same : (x : PortRow) → In x (rows u) → loads_at (viewed l) x.port (rows k) ≡ loads r still x.port.number
      same x i = loads_are r wf still (rows u) (viewed l) (rows k) held x i
          (λ y j at. let (z, m, e) = bare_hop_in y j in (cc, cc))

-- the marks of all rows are put to rest, and figures stay
module _ (v w : Ports) (e : EditsAll number_before port_key rested v w) where
  all_rested : rows w ≡ map rested (rows v)
  all_rested = e.edited (λ x. refl)

  pub edited_rests : AtRest (rows w)
  edited_rests = rw all_rested (map_fixed rested rested (rows v) (λ x. refl))

  rested_held : (r : Records) (ls : List LinkRow) (hs : List HopRow) → Holds r (rows v) ls hs → Holds r (rows w) ls hs
  rested_held r ls hs held = record {
    ports = ap (map (λ (x : PortRow). x.port)) all_rested ∙ map_again (λ (x : PortRow). x.port) rested (rows v) (λ x. refl) ∙ held.ports;
    links = held.links;
    hops = held.hops;
  }

  rested_shown : (r : Records) (F : Figures) (hs : List HopRow) → Shown r F (rows v) hs → Shown r F (rows w) hs
  rested_shown r F hs before = record {
    ports = all_in (λ (x : PortRow). (x.backlog ≡ F.backlog x.port.number) × (x.depth ≡ depth r F x.port.number)) (rows w)
        (λ x i.
        let (y, j, f) = map_in rested (rows v) x (subst (In x) all_rested i) in
        let there = in_all (λ (z : PortRow). (z.backlog ≡ F.backlog z.port.number) × (z.depth ≡ depth r F z.port.number)) (rows v) before.ports y j in
        rw f there);
    hops = before.hops;
  }

module _ (worth : List Load → ℕ) (law : Lawful worth) (n : ℕ) (p : Ports) (l : Links) (h : Hops) (wf : WellFormed (net (rows p) (viewed l) (rows h))) where
  abbrev r : Records
  r = net (rows p) (viewed l) (rows h)

  module _ (q : Ports) (k : Hops) (c : Cleared p h q k) where
    held : Holds (net (rows p) (viewed l) (rows h)) (rows q) (viewed l) (rows k)
    held = cleared_held p h q k c (net (rows p) (viewed l) (rows h)) (viewed l) record { ports = refl; links = refl; hops = refl }

    pub works_short : n < length (rows k) → Works r worth n (rows q) (viewed l) (rows k) (Err LoadTableShort)
    works_short less = record { outcome = short; comes = omega (arith, less, hop_count held); answer = refl; held = held; left = cleared_zero p h q k c }

    module _ (room : length (rows k) ≤ n) where
      told : (a : Option ℕ) → (FirstPort (OverloadedRow (viewed l) (rows k)) (rows q) a) → LowestTold r (OverloadedAt r) a
      told = overload_told p h q k c r wf l held

      pub works_overloaded : (x : ℕ) → (FirstPort (OverloadedRow (viewed l) (rows k)) (rows q) (Some x))
          → Works r worth n (rows q) (viewed l) (rows k) (Err (PortOverloaded x))
      works_overloaded x first = record { outcome = overloaded x; comes = (omega (arith, room, hop_count held), told (Some x) first); answer = refl; held = held; left = cleared_zero p h q k c }

      module _ (first : FirstPort (OverloadedRow (viewed l) (rows k)) (rows q) None) (u v : Ports) (m : Hops) (o : Result (Unit {0}) Refusal)
          (stuck : (r : Records) → Setting r worth → Worked r worth (rows q) (viewed l) (rows k) → Stuck r worth (rows u) (viewed l) (rows m))
          (judged : (r : Records) (worth : List Load → ℕ) (ls : List LinkRow) → Setting r worth → Stuck r worth (rows u) ls (rows m) → Judged r worth (rows v) ls (rows m) o) where
        verdict : Judged r worth (rows v) (viewed l) (rows m) o
        verdict =
            let s : Setting r worth = record { well_formed = wf; lawful = law; carried = told None first } in
            let start = unworked r worth (rows q) (viewed l) (rows k) held (cleared_open p h q k c) in
            judged r worth (viewed l) s (stuck r s start)

        pub works_refused : is_err o ≡ true → (w : Ports) (j : Hops) → Cleared v m w j → Works r worth n (rows w) (viewed l) (rows j) o
        works_refused is w j again = record {
          outcome = verdict.outcome;
          comes = verdict.comes n (omega (arith, room, hop_count held));
          answer = verdict.told;
          held = cleared_held v m w j again r (viewed l) verdict.held;
          left = zero_left verdict.outcome (sym (ap is_err verdict.told) ∙ is);
        }
          where
            zero_left : (x : Outcome) → is_err (result_of x) ≡ true → FiguresLeft r worth (rows w) (rows j) x
            zero_left x f = grind (arith, cleared_zero v m w j again)

        pub works_settled : is_err o ≡ false → (w : Ports) → EditsAll number_before port_key rested v w → Works r worth n (rows w) (viewed l) (rows m) o
        works_settled is w e =
            let well : o ≡ Ok tt = grind arith in
            let (G, done, figures) = verdict.shown well in
            record {
              outcome = settles;
              comes = (omega (arith, room, hop_count held), (G, done));
              answer = well;
              held = rested_held v w e r (viewed l) (rows m) verdict.held;
              left = (G, done, rested_shown v w e r G (rows m) figures);
            }
