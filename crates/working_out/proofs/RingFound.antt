-- RingFound: trying the ports one by one finds the lowest that feeds itself.
--
--   SelfFed hs x         the port of the row x feeds itself by the hops of the rows hs
--   NoneBefore hs t i u  no port before the place i of t does, and u is t but for the marks
use Rattle.std.proofs.Common.{◌≡◌, ℕ, ◌+◌, ◌<◌, ◌≤◌, Bool, true, false, List, map, length, get_or, take, Some, None, Decides, Option, sym, refl, ap, ◌∙◌, subst, arith}
use Rattle.std.specs.List.{AllByRecursion, slice_get}
use Rattle.std.proofs.ByRecursion.{All-more}
use Rattle.std.proofs.lemmas.List.{get_or-map, length-map, take_all}
use Rattle.std.proofs.lemmas.Option.{slice_get_within, get_or_from_slice_get}
use Rattle.definitions.specs.Lists.{In}
use Rattle.definitions.specs.Network.{Records, WellFormed, Feeds, direct, through}
use Rattle.theory.proofs.Members.{in_map}
use Rattle.theory.proofs.Keys.{hop_port}
use Rattle.register.specs.Registers.{rows}
use Rattle.working_out.specs.declared.rows.PortRow.{PortRow}
use Rattle.working_out.specs.declared.rows.HopRow.{HopRow}
use Rattle.working_out.specs.Keys.{port_key, Ports}
use Rattle.working_out.specs.Gathering.{FirstPort}
use Rattle.working_out.specs.Rings.{unmarked, Remarked, FedBy, Homed, FeedsItself, FindsRing}
use Rattle.working_out.proofs.Gathered.{first_here}
use Rattle.working_out.proofs.RowLists.{map_in}
use Rattle.working_out.proofs.RingMarks.{same_of_marks, remarked_on, homed_of_marks}
use Rattle.working_out.proofs.FirstPorts.{first_lowest}

abbrev pub SelfFed : List HopRow → PortRow → Type 0
SelfFed hs x = FedBy hs (port_key x) (port_key x)

abbrev pub NoneBefore : List HopRow → Ports → ℕ → Ports → Type 0
NoneBefore hs t i u = Remarked t u × (Homed (rows t) hs → AllByRecursion (λ x. ¬ SelfFed hs x) (take i (rows t)))

-- ## Rows and records

-- feeding is a matter of the hops alone
pub feeds_with : (r s : Records) → r.hops ≡ s.hops → {q p : ℕ} → Feeds r q p → Feeds s q p
feeds_with r s e (direct f) = direct (record { hop = f.hop; there = subst (In f.hop) e f.there; at = f.at; after = f.after })
feeds_with r s e (through a b) = through (feeds_with r s e a) (feeds_with r s e b)

-- each hop of well-formed records stands at one of their ports
pub homed : (r : Records) → WellFormed r → (xs : List PortRow) (hs : List HopRow)
    → map (λ (x : PortRow). x.port) xs ≡ r.ports → map (λ (x : HopRow). x.hop) hs ≡ r.hops → Homed xs hs
homed r wf xs hs ports hops h i =
    let (p, j, e) = hop_port r wf h.hop (subst (In h.hop) hops (in_map (λ (x : HopRow). x.hop) hs h i)) in
    let (x, k, f) = map_in (λ (x : PortRow). x.port) xs p (subst (In p) (sym ports) j) in
    (x, k, cc)

ring_told : (hs : List HopRow) (t u : Ports) (a : Option ℕ) → Remarked t u
    → (Homed (rows t) hs → FirstPort (SelfFed hs) (rows t) a) → FindsRing hs t u a
ring_told hs t u a marks first = record {
  remarked = marks;
  told = λ r wf ports hops.
      first_lowest r (λ n. Feeds r n n) (SelfFed hs) (rows t) t.ascends ports
      (λ x i f. feeds_with _ r hops f) (λ x i f. feeds_with r _ (sym hops) f)
      a (first (homed r wf (rows t) hs ports hops));
}

-- ## One port after another

-- the rows at one place are of one port
number_at : (xs ys : List PortRow) → map unmarked ys ≡ map unmarked xs → (i : ℕ) (y d : PortRow) → i < length xs → Some y ≡ slice_get ys i → port_key (get_or xs i d) ≡ port_key y
number_at xs ys e i y d lt is =
    cc (get_or-map port_key xs i d 0 lt, same_of_marks port_key (λ x. refl) xs ys e, get_or-map port_key ys i d 0 (slice_get_within ys i y (sym is)), get_or_from_slice_get ys i y d (sym is))

same_length : (xs ys : List PortRow) → map unmarked ys ≡ map unmarked xs → length ys ≡ length xs
same_length xs ys e = sym (length-map ys unmarked) ∙ ap length e ∙ length-map xs unmarked

module _ (hs : List HopRow) (t u : Ports) (i : ℕ) (none : NoneBefore hs t i u) where
  module _ (v : Ports) (row : PortRow) (is : Some row ≡ slice_get (rows u) i) where
    within : i < length (rows t)
    within = omega (arith, slice_get_within (rows u) i row (sym is), same_length (rows t) (rows u) none.0.marks_only)

    here : port_key (get_or (rows t) i row) ≡ port_key row
    here = number_at (rows t) (rows u) none.0.marks_only i row row within is

    told_here : (b : Bool) → FeedsItself hs (port_key row) u v b → Homed (rows t) hs → Decides b (SelfFed hs (get_or (rows t) i row))
    told_here b tried h =
        subst (λ n. Decides b (FedBy hs n n)) (sym here)
        (tried.told (homed_of_marks (rows t) (rows u) none.0.marks_only hs h))

    -- the port at the place does not feed itself
    pub none_here : FeedsItself hs (port_key row) u v false → NoneBefore hs t (i + 1) v
    none_here tried = (
      remarked_on t u v none.0 tried.remarked,
      λ h. All-more (λ x. ¬ SelfFed hs x) (rows t) i row within (none.1 h) (λ f. cc ((told_here false tried h).1 f)),
    )

    -- it does
    pub ring_here : FeedsItself hs (port_key row) u v true → FindsRing hs t v (Some (port_key row))
    ring_here tried =
        ring_told hs t v (Some (port_key row)) (remarked_on t u v none.0 tried.remarked)
        (λ h. subst (λ n. FirstPort (SelfFed hs) (rows t) (Some n)) here
        (first_here (SelfFed hs) (rows t) i row within (none.1 h) ((told_here true tried h).0 refl)))

  -- after the last place
  pub no_ring : length (rows t) ≤ i → FindsRing hs t u None
  no_ring le = ring_told hs t u None none.0 (λ h. subst (AllByRecursion (λ x. ¬ SelfFed hs x)) (take_all i (rows t) le) (none.1 h))
