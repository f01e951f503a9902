-- Every call has exactly one answer and leaves exactly one state.
use Rattle.std.proofs.Common.{◌≡◌, ℕ, true, false, not, ◌&&◌, eqb, List, [], ◌∷◌, length, Some, None, Ok, Err, Option, Result, sym, refl, ap, ◌∙◌, subst, inl, inr}
use Rattle.std.specs.List.{flat_map}
use Rattle.std.proofs.lemmas.Bool.{and_parts, eqb-true, not-false}
use Rattle.definitions.specs.declared.network.Port.{Port}
use Rattle.definitions.specs.declared.network.Hop.{Hop}
use Rattle.definitions.specs.declared.refusals.Refusal.{Refusal}
use Rattle.definitions.specs.declared.refusals.Refusal.TheVariants.{LinkUnknown, PortUnknown, NoHopThere, NoHops, NoFigures, BookNotEmpty}
use Rattle.definitions.specs.Lists.{In, largest}
use Rattle.definitions.specs.Network.{Records, WellFormed}
use Rattle.definitions.specs.Entries.{Places, has_port, has_link, has_hop, first_met, entry_ground, removal_ground, entered, removed, no_records}
use Rattle.definitions.specs.Figures.{Figures, Settled, departure, depth, hops_of}
use Rattle.definitions.specs.WorkingOut.{refusal_of, PortOf}
use Rattle.definitions.specs.Text.{reading, listed, port_listed, hop_listed, written_hops, written_before}
use Rattle.definitions.specs.Calls.{Method, Served, State, Call, Answer, enter, remove_link, clear, read, work_out, port_figures, hop_figures, delay_of, write, list, count_ports, count_links, count_hops, port_at, link_at, hop_at, changed, worked, answered, is_empty, put, or_refused, Told, tell_port, tell_hop, tell_delay, DoesOrRefuses, Reads, Does, Standing, refused, done, delay_is}
use Rattle.definitions.specs.Promises.{Agree, Sound, EveryCallComesToOne, StandingFiguresHold}
use Rattle.theory.proofs.Members.{some_in, kept_in}
use Rattle.theory.proofs.Sorting.{sorted_tells}
use Rattle.theory.proofs.KeptRules.{none_met}
use Rattle.theory.proofs.Keys.{hop_port}
use Rattle.theory.proofs.Unique.{figures_agree, loads_same}
use Rattle.theory.proofs.Outcomes.{backlog_agrees, departure_agrees, settled_agrees, a_working_out_comes_to_one}
use Rattle.theory.proofs.OnTime.{no_frame_leaves_later, no_port_holds_more}
use Rattle.theory.proofs.Smaller.{forward_is_never_larger}
use Rattle.theory.proofs.SoundRuns.{every_run_is_sound}

-- ## Figures that agree tell the same

largest_same : {X : Type 0} (f g : X → ℕ) (xs : List X) → ((x : X) → In x xs → f x ≡ g x) → largest f xs ≡ largest g xs
largest_same f g [] h = refl
largest_same f g (x ∷ xs) h = rw (h x (inl refl), largest_same f g xs (λ y i. h y (inr i)))

joined_same : {X Y : Type 0} (f g : X → List Y) (xs : List X) → ((x : X) → In x xs → f x ≡ g x) → flat_map f xs ≡ flat_map g xs
joined_same f g [] h = refl
joined_same f g (x ∷ xs) h = rw (h x (inl refl), joined_same f g xs (λ y i. h y (inr i)))

-- a refusal does not look at the answer
pub or_same : (o : Option Refusal) (a b : Answer) → (o ≡ None → a ≡ b) → or_refused o a ≡ or_refused o b
or_same None a b h = h refl
or_same (Some e) a b h = refl

module _ (r : Records) (wf : WellFormed r) (F G : Figures) (a : Agree r F G) where
  pub known_port : (p : ℕ) → not (has_port r p) ≡ false → PortOf r p
  known_port p h =
      let (x, i, t) = some_in (λ (q : Port). eqb q.number p) r.ports (not-false (has_port r p) h) in
      (x, i, eqb-true x.number p t)

  depth_agrees : (p : ℕ) → PortOf r p → depth r F p ≡ depth r G p
  depth_agrees p k = rw (backlog_agrees r F G a p k, loads_same r F G p (λ h i at. (a.earliests h i, a.latests h i)))

  pub port_told : (p : ℕ) → tell_port r p F ≡ tell_port r p G
  port_told p = or_same _ _ _ (λ n.
      let k = known_port p (none_met ((not (has_port r p), PortUnknown) ∷ []) n).0 in
      cc (backlog_agrees r F G a p k, depth_agrees p k))

  pub hop_told : (l p : ℕ) → tell_hop r l p F ≡ tell_hop r l p G
  hop_told l p = or_same _ _ _ (λ n.
      let none = none_met ((not (has_link r l), LinkUnknown) ∷ (not (has_port r p), PortUnknown) ∷ (not (has_hop r l p), NoHopThere) ∷ []) n in
      let (h, i, t) = some_in (λ (h : Hop). eqb h.link l && eqb h.port p) r.hops (not-false (has_hop r l p) none.1.1.0) in
      let (x, y) = and_parts (eqb h.link l) (eqb h.port p) t in
      let e = eqb-true h.link l x in
      let f = eqb-true h.port p y in
      let early : F.earliest l p ≡ G.earliest l p = subst (λ m. F.earliest m p ≡ G.earliest m p) e (subst (λ m. F.earliest h.link m ≡ G.earliest h.link m) f (a.earliests h i)) in
      let late : F.latest l p ≡ G.latest l p = subst (λ m. F.latest m p ≡ G.latest m p) e (subst (λ m. F.latest h.link m ≡ G.latest h.link m) f (a.latests h i)) in
      rw (early, late, backlog_agrees r F G a p (known_port p none.1.0)))

  pub delay_told : (l : ℕ) → tell_delay r l F ≡ tell_delay r l G
  delay_told l = ap (λ d. or_refused (first_met ((not (has_link r l), LinkUnknown) ∷ (eqb (length (hops_of r l)) 0, NoHops) ∷ [])) (delay_is d))
      (largest_same (departure F) (departure G) (hops_of r l) (λ h i. departure_agrees r wf F G a h (kept_in (λ (h : Hop). eqb h.link l) r.hops h i).0))

  listing_same : listed r F ≡ listed r G
  listing_same = rw (
    joined_same (port_listed r F) (port_listed r G) r.ports (λ p i. cc (a.backlogs p i, depth_agrees p.number (p, i, refl))),
    joined_same (hop_listed F) (hop_listed G) (written_hops r) (λ h i.
        let j = sorted_tells (written_before r.hops) r.hops h i in
        rw (a.earliests h j, a.latests h j, backlog_agrees r F G a h.port (hop_port r wf h j))),
  )

-- ## One answer, one state

abbrev One : (Answer → State → Type 0) → Type 0
One P = (a : Answer) × (t : State) × P a t × ((b : Answer) (u : State) → P b u → (b ≡ a) × (u ≡ t))

-- a call that only answers
says : (s : State) (a : Answer) → One (λ b u. (b ≡ a) × (u ≡ s))
says s a = (a, s, (refl, refl), λ b u h. h)

does_or_refuses_one : (g : Option Refusal) (s d : State) → One (DoesOrRefuses g s d)
does_or_refuses_one None s d = (done, d, (refl, refl), λ b u h. h)
does_or_refuses_one (Some e) s d = (refused e, s, (refl, refl), λ b u h. h)

reads_one : (x : Result Records Refusal) (s : State) → One (Reads x s)
reads_one (Ok r) s = (done, changed s r, (refl, refl), λ b u h. h)
reads_one (Err e) s = (refused e, changed s no_records, (refl, refl), λ b u h. h)

-- what is told of settled figures does not depend on which
told_one : (s : State) → WellFormed s.records → Standing s → (tell : Figures → Answer)
    → ((F G : Figures) → Agree s.records F G → tell F ≡ tell G) → One (λ a t. Told s tell a × (t ≡ s))
told_one s wf st tell same = go s.served refl
  where
    go : (o : Option Served) → s.served ≡ o → One (λ a t. Told s tell a × (t ≡ s))
    go None e = (refused NoFigures, s, (told_none e, refl), λ b u h. (untold_none e b h.0, h.1))
      where
        told_none : s.served ≡ None → Told s tell (refused NoFigures)
        told_none e = subst (λ (o : Option Served). elim o as (λ _. Type 0) [ None ↦ refused NoFigures ≡ refused NoFigures | Some v ↦ (F : Figures) × Settled s.records v.method.worth F × (refused NoFigures ≡ tell F) ]) (sym e) refl

        untold_none : s.served ≡ None → (b : Answer) → Told s tell b → b ≡ refused NoFigures
        untold_none e b h = subst (λ (o : Option Served). elim o as (λ _. Type 0) [ None ↦ b ≡ refused NoFigures | Some v ↦ (F : Figures) × Settled s.records v.method.worth F × (b ≡ tell F) ]) e h
    go (Some v) e =
        let (F, k) = (st v e).1 in (
          tell F,
          s,
          (subst (λ (o : Option Served). elim o as (λ _. Type 0) [ None ↦ tell F ≡ refused NoFigures | Some v ↦ (G : Figures) × Settled s.records v.method.worth G × (tell F ≡ tell G) ]) (sym e) (F, k, refl), refl),
          λ b u h.
              let (G, m, q) = untold b h.0 in
              (q ∙ same G F (figures_agree s.records wf k.no_ring v.method.worth G F m.figures k.figures), h.1),
        )
      where
        untold : (b : Answer) → Told s tell b → (G : Figures) × Settled s.records v.method.worth G × (b ≡ tell G)
        untold b h = subst (λ (o : Option Served). elim o as (λ _. Type 0) [ None ↦ b ≡ refused NoFigures | Some v ↦ (F : Figures) × Settled s.records v.method.worth F × (b ≡ tell F) ]) e h

works_one : (s : State) → WellFormed s.records → (m : Method) (n : ℕ) → One (Does s (work_out m n))
works_one s wf m n =
    let (o, w, only) = a_working_out_comes_to_one s.records wf m.worth n in (
      answered (refusal_of o),
      worked s m n o,
      (o, w, refl, refl),
      λ b u h.
          let (v, x, y, z) = h in
          let e = only v x in
          (y ∙ ap (λ k. answered (refusal_of k)) e, z ∙ ap (worked s m n) e),
    )

does_one : (pl : Places) (s : State) → Sound pl s → (c : Call) → One (Does s c)
does_one pl s o (enter e) = does_or_refuses_one (entry_ground s.places s.records e) s (changed s (entered s.records e))
does_one pl s o (remove_link l) = does_or_refuses_one (removal_ground s.records l) s (changed s (removed s.records l))
does_one pl s o clear = (done, changed s no_records, (refl, refl), λ b u h. h)
does_one pl s o (read text) = elim (is_empty s.records) as (λ b.
    One (λ a t. elim b as (λ _. Type 0) [ true ↦ Reads (reading s.places text) s a t | false ↦ (a ≡ refused BookNotEmpty) × (t ≡ s) ])) [
      | true ↦ reads_one (reading s.places text) s
      | false ↦ says s (refused BookNotEmpty)
    ]
does_one pl s o (work_out m n) = works_one s o.well_formed m n
does_one pl s o (port_figures p) = told_one s o.well_formed o.standing (tell_port s.records p) (λ F G a. port_told s.records o.well_formed F G a p)
does_one pl s o (hop_figures l p) = told_one s o.well_formed o.standing (tell_hop s.records l p) (λ F G a. hop_told s.records o.well_formed F G a l p)
does_one pl s o (delay_of l) = told_one s o.well_formed o.standing (tell_delay s.records l) (λ F G a. delay_told s.records o.well_formed F G a l)
does_one pl s o (write n) = says s _
does_one pl s o (list n) = told_one s o.well_formed o.standing (λ F. put n (listed s.records F)) (λ F G a. ap (put n) (listing_same s.records o.well_formed F G a))
does_one pl s o count_ports = says s _
does_one pl s o count_links = says s _
does_one pl s o count_hops = says s _
does_one pl s o (port_at i) = says s _
does_one pl s o (link_at i) = says s _
does_one pl s o (hop_at i) = says s _

pub every_call_comes_to_one : EveryCallComesToOne
every_call_comes_to_one pl s o c f =
    let (a, t, d, only) = does_one pl s o c in
    (a, t, record { fits = f; does = d }, λ b u h. only b u h.does)

-- ## What holds while figures stand

pub standing_figures_hold : StandingFiguresHold
standing_figures_hold pl cs as' t runs v e F f =
    let o = every_run_is_sound pl cs as' t runs in
    let wf = o.well_formed in
    let w = o.standing v e in
    let worth = v.method.worth in
    let s = settled_agrees t.records wf worth w.1.0 F w.1.1 f in (
      no_frame_leaves_later t.records wf worth v.method.lawful F s,
      no_port_holds_more t.records wf worth v.method.lawful F s,
      forward_is_never_larger t.records wf worth v.method.lawful v.places w F f,
    )
