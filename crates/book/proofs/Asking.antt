-- What a book tells while figures stand is what its calls answer, and what is promised of it.
use Rattle.std.proofs.Common.{◌≡◌, ℕ, ◌+◌, ◌≤◌, true, false, not, ◌&&◌, eqb, List, [], ◌∷◌, drop, is_some, Some, None, Ok, Err, Option, Result, sym, refl, ap, ◌∙◌, subst, inl, inr, arith}
use native.Mathlib.Decide.{dec_le}
use Rattle.std.proofs.lemmas.Bool.{and_parts, eqb-true, not-false}
use Rattle.definitions.specs.declared.network.Port.{Port}
use Rattle.definitions.specs.declared.network.VirtualLink.{VirtualLink}
use Rattle.definitions.specs.declared.network.Hop.{Hop}
use Rattle.definitions.specs.declared.refusals.Refusal.{Refusal}
use Rattle.definitions.specs.declared.refusals.Refusal.TheVariants.{NoFigures}
use Rattle.definitions.specs.Lists.{In, largest}
use Rattle.definitions.specs.Methods.{limit}
use Rattle.definitions.specs.Network.{Records, WellFormed}
use Rattle.definitions.specs.Entries.{first_met, has_link, has_hop}
use Rattle.definitions.specs.Figures.{Figures, FiguresOf, Settled, Past, departure, delay, depth, hops_of}
use Rattle.definitions.specs.Traffic.{end, unsent, held_count}
use Rattle.definitions.specs.WorkingOut.{PortOf}
use Rattle.definitions.specs.Calls.{Served, State, Call, Answer, refused, backlog_depth, earliest_latest_departure, delay_is, port_figures, hop_figures, delay_of, Fits, or_refused, Told, tell_port, tell_hop, tell_delay, Does}
use Rattle.definitions.specs.Promises.{Agree, NoFrameLeavesLater, NoPortHoldsMore, ForwardSucceedsNoLarger}
use Rattle.register.specs.Registers.{rows}
use Rattle.theory.proofs.Members.{some_in, kept_in}
use Rattle.theory.proofs.KeptRules.{none_met}
use Rattle.theory.proofs.Keys.{hop_port}
use Rattle.theory.proofs.Smaller.{departure_smaller}
use Rattle.theory.proofs.Unique.{figures_agree}
use Rattle.theory.proofs.Outcomes.{backlog_agrees, departure_agrees}
use Rattle.theory.proofs.SoundRuns.{every_run_is_sound}
use Rattle.theory.proofs.OneAnswer.{or_same, known_port, port_told, hop_told, delay_told, standing_figures_hold}
use Rattle.book.specs.declared.books.Book.{Book}
use Rattle.book.specs.Books.{records, places, Shows, Made, Adds}
use Rattle.book.specs.Questions.{port_row, shown, told, capped, the_hop, port_question, hop_question, delay_question, told_port, told_hop, told_delay, port_answer, hop_answer, delay_answer, PortPromised, HopPromised, DelayPromised}
use Rattle.book.proofs.Adding.{question_adds}
use Rattle.book.proofs.Showing.{shown_agree, depth_shown}

-- ## What holds while figures stand

-- the figures that the book shows, with all that holds of them
pub record Stands (b : Book) (v : Served) : Type 0 where
  pub figures : Figures
  pub settled : Settled (records b) v.method.worth figures
  pub shows : Shows b figures
  pub well_formed : WellFormed (records b)
  pub no_later : NoFrameLeavesLater (records b) figures
  pub no_more : NoPortHoldsMore (records b) figures
  pub by_forward : ForwardSucceedsNoLarger (records b) figures v.places

pub standing_now : (cs : List Call) (as' : List Answer) (b : Book) (m : Made cs as' b) (v : Served) → m.state.served ≡ Some v → Stands b v
standing_now cs as' b m v e =
    let (F, k, w) = m.shows v e in
    let (no_later, no_more, by_forward) = subst (λ (r : Records). FiguresOf r v.method.worth F → NoFrameLeavesLater r F × NoPortHoldsMore r F × ForwardSucceedsNoLarger r F v.places) (sym m.holds)
    (standing_figures_hold (places b) cs as' m.state m.runs v e F) k.figures in
    record {
      figures = F;
      settled = k;
      shows = w;
      well_formed = rw m.holds (every_run_is_sound (places b) cs as' m.state m.runs).well_formed;
      no_later = no_later;
      no_more = no_more;
      by_forward = by_forward;
    }

-- ## Within 64 bits

-- no departure of settled figures passes the limit
departure_within : (r : Records) → WellFormed r → (F : Figures) → ((p : Port) → In p r.ports → ¬ Past r F p.number) → (h : Hop) → In h r.hops → departure F h ≤ limit
departure_within r wf F within h i =
    let (p, j, e) = hop_port r wf h i in
    elim (dec_le (departure F h) limit) [
      | yes le ↦ le
      | no over ↦ absurd (within p j (inr (h, i, sym e, omega arith)))
    ]

-- nor does the largest of such
largest_within : {X : Type 0} (f : X → ℕ) (n : ℕ) (xs : List X) → ((x : X) → In x xs → f x ≤ n) → largest f xs ≤ n
largest_within f n [] h = omega arith
largest_within f n (x ∷ xs) h = omega (arith, h x (inl refl), largest_within f n xs (λ y i. h y (inr i)))

limit_capped : (n : ℕ) → n ≤ limit → capped n ≡ n
limit_capped n le = omega arith

-- ## What is told is what the figures say

-- what is told, as an answer of the list of calls
answer_told : {X : Type 0} (ok : X → Answer) (f : Result X Refusal → Answer) → ((x : X) → f (Ok x) ≡ ok x) → ((e : Refusal) → f (Err e) ≡ refused e)
    → (o : Option Refusal) (x : X) → f (told o x) ≡ or_refused o (ok x)
answer_told ok f a b None x = a x
answer_told ok f a b (Some e) x = b e

-- a hop of the link at the port
hop_there : (r : Records) (l p : ℕ) → not (has_hop r l p) ≡ false → (h : Hop) × In h r.hops × (h.link ≡ l) × (h.port ≡ p)
hop_there r l p t =
    let (h, i, q) = some_in (λ (h : Hop). eqb h.link l && eqb h.port p) r.hops (not-false (has_hop r l p) t) in
    let (a, b) = and_parts (eqb h.link l) (eqb h.port p) q in
    (h, i, eqb-true h.link l a, eqb-true h.port p b)

link_there : (r : Records) (l : ℕ) → not (has_link r l) ≡ false → (m : VirtualLink) × In m r.links × (m.number ≡ l)
link_there r l t =
    let (m, i, q) = some_in (λ (m : VirtualLink). eqb m.number l) r.links (not-false (has_link r l) t) in
    (m, i, eqb-true m.number l q)

-- figures look at the link and the port of a hop only
departure_there : (F : Figures) (h : Hop) (l p : ℕ) → h.link ≡ l → h.port ≡ p → departure F h ≡ departure F (the_hop l p)
departure_there F h l p e f = rw (e, f)

module _ (b : Book) (up : b.standing ≡ true) (v : Served) (now : Stands b v) where
  abbrev net : Records
  net = records b

  abbrev F : Figures
  F = now.figures

  agree : Agree net (shown b) F
  agree = shown_agree b F now.shows

  depth_at : (p : ℕ) → PortOf net p → (port_row (rows b.ports) p).depth ≡ depth net F p
  depth_at p k = let (x, i, e) = k in subst (λ n. (port_row (rows b.ports) n).depth ≡ depth net F n) e (depth_shown b F now.shows x i)

  shown_within : (h : Hop) → In h net.hops → departure (shown b) h ≤ limit
  shown_within h i = omega (arith, departure_agrees net now.well_formed (shown b) F agree h i, departure_within net now.well_formed F now.settled.within h i)

  pub port_answered : (p : ℕ) → port_answer (told_port b p) ≡ tell_port net p F
  port_answered p =
      let x : ℕ × ℕ = ((shown b).backlog p, (port_row (rows b.ports) p).depth) in
      simp up (
      answer_told (λ x. backlog_depth x.0 x.1) port_answer (λ x. refl) (λ e. refl) (first_met (drop 1 (port_question b p))) x
      ∙ or_same (first_met (drop 1 (port_question b p))) _ _ (λ n.
      let k = known_port net now.well_formed (shown b) F agree p (none_met (drop 1 (port_question b p)) n).0 in
      cc (backlog_agrees net (shown b) F agree p k, depth_at p k))
      )

  pub hop_answered : (l p : ℕ) → hop_answer (told_hop b l p) ≡ tell_hop net l p F
  hop_answered l p =
      let x : ℕ × ℕ × ℕ = ((shown b).earliest l p, (shown b).latest l p, capped (departure (shown b) (the_hop l p))) in
      simp up (
      answer_told (λ x. earliest_latest_departure x.0 x.1 x.2) hop_answer (λ x. refl) (λ e. refl) (first_met (drop 1 (hop_question b l p))) x
      ∙ or_same (first_met (drop 1 (hop_question b l p))) _ _ (λ n.
      let (h, i, e, f) = hop_there net l p (none_met (drop 1 (hop_question b l p)) n).1.1.0 in
      ap (earliest_latest_departure ((shown b).earliest l p) ((shown b).latest l p))
      (limit_capped (departure (shown b) (the_hop l p)) (omega (arith, departure_there (shown b) h l p e f, shown_within h i))))
      ∙ hop_told net now.well_formed (shown b) F agree l p
      )

  pub delay_answered : (l : ℕ) → delay_answer (told_delay b l) ≡ tell_delay net l F
  delay_answered l =
      let within = largest_within (departure (shown b)) limit (hops_of net l) (λ h i. shown_within h (kept_in (λ (h : Hop). eqb h.link l) net.hops h i).0) in
      simp up (
      answer_told delay_is delay_answer (λ x. refl) (λ e. refl) (first_met (drop 1 (delay_question b l))) (capped (delay net (shown b) l))
      ∙ or_same (first_met (drop 1 (delay_question b l))) _ _ (λ n. ap delay_is (limit_capped (delay net (shown b) l) within))
      ∙ delay_told net now.well_formed (shown b) F agree l
      )

-- ## One call more

-- a question about figures, told by those that the book shows
telling_adds : (c : Call) → Fits c → (b : Book) (a : Answer) (tell : Records → Figures → Answer) → ((s : State) → Told s (tell s.records) a → Does s c a s)
    → (b.standing ≡ false → a ≡ refused NoFigures) → (b.standing ≡ true → (v : Served) (now : Stands b v) → a ≡ tell (records b) now.figures)
    → Adds c a b b
telling_adds c fits b a tell does none some = question_adds c fits a b (λ cs as' m. does m.state (go cs as' m m.state.served refl))
  where
    go : (cs : List Call) (as' : List Answer) (m : Made cs as' b) (o : Option Served) → m.state.served ≡ o → Told m.state (tell m.state.records) a
    go cs as' m None e = rw (e, Told) (none (m.stands ∙ ap is_some e))
    go cs as' m (Some v) e =
        let now = standing_now cs as' b m v e in
        rw (e, Told, ← m.holds) (now.figures, now.settled, some (m.stands ∙ ap is_some e) v now)

pub port_adds : (b : Book) (p : ℕ) (r : Result (ℕ × ℕ) Refusal) → r ≡ told_port b p → Adds (port_figures p) (port_answer r) b b
port_adds b p r is =
    telling_adds (port_figures p) tt b (port_answer r) (λ n. tell_port n p) (λ s t. (t, refl))
    (λ down. ap port_answer is ∙ rw down) (λ up v now. ap port_answer is ∙ port_answered b up v now p)

pub hop_adds : (b : Book) (l p : ℕ) (r : Result (ℕ × ℕ × ℕ) Refusal) → r ≡ told_hop b l p → Adds (hop_figures l p) (hop_answer r) b b
hop_adds b l p r is =
    telling_adds (hop_figures l p) tt b (hop_answer r) (λ n. tell_hop n l p) (λ s t. (t, refl))
    (λ down. ap hop_answer is ∙ rw down) (λ up v now. ap hop_answer is ∙ hop_answered b up v now l p)

pub delay_adds : (b : Book) (l : ℕ) (r : Result ℕ Refusal) → r ≡ told_delay b l → Adds (delay_of l) (delay_answer r) b b
delay_adds b l r is =
    telling_adds (delay_of l) tt b (delay_answer r) (λ n. tell_delay n l) (λ s t. (t, refl))
    (λ down. ap delay_answer is ∙ rw down) (λ up v now. ap delay_answer is ∙ delay_answered b up v now l)

-- ## What is promised

-- an answer that is no refusal meets no ground
answer_given : (o : Option Refusal) (a given : Answer) → ((e : Refusal) → ¬ (a ≡ refused e)) → a ≡ or_refused o given → (o ≡ None) × (a ≡ given)
answer_given None a given never e = (refl, e)
answer_given (Some f) a given never e = absurd (never f e)

module _ (b : Book) (v : Served) (now : Stands b v) (G : Figures) (g : FiguresOf (records b) v.method.worth G) where
  -- figures of the same records and method agree
  others_agree : Agree (records b) now.figures G
  others_agree = figures_agree (records b) now.well_formed now.settled.no_ring v.method.worth now.figures G now.settled.figures g

pub port_promised : (b : Book) (p : ℕ) (r : Result (ℕ × ℕ) Refusal) → r ≡ told_port b p → PortPromised b p r
port_promised b p r is cs as' m v e x y ok =
    let now = standing_now cs as' b m v e in
    let net = records b in
    let F = now.figures in
    let answer : backlog_depth x y ≡ tell_port net p F = ap port_answer (sym ok ∙ is) ∙ port_answered b (m.stands ∙ ap is_some e) v now p in
    let ground = first_met (drop 1 (port_question b p)) in
    let (none, same) = answer_given ground (backlog_depth x y) _ (λ f h. cc) answer in
    let (q, i, at) = known_port net now.well_formed (shown b) F (shown_agree b F now.shows) p (none_met (drop 1 (port_question b p)) none).0 in
    let backlog : x ≡ F.backlog p = cc in
    let deep : y ≡ depth net F p = cc in
    record {
      figures = λ G g.
          let alike : backlog_depth x y ≡ backlog_depth (G.backlog p) (depth net G p)
          = (answer_given ground (backlog_depth x y) (backlog_depth (G.backlog p) (depth net G p)) (λ f h. cc) (answer ∙ port_told net now.well_formed F G (others_agree b v now G g) p)).1 in
          (cc, cc);
      exist = (F, now.settled);
      unsent_most = λ T k t. omega (arith, backlog, subst (λ n. unsent net T n t ≤ F.backlog n) at (now.no_more T k q i t).0);
      held_most = λ T k t. omega (arith, deep, subst (λ n. held_count net T n t ≤ depth net F n) at (now.no_more T k q i t).1);
      by_forward = λ more le.
          let (works, smaller) = now.by_forward more le in (
            works,
            λ G g. (
              omega (arith, backlog, subst (λ n. G.backlog n ≤ F.backlog n) at ((smaller G g).backlogs q i)),
              omega (arith, deep, subst (λ n. depth net G n ≤ depth net F n) at ((smaller G g).depths q i)),
            ),
          );
    }

pub hop_promised : (b : Book) (l p : ℕ) (r : Result (ℕ × ℕ × ℕ) Refusal) → r ≡ told_hop b l p → HopPromised b l p r
hop_promised b l p r is cs as' m v e x y z ok =
    let now = standing_now cs as' b m v e in
    let net = records b in
    let F = now.figures in
    let answer : earliest_latest_departure x y z ≡ tell_hop net l p F = ap hop_answer (sym ok ∙ is) ∙ hop_answered b (m.stands ∙ ap is_some e) v now l p in
    let ground = first_met (drop 1 (hop_question b l p)) in
    let (none, same) = answer_given ground (earliest_latest_departure x y z) _ (λ f h. cc) answer in
    let (h, i, link, port) = hop_there net l p (none_met (drop 1 (hop_question b l p)) none).1.1.0 in
    let last : z ≡ departure F (the_hop l p) = cc in
    record {
      figures = λ G g.
          let alike : earliest_latest_departure x y z ≡ earliest_latest_departure (G.earliest l p) (G.latest l p) (departure G (the_hop l p))
          = (answer_given ground (earliest_latest_departure x y z) (earliest_latest_departure (G.earliest l p) (G.latest l p) (departure G (the_hop l p))) (λ f h. cc) (answer ∙ hop_told net now.well_formed F G (others_agree b v now G g) l p)).1 in
          (cc, cc, cc);
      exist = (F, now.settled);
      no_later = λ T k f j at.
          omega (arith, last, departure_there F h l p link port, subst (λ n. end net T f n ≤ f.release + departure F h) port (now.no_later T k f j h i (link ∙ sym at)).0);
      by_forward = λ more le.
          let (works, smaller) = now.by_forward more le in
          (works, λ G g. omega (arith, last, departure_there F h l p link port, departure_there G h l p link port, departure_smaller net now.well_formed v.method.worth v.method.lawful F now.settled G g h i));
    }

pub delay_promised : (b : Book) (l : ℕ) (r : Result ℕ Refusal) → r ≡ told_delay b l → DelayPromised b l r
delay_promised b l r is cs as' m v e x ok =
    let now = standing_now cs as' b m v e in
    let net = records b in
    let F = now.figures in
    let answer : delay_is x ≡ tell_delay net l F = ap delay_answer (sym ok ∙ is) ∙ delay_answered b (m.stands ∙ ap is_some e) v now l in
    let ground = first_met (drop 1 (delay_question b l)) in
    let (none, same) = answer_given ground (delay_is x) _ (λ f h. cc) answer in
    let (k, i, at) = link_there net l (none_met (drop 1 (delay_question b l)) none).0 in
    let last : x ≡ delay net F l = cc in
    record {
      figures = λ G g.
          let alike : delay_is x ≡ delay_is (delay net G l) = (answer_given ground (delay_is x) (delay_is (delay net G l)) (λ f h. cc) (answer ∙ delay_told net now.well_formed F G (others_agree b v now G g) l)).1 in
          cc;
      exist = (F, now.settled);
      no_later = λ T keeps f j of-link h there link.
          omega (arith, last, subst (λ n. end net T f h.port ≤ f.release + delay net F n) of-link (now.no_later T keeps f j h there (link ∙ sym of-link)).1);
      by_forward = λ more le.
          let (works, smaller) = now.by_forward more le in
          (works, λ G g. omega (arith, last, subst (λ n. delay net G n ≤ delay net F n) at ((smaller G g).delays k i)));
    }
