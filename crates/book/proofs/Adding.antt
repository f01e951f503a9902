-- What a call did is a call more in every list of calls that led to the book.
use Rattle.std.proofs.Common.{◌≡◌, ℕ, ◌≤◌, List, map, length, Some, None, Ok, Option, Result, MatchOption, sym, refl, ap, ◌∙◌}
use Rattle.std.specs.List.{slice_get}
use Rattle.std.specs.Option.{option_map}
use Rattle.std.proofs.lemmas.Option.{slice_get-map}
use Rattle.definitions.specs.declared.network.Port.{Port}
use Rattle.definitions.specs.declared.network.VirtualLink.{VirtualLink}
use Rattle.definitions.specs.declared.network.Hop.{Hop}
use Rattle.definitions.specs.declared.refusals.Refusal.{Refusal}
use Rattle.definitions.specs.Network.{Records}
use Rattle.definitions.specs.Entries.{Entry, port_entry, link_entry, hop_entry, entry_ground, entered, removal_ground, removed, no_records}
use Rattle.definitions.specs.Figures.{Figures}
use Rattle.definitions.specs.Calls.{State, Call, Answer, done, enter, remove_link, clear, count_ports, count_links, count_hops, port_at, link_at, hop_at, count, port_is, link_is, hop_is, opened, Fits, changed, DoesOrRefuses, Does}
use Rattle.register.specs.Registers.{rows}
use Rattle.theory.proofs.SoundRuns.{every_run_is_sound, runs_push}
use Rattle.working_out.specs.declared.rows.PortRow.{PortRow}
use Rattle.working_out.specs.declared.rows.LinkRow.{LinkRow}
use Rattle.working_out.specs.declared.rows.HopRow.{HopRow}
use Rattle.book.specs.declared.books.Book.{Book}
use Rattle.book.specs.Books.{records, places, Same, Doing, Shows, Made, answer_of, Adds}

-- records that are the same list by list
pub same_records : {ps qs : List Port} {ls ms : List VirtualLink} {hs ks : List Hop} → ps ≡ qs → ls ≡ ms → hs ≡ ks
    → ◌≡◌ {A = Records} record { ports = ps; links = ls; hops = hs } record { ports = qs; links = ms; hops = ks }
same_records a b c = cc

-- a book that is as it was has the same records
same_holds : (b d : Book) → Same b d → records d ≡ records b
same_holds b d s = rw (s.ports, s.links, s.hops)

-- and shows the same figures
same_shows : (b d : Book) (F : Figures) → Same b d → Shows b F → Shows d F
same_shows b d F s h = record { ports = simp (s.ports, s.links, s.hops) h.ports; hops = simp s.hops h.hops }

-- a call that does what it says or refuses, on any book that calls led to
pub adds : (c : Call) → Fits c → (g : State → Option Refusal) (after : State → Records)
    → ((s : State) (a : Answer) (t : State) → DoesOrRefuses (g s) s (changed s (after s)) a t → Does s c a t)
    → (b d : Book) (ground : Option Refusal) (left : Records) (r : Result (Unit {0}) Refusal)
    → ((s : State) → records b ≡ s.records → places b ≡ s.places → (ground ≡ g s) × (left ≡ after s))
    → Doing ground left b d r → Adds c (answer_of r) b d
adds c fits g after does b d None left r same h cs as' m =
    let s = m.state in
    let held = (every_run_is_sound (places b) cs as' s m.runs).same_places in
    let (e, l) = same s m.holds (sym held) in
    let (told, recs, down, tabs) = h in
    let t = changed s (after s) in
    let a = answer_of r in
    let step : DoesOrRefuses (g s) s t a t = rw (← e) (ap answer_of told, refl) in
    record {
      state = t;
      runs = rw tabs (runs_push (opened (places b)) cs as' s c a t m.runs (record { fits = fits; does = does s a t step }));
      holds = recs ∙ l;
      stands = down;
      shows = λ v q. absurd (cc);
    }
adds c fits g after does b d (Some f) left r same h cs as' m =
    let s = m.state in
    let held = (every_run_is_sound (places b) cs as' s m.runs).same_places in
    let (e, l) = same s m.holds (sym held) in
    let (told, as_before) = h in
    let a = answer_of r in
    let step : DoesOrRefuses (g s) s (changed s (after s)) a s = rw (← e) (ap answer_of told, refl) in
    record {
      state = s;
      runs = rw as_before.tables (runs_push (opened (places b)) cs as' s c a s m.runs (record { fits = fits; does = does s a s step }));
      holds = same_holds b d as_before ∙ m.holds;
      stands = as_before.standing ∙ m.stands;
      shows = λ v q.
          let (F, k, w) = m.shows v q in
          (F, rw (same_holds b d as_before) k, same_shows b d F as_before w);
    }

-- an entry
entry_adds : (e : Entry) → Fits (enter e) → (b d : Book) (r : Result (Unit {0}) Refusal)
    → Doing (entry_ground (places b) (records b) e) (entered (records b) e) b d r → Adds (enter e) (answer_of r) b d
entry_adds e fits b d r h =
    adds (enter e) fits (λ s. entry_ground s.places s.records e) (λ s. entered s.records e) (λ s a t k. k) b d
    (entry_ground (places b) (records b) e) (entered (records b) e) r
    (λ s held at. (rw (at, held), rw held)) h

pub port_entry_adds : (p : Port) → p.number ≤ 255 → (b d : Book) (r : Result (Unit {0}) Refusal)
    → Doing (entry_ground (places b) (records b) (port_entry p)) (entered (records b) (port_entry p)) b d r → Adds (enter (port_entry p)) (answer_of r) b d
port_entry_adds p = entry_adds (port_entry p)

pub link_entry_adds : (l : VirtualLink) → l.number ≤ 65535 → (b d : Book) (r : Result (Unit {0}) Refusal)
    → Doing (entry_ground (places b) (records b) (link_entry l)) (entered (records b) (link_entry l)) b d r → Adds (enter (link_entry l)) (answer_of r) b d
link_entry_adds l = entry_adds (link_entry l)

pub hop_entry_adds : (h : Hop) → (b d : Book) (r : Result (Unit {0}) Refusal)
    → Doing (entry_ground (places b) (records b) (hop_entry h)) (entered (records b) (hop_entry h)) b d r → Adds (enter (hop_entry h)) (answer_of r) b d
hop_entry_adds h = entry_adds (hop_entry h) tt

-- a removal
pub removal_adds : (l : ℕ) → (b d : Book) (r : Result (Unit {0}) Refusal)
    → Doing (removal_ground (records b) l) (removed (records b) l) b d r → Adds (remove_link l) (answer_of r) b d
removal_adds l b d r h =
    adds (remove_link l) tt (λ s. removal_ground s.records l) (λ s. removed s.records l) (λ s a t k. k) b d
    (removal_ground (records b) l) (removed (records b) l) r
    (λ s held at. (rw (← held), rw (← held))) h

-- clearing
pub clearing_adds : (b d : Book) → Doing None no_records b d (Ok tt) → Adds clear done b d
clearing_adds b d h =
    adds clear tt (λ s. None) (λ s. no_records) (λ s a t k. k) b d None no_records (Ok tt) (λ s held at. (refl, refl)) h

-- a question, which changes nothing
pub question_adds : (c : Call) → Fits c → (a : Answer) (b : Book)
    → ((cs : List Call) (as' : List Answer) (m : Made cs as' b) → Does m.state c a m.state) → Adds c a b b
question_adds c fits a b does cs as' m = record {
  state = m.state;
  runs = runs_push (opened (places b)) cs as' m.state c a m.state m.runs (record { fits = fits; does = does cs as' m });
  holds = m.holds;
  stands = m.stands;
  shows = m.shows;
}

-- one that looks at the records only
asks : {X : Type 0} (c : Call) → Fits c → (answer : X → Answer) (told : Records → X) → ((s : State) (a : Answer) → a ≡ answer (told s.records) → Does s c a s)
    → (b : Book) (x : X) → x ≡ told (records b) → Adds c (answer x) b b
asks c fits answer told does b x is = question_adds c fits (answer x) b (λ cs as' m. does m.state (answer x) (ap answer (is ∙ ap told m.holds)))

pub port_count_adds : (b : Book) (n : ℕ) → n ≡ length (records b).ports → Adds count_ports (count n) b b
port_count_adds = asks count_ports tt count (λ r. length r.ports) (λ s a e. (e, refl))

pub link_count_adds : (b : Book) (n : ℕ) → n ≡ length (records b).links → Adds count_links (count n) b b
link_count_adds = asks count_links tt count (λ r. length r.links) (λ s a e. (e, refl))

pub hop_count_adds : (b : Book) (n : ℕ) → n ≡ length (records b).hops → Adds count_hops (count n) b b
hop_count_adds = asks count_hops tt count (λ r. length r.hops) (λ s a e. (e, refl))

-- the record of the row at a place
at_place : {R S : Type 0} (f : R → S) (xs : List R) (i : ℕ) (o : Option R) → o ≡ slice_get xs i → (r : Option S) → MatchOption o (r ≡ None) (λ x. r ≡ Some (f x)) → r ≡ slice_get (map f xs) i
at_place f xs i (Some x) e r is = is ∙ ap (option_map f) e ∙ sym (slice_get-map f xs i)
at_place f xs i None e r is = is ∙ ap (option_map f) e ∙ sym (slice_get-map f xs i)

pub port_at_adds : (b : Book) (i : ℕ) (o : Option PortRow) → o ≡ slice_get (rows b.ports) i → (r : Option Port) → MatchOption o (r ≡ None) (λ x. r ≡ Some x.port) → Adds (port_at i) (port_is r) b b
port_at_adds b i o e r is = asks (port_at i) tt port_is (λ n. slice_get n.ports i) (λ s a e. (e, refl)) b r (at_place (λ (x : PortRow). x.port) (rows b.ports) i o e r is)

pub link_at_adds : (b : Book) (i : ℕ) (o : Option LinkRow) → o ≡ slice_get (rows b.links) i → (r : Option VirtualLink) → MatchOption o (r ≡ None) (λ x. r ≡ Some x.link) → Adds (link_at i) (link_is r) b b
link_at_adds b i o e r is = asks (link_at i) tt link_is (λ n. slice_get n.links i) (λ s a e. (e, refl)) b r (at_place (λ (x : LinkRow). x.link) (rows b.links) i o e r is)

pub hop_at_adds : (b : Book) (i : ℕ) (o : Option HopRow) → o ≡ slice_get (rows b.hops) i → (r : Option Hop) → MatchOption o (r ≡ None) (λ x. r ≡ Some x.hop) → Adds (hop_at i) (hop_is r) b b
hop_at_adds b i o e r is = asks (hop_at i) tt hop_is (λ n. slice_get n.hops i) (λ s a e. (e, refl)) b r (at_place (λ (x : HopRow). x.hop) (rows b.hops) i o e r is)
