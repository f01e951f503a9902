-- A working-out is a call more in every list of calls that led to the book.
use Rattle.std.proofs.Common.{◌≡◌, ℕ, List, [], ◌∷◌, ◌++◌, is_some, is_ok, Some, None, Option, Result, refl, ap, ◌∙◌, subst}
use Rattle.definitions.specs.declared.loads.Load.{Load}
use Rattle.definitions.specs.declared.refusals.Refusal.{Refusal}
use Rattle.definitions.specs.Network.{Records, WellFormed}
use Rattle.definitions.specs.Methods.{Lawful}
use Rattle.definitions.specs.Figures.{Figures, Settled}
use Rattle.definitions.specs.WorkingOut.{Outcome, settles, short, overloaded, ring, past, refusal_of, WorksOut}
use Rattle.definitions.specs.Calls.{Method, Served, Call, Answer, answered, work_out, worked, opened}
use Rattle.register.specs.Registers.{rows}
use Rattle.theory.proofs.Variants.{none_some, some_same}
use Rattle.theory.proofs.SoundRuns.{every_run_is_sound, runs_push}
use Rattle.working_out.specs.Works.{Shown, FiguresLeft, refused_by, result_of, Works}
use Rattle.book.specs.declared.books.Book.{Book}
use Rattle.book.specs.Books.{records, places, Shows, Made, WorksBook, answer_of}
use Rattle.book.proofs.Adding.{same_records}

answers : (o : Option Refusal) → answer_of (refused_by o) ≡ answered o
answers None = refl
answers (Some e) = refl

module _ (worth : List Load → ℕ) (law : Lawful worth) (n : ℕ) (b d : Book) (a : Result (Unit {0}) Refusal) (w : WorksBook worth n b d a)
    (cs : List Call) (as' : List Answer) (m : Made cs as' b) where
  abbrev method : Method
  method = record { worth = worth; lawful = law }

  well_formed : WellFormed (records b)
  well_formed = rw m.holds (every_run_is_sound (places b) cs as' m.state m.runs).well_formed

  did : Works (records b) worth n (rows d.ports) (rows b.links) (rows d.hops) a
  did = w.works well_formed

  same : records d ≡ records b
  same = same_records did.held.ports (rw w.links) did.held.hops

  -- the state after it, by outcome
  held_on : (o : Outcome) → m.state.records ≡ (worked m.state method n o).records
  held_on settles = refl
  held_on short = refl
  held_on (overloaded p) = refl
  held_on (ring p) = refl
  held_on (past p) = refl

  stands_on : (o : Outcome) → is_ok (result_of o) ≡ is_some (worked m.state method n o).served
  stands_on settles = refl
  stands_on short = refl
  stands_on (overloaded p) = refl
  stands_on (ring p) = refl
  stands_on (past p) = refl

  shows_on : (o : Outcome) → FiguresLeft (records b) worth (rows d.ports) (rows d.hops) o
      → (v : Served) → (worked m.state method n o).served ≡ Some v
      → (F : Figures) × Settled (records d) v.method.worth F × Shows d F
  shows_on settles (F, settled, shown) v e =
      let v-is : record { method = method; places = n } ≡ v = some_same _ _ e in
      let at-d : Shown (records d) F (rows d.ports) (rows d.hops) = rw same shown in
      (F, rw (← v-is, same) settled, record { ports = at-d.ports; hops = at-d.hops })
  shows_on short z v e = absurd (none_some v e)
  shows_on (overloaded p) z v e = absurd (none_some v e)
  shows_on (ring p) z v e = absurd (none_some v e)
  shows_on (past p) z v e = absurd (none_some v e)

  pub made_working : Made (cs ++ (work_out (record { worth = worth; lawful = law }) n ∷ [])) (as' ++ (answer_of a ∷ [])) d
  made_working =
      let o = did.outcome in
      let s = worked m.state method n o in
      record {
        state = s;
        runs = rw w.tables (runs_push (opened (places b)) cs as' m.state (work_out method n) (answer_of a) s m.runs (record {
          fits = tt;
          does = (o, subst (λ (r : Records). WorksOut r worth n o) m.holds did.comes, ap answer_of did.answer ∙ answers (refusal_of o), refl);
        }));
        holds = same ∙ m.holds ∙ held_on o;
        stands = w.stands ∙ ap is_ok did.answer ∙ stands_on o;
        shows = shows_on o did.left;
      }
