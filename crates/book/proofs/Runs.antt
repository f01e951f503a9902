-- Walking over the hops of a link.
use Rattle.std.proofs.Common.{◌≡◌, ℕ, ◌+◌, ◌-◌, ◌<◌, ◌≤◌, Bool, ◌||◌, List, [], ◌∷◌, length, get_or, drop, Option, Some, None, MatchOption, subst, ap, ◌∙◌, arith, refl}
use Rattle.std.specs.List.{AllWithin, HoldsAt, list_any}
use Rattle.std.specs.Option.{is_none, unwrap_or}
use Rattle.std.proofs.lemmas.List.{get_or-drop, length-drop}
use Rattle.definitions.specs.declared.network.Hop.{Hop}
use Rattle.definitions.specs.Lists.{some}
use Rattle.definitions.specs.Entries.{begins}
use Rattle.working_out.specs.declared.rows.HopRow.{HopRow}
use Rattle.book.specs.LinkRuns.{RunEnd}

abbrev pub same_link : ℕ → HopRow → Type 0
same_link l r = r.hop.link ≡ l

abbrev pub other_link : ℕ → HopRow → Type 0
other_link l r = ¬ (r.hop.link ≡ l)

module _ (rs : List HopRow) (l from : ℕ) (le : from ≤ length rs) where
  -- what stands so many places after the start
  further : (k : ℕ) (d : HopRow) → from ≤ k → get_or (drop from rs) (k - from) d ≡ get_or rs k d
  further k d a =
      let e : from + (k - from) ≡ k = omega arith in
      get_or-drop from rs (k - from) d ∙ ap (λ n. get_or rs n d) e

  -- the first row of another link ends the run
  pub run_stops : (i : ℕ) → (i < length (drop from rs)) × HoldsAt (other_link l) (drop from rs) i × AllWithin (same_link l) (drop from rs) 0 i
      → RunEnd rs l from (from + i)
  run_stops i (lt, other, same) = record {
    in_order = omega arith;
    within = omega (arith, length-drop from rs);
    alike = λ k d a b. rw (← further k d a) (same (k - from) d (omega arith) (omega arith));
    stops = λ _ d e. other d (ap (λ (r : HopRow). r.hop.link) (get_or-drop from rs i d) ∙ e);
  }

  -- where there is none, it goes to the end
  pub run_all : AllWithin (same_link l) (drop from rs) 0 (length (drop from rs)) → RunEnd rs l from (length rs)
  run_all same = record {
    in_order = le;
    within = omega arith;
    alike = λ k d a b. rw (← further k d a) (same (k - from) d (omega arith) (omega (arith, length-drop from rs)));
    stops = λ lt. absurd (omega arith);
  }

  pub run_ends : (o : Option ℕ)
      → MatchOption o (AllWithin (same_link l) (drop from rs) 0 (length (drop from rs)))
      (λ i. (i < length (drop from rs)) × HoldsAt (other_link l) (drop from rs) i × AllWithin (same_link l) (drop from rs) 0 i)
      → (m n : ℕ) → m ≡ length (drop from rs) → n ≡ unwrap_or o m → RunEnd rs l from (from + n)
  run_ends None same m n all e =
      let end : length rs ≡ from + n = omega (arith, e, all, length-drop from rs) in
      subst (RunEnd rs l from) end (run_all same)
  run_ends (Some i) first m n all e = rw e (run_stops i first)

-- a hop after none begins its link
pub begins_is : (h : Hop) (b : Bool) → b ≡ is_none h.after → b ≡ begins h
begins_is h b e = grind arith

abbrev pub row_begins : HopRow → Bool
row_begins r = begins r.hop

pub any_is_some : {X : Type 0} (t : X → Bool) (xs : List X) → list_any t xs ≡ some t xs
any_is_some t [] = refl
any_is_some t (x ∷ xs) = ap (λ b. t x || b) (any_is_some t xs)
